-- The way down a tree to the last plug that doesn't start above a place.
use Rattle.std.proofs.Common.{◌⊎◌, ◌≡◌, ◌≢◌, inl, inr, ℕ, ◌+◌, ◌-◌, ◌*◌, ◌<◌, ◌≤◌, List, [], ◌∷◌, ◌++◌, length}
use Rattle.std.proofs.Common.{refl}
use Rattle.std.proofs.Common.{ap, sym, ◌∙◌, subst, arith}
use Rattle.std.proofs.lemmas.Bool.{cases_Bool, leb-true, le-leb}
use Rattle.std.proofs.Common.{leb}
use Rattle.std.specs.List.{AllByRecursion}
use Rattle.clr_types.specs.Rising.{first, IsIn, IsRisingBy, later}
use Rattle.clr_types.proofs.RisingLists.{all_at, in_cons}
use Rattle.clr_types.proofs.ListMembers.{append_right, in_append}
use Rattle.clr_types.proofs.ChangedLists.{append_left}
use Rattle.clr_heap.specs.View.{HeapView, word_of}
use Rattle.clr_plugs.specs.Info.{left_of, right_of}
use Rattle.clr_plugs.specs.Trees.{in_order, IsBrickTree, IsWithinDigits, leaf, levels, node, root_of, Stands, Tree}
use Rattle.clr_plugs.specs.Searches.{CanFindIn, HasPlugWords, nearest, NoneBetween}
use Rattle.clr_plugs.specs.SideBySide.{IsDescent}

-- the words tell one tree from a root
pub one_tree : (word : ℕ → ℕ) (base : ℕ) (t u : Tree) → Stands word base t → Stands word base u
    → root_of base t ≡ root_of base u → t ≡ u
one_tree word base leaf leaf s v e = refl
one_tree word base leaf (node l p r) s v e = absurd (omega arith)
one_tree word base (node l p r) leaf s v e = absurd (omega arith)
one_tree word base (node l p r) (node m q n) s v e =
    let sb = s.0 in
    let vb = v.0 in
    let same : p ≡ q = omega arith in
    let left : l ≡ m = one_tree word base l m s.3 v.3 (sym s.1 ∙ ap (left_of word) same ∙ v.1) in
    let right : r ≡ n = one_tree word base r n s.4 v.4 (sym s.2 ∙ ap (right_of word) same ∙ v.2) in
    λ i. node (left i) (same i) (right i)

-- ---- lists that rise, around one of their places

-- what a place splits rises, below it and above it
pub record IsSplit (xs : List ℕ) (p : ℕ) (ys : List ℕ) : Type 0 where
  pub left : IsRisingBy (λ x. x) xs
  pub right : IsRisingBy (λ x. x) ys
  pub below : (x : ℕ) → IsIn x xs → x < p
  pub above : (y : ℕ) → IsIn y ys → p < y

-- what holds of all elements of a joined list holds of those of its front
all_left : (P : ℕ → Type 0) (xs ys : List ℕ) → AllByRecursion P (xs ++ ys) → AllByRecursion P xs
all_left P [] ys h = tt
all_left P (x ∷ xs) ys h = (h.0, all_left P xs ys h.1)

pub split_at : (xs : List ℕ) (p : ℕ) (ys : List ℕ) → IsRisingBy (λ x. x) (xs ++ (p ∷ ys)) → IsSplit xs p ys
split_at [] p ys h =
    record { left = tt; right = h.1; below = λ x i. elim i [ ]; above = λ y i. all_at (λ z. p < z) i h.0 }
split_at (x ∷ xs) p ys h =
    let rest = split_at xs p ys h.1 in
    let here : x < p = all_at (λ z. x < z) (append_right xs first) h.0 in
    record {
      left = (all_left (λ z. x < z) xs (p ∷ ys) h.0, rest.left);
      right = rest.right;
      below = λ z i. elim (in_cons i) [ inl e ↦ omega (arith, here, e) | inr more ↦ rest.below z more ];
      above = rest.above;
    }

-- ---- the nearest place in a list around one of its places

pub nearest-right : (xs : List ℕ) (p : ℕ) (ys : List ℕ) (a other : ℕ) → ((x : ℕ) → IsIn x xs → x < p) → p ≤ a
    → nearest (xs ++ (p ∷ ys)) a other ≡ nearest ys a p
nearest-right [] p ys a other below low = rw (le-leb p a low) refl
nearest-right (x ∷ xs) p ys a other below low =
    let here = below x first in
    rw (le-leb x a (omega (arith, here))) (nearest-right xs p ys a x (λ z i. below z (later i)) low)

pub nearest-left : (xs : List ℕ) (p : ℕ) (ys : List ℕ) (a other : ℕ) → a < p
    → nearest (xs ++ (p ∷ ys)) a other ≡ nearest xs a other
nearest-left [] p ys a other high = elim (cases_Bool (leb p a)) [
  | inl yes_le ↦ let bad = leb-true p a yes_le in absurd (omega (arith, bad))
  | inr miss ↦ rw miss refl
]
nearest-left (x ∷ xs) p ys a other high = elim (cases_Bool (leb x a)) [
  | inl low ↦ rw low (nearest-left xs p ys a x high)
  | inr miss ↦ rw miss refl
]

-- ---- the loop

-- the search stands at a plug, and can go on to either side
pub record IsAtPlug (h : HeapView) (k brick from a end found above at before now : ℕ) : Type 0 where
  pub plug : ℕ
  pub place : brick * 4096 + (at - 1) ≡ plug
  pub low : brick * 4096 ≤ plug
  pub high : plug < above
  pub better : found < plug
  pub limit : above ≤ end
  pub words : HasPlugWords h k plug
  pub right : plug ≤ a → IsDescent h k brick from a end plug above (right_of (word_of h) plug) before (now + 1)
  pub left : a < plug → IsDescent h k brick from a end found plug (left_of (word_of h) plug) before (now + 1)

module _ (h : HeapView) (k brick from a end before : ℕ) where
  pub begin_descent : CanFindIn h k brick from → brick * 4096 + 4096 ≤ end
      → IsDescent h k brick from a end 0 end from before before
  begin_descent can all =
      let t = can.tree in
      record {
        tree = t.tree;
        root = t.root;
        stands = t.stands;
        rising = rw t.order can.rising;
        words = λ x i. can.words x (let P : List ℕ → Type 0 = λ xs. IsIn x xs in subst P t.order i);
        inside = λ x i.
            let P : List ℕ → Type 0 = λ xs. IsIn x xs in
            let j = subst P t.order i in
            let b = can.inside x j in
            let w = can.words x j in
            let above = w.above in
            (omega (arith, above), omega (arith, b.1, all));
        limit = omega arith;
        past = λ l. l;
        passed = λ u s e x i. inl
            (let same = one_tree (word_of h) (brick * 4096) t.tree u t.stands s (sym t.root ∙ e) in
            let P : Tree → Type 0 = λ v. IsIn x (in_order v) in subst P (sym same) i);
        answer = λ u s e. ap (λ (v : Tree). nearest (in_order v) a 0)
            (one_tree (word_of h) (brick * 4096) t.tree u t.stands s (sym t.root ∙ e));
        steps = λ u s e. let same =
            ap levels (one_tree (word_of h) (brick * 4096) t.tree u t.stands s (sym t.root ∙ e)) in omega (arith, same);
      }

  -- a step down from the root of a tree
  step_down : (found above at now : ℕ) (tree : Tree) (d : IsDescent h k brick from a end found above at before now)
      → tree ≡ d.tree → at ≢ 0 → IsAtPlug h k brick from a end found above at before now
  step_down found above at now leaf d e some = let z = ap (root_of (brick * 4096)) e in let root = d.root in
      absurd (some (omega (arith, root, z)))
  step_down found above at now (node l p r) d e some =
      let base = brick * 4096 in
      let word = word_of h in
      let S : Tree → Type 0 = λ t. Stands word base t in
      let s : Stands word base (node l p r) = subst S (sym e) d.stands in
      let order = ap in_order e in
      let split = split_at (in_order l) p (in_order r)
      (let R : List ℕ → Type 0 = λ xs. IsRisingBy (λ x. x) xs in subst R (sym order) d.rising) in
      let within : (x : ℕ) → IsIn x (in_order l ++ (p ∷ in_order r)) → IsIn x (in_order d.tree) =
      λ x i. (let P : List ℕ → Type 0 = λ xs. IsIn x xs in subst P order i) in
      let here = within p (append_right (in_order l) first) in
      let lefts : (x : ℕ) → IsIn x (in_order l) → IsIn x (in_order d.tree) =
      λ x i. within x (append_left (p ∷ in_order r) i) in
      let rights : (x : ℕ) → IsIn x (in_order r) → IsIn x (in_order d.tree) =
      λ x i. within x (append_right (in_order l) (later i)) in
      let b = d.inside p here in
      let sides : (x : ℕ) → IsIn x (in_order d.tree) → (x < p) ⊎ IsIn x (p ∷ in_order r) =
      λ x i. elim (in_append (in_order l) (subst (IsIn x) (sym order) i)) [
        | inl under ↦ inl (split.below x under)
        | inr beyond ↦ inr beyond
      ] in
      let low = s.0 in
      let root : at ≡ p - base + 1 = d.root ∙ sym (ap (root_of base) e) in
      let deep = ap levels e in
      record {
        plug = p;
        place = omega (arith, root, low);
        low = low;
        high = b.1;
        better = b.0;
        limit = d.limit;
        words = d.words p here;
        right = λ le. record {
          tree = r;
          root = s.2;
          stands = s.4;
          rising = split.right;
          words = λ x i. d.words x (rights x i);
          inside = λ x i. (split.above x i, (d.inside x (rights x i)).1);
          limit = d.limit;
          past = d.past;
          passed = λ t st et x i. elim (d.passed t st et x i) [
            | inl left ↦ elim (sides x left) [
              | inl under ↦ inr (inl (omega (arith, under, le)))
              | inr beyond ↦ elim (in_cons beyond) [ inl same ↦ inr (inl (omega (arith, same, le))) | inr r ↦ inl r ]
            ]
            | inr out ↦ inr out
          ];
          answer = λ t st et. sym (nearest-right (in_order l) p (in_order r) a found split.below le)
              ∙ ap (λ (xs : List ℕ). nearest xs a found) order ∙ d.answer t st et;
          steps = λ t st et. let old = d.steps t st et in omega (arith, old, deep);
        };
        left = λ lt. record {
          tree = l;
          root = s.1;
          stands = s.3;
          rising = split.left;
          words = λ x i. d.words x (lefts x i);
          inside = λ x i. ((d.inside x (lefts x i)).0, split.below x i);
          limit = let lim = d.limit in omega (arith, lim, b.1);
          past = λ l. lt;
          passed = λ t st et x i. elim (d.passed t st et x i) [
            | inl left ↦ elim (in_append (in_order l) (subst (IsIn x) (sym order) left)) [
              | inl under ↦ inl under
              | inr beyond ↦ inr (inr (elim (in_cons beyond) [
                | inl same ↦ omega (arith, same)
                | inr r ↦ let up = split.above x r in omega (arith, up)
              ]))
            ]
            | inr out ↦ inr (elim out [ inl low ↦ inl low | inr high ↦ inr (omega (arith, high, b.1)) ])
          ];
          answer = λ t st et. sym (nearest-left (in_order l) p (in_order r) a found lt)
              ∙ ap (λ (xs : List ℕ). nearest xs a found) order ∙ d.answer t st et;
          steps = λ t st et. let old = d.steps t st et in omega (arith, old, deep);
        };
      }

  pub at_plug : (found above at now : ℕ) → IsDescent h k brick from a end found above at before now → at ≢ 0
      → IsAtPlug h k brick from a end found above at before now
  at_plug found above at now d some = step_down found above at now d.tree d refl some

  -- at the end nothing is left to look at
  ended : (found above now : ℕ) (tree : Tree) (d : IsDescent h k brick from a end found above 0 before now) → tree ≡
      d.tree
      → (t : Tree) → Stands (word_of h) (brick * 4096) t → from ≡ root_of (brick * 4096) t
      → (found ≡ nearest (in_order t) a 0) × (now ≤ before + levels t) × NoneBetween (in_order t) a above
  ended found above now leaf d e t s et =
      let steps = d.steps t s et in (
        ap (λ (u : Tree). nearest (in_order u) a found) e ∙ d.answer t s et,
        omega (arith, steps),
        λ x i up. elim (d.passed t s et x i) [
          | inl left ↦ elim (let P : Tree → Type 0 = λ u. IsIn x (in_order u) in subst P (sym e) left) [ ]
          | inr out ↦ elim out [ inl low ↦ absurd (omega (arith, low, up)) | inr high ↦ high ]
        ],
      )
  ended found above now (node l p r) d e t s et = let root = d.root in let z = ap (root_of (brick * 4096)) e in
      absurd (omega (arith, root, z))

  pub found_in_tree : (found above now : ℕ) → IsDescent h k brick from a end found above 0 before now →
      (starts : List ℕ)
      → IsBrickTree (word_of h) brick from starts
      → (found ≡ nearest starts a 0) × NoneBetween starts a above
      × (digits : ℕ) × IsWithinDigits digits (length starts) × (now ≤ before + digits)
  found_in_tree found above now d starts t =
      let e = ended found above now d.tree d refl t.tree t.stands t.root in (
        e.0 ∙ ap (λ (xs : List ℕ). nearest xs a 0) t.order,
        (let P : List ℕ → Type 0 = λ xs. NoneBetween xs a above in subst P t.order e.2),
        levels t.tree,
        t.balanced,
        e.1,
      )

  pub go_right : (found above at now : ℕ) → IsDescent h k brick from a end found above at before now → at ≢ 0
      → brick * 4096 + (at - 1) ≤ a → (children : ℕ × ℕ) (next : ℕ)
      → children ≡ (left_of (word_of h) (brick * 4096 + (at - 1)), right_of (word_of h) (brick * 4096 + (at - 1)))
      → next ≡ now + 1 → IsDescent h k brick from a end (brick * 4096 + (at - 1)) above children.1 before next
  go_right found above at now d some le children next both en =
      let p = at_plug found above at now d some in
      let place = p.place in
      let P : ℕ → Type 0 = λ q. IsDescent h k brick from a end q above (right_of (word_of h) q) before (now + 1) in
      let there = subst P (sym place) (p.right (omega (arith, place))) in
      let Q : ℕ × ℕ → Type 0 =
      λ c. IsDescent h k brick from a end (brick * 4096 + (at - 1)) above c.1 before (now + 1) in
      let R : ℕ → Type 0 = λ n. IsDescent h k brick from a end (brick * 4096 + (at - 1)) above children.1 before n in
      subst R (sym en) (subst Q (sym both) there)

  pub go_left : (found above at now : ℕ) → IsDescent h k brick from a end found above at before now → at ≢ 0
      → a < brick * 4096 + (at - 1) → (children : ℕ × ℕ) (next : ℕ)
      → children ≡ (left_of (word_of h) (brick * 4096 + (at - 1)), right_of (word_of h) (brick * 4096 + (at - 1)))
      → next ≡ now + 1 → IsDescent h k brick from a end found (brick * 4096 + (at - 1)) children.0 before next
  go_left found above at now d some lt children next both en =
      let p = at_plug found above at now d some in
      let place = p.place in
      let P : ℕ → Type 0 = λ q. IsDescent h k brick from a end found q (left_of (word_of h) q) before (now + 1) in
      let there = subst P (sym place) (p.left (omega (arith, place))) in
      let Q : ℕ × ℕ → Type 0 =
      λ c. IsDescent h k brick from a end found (brick * 4096 + (at - 1)) c.0 before (now + 1) in
      let R : ℕ → Type 0 = λ n. IsDescent h k brick from a end found (brick * 4096 + (at - 1)) children.0 before n in
      subst R (sym en) (subst Q (sym both) there)
