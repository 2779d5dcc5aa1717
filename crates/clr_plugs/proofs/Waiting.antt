-- Trees that wait, and the plugs that they have.
use Rattle.std.proofs.Common.{◌≡◌, ◌⊎◌, inl, inr, ℕ, suc, ◌+◌, ◌-◌, ◌*◌, ◌/◌, ◌<◌, ◌≤◌, ◌||◌}
use Rattle.std.proofs.Common.{List, [], ◌∷◌, ◌++◌, length, map, refl, ap, sym, ◌∙◌, subst, arith, true, false, Bool}
use Rattle.std.proofs.Common.{drop, get_or, nat_eq, length-append, take}
use Rattle.std.proofs.lemmas.Bool.{eq-eqb, eqb-true, or_cases}
use Rattle.std.proofs.lemmas.List.{drop-append-le, drop_all, drop_more, get_or-take, length-drop, length-take}
use Rattle.std.proofs.lemmas.List.{length-take-le, map-append}
use Rattle.clr_types.specs.Rising.{first, IsIn, later}
use Rattle.clr_types.proofs.RisingLists.{in_cons}
use Rattle.clr_types.proofs.ListMembers.{append_right, in_append}
use Rattle.clr_types.proofs.ChangedLists.{append_left}
use Rattle.clr_heap.specs.Memories.{memory_index}
use Rattle.clr_heap.specs.View.{HeapView, word_of}
use Rattle.clr_plugs.specs.Forests.{AreWaiting, CanReadAll, HaveFound, IsInSome, IsWhole, offset_of, plugs_of}
use Rattle.clr_plugs.specs.Forests.{told_offsets}
use Rattle.clr_plugs.specs.Info.{left_of, right_of}
use Rattle.clr_plugs.specs.Offsets.{has_unit, with_unit}
use Rattle.clr_plugs.specs.Trees.{in_order, leaf, node, root_of, Stands, Tree}
use Rattle.clr_plugs.proofs.UnitBits.{unit_added}

-- the tree, where it has plugs
abbrev pub trees_of : Tree → List Tree
trees_of leaf = []
trees_of (node left plug right) = node left plug right ∷ []

pub plugs-append : (ts us : List Tree) → plugs_of (ts ++ us) ≡ plugs_of ts + plugs_of us
plugs-append [] us = omega arith
plugs-append (t ∷ ts) us = let r = plugs-append ts us in omega (arith, r)

pub plugs-of-tree : (t : Tree) → plugs_of (trees_of t) ≡ length (in_order t)
plugs-of-tree leaf = refl
plugs-of-tree (node left plug right) = omega arith

pub told-more : (low n : ℕ) → told_offsets low (n + 1) ≡ (low + n) ∷ []
told-more low n = let e : n + 1 ≡ suc n = omega arith in ap (told_offsets low) e

-- what a root tells
pub told_root : (word : ℕ → ℕ) (base low b : ℕ) (t : Tree) → Stands word b t → b ≡ base + low
    → told_offsets low (root_of b t) ≡ map (offset_of base) (trees_of t)
told_root word base low b leaf s e = refl
told_root word base low b (node left plug right) s e =
    let from = s.0 in
    told-more low (plug - b) ∙ ap (λ (n : ℕ). n ∷ []) (omega (arith, from, e))

-- a subtree of a tree of one brick
pub whole_child : (word : ℕ → ℕ) (starts : List ℕ) (place : ℕ) (child : Tree)
    → Stands word (place / 4096 * 4096) child → ((x : ℕ) → IsIn x (in_order child) → x / 4096 ≡ place / 4096)
    → ((x : ℕ) → IsIn x (in_order child) → IsIn x starts) → (u : Tree) → IsIn u (trees_of child)
    → IsWhole word starts u
whole_child word starts place leaf s brick among u i = elim i [ ]
whole_child word starts place (node l p r) s brick among u i =
    let here : p / 4096 ≡ place / 4096 = brick p (append_right (in_order l) first) in
    let S : ℕ → Type 0 = λ n. Stands word (n * 4096) (node l p r) in
    let whole : IsWhole word starts (node l p r) = record {
      left = l;
      plug = p;
      right = r;
      is = refl;
      stands = subst S (sym here) s;
      brick = λ x j. brick x j ∙ sym here;
      among = among;
    } in
    elim (in_cons i) [
      | inl e ↦ subst (IsWhole word starts) (sym e) whole
      | inr none ↦ elim none [ ]
    ]

pub in_tree : (t : Tree) (x : ℕ) → IsIn x (in_order t) → IsInSome (trees_of t) x
in_tree leaf x i = elim i [ ]
in_tree (node l p r) x i = record { tree = node l p r; listed = first; here = i }

pub some-left : (ts us : List Tree) (x : ℕ) → IsInSome ts x → IsInSome (ts ++ us) x
some-left ts us x s = record { tree = s.tree; listed = append_left us s.listed; here = s.here }

pub some-right : (ts us : List Tree) (x : ℕ) → IsInSome us x → IsInSome (ts ++ us) x
some-right ts us x s = record { tree = s.tree; listed = append_right ts s.listed; here = s.here }

-- ---- the tree that waits first

pub record IsFront (word : ℕ → ℕ) (starts : List ℕ) (base met o : ℕ) (rest bits : List ℕ) : Type 0 where
  pub left : Tree
  pub plug : ℕ
  pub right : Tree
  pub others : List Tree
  pub offset : o ≡ plug - base
  pub stands : Stands word (plug / 4096 * 4096) (node left plug right)
  pub brick : (x : ℕ) → IsIn x (in_order (node left plug right)) → x / 4096 ≡ plug / 4096
  pub among : (x : ℕ) → IsIn x (in_order (node left plug right)) → IsIn x starts
  pub queue : rest ≡ map (offset_of base) others
  pub whole : (t : Tree) → IsIn t others → IsWhole word starts t
  pub few : met + (length (in_order left) + 1 + length (in_order right) + plugs_of others) ≤ 684
  pub full : (x : ℕ) → IsIn x starts
      → (has_unit bits ((x - base) / 8) ≡ true) ⊎ (IsIn x (in_order (node left plug right)) ⊎ IsInSome others x)

front-of : (word : ℕ → ℕ) (starts : List ℕ) (base met o : ℕ) (rest bits : List ℕ) (trees : List Tree)
    → (o ∷ rest) ≡ map (offset_of base) trees → ((t : Tree) → IsIn t trees → IsWhole word starts t)
    → met + plugs_of trees ≤ 684
    → ((x : ℕ) → IsIn x starts → (has_unit bits ((x - base) / 8) ≡ true) ⊎ IsInSome trees x)
    → IsFront word starts base met o rest bits
front-of word starts base met o rest bits [] e whole few full = absurd (no_cons e)
  where
    no_cons : {x : ℕ} {xs : List ℕ} → (x ∷ xs) ≡ [] → ⊥
    no_cons e = cc
front-of word starts base met o rest bits (t ∷ ts) e whole few full =
    let w = whole t first in
    let O : Tree → Type 0 = λ u. o ≡ offset_of base u in
    let S : Tree → Type 0 = λ u. Stands word (w.plug / 4096 * 4096) u in
    let B : Tree → Type 0 = λ u. (x : ℕ) → IsIn x (in_order u) → x / 4096 ≡ w.plug / 4096 in
    let A : Tree → Type 0 = λ u. (x : ℕ) → IsIn x (in_order u) → IsIn x starts in
    let one = ap (λ (u : Tree). length (in_order u)) w.is in
    let F : Tree → Type 0 = λ u. (x : ℕ) → IsIn x starts
    → (has_unit bits ((x - base) / 8) ≡ true) ⊎ (IsIn x (in_order u) ⊎ IsInSome ts x) in
    let all : F t = λ x i. elim (full x i) [
      | inl has ↦ inl has
      | inr some ↦ inr (elim (in_cons some.listed) [
        | inl here ↦ inl (let Q : Tree → Type 0 = λ u. IsIn x (in_order u) in subst Q here some.here)
        | inr more ↦ inr (record { tree = some.tree; listed = more; here = some.here })
      ])
    ] in
    let len = length-append (in_order w.left) (w.plug ∷ in_order w.right) in
    record {
      left = w.left;
      plug = w.plug;
      right = w.right;
      others = ts;
      offset = subst O w.is (same-head e);
      stands = subst S w.is w.stands;
      brick = subst B w.is w.brick;
      among = subst A w.is w.among;
      queue = same-tail e;
      whole = λ u i. whole u (later i);
      few = omega (arith, len, one, few);
      full = subst F w.is all;
    }
  where
    same-head : {x y : ℕ} {xs ys : List ℕ} → (x ∷ xs) ≡ (y ∷ ys) → x ≡ y
    same-head e = cc

    same-tail : {x y : ℕ} {xs ys : List ℕ} → (x ∷ xs) ≡ (y ∷ ys) → xs ≡ ys
    same-tail e = cc

pub front : (word : ℕ → ℕ) (starts : List ℕ) (base met o : ℕ) (rest bits : List ℕ)
    → AreWaiting word starts base met (o ∷ rest) bits → IsFront word starts base met o rest bits
front word starts base met o rest bits w =
    front-of word starts base met o rest bits w.trees w.roots w.whole w.few w.full

-- as many trees as wait, and more plugs, were not met yet
pub queue_few : (word : ℕ → ℕ) (starts : List ℕ) (base met : ℕ) (queue bits : List ℕ)
    → AreWaiting word starts base met queue bits → met + length queue ≤ 684
queue_few word starts base met queue bits w =
    let few = w.few in
    let many = go w.trees w.whole in
    let len : length queue ≡ length w.trees = ap length w.roots ∙ length_mapped w.trees in
    omega (arith, few, many, len)
  where
    length_mapped : (ts : List Tree) → length (map (offset_of base) ts) ≡ length ts
    length_mapped [] = refl
    length_mapped (t ∷ ts) = ap suc (length_mapped ts)

    go : (ts : List Tree) → ((t : Tree) → IsIn t ts → IsWhole word starts t) → length ts ≤ plugs_of ts
    go [] whole = omega arith
    go (t ∷ ts) whole =
        let w = whole t first in
        let one = ap (λ u. length (in_order u)) w.is in
        let len = length-append (in_order w.left) (w.plug ∷ in_order w.right) in
        let r = go ts (λ u i. whole u (later i)) in
        omega (arith, one, len, r)

module _ (h : HeapView) (base segment : ℕ) (starts : List ℕ) (can : CanReadAll h base segment starts) (met o : ℕ)
    (rest bits : List ℕ) (w : AreWaiting (word_of h) starts base met (o ∷ rest) bits) where
  abbrev f : IsFront (word_of h) starts base met o rest bits
  f = front (word_of h) starts base met o rest bits w

  pub front_starts : IsIn (base + o) starts
  front_starts =
      let i = f.among f.plug (append_right (in_order f.left) first) in
      let low = can.low f.plug i in
      let e = f.offset in
      let P : ℕ → Type 0 = λ n. IsIn n starts in
      subst P (omega (arith, low, e)) i

  -- a child of the plug, by its tree
  child : (t : Tree) (told : ℕ) → ((x : ℕ) → IsIn x (in_order t) → IsIn x (in_order (node f.left f.plug f.right)))
      → Stands (word_of h) (f.plug / 4096 * 4096) t → told ≡ root_of (f.plug / 4096 * 4096) t
      → told_offsets (o / 4096 * 4096) told ≡ map (offset_of base) (trees_of t)
  child t told sub stands is =
      let i = f.among f.plug (append_right (in_order f.left) first) in
      let low = can.low f.plug i in
      let e = f.offset in
      let even = can.even in
      ap (told_offsets (o / 4096 * 4096)) is
      ∙ told_root (word_of h) base (o / 4096 * 4096) (f.plug / 4096 * 4096) t stands (omega (arith, low, e, even))

  child_low : (t : Tree) (told : ℕ) → ((x : ℕ) → IsIn x (in_order t) → IsIn x (in_order (node f.left f.plug f.right)))
      → told ≡ root_of (f.plug / 4096 * 4096) t → o / 4096 * 4096 + told ≤ 65536
  child_low leaf told sub is =
      let i = f.among f.plug (append_right (in_order f.left) first) in
      let high = can.high f.plug i in
      let e = f.offset in
      omega (arith, high, e, is)
  child_low (node l p r) told sub is =
      let i = f.among f.plug (append_right (in_order f.left) first) in
      let high = can.high f.plug i in
      let e = f.offset in
      let near = f.brick p (sub p (append_right (in_order l) first)) in
      omega (arith, high, e, is, near)

  of_left : (x : ℕ) → IsIn x (in_order f.left) → IsIn x (in_order (node f.left f.plug f.right))
  of_left x i = append_left (f.plug ∷ in_order f.right) i

  of_right : (x : ℕ) → IsIn x (in_order f.right) → IsIn x (in_order (node f.left f.plug f.right))
  of_right x i = append_right (in_order f.left) (later i)

  module _ (left right : ℕ) (is_left : left ≡ left_of (word_of h) (base + o))
      (is_right : right ≡ right_of (word_of h) (base + o)) where
    place : base + o ≡ f.plug
    place =
        let i = f.among f.plug (append_right (in_order f.left) first) in
        let low = can.low f.plug i in
        let e = f.offset in
        omega (arith, low, e)

    lefts : left ≡ root_of (f.plug / 4096 * 4096) f.left
    lefts = is_left ∙ ap (left_of (word_of h)) place ∙ f.stands.1

    rights : right ≡ root_of (f.plug / 4096 * 4096) f.right
    rights = is_right ∙ ap (right_of (word_of h)) place ∙ f.stands.2

    pub left_fits : o / 4096 * 4096 + left ≤ 65536
    left_fits = child_low f.left left of_left lefts

    pub right_fits : o / 4096 * 4096 + right ≤ 65536
    right_fits = child_low f.right right of_right rights

    abbrev now : List Tree
    now = (f.others ++ trees_of f.left) ++ trees_of f.right

    -- the plug is met, and its subtrees wait
    pub goes_on : o / 8 < 64 * length bits
        → AreWaiting (word_of h) starts base (met + 1)
        ((rest ++ told_offsets (o / 4096 * 4096) left) ++ told_offsets (o / 4096 * 4096) right)
        (with_unit bits (o / 8))
    goes_on room = record {
      trees = now;
      roots =
          ap (λ (xs : List ℕ). (xs ++ told_offsets (o / 4096 * 4096) left) ++ told_offsets (o / 4096 * 4096) right)
          f.queue
          ∙ ap (λ (xs : List ℕ). (map (offset_of base) f.others ++ xs) ++ told_offsets (o / 4096 * 4096) right)
          (child f.left left of_left f.stands.3 lefts)
          ∙ ap (λ (xs : List ℕ). (map (offset_of base) f.others ++ map (offset_of base) (trees_of f.left)) ++ xs)
          (child f.right right of_right f.stands.4 rights)
          ∙ ap (λ (xs : List ℕ). xs ++ map (offset_of base) (trees_of f.right))
          (sym (map-append (offset_of base) f.others (trees_of f.left)))
          ∙ sym (map-append (offset_of base) (f.others ++ trees_of f.left) (trees_of f.right));
      whole = λ t i. elim (in_append (f.others ++ trees_of f.left) i) [
        | inl j ↦ elim (in_append f.others j) [
          | inl k ↦ f.whole t k
          | inr k ↦ whole_child (word_of h) starts f.plug f.left f.stands.3 (λ x m. f.brick x (of_left x m))
              (λ x m. f.among x (of_left x m)) t k
        ]
        | inr j ↦ whole_child (word_of h) starts f.plug f.right f.stands.4 (λ x m. f.brick x (of_right x m))
            (λ x m. f.among x (of_right x m)) t j
      ];
      few =
          let less = f.few in
          let a = plugs-append (f.others ++ trees_of f.left) (trees_of f.right) in
          let b = plugs-append f.others (trees_of f.left) in
          let l = plugs-of-tree f.left in
          let r = plugs-of-tree f.right in
          omega (arith, less, a, b, l, r);
      sound = λ n e. elim (or_cases (nat_eq n (o / 8)) (has_unit bits n) (sym (unit_added bits (o / 8) room n) ∙ e)) [
        | inl is ↦
            let same = eqb-true n (o / 8) is in
            let start = front_starts in
            let z = can.aligned (base + o) start in
            let even = can.even in
            let P : ℕ → Type 0 = λ k. IsIn k starts in
            subst P (omega (arith, same, z, even)) start
        | inr old ↦ w.sound n old
      ];
      full = λ x i. elim (f.full x i) [
        | inl has ↦ inl (unit_added bits (o / 8) room ((x - base) / 8)
            ∙ ap (λ (b : Bool). nat_eq ((x - base) / 8) (o / 8) || b) has ∙ or_yes (nat_eq ((x - base) / 8) (o / 8)))
        | inr waits ↦ elim waits [
          | inr other ↦ inr (some-left (f.others ++ trees_of f.left) (trees_of f.right) x
              (some-left f.others (trees_of f.left) x other))
          | inl here ↦ elim (in_append (in_order f.left) here) [
            | inl j ↦ inr (some-left (f.others ++ trees_of f.left) (trees_of f.right) x
                (some-right f.others (trees_of f.left) x (in_tree f.left x j)))
            | inr more ↦ elim (in_cons more) [
              | inl is ↦ inl (unit_added bits (o / 8) room ((x - base) / 8)
                  ∙ ap (λ (b : Bool). b || has_unit bits ((x - base) / 8))
                  (eq-eqb ((x - base) / 8) (o / 8) (let p = place in omega (arith, is, p))))
              | inr j ↦ inr (some-right (f.others ++ trees_of f.left) (trees_of f.right) x (in_tree f.right x j))
            ]
          ]
        ]
      ];
    }
      where
        or_yes : (b : Bool) → (b || true) ≡ true
        or_yes true = refl
        or_yes false = refl

-- where none waits, all were found
pub all_found : (word : ℕ → ℕ) (starts : List ℕ) (base met : ℕ) (bits : List ℕ)
    → AreWaiting word starts base met [] bits → HaveFound starts base bits
all_found word starts base met bits w = record {
  sound = w.sound;
  full = λ x i. elim (w.full x i) [ inl has ↦ has | inr some ↦ absurd (none w.trees w.roots some) ];
}
  where
    none : (ts : List Tree) → [] ≡ map (offset_of base) ts → {x : ℕ} → IsInSome ts x → ⊥
    none [] e s = elim s.listed [ ]
    none (t ∷ ts) e s = no_cons e
      where
        no_cons : {y : ℕ} {ys : List ℕ} → [] ≡ (y ∷ ys) → ⊥
        no_cons e = cc

-- ---- the list of offsets

-- the offset that is read waits first
pub waits_first : (word : ℕ → ℕ) (starts : List ℕ) (base at met o : ℕ) (into bits : List ℕ) → at < met
    → met ≤ length into → o ≡ get_or into at 0 → AreWaiting word starts base at (drop at (take met into)) bits
    → AreWaiting word starts base at (o ∷ drop (at + 1) (take met into)) bits
waits_first word starts base at met o into bits less within is w =
    let len = length-take-le met into within in
    let P : List ℕ → Type 0 = λ q. AreWaiting word starts base at q bits in
    subst P (drop_more (take met into) at 0 (omega (arith, len, less))
    ∙ ap (λ (n : ℕ). n ∷ drop (at + 1) (take met into)) (get_or-take met into at 0 less ∙ sym is)) w

-- what the children tell waits last
pub waits_last : (at met low high : ℕ) (into one all lefts rights : List ℕ) → at < met → met ≤ length into
    → take low one ≡ take met into ++ lefts → take high all ≡ take low one ++ rights
    → drop (at + 1) (take high all) ≡ (drop (at + 1) (take met into) ++ lefts) ++ rights
waits_last at met low high into one all lefts rights less within e g =
    let len = length-take-le met into within in
    let more = length-append (take met into) lefts in
    ap (drop (at + 1)) (g ∙ ap (λ (xs : List ℕ). xs ++ rights) e)
    ∙ drop-append-le (at + 1) (take met into ++ lefts) rights (omega (arith, len, less, more))
    ∙ ap (λ (xs : List ℕ). xs ++ rights) (drop-append-le (at + 1) (take met into) lefts (omega (arith, len, less)))

-- so many offsets stand in the list then
pub puts_few : (word : ℕ → ℕ) (starts : List ℕ) (base at met : ℕ) (into lefts rights bits : List ℕ) → at < met
    → met ≤ length into
    → AreWaiting word starts base (at + 1) ((drop (at + 1) (take met into) ++ lefts) ++ rights) bits
    → met + length lefts + length rights ≤ 684
puts_few word starts base at met into lefts rights bits less within w =
    let few = queue_few word starts base (at + 1) ((drop (at + 1) (take met into) ++ lefts) ++ rights) bits w in
    let a = length-append (drop (at + 1) (take met into) ++ lefts) rights in
    let b = length-append (drop (at + 1) (take met into)) lefts in
    let d = length-drop (at + 1) (take met into) in
    let t = length-take-le met into within in
    omega (arith, few, a, b, d, t, less)

-- at the end none waits
pub none_waits : (word : ℕ → ℕ) (starts : List ℕ) (base at met : ℕ) (into bits : List ℕ) → met ≤ at
    → AreWaiting word starts base at (drop at (take met into)) bits → HaveFound starts base bits
none_waits word starts base at met into bits le w =
    let len = length-take met into in
    let P : List ℕ → Type 0 = λ q. AreWaiting word starts base at q bits in
    all_found word starts base at bits (subst P (drop_all at (take met into) (omega (arith, len, le))) w)

-- there are few roots
pub roots_few : (word : ℕ → ℕ) (starts : List ℕ) (base roots : ℕ) (into bits : List ℕ) → length into ≡ 685
    → AreWaiting word starts base 0 (take roots into) bits → roots ≤ 684
roots_few word starts base roots into bits room w =
    let few = queue_few word starts base 0 (take roots into) bits w in
    let len = length-take roots into in
    omega (arith, few, len, room)

-- the first of the plugs tells the segment of all
pub segment_is : (h : HeapView) (base segment k x : ℕ) (starts : List ℕ) → CanReadAll h base segment starts
    → IsIn x starts → k ≡ memory_index h.memories (x - 16) → segment ≡ k
segment_is h base segment k x starts can i is = (can.words x i).children_in ∙ sym is
