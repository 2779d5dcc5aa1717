-- A tree that is built of two trees and the plug between them.
use Rattle.std.proofs.Common.{◌≡◌, ◌≢◌, inl, inr, ℕ, suc, ◌+◌, ◌-◌, ◌*◌, ◌/◌, ◌%◌, ◌^◌, ◌<◌, ◌≤◌, max, List, [], ◌∷◌}
use Rattle.std.proofs.Common.{◌++◌, length, take, drop, get_or, refl, ap, sym, ◌∙◌, subst, arith, length-append}
use Rattle.std.proofs.lemmas.List.{drop_more, length-drop, length-map, length-take-le, take_all, take-append-drop}
use Rattle.std.proofs.Math.Nat.{pow-suc}
use Rattle.std.proofs.lemmas.Bool.{cases_lt}
use Rattle.std.specs.List.{AllByRecursion}
use Rattle.clr_types.specs.Rising.{first, IsIn, later}
use Rattle.clr_types.proofs.RisingLists.{all_at, in_cons}
use Rattle.clr_types.proofs.ListMembers.{append_right, from-map}
use Rattle.clr_types.proofs.ChangedLists.{append_left, IsIn-map}
use Rattle.clr_heap.specs.Memories.{HasWord}
use Rattle.clr_heap.specs.View.{HeapView, SameShape, stored, word_of}
use Rattle.clr_heap.proofs.Rewrite.{SameShape-stored}
use Rattle.clr_heap.proofs.Storing.{HasWord-shapes, word_in-store_in_other, word_in-store_in_same}
use Rattle.clr_plugs.specs.Builders.{AreOffsets, HaveChildren, IsNoChildren, places_from}
use Rattle.clr_plugs.specs.Info.{children_word, HasInfo}
use Rattle.clr_plugs.specs.Plans.{AreSpaced}
use Rattle.clr_plugs.specs.Trees.{in_order, IsBrickTree, leaf, levels, node, Stands, Tree}
use Rattle.clr_plugs.proofs.Information.{inner_has}
use Rattle.clr_plugs.proofs.Starts.{spaced-above}

-- ---- offsets around one of them

pub cut : (xs : List ℕ) (m : ℕ) → m < length xs → xs ≡ take m xs ++ (get_or xs m 0 ∷ drop (m + 1) xs)
cut xs m h = sym (take-append-drop m xs) ∙ ap (λ (ys : List ℕ). take m xs ++ ys) (drop_more xs m 0 h)

spaced_lower : (low other : ℕ) (xs : List ℕ) → other ≤ low → AreSpaced low xs → AreSpaced other xs
spaced_lower low other [] le s = tt
spaced_lower low other (x ∷ xs) le s = let h = s.0 in (omega (arith, le, h), s.1)

spaced_left : (low : ℕ) (xs ys : List ℕ) → AreSpaced low (xs ++ ys) → AreSpaced low xs
spaced_left low [] ys s = tt
spaced_left low (x ∷ xs) ys s = (s.0, spaced_left (x + 24) xs ys s.1)

spaced_right : (low : ℕ) (xs ys : List ℕ) → AreSpaced low (xs ++ ys) → AreSpaced low ys
spaced_right low [] ys s = s
spaced_right low (x ∷ xs) ys s = let h = s.0 in
    spaced_lower (x + 24) low ys (omega (arith, h)) (spaced_right (x + 24) xs ys s.1)

-- the offsets below one are 24 below it, and those above it 24 above it
spaced_below : (low : ℕ) (xs : List ℕ) (o : ℕ) (ys : List ℕ) → AreSpaced low (xs ++ (o ∷ ys)) → (x : ℕ) → IsIn x xs
    → x + 24 ≤ o
spaced_below low [] o ys s x i = elim i [ ]
spaced_below low (z ∷ zs) o ys s x i = elim (in_cons i) [
  | inl e ↦ let up = spaced-above (z + 24) (zs ++ (o ∷ ys)) s.1 o (append_right zs first) in omega (arith, up, e)
  | inr more ↦ spaced_below (z + 24) zs o ys s.1 x more
]

all_left : {X : Type 0} (P : X → Type 0) (xs ys : List X) → AllByRecursion P (xs ++ ys) → AllByRecursion P xs
all_left P [] ys h = tt
all_left P (x ∷ xs) ys h = (h.0, all_left P xs ys h.1)

all_right : {X : Type 0} (P : X → Type 0) (xs ys : List X) → AllByRecursion P (xs ++ ys) → AllByRecursion P ys
all_right P [] ys h = h
all_right P (x ∷ xs) ys h = all_right P xs ys h.1

-- what cutting offsets gives
pub record AreCut (xs : List ℕ) (o : ℕ) (ys : List ℕ) : Type 0 where
  pub left : AreOffsets xs
  pub right : AreOffsets ys
  pub small : o < 4096
  pub below : (x : ℕ) → IsIn x xs → x + 24 ≤ o
  pub above : (y : ℕ) → IsIn y ys → o + 24 ≤ y

pub cut_offsets : (xs : List ℕ) (o : ℕ) (ys : List ℕ) → AreOffsets (xs ++ (o ∷ ys)) → AreCut xs o ys
cut_offsets xs o ys a =
    let right = spaced_right 0 xs (o ∷ ys) a.spaced in
    let small = all_right (λ z. z < 4096) xs (o ∷ ys) a.small in
    record {
      left = record {
        spaced = spaced_left 0 xs (o ∷ ys) a.spaced;
        small = all_left (λ z. z < 4096) xs (o ∷ ys) a.small;
      };
      right = record { spaced = spaced_lower (o + 24) 0 ys (omega arith) right.1; small = small.1 };
      small = small.0;
      below = spaced_below 0 xs o ys a.spaced;
      above = spaced-above (o + 24) ys right.1;
    }

-- the places of joined offsets
pub places-append : (base : ℕ) (xs : List ℕ) (o : ℕ) (ys : List ℕ)
    → places_from base (xs ++ (o ∷ ys)) ≡ places_from base xs ++ ((base + o) ∷ places_from base ys)
places-append base [] o ys = refl
places-append base (x ∷ xs) o ys = ap (λ (zs : List ℕ). (base + x) ∷ zs) (places-append base xs o ys)

-- ---- trees whose words stay

pub stands-same : (old new : ℕ → ℕ) (base : ℕ) (t : Tree)
    → ((x : ℕ) → IsIn x (in_order t) → new (x - 16) ≡ old (x - 16)) → Stands old base t → Stands new base t
stands-same old new base leaf same s = tt
stands-same old new base (node l p r) same s =
    let here = same p (append_right (in_order l) first) in (
      s.0,
      ap (λ (w : ℕ). w % 4294967296) here ∙ s.1,
      ap (λ (w : ℕ). w / 4294967296) here ∙ s.2,
      stands-same old new base l (λ x i. same x (append_left (p ∷ in_order r) i)) s.3,
      stands-same old new base r (λ x i. same x (append_right (in_order l) (later i))) s.4,
    )

pub tree-same : (old new : ℕ → ℕ) (brick from : ℕ) (starts : List ℕ)
    → ((x : ℕ) → IsIn x starts → new (x - 16) ≡ old (x - 16)) → IsBrickTree old brick from starts
    → IsBrickTree new brick from starts
tree-same old new brick from starts same t = record {
  tree = t.tree;
  root = t.root;
  stands = stands-same old new (brick * 4096) t.tree
      (λ x i. same x (let P : List ℕ → Type 0 = λ xs. IsIn x xs in subst P t.order i)) t.stands;
  order = t.order;
  balanced = t.balanced;
}

-- a level more has room for twice as many
deeper : (l r n m : ℕ) → 2 ^ l ≤ max 1 (2 * n) → 2 ^ r ≤ max 1 (2 * m) → n ≤ m + 1 → m ≤ n + 1
    → 2 ^ suc (max l r) ≤ max 1 (2 * (n + (m + 1)))
deeper l r n m hl hr le ge = rw pow-suc (elim (cases_lt l r) [
  | inl less ↦ let same : max l r ≡ r = omega arith in rw same (omega (arith, hr, ge))
  | inr more ↦ let same : max l r ≡ l = omega arith in rw same (omega (arith, hl, le))
])

-- the tree of a plug over the trees of the plugs below it and above it
pub joined_tree : (word : ℕ → ℕ) (brick left right plug : ℕ) (xs ys : List ℕ) → IsBrickTree word brick left xs
    → IsBrickTree word brick right ys → word (plug - 16) ≡ children_word left right → left ≤ 4096
    → brick * 4096 ≤ plug → length xs ≤ length ys + 1 → length ys ≤ length xs + 1
    → IsBrickTree word brick (plug - brick * 4096 + 1) (xs ++ (plug ∷ ys))
joined_tree word brick left right plug xs ys l r told small low le ge =
    let ll = l.root in
    let rr = r.root in
    let len = length-append xs (plug ∷ ys) in
    let deep = deeper (levels l.tree) (levels r.tree) (length xs) (length ys) l.balanced r.balanced le ge in
    record {
      tree = node l.tree plug r.tree;
      root = refl;
      stands = (
        low,
        ap (λ (w : ℕ). w % 4294967296) told ∙ low_half left right small
            ∙ ll,
        ap (λ (w : ℕ). w / 4294967296) told ∙ high_half left right small ∙ rr,
        l.stands,
        r.stands,
      );
      order = ap (λ (zs : List ℕ). zs ++ (plug ∷ in_order r.tree)) l.order
          ∙ ap (λ (zs : List ℕ). xs ++ (plug ∷ zs)) r.order;
      balanced = rw len (subst_count (2 ^ suc (max (levels l.tree) (levels r.tree))) (length xs) (length ys) deep);
    } where
      low_half : (a b : ℕ) → a ≤ 4096 → (a + b * 4294967296) % 4294967296 ≡ a
      low_half a b h = omega (arith, h)

      high_half : (a b : ℕ) → a ≤ 4096 → (a + b * 4294967296) / 4294967296 ≡ b
      high_half a b h = omega (arith, h)

      subst_count : (d n m : ℕ) → d ≤ max 1 (2 * (n + (m + 1))) → d ≤ max 1 (2 * (n + suc m))
      subst_count d n m h = omega (arith, h)

-- ---- the two halves built, and the word of the plug between them written

-- what building does to the heap
pub record IsBuilt (h now : HeapView) (brick from : ℕ) (offsets : List ℕ) : Type 0 where
  pub tree : IsBrickTree (word_of now) brick from (places_from (brick * 4096) offsets)
  pub words : (b : ℕ) → b % 8 ≡ 0 → IsNoChildren (places_from (brick * 4096) offsets) b → word_of now b ≡ word_of h b
  pub shape : SameShape h now

-- no place of one list is a place of another from which it is apart
no_children : (base : ℕ) (ys : List ℕ) (b : ℕ) → ((y : ℕ) → IsIn y ys → b + 16 ≢ base + y)
    → IsNoChildren (places_from base ys) b
no_children base [] b apart = tt
no_children base (y ∷ ys) b apart = (apart y first, no_children base ys b (λ z i. apart z (later i)))

pub halves_have : (h : HeapView) (base : ℕ) (xs : List ℕ) (o : ℕ) (ys : List ℕ)
    → HaveChildren h (places_from base (xs ++ (o ∷ ys)))
    → HaveChildren h (places_from base xs) × HaveChildren h ((base + o) ∷ places_from base ys)
halves_have h base xs o ys has =
    let P : (x : ℕ) → List ℕ → Type 0 = λ x zs. IsIn x zs in
    let e = sym (places-append base xs o ys) in (
      λ x i. has x (let Q : List ℕ → Type 0 = λ zs. IsIn x zs in
          subst Q e (append_left ((base + o) ∷ places_from base ys) i)),
      λ x i. has x (let Q : List ℕ → Type 0 = λ zs. IsIn x zs in subst Q e (append_right (places_from base xs) i)),
    )

pub have_still : (h now : HeapView) (plugs : List ℕ) → SameShape h now → HaveChildren h plugs → HaveChildren now plugs
have_still h now plugs shape has = λ x i. let w = has x i in
    (w.0, HasWord-shapes h.memories now.memories (x - 16) shape.memories w.1)

pub same_still : (h mid now : HeapView) → SameShape h mid → SameShape mid now → SameShape h now
same_still h mid now s t = record {
  memories = t.memories ∙ s.memories;
  others = t.others ∙ ap (λ (v : HeapView). let w : HeapView = record v { memories = now.memories } in w) s.others;
}

module _ (h h1 h2 : HeapView) (brick left right : ℕ) (xs : List ℕ) (o : ℕ) (ys : List ℕ) where
  pub built_over : AreOffsets (xs ++ (o ∷ ys)) → HaveChildren h (places_from (brick * 4096) (xs ++ (o ∷ ys)))
      → IsBuilt h h1 brick left xs → IsBuilt h1 h2 brick right ys → left ≤ 4096
      → length xs ≤ length ys + 1 → length ys ≤ length xs + 1
      → IsBuilt h (stored h2 (brick * 4096 + o - 16) (children_word left right)) brick (o + 1) (xs ++ (o ∷ ys))
  built_over offsets has one two small le ge =
      let base = brick * 4096 in
      let p = base + o in
      let h3 = stored h2 (p - 16) (children_word left right) in
      let c = cut_offsets xs o ys offsets in
      let halves = halves_have h base xs o ys has in
      let shape2 = same_still h h1 h2 one.shape two.shape in
      let here = halves.1 p first in
      let above = here.0 in
      let z = here.1.aligned in
      let word : HasWord h2.memories (p - 16) = HasWord-shapes h.memories h2.memories (p - 16) shape2.memories here.1 in
      let stay : (b : ℕ) → b % 8 ≡ 0 → b + 16 ≢ p → word_of h3 b ≡ word_of h2 b =
      λ b zb ne. word_in-store_in_other h2.memories (p - 16) (children_word left right) b z zb
      (λ e. ne (omega arith)) in
      let lefts : (x : ℕ) → IsIn x (places_from base xs) → word_of h3 (x - 16) ≡ word_of h1 (x - 16) = λ x i.
      let from = from-map (λ (d : ℕ). base + d) x xs i in
      let at = from.1 in
      let gap = c.below from.0 from.2 in
      let w = halves.0 x i in
      let w0 = w.0 in
      stay (x - 16) w.1.aligned (λ e. omega (arith, at, gap, w0, e))
      ∙ two.words (x - 16) w.1.aligned
      (no_children base ys (x - 16) (λ y j e. let up = c.above y j in omega (arith, up, gap, at, w0, e))) in
      let rights : (y : ℕ) → IsIn y (places_from base ys) → word_of h3 (y - 16) ≡ word_of h2 (y - 16) = λ y i.
      let from = from-map (λ (d : ℕ). base + d) y ys i in
      let at = from.1 in
      let gap = c.above from.0 from.2 in
      let w = halves.1 y (later i) in
      let w0 = w.0 in
      stay (y - 16) w.1.aligned (λ e. omega (arith, at, gap, w0, e)) in
      let told : word_of h3 (p - 16) ≡ children_word left right =
      word_in-store_in_same h2.memories (p - 16) (children_word left right) word.inside in
      let nx = length-map xs (λ (d : ℕ). base + d) in
      let ny = length-map ys (λ (d : ℕ). base + d) in
      let t = joined_tree (word_of h3) brick left right p (places_from base xs) (places_from base ys)
      (tree-same (word_of h1) (word_of h3) brick left (places_from base xs) lefts one.tree)
      (tree-same (word_of h2) (word_of h3) brick right (places_from base ys) rights two.tree) told small (omega arith)
      (omega (arith, nx, ny, le)) (omega (arith, nx, ny, ge)) in
      let join = places-append base xs o ys in
      let P : ℕ → List ℕ → Type 0 = λ n zs. IsBrickTree (word_of h3) brick n zs in
      let Q : List ℕ → Type 0 = λ zs. IsBrickTree (word_of h3) brick (p - base + 1) zs in
      let R : ℕ → Type 0 = λ n. IsBrickTree (word_of h3) brick n (places_from base (xs ++ (o ∷ ys))) in
      let number : p - base + 1 ≡ o + 1 = omega arith in
      record {
        tree = subst R number (subst Q (sym join) t);
        words = λ b zb none.
            let S : List ℕ → Type 0 = λ zs. IsNoChildren zs b in
            let no = subst S join none in
            let no_left = all_left (λ q. b + 16 ≢ q) (places_from base xs) (p ∷ places_from base ys) no in
            let no_right = all_right (λ q. b + 16 ≢ q) (places_from base xs) (p ∷ places_from base ys) no in
            stay b zb no_right.0 ∙ two.words b zb no_right.1 ∙ one.words b zb no_left;
        shape = SameShape-stored h h2 (p - 16) (children_word left right) shape2;
      }

-- ---- what building by halves asks and gives

-- where offsets are cut
pub record IsMiddle (xs : List ℕ) (m : ℕ) : Type 0 where
  pub some : m < length xs
  pub left : length (take m xs) ≡ m
  pub right : length (drop (m + 1) xs) ≡ length xs - (m + 1)
  pub all : take (length xs - (m + 1)) (drop (m + 1) xs) ≡ drop (m + 1) xs

pub middle : (xs : List ℕ) → length xs ≢ 0 → IsMiddle xs (length xs / 2)
middle xs some =
    let m = length xs / 2 in
    let right : length (drop (m + 1) xs) ≡ length xs - (m + 1) = length-drop (m + 1) xs in
    record {
      some = omega (arith, some);
      left = length-take-le m xs (omega arith);
      right = right;
      all = take_all (length xs - (m + 1)) (drop (m + 1) xs) (omega (arith, right));
    }

pub halves_ask : (h : HeapView) (brick : ℕ) (xs : List ℕ) (m : ℕ) → m < length xs → AreOffsets xs
    → HaveChildren h (places_from (brick * 4096) xs)
    → AreCut (take m xs) (get_or xs m 0) (drop (m + 1) xs) × HaveChildren h (places_from (brick * 4096) (take m xs))
    × HaveChildren h ((brick * 4096 + get_or xs m 0) ∷ places_from (brick * 4096) (drop (m + 1) xs))
halves_ask h brick xs m some offsets has =
    let e = cut xs m some in
    let P : List ℕ → Type 0 = AreOffsets in
    let Q : List ℕ → Type 0 = λ zs. HaveChildren h (places_from (brick * 4096) zs) in
    let halves = halves_have h (brick * 4096) (take m xs) (get_or xs m 0) (drop (m + 1) xs) (subst Q e has) in
    (cut_offsets (take m xs) (get_or xs m 0) (drop (m + 1) xs) (subst P e offsets), halves.0, halves.1)

pub built_whole : (h h1 h2 : HeapView) (brick left right : ℕ) (xs : List ℕ) (m : ℕ) → m ≡ length xs / 2 → length xs ≢ 0
    → AreOffsets xs → HaveChildren h (places_from (brick * 4096) xs)
    → IsBuilt h h1 brick left (take m xs) → IsBuilt h1 h2 brick right (drop (m + 1) xs) → left ≤ 4096
    → IsBuilt h (stored h2 (brick * 4096 + get_or xs m 0 - 16) (children_word left right)) brick (get_or xs m 0 + 1) xs
built_whole h h1 h2 brick left right xs m at some offsets has one two small =
    let h3 = stored h2 (brick * 4096 + get_or xs m 0 - 16) (children_word left right) in
    let more : m < length xs = omega (arith, at, some) in
    let e = cut xs m more in
    let nl : length (take m xs) ≡ m = length-take-le m xs (omega (arith, more)) in
    let nr : length (drop (m + 1) xs) ≡ length xs - (m + 1) = length-drop (m + 1) xs in
    let P : List ℕ → Type 0 = AreOffsets in
    let Q : List ℕ → Type 0 = λ zs. HaveChildren h (places_from (brick * 4096) zs) in
    let R : List ℕ → Type 0 = λ zs. IsBuilt h h3 brick (get_or xs m 0 + 1) zs in
    subst R (sym e) (built_over h h1 h2 brick left right (take m xs) (get_or xs m 0) (drop (m + 1) xs)
    (subst P e offsets) (subst Q e has) one two small (omega (arith, nl, nr, at)) (omega (arith, nl, nr, at)))

-- ---- one offset more

spaced_count : (low : ℕ) (xs : List ℕ) → AreSpaced low xs → AllByRecursion (λ x. x < 4096) xs
    → low + 24 * length xs ≤ max low 4119
spaced_count low [] s small = omega arith
spaced_count low (x ∷ xs) s small = let h = s.0 in let b = small.0 in let r = spaced_count (x + 24) xs s.1 small.1 in
    omega (arith, h, b, r)

pub spaced_push : (low : ℕ) (xs : List ℕ) (o : ℕ) → AreSpaced low xs → ((x : ℕ) → IsIn x xs → x + 24 ≤ o) → low ≤ o
    → AreSpaced low (xs ++ o ∷ [])
spaced_push low [] o s above le = (le, tt)
spaced_push low (x ∷ xs) o s above le = (s.0, spaced_push (x + 24) xs o s.1 (λ z i. above z (later i)) (above x first))

all_push : (P : ℕ → Type 0) (xs : List ℕ) (o : ℕ) → AllByRecursion P xs → P o → AllByRecursion P (xs ++ o ∷ [])
all_push P [] o h p = (p, tt)
all_push P (x ∷ xs) o h p = (h.0, all_push P xs o h.1 p)

-- the offsets with one more above them, and how many they are
pub record IsPushed (base : ℕ) (xs : List ℕ) (o : ℕ) : Type 0 where
  pub offsets : AreOffsets (xs ++ o ∷ [])
  pub most : length xs < 171
  pub places : places_from base (xs ++ o ∷ []) ≡ places_from base xs ++ (base + o) ∷ []

pub pushed : (base : ℕ) (xs : List ℕ) (o plug : ℕ) → AreOffsets xs → plug ≡ base + o → o < 4096
    → AllByRecursion (λ p. p + 24 ≤ plug) (places_from base xs) → IsPushed base xs o
pushed base xs o plug a at small above =
    let over : (x : ℕ) → IsIn x xs → x + 24 ≤ o = λ x i. let h =
    all_at (λ p. p + 24 ≤ plug) (IsIn-map (λ (d : ℕ). base + d) i) above in omega (arith, h, at) in
    let spaced = spaced_push 0 xs o a.spaced over (omega arith) in
    let all = all_push (λ x. x < 4096) xs o a.small small in
    let count = spaced_count 0 (xs ++ o ∷ []) spaced all in
    let len = length-append xs (o ∷ []) in
    record {
      offsets = record { spaced = spaced; small = all };
      most = omega (arith, count, len);
      places = places-append base xs o [];
    }

-- the words of the plugs' children are among their information
pub info_children : (h : HeapView) (plugs : List ℕ) → ((x : ℕ) → IsIn x plugs → HasInfo h x) → HaveChildren h plugs
info_children h plugs has = λ x i. (
    let info = has x i in
    let above = info.above in
    let z = info.bytes.word.aligned in (
      omega (arith, above),
      inner_has h.memories (x - 32) 24 (x - 16) info.bytes (omega (arith, above))
          (omega (arith, above)) (omega (arith, above, z)),
    ))
