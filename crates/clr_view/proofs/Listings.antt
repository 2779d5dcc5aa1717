-- The items of all segments: joined, cut, and compared segment by segment.
use Rattle.std.proofs.Common.{◌≡◌, ℕ, zero, suc, ◌+◌, ◌-◌, ◌<◌, ◌≤◌, List, [], ◌∷◌, ◌++◌, filter, length, map, refl, ap}
use Rattle.std.proofs.Common.{ap₂, sym, ◌∙◌, arith}
use Rattle.std.specs.List.{AllByRecursion}
use Rattle.std.proofs.lemmas.List.{map-append, append_assoc}
use Rattle.std.proofs.lemmas.List.Elements.{filter-append}
use Rattle.clr_types.specs.Rising.{IsRisingBy}
use Rattle.clr_types.specs.Types.{TypeRow}
use Rattle.clr_types.specs.Segments.{reserved_end}
use Rattle.clr_types.specs.declared.item.Item.{Item}
use Rattle.clr_types.proofs.ChangedLists.{all_imply}
use Rattle.clr_heap.specs.Parts.{item_piece, item_part, items_in, Part, rest_part}
use Rattle.clr_heap.specs.View.{AreWalkable, first_of, heap_items, HeapView, IsHeap, last_of, listing, listings}
use Rattle.clr_heap.specs.View.{parts_of, segment_at, sight}
use Rattle.clr_heap.proofs.Framing.{lawful_at}
use Rattle.clr_heap.proofs.Staying.{segment_order}
use Rattle.clr_model.specs.Machine.{Object}
use Rattle.clr_view.specs.View.{free_among, is_free, is_object, object_in, objects_among}
use Rattle.clr_view.proofs.Items.{AreStacked, IsItem, items-are, items-stacked, stacked-rise}

pub items-append : (ps qs : List Part) → items_in (ps ++ qs) ≡ items_in ps ++ items_in qs
items-append [] qs = refl
items-append (item_part i ∷ ps) qs = ap (λ is. i ∷ is) (items-append ps qs)
items-append (rest_part low high ∷ ps) qs = items-append ps qs

pub objects-append : (rows : List TypeRow) (word : ℕ → ℕ) (xs ys : List Item)
    → objects_among rows word (xs ++ ys) ≡ objects_among rows word xs ++ objects_among rows word ys
objects-append rows word xs ys = ap (map (object_in rows word)) (filter-append is_object xs ys)
    ∙ map-append (object_in rows word) (filter is_object xs) (filter is_object ys)

pub free-append : (xs ys : List Item) → free_among (xs ++ ys) ≡ free_among xs ++ free_among ys
free-append xs ys = ap (map item_piece) (filter-append is_free xs ys)
    ∙ map-append item_piece (filter is_free xs) (filter is_free ys)

-- ---- segment by segment

-- segments with the same items
pub listings-agree : (rows new_rows : List TypeRow) (h new : HeapView) (i m : ℕ)
    → ((j : ℕ) → i ≤ j → j < i + m → listing new_rows new j ≡ listing rows h j)
    → listings new_rows new i m ≡ listings rows h i m
listings-agree rows new_rows h new i zero same = refl
listings-agree rows new_rows h new i (suc m) same =
    ap₂ (λ (xs ys : List Item). xs ++ ys) (same i (omega arith) (omega arith))
    (listings-agree rows new_rows h new (i + 1) m (λ j low high. same j (omega arith) (omega arith)))

-- segments with the same objects
pub objects-agree : (rows new_rows : List TypeRow) (old new : ℕ → ℕ) (h : HeapView) (i m : ℕ)
    → ((j : ℕ) → i ≤ j → j < i + m → objects_among new_rows new (listing rows h j) ≡ objects_among rows old
    (listing rows h j))
    → objects_among new_rows new (listings rows h i m) ≡ objects_among rows old (listings rows h i m)
objects-agree rows new_rows old new h i zero same = refl
objects-agree rows new_rows old new h i (suc m) same =
    let here = same i (omega arith) (omega arith) in
    let rest = objects-agree rows new_rows old new h (i + 1) m (λ j low high. same j (omega arith) (omega arith)) in
    objects-append new_rows new (listing rows h i) (listings rows h (i + 1) m)
    ∙ ap₂ (λ (xs ys : List Object). xs ++ ys) here rest
    ∙ sym (objects-append rows old (listing rows h i) (listings rows h (i + 1) m))

-- the items of segment i + k among those of m segments from segment i on
pub listings-cut : (rows : List TypeRow) (h : HeapView) (i k m : ℕ) → k < m
    → listings rows h i m ≡ listings rows h i k ++ (listing rows h (i + k) ++ listings rows h (i + k + 1) (m - (k + 1)))
listings-cut rows h i k zero l = absurd (omega arith)
listings-cut rows h i zero (suc m) l =
    let at : i ≡ i + 0 = omega arith in
    let count : m ≡ suc m - (0 + 1) = omega arith in
    λ x. listing rows h (at x) ++ listings rows h (at x + 1) (count x)
listings-cut rows h i (suc k) (suc m) l =
    let at : i + 1 + k ≡ i + suc k = omega arith in
    let count : m - (k + 1) ≡ suc m - (suc k + 1) = omega arith in
    let ih = listings-cut rows h (i + 1) k m (omega arith) in
    let moved : listings rows h (i + 1) m
    ≡ listings rows h (i + 1)
    k ++ (listing rows h (i + suc k) ++ listings rows h (i + suc k + 1) (suc m - (suc k + 1))) =
    ih ∙ (λ x. listings rows h (i + 1) k ++ (listing rows h (at x) ++ listings rows h (at x + 1) (count x))) in
    ap (λ xs. listing rows h i ++ xs) moved
    ∙ sym (append_assoc (listing rows h i) (listings rows h (i + 1) k)
    (listing rows h (i + suc k) ++ listings rows h (i + suc k + 1) (suc m - (suc k + 1))))

-- the items of the heap around those of segment k
pub heap-cut : (rows : List TypeRow) (h : HeapView) (k m : ℕ) → k < m
    → listings rows h 0 m ≡ listings rows h 0 k ++ (listing rows h k ++ listings rows h (k + 1) (m - (k + 1)))
heap-cut rows h k m l =
    let at : 0 + k ≡ k = omega arith in
    listings-cut rows h 0 k m l
    ∙ (λ x. listings rows h 0 k ++ (listing rows h (at x) ++ listings rows h (at x + 1) (m - (k + 1))))

-- ---- what holds of the heap's items

module _ (rows : List TypeRow) (h : HeapView) (walkable : AreWalkable rows h) where
  -- each stands in its segment
  pub listing-are : (j : ℕ) → j < length h.segments → AllByRecursion (IsItem rows (first_of h j) (last_of h j))
      (listing rows h j)
  listing-are j l = let w = walkable j l in
      items-are (sight rows h j) (parts_of rows h j) (first_of h j) (last_of h j) w.start w.spelled

  pub listing-stacked : (j : ℕ) → j < length h.segments → AreStacked (listing rows h j)
  listing-stacked j l = let w = walkable j l in
      items-stacked (sight rows h j) (parts_of rows h j) (first_of h j) (last_of h j) w.start w.spelled

  all-append : (P : Item → Type 0) (xs ys : List Item) → AllByRecursion P xs → AllByRecursion P ys
      → AllByRecursion P (xs ++ ys)
  all-append P [] ys all more = more
  all-append P (x ∷ xs) ys all more = (all.0, all-append P xs ys all.1 more)

  stack-append : (low : ℕ) (xs ys : List Item) → AreStacked xs → AreStacked ys
      → AllByRecursion (λ (i : Item). i.place + i.size ≤ low) xs → AllByRecursion (λ (i : Item). low ≤ i.place) ys
      → AreStacked (xs ++ ys)
  stack-append low [] ys r s b a = s
  stack-append low (x ∷ xs) ys r s b a =
      let here = b.0 in (
        all-append (λ (y : Item). x.place + x.size ≤ y.place) xs ys r.0
            (all_imply (λ (i : Item). low ≤ i.place) (λ (y : Item). x.place + x.size ≤ y.place) ys
            (λ y l. omega arith) a),
        stack-append low xs ys r.1 s b.1 a,
      )

  -- what holds of the items of each segment holds of all
  pub listings-all : (P : Item → Type 0) (i m : ℕ) → ((j : ℕ) → i ≤ j → j < i + m → AllByRecursion P (listing rows h j))
      → AllByRecursion P (listings rows h i m)
  listings-all P i zero each = tt
  listings-all P i (suc m) each =
      all-append P (listing rows h i) (listings rows h (i + 1) m) (each i (omega arith) (omega arith))
      (listings-all P (i + 1) m (λ j low high. each j (omega arith) (omega arith)))

  listings-stacked : (heap : IsHeap h) (i m : ℕ) → i + m ≤ length h.segments → AreStacked (listings rows h i m)
  listings-stacked heap i zero l = tt
  listings-stacked heap i (suc m) l =
      let here = lawful_at h i heap (omega arith) in
      let high = here.high in
      stack-append (reserved_end (segment_at h i)) (listing rows h i) (listings rows h (i + 1) m)
      (listing-stacked i (omega arith)) (listings-stacked heap (i + 1) m (omega arith))
      (all_imply (IsItem rows (first_of h i) (last_of h i))
      (λ (j : Item). j.place + j.size ≤ reserved_end (segment_at h i)) (listing rows h i) (λ j is. let b = is.below in
      omega arith) (listing-are i (omega arith)))
      (listings-all (λ (j : Item). reserved_end (segment_at h i) ≤ j.place) (i + 1) m (λ k low up.
      let order = segment_order h i k heap (omega arith) (omega arith) in
      all_imply (IsItem rows (first_of h k) (last_of h k)) (λ (j : Item). reserved_end (segment_at h i) ≤ j.place)
      (listing rows h k) (λ j is. let a = is.above in omega arith) (listing-are k (omega arith))))

  -- each item of the heap ends before the next begins
  pub heap-stacked : IsHeap h → AreStacked (heap_items rows h)
  heap-stacked heap = listings-stacked heap 0 (length h.segments) (omega arith)

  -- so that the items of the heap rise by place
  pub heap-rise : IsHeap h → IsRisingBy (λ (i : Item). i.place) (heap_items rows h)
  heap-rise heap =
      stacked-rise (heap_items rows h)
      (listings-all (λ (i : Item). 24 ≤ i.size) 0 (length h.segments) (λ j low high.
      all_imply (IsItem rows (first_of h j) (last_of h j)) (λ (i : Item). 24 ≤ i.size) (listing rows h j)
      (λ i is. is.least) (listing-are j (omega arith))))
      (heap-stacked heap)
