-- The bytes that a machine keeps in the small heap, read off the marks in its memory.
use Rattle.std.proofs.Common.{◌≡◌, ℕ, ◌+◌, ◌-◌, ◌<◌, ◌≤◌, Bool, true, false, ◌&&◌, List, ◌++◌, filter, length, map}
use Rattle.std.proofs.Common.{sum_by, refl, ap, ap₂, sym, ◌∙◌, arith}
use Rattle.clr_types.specs.Rising.{IsIn}
use Rattle.clr_types.specs.Segments.{ephemeral, generation, is_small_or_ephemeral}
use Rattle.clr_types.specs.Types.{TypeRow}
use Rattle.clr_types.specs.declared.item.Item.{Item}
use Rattle.clr_types.proofs.ChangedLists.{into_filter, IsIn-map, out_of_filter}
use Rattle.clr_types.proofs.ListMembers.{filter-map, filter-on, sum-mapped}
use Rattle.clr_types.proofs.Shuffles.{shuffled-filter, shuffled-sorted, shuffled-sum}
use Rattle.clr_heap.specs.View.{frame, heap_items, HeapView, IsHeap, listings, no_rests, segment_at, word_of}
use Rattle.clr_model.specs.Collection.{is_in_small_heap, kept_bytes}
use Rattle.clr_model.specs.Lawful.{IsLaid}
use Rattle.clr_model.specs.Lookups.{object_size}
use Rattle.clr_model.specs.Machine.{Machine, Object}
use Rattle.clr_model.specs.Sweep.{is_condemned, Survivor, survivor, survivors}
use Rattle.clr_view.specs.Marks.{has_mark}
use Rattle.clr_view.specs.Memory.{is_reached_by, IsMemoryOf, TestsMarks}
use Rattle.clr_view.specs.View.{IsHeld, is_object, object_in, objects_in}
use Rattle.clr_view.proofs.Listed.{listed-sized}
use Rattle.clr_view.proofs.Listings.{heap-cut}
use Rattle.std.proofs.lemmas.Bool.{leb-true}
use Rattle.clr_sweep.specs.KeptBytes.{kept_size, kept_small}
use Rattle.clr_sweep.specs.SweptItems.{items_below, items_from, stays, young_start}
use Rattle.clr_sweep.proofs.Counted.{all_swept_over, back-old, front-old}
use Rattle.clr_sweep.proofs.Extents.{kind-small}
use Rattle.clr_sweep.proofs.Filters.{filter-filter, filter-none, sum-on, sum-passing}
use Rattle.clr_sweep.proofs.LargeSwept.{place_kind}
use Rattle.clr_sweep.proofs.SurvivorsSwept.{seen}
use Rattle.clr_sweep.proofs.WholeSwept.{memory-seen}
use Rattle.clr_sweep.proofs.YoungPart.{below-old, from-listed, from-swept, listed-stands, young-items, young-kind}

-- whether the item is a marked object of a generation up to g, in the small heap
abbrev pub is_kept_small : HeapView → ℕ → Item → Bool
is_kept_small h g i = stays (word_of h) i && (is_reached_by h g i.place && is_in_small_heap (frame h) i.place)

-- the bytes of such items
abbrev pub kept_reached : HeapView → ℕ → List Item → ℕ
kept_reached h g items = sum_by (λ i. i.size) (filter (is_kept_small h g) items)

module _ (rows : List TypeRow) (h : HeapView) (m : Machine) (g : ℕ) (kept : ℕ → Bool) (heap : IsHeap h)
    (held : IsHeld rows h) (tests : TestsMarks rows h g kept) where
  abbrev here : Machine
  here = seen rows h m

  abbrev items : List Item
  items = heap_items rows h

  abbrev obj : Item → Object
  obj i = object_in rows (word_of h) i

  abbrev size : Survivor → ℕ
  size k = k.size

  abbrev small : ℕ → Bool
  small place = is_in_small_heap (frame h) place

  abbrev stay : Object → Bool
  stay o = is_condemned here g o && kept o.name

  abbrev of_item : Item → ℕ
  of_item i = object_size rows (obj i)

  abbrev all : Item → Bool
  all i = (is_object i && stay (obj i)) && small i.place

  same-test : (i : Item) → IsIn i items → all i ≡ is_kept_small h g i
  same-test i l = go (is_object i) refl (is_reached_by h g i.place) refl
    where
      swap : (k s : Bool) → ((true && (true && k)) && s) ≡ ((true && k) && (true && s))
      swap true s = refl
      swap false s = refl

      none : (k : Bool) → false ≡ ((true && k) && false)
      none true = refl
      none false = refl

      go : (b : Bool) → is_object i ≡ b → (c : Bool) → is_reached_by h g i.place ≡ c
          → ((b && (c && kept i.place)) && small i.place)
          ≡ ((b && has_mark (word_of h i.place)) && (c && small i.place))
      go false object c reached = refl
      go true object false reached = none (has_mark (word_of h i.place))
      go true object true reached =
          let told : kept i.place ≡ has_mark (word_of h i.place) =
          tests (obj i) (IsIn-map obj (into_filter is_object items object l))
          (leb-true (generation (frame h) i.place) g reached) in
          ap (λ b. (true && (true && b)) && small i.place) told ∙ swap (has_mark (word_of h i.place)) (small i.place)

  -- THE BYTES of the machine's survivors are those of the heap's marked objects
  seen-bytes : kept_bytes here.layout (survivors here g kept) ≡ kept_reached h g items
  seen-bytes =
      sym (shuffled-sum size (shuffled-filter (λ (k : Survivor). small k.place)
      (shuffled-sorted (λ (k : Survivor). k.place) (map (survivor here) (filter stay (objects_in rows h))))))
      ∙ ap (sum_by size) (filter-map (survivor here) (λ (k : Survivor). small k.place)
      (filter stay (objects_in rows h)))
      ∙ sum-mapped (survivor here) size (filter (λ (o : Object). small o.place) (filter stay (objects_in rows h)))
      ∙ ap (λ (os : List Object). sum_by (object_size rows) (filter (λ (o : Object). small o.place) os))
      (filter-map obj stay (filter is_object items))
      ∙ ap (sum_by (object_size rows)) (filter-map obj (λ (o : Object). small o.place)
      (filter (λ i. stay (obj i)) (filter is_object items)))
      ∙ sum-mapped obj (object_size rows) (filter (λ i. small i.place)
      (filter (λ i. stay (obj i)) (filter is_object items)))
      ∙ ap (λ (is : List Item). sum_by of_item (filter (λ i. small i.place) is))
      (filter-filter is_object (λ i. stay (obj i)) items)
      ∙ ap (sum_by of_item) (filter-filter (λ i. is_object i && stay (obj i)) (λ i. small i.place) items
      ∙ filter-on all (is_kept_small h g) items same-test)
      ∙ sum-on of_item (λ (i : Item). i.size) (filter (is_kept_small h g) items)
      (λ i l. sym (listed-sized rows h i heap held (out_of_filter (is_kept_small h g) i items l).1))

  pub kept-reached : IsMemoryOf rows h m → kept_bytes m.layout (survivors m g kept)
      ≡ kept_reached h g (heap_items rows h)
  kept-reached memory = ap (λ (n : Machine). kept_bytes n.layout (survivors n g kept)) (memory-seen rows h m memory)
      ∙ seen-bytes

-- of all generations
pub kept-all : (rows : List TypeRow) (h : HeapView) → kept_reached h 2 (heap_items rows h)
    ≡ kept_small h (heap_items rows h)
kept-all rows h = ap (sum_by (λ (i : Item). i.size)) (filter-on (is_kept_small h 2)
    (λ i. stays (word_of h) i && is_in_small_heap (frame h) i.place) (heap_items rows h)
    (λ i l. ap (λ b. stays (word_of h) i && (b && is_in_small_heap (frame h) i.place)) (all_swept_over h i.place)))

-- of the young ones, which stand in the young part of the ephemeral segment
module _ (rows : List TypeRow) (old : HeapView) (base : Machine) (heap : IsHeap old) (held : IsHeld rows old)
    (none : old.rests ≡ no_rests) (laid : IsLaid (seen rows old base)) (g : ℕ) (young : g ≤ 1) (k : ℕ)
    (inside : k < length old.segments) (eph : segment_at old k ≡ ephemeral (frame old)) where
  abbrev part : List Item
  part = items_from rows old k (young_start old g)

  abbrev below : List Item
  below = items_below rows old k (young_start old g)

  no-young : (is : List Item) → ((i : Item) → IsIn i is → is_reached_by old g i.place ≡ false)
      → kept_reached old g is ≡ 0
  no-young is off = ap (sum_by (λ (i : Item). i.size)) (filter-none (is_kept_small old g) is
      (λ i l. ap (λ b. stays (word_of old) i && (b && is_in_small_heap (frame old) i.place)) (off i l)
      ∙ no (stays (word_of old) i)))
    where
      no : (b : Bool) → (b && false) ≡ false
      no true = refl
      no false = refl

  all-young : kept_reached old g part ≡ kept_size old part
  all-young = ap (sum_by (λ (i : Item). i.size)) (filter-on (is_kept_small old g) (stays (word_of old)) part
      (λ i l. ap₂ (λ (b c : Bool). stays (word_of old) i && (b && c))
      (from-swept rows old base heap held none laid g young k inside eph i l) (stands i l)
      ∙ both (stays (word_of old) i)))
    where
      both : (b : Bool) → (b && true) ≡ b
      both true = refl
      both false = refl

      stands : (i : Item) → IsIn i part → is_in_small_heap (frame old) i.place ≡ true
      stands i l =
          place_kind old heap is_small_or_ephemeral k i.place inside
          (listed-stands rows old base heap held none laid g young k inside eph i
          (from-listed rows old base heap held none laid g young k inside eph i l))
          ∙ kind-small (segment_at old k).kind (young-kind rows old base heap held none laid g young k inside eph)

  pub kept-young : kept_reached old g (heap_items rows old) ≡ kept_size old (items_from rows old k (young_start old g))
  kept-young =
      let front = listings rows old 0 k in
      let back = listings rows old (k + 1) (length old.segments - (k + 1)) in
      let split = ap (kept_reached old g) (heap-cut rows old k (length old.segments) inside
      ∙ ap (λ (is : List Item). front ++ (is ++ back))
      (young-items rows old base heap held none laid g young k inside eph)) in
      let f : Item → ℕ = λ i. i.size in
      let t = is_kept_small old g in
      let one = sum-passing f t front ((below ++ part) ++ back) in
      let two = sum-passing f t (below ++ part) back in
      let three = sum-passing f t below part in
      let a = no-young front (front-old rows old base heap held none laid g young k inside eph) in
      let b = no-young below (below-old rows old base heap held none laid g young k inside eph) in
      let c = no-young back (back-old rows old base heap held none laid g young k inside eph) in
      let d = all-young in
      omega (arith, split, one, two, three, a, b, c, d)
