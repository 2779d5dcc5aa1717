-- An item of a segment gives way to other parts, by words alone, where no thread has a context: what the heap holds.
use Rattle.std.proofs.Common.{◌≡◌, ◌≢◌, ◌⊎◌, inl, inr, ℕ, ◌+◌, ◌-◌, ◌%◌, ◌<◌, ◌≤◌, true, List, [], ◌∷◌, ◌++◌, length}
use Rattle.std.proofs.Common.{ap, sym, ◌∙◌, subst, arith, filter}
use Rattle.clr_types.specs.Rising.{IsIn}
use Rattle.clr_types.specs.Types.{TypeRow}
use Rattle.clr_types.specs.Ranges.{Piece}
use Rattle.clr_types.specs.declared.item.Item.{Item}
use Rattle.clr_types.proofs.ChangedLists.{append_left, into_filter, IsIn-map, out_of_filter}
use Rattle.clr_types.proofs.ListMembers.{append_right, from-map, in_append}
use Rattle.clr_types.proofs.RisingLists.{all_at, in_cons}
use Rattle.clr_heap.specs.Memories.{InOne}
use Rattle.clr_heap.specs.Parts.{Among, hole_from, item_part, items_in, Part, Spells}
use Rattle.clr_heap.specs.View.{first_of, HasHead, heap_items, HeapView, holes_of, IsHeap, last_of, listing, no_rests}
use Rattle.clr_heap.specs.View.{parts_of, SameShape, sight, word_of}
use Rattle.clr_heap.proofs.Addresses.{in_one_segment}
use Rattle.clr_heap.proofs.Framing.{lawful_at}
use Rattle.clr_heap.proofs.Placing.{head_from_walk}
use Rattle.clr_heap.proofs.Spelling.{Among-bounds}
use Rattle.clr_heap.proofs.Staying.{parts_stay, stays_written}
use Rattle.clr_heap.proofs.Swaps.{cut_at, CutAt, run_swapped}
use Rattle.clr_model.specs.Machine.{Object}
use Rattle.clr_view.specs.View.{free_among, free_in, IsHeld, is_object, object_in, objects_among, objects_in, tail_of}
use Rattle.clr_view.proofs.Born.{heap-rested}
use Rattle.clr_view.proofs.Items.{IsItem, object-stays}
use Rattle.clr_view.proofs.Listed.{listed-above, listed-in, listed-item, listed-spelled, part-among}
use Rattle.clr_view.proofs.Listings.{listing-are}
use Rattle.clr_view.proofs.Swapping.{back, back_high, back_listed, free_is, free_was, front, front_listed, front_low}
use Rattle.clr_view.proofs.Swapping.{items_are, items_were, Swaps, walkable_now}
use Rattle.clr_sweep.proofs.ObjectsSwept.{held_without}

-- ---- where an item stands

module _ (rows : List TypeRow) (h : HeapView) (x : Item) (heap : IsHeap h) (held : IsHeld rows h)
    (listed : IsIn x (heap_items rows h)) where
  abbrev home : (k : ℕ) × (k < 0 + length h.segments) × IsIn x (listing rows h k)
  home = listed-in rows h x 0 (length h.segments) listed

  abbrev pub home_of : ℕ
  home_of = home.0

  pub home_there : home_of < length h.segments
  home_there = let l = home.1 in omega arith

  pub home_item : IsItem rows (first_of h home_of) (last_of h home_of) x
  home_item = all_at (IsItem rows (first_of h home_of) (last_of h home_of)) home.2
      (listing-are rows h held.walkable home_of home_there)

  pub home_part : Among (parts_of rows h home_of) (item_part x)
  home_part = part-among (parts_of rows h home_of) x home.2

  pub whole_size : x.size % 8 ≡ 0
  whole_size =
      let same = ap (λ (i : Item). i.size) (listed-spelled rows h x heap held listed).0 in
      let whole = (listed-spelled rows h x heap held listed).1.whole in
      omega (arith, same, whole)

  pub most_size : x.size ≤ 1073741824
  most_size =
      let same = ap (λ (i : Item). i.size) (listed-spelled rows h x heap held listed).0 in
      let most = (listed-spelled rows h x heap held listed).1.most in
      omega (arith, same, most)

  -- the words of its cell can be moved, all of them or the first ones
  pub cells_in : (n : ℕ) → n % 8 ≡ 0 → 0 < n → n ≤ x.size → InOne h.memories (x.place - 8) n
  cells_in n whole some within =
      let is = home_item in
      let above = is.above in
      let below = is.below in
      let aligned = is.aligned in
      let end = (lawful_at h home_of heap home_there).high in
      in_one_segment h home_of (x.place - 8) heap home_there (omega arith) n (omega arith) whole some (omega arith)

  -- and a head can be written where there is room for it
  pub head_in : (a : ℕ) → x.place ≤ a → a % 8 ≡ 0 → a + 24 ≤ x.place + x.size → HasHead h a
  head_in a low z high =
      let is = home_item in
      let above = is.above in
      let below = is.below in
      head_from_walk (sight rows h home_of) h (first_of h home_of) (last_of h home_of) a
      (held.walkable home_of home_there) (omega arith) z (omega arith) (omega arith)

-- ---- what gives way

pub record Replaces (rows : List TypeRow) (h new : HeapView) (x : Item) (ns : List Part) : Type 0 where
  pub heap : IsHeap h
  pub held : IsHeld rows h
  pub none : h.rests ≡ no_rests
  pub listed : IsIn x (heap_items rows h)
  pub shape : SameShape h new
  pub spelled : (k : ℕ) → Spells (sight rows new k) x.place ns (x.place + x.size)
  pub words : (b : ℕ) → b % 8 ≡ 0 → (b + 8 < x.place) ⊎ (x.place + x.size ≤ b + 8) → word_of new b ≡ word_of h b

module _ (rows : List TypeRow) (h new : HeapView) (x : Item) (ns : List Part) (r : Replaces rows h new x ns) where
  open r use {heap, held, listed, shape, words}

  abbrev low : ℕ
  low = x.place

  abbrev high : ℕ
  high = x.place + x.size

  abbrev k : ℕ
  k = home_of rows h x heap held listed

  l : k < length h.segments
  l = home_there rows h x heap held listed

  is : IsItem rows (first_of h k) (last_of h k) x
  is = home_item rows h x heap held listed

  pub replaced_heap : IsHeap new
  replaced_heap = heap-rested h new new.rests heap shape (ap (λ (g : HeapView). length g.rests) shape.others)

  pub replaced_rests : new.rests ≡ no_rests
  replaced_rests = ap (λ (g : HeapView). g.rests) shape.others ∙ r.none

  abbrev around : CutAt (sight rows h k) (parts_of rows h k) (item_part x) (first_of h k) (last_of h k)
  around = cut_at (sight rows h k) (parts_of rows h k) (item_part x) (first_of h k) (last_of h k)
      (held.walkable k l).spelled (home_part rows h x heap held listed)

  whole : high % 8 ≡ 0
  whole = let z = is.aligned in let size = whole_size rows h x heap held listed in omega (arith, z, size)

  abbrev old_parts : List Part
  old_parts = item_part x ∷ []

  pub replaced_swaps : Swaps rows h new k low high old_parts ns
  replaced_swaps =
      let up = is.above in
      let down = is.below in
      let end = (lawful_at h k heap l).high in
      record {
        heap = heap;
        new_heap = replaced_heap;
        held = held;
        in_range = l;
        count = ap (λ (g : HeapView). length g.segments) shape.others;
        below = around.below;
        above = around.above;
        old_parts = around.is;
        new_parts = run_swapped rows h new k low high around.below around.above ns (held.walkable k l) around.low
            around.high whole
            (record {
              shapes = shape.memories;
              segments = ap (λ (g : HeapView). g.segments) shape.others;
              words = words;
              holes = λ q out. ap (λ (g : HeapView). hole_from (holes_of g k) q) shape.others;
            }) (r.spelled k);
        low = λ y j. (Among-bounds (sight rows h k) around.below y (first_of h k) low around.low j).1;
        high = λ y j. (Among-bounds (sight rows h k) around.above y high (last_of h k) around.high j).0;
        others = λ j lj ne.
            parts_stay rows h new j j (held.walkable j lj)
            (stays_written h new j k heap lj l ne shape.memories shape.others
            (λ b z out. words b z (elim out [ inl under ↦ inl (omega arith) | inr over ↦ inr (omega arith) ])));
        from = up;
        to = omega arith;
        words = words;
      }

  -- THE HEAP still holds its objects
  pub replaced_held : IsHeld rows new
  replaced_held =
      held_without rows new (walkable_now rows h new k low high old_parts ns replaced_swaps) replaced_rests
      (subst (λ (g : HeapView). g.start0 ≤ tail_of g) (sym shape.others) held.young)

  -- ---- items

  -- an item stands apart from what gave way
  abbrev pub IsApart : Item → Type 0
  IsApart i = (i.place + i.size ≤ low) ⊎ (high ≤ i.place)

  abbrev fronts : List Item
  fronts = front rows h new k low high old_parts ns replaced_swaps

  abbrev backs : List Item
  backs = back rows h new k low high old_parts ns replaced_swaps

  front_apart : (i : Item) → IsIn i fronts → IsApart i
  front_apart i there = inl (all_at (λ (j : Item). j.place + j.size ≤ low) there
      (front_low rows h new k low high old_parts ns replaced_swaps))

  back_apart : (i : Item) → IsIn i backs → IsApart i
  back_apart i there = inr (all_at (λ (j : Item). high ≤ j.place) there
      (back_high rows h new k low high old_parts ns replaced_swaps))

  -- each item is new, or was there
  pub item_now : (i : Item) → IsIn i (heap_items rows new)
      → IsIn i (items_in ns) ⊎ (IsIn i (heap_items rows h) × IsApart i)
  item_now i there =
      elim (in_append fronts (subst (IsIn i) (items_are rows h new k low high old_parts ns replaced_swaps) there)) [
        | inl under ↦
            inr (front_listed rows h new k low high old_parts ns replaced_swaps i under, front_apart i under)
        | inr more ↦ elim (in_append (items_in ns) more) [
          | inl here ↦ inl here
          | inr over ↦
              inr (back_listed rows h new k low high old_parts ns replaced_swaps i over, back_apart i over)
        ]
      ]

  -- each item that was there is what gave way, or still there
  pub item_stays : (i : Item) → IsIn i (heap_items rows h) → (i ≡ x) ⊎ (IsIn i (heap_items rows new) × IsApart i)
  item_stays i there =
      let back_in : IsIn i (fronts ++ (items_in ns ++ backs)) → IsIn i (heap_items rows new) =
      λ j. subst (IsIn i) (sym (items_are rows h new k low high old_parts ns replaced_swaps)) j in
      elim (in_append fronts (subst (IsIn i) (items_were rows h new k low high old_parts ns replaced_swaps) there)) [
        | inl under ↦ inr (back_in (append_left (items_in ns ++ backs) under), front_apart i under)
        | inr more ↦ elim (in_cons more) [
          | inl here ↦ inl here
          | inr over ↦ inr (back_in (append_right fronts (append_right (items_in ns) over)), back_apart i over)
        ]
      ]

  pub item_born : (i : Item) → IsIn i (items_in ns) → IsIn i (heap_items rows new)
  item_born i there = subst (IsIn i) (sym (items_are rows h new k low high old_parts ns replaced_swaps))
      (append_right fronts (append_left backs there))

  -- the words of the others stay
  pub cell_stays : (i : Item) → IsApart i → (b : ℕ) → b % 8 ≡ 0 → i.place ≤ b + 8 → b + 8 < i.place + i.size
      → word_of new b ≡ word_of h b
  cell_stays i apart b z lo hi =
      words b z (elim apart [ inl under ↦ inl (omega arith) | inr over ↦ inr (omega arith) ])

  pub object_same : (i : Item) → IsIn i (heap_items rows h) → IsApart i
      → object_in rows (word_of new) i ≡ object_in rows (word_of h) i
  object_same i there apart =
      object-stays rows (word_of h) (word_of new) i.place (i.place + i.size) i (listed-above rows h i heap held there)
      (λ b z lo hi. cell_stays i apart b z lo (omega arith)) (listed-item rows h i heap held there)

  -- ---- objects

  abbrev pub IsPlacedApart : ℕ → Type 0
  IsPlacedApart p = (p < low) ⊎ (high ≤ p)

  placed_apart : (i : Item) → IsIn i (heap_items rows h) → IsApart i → IsPlacedApart i.place
  placed_apart i there apart =
      let least = (listed-item rows h i heap held there).least in
      elim apart [ inl under ↦ inl (omega (arith, least)) | inr over ↦ inr over ]

  pub object_now : (o : Object) → IsIn o (objects_in rows new)
      → IsIn o (objects_among rows (word_of new) (items_in ns)) ⊎ (IsIn o (objects_in rows h) × IsPlacedApart o.place)
  object_now o there =
      let (i, same, among) =
      from-map (object_in rows (word_of new)) o (filter is_object (heap_items rows new)) there in
      let (object, listed_now) = out_of_filter is_object i (heap_items rows new) among in
      elim (item_now i listed_now) [
        | inl here ↦ inl (subst (λ (p : Object). IsIn p (objects_among rows (word_of new) (items_in ns))) (sym same)
            (IsIn-map (object_in rows (word_of new)) (into_filter is_object (items_in ns) object here)))
        | inr (was, apart) ↦
            let is_same : o ≡ object_in rows (word_of h) i = same ∙ object_same i was apart in
            inr (
              subst (λ (p : Object). IsIn p (objects_in rows h)) (sym is_same)
                  (IsIn-map (object_in rows (word_of h)) (into_filter is_object (heap_items rows h) object was)),
              subst (λ (p : Object). IsPlacedApart p.place) (sym is_same) (placed_apart i was apart),
            )
      ]

  pub object_stays : (o : Object) → IsIn o (objects_in rows h) → o.place ≢ low
      → IsIn o (objects_in rows new) × IsPlacedApart o.place
  object_stays o there ne =
      let (i, same, among) = from-map (object_in rows (word_of h)) o (filter is_object (heap_items rows h)) there in
      let (object, was) = out_of_filter is_object i (heap_items rows h) among in
      elim (item_stays i was) [
        | inl here ↦ absurd (ne (ap (λ (p : Object). p.place) same ∙ ap (λ (j : Item). j.place) here))
        | inr (now, apart) ↦
            let is_same : o ≡ object_in rows (word_of new) i = same ∙ sym (object_same i was apart) in (
              subst (λ (p : Object). IsIn p (objects_in rows new)) (sym is_same)
                  (IsIn-map (object_in rows (word_of new)) (into_filter is_object (heap_items rows new) object now)),
              subst (λ (p : Object). IsPlacedApart p.place) (sym is_same) (placed_apart i was apart),
            )
      ]

  pub object_born : (i : Item) → IsIn i (items_in ns) → is_object i ≡ true
      → IsIn (object_in rows (word_of new) i) (objects_in rows new)
  object_born i here object = IsIn-map (object_in rows (word_of new))
      (into_filter is_object (heap_items rows new) object (item_born i here))

  -- ---- free items

  abbrev pub free_below : List Piece
  free_below = free_among fronts

  abbrev pub free_above : List Piece
  free_above = free_among backs

  pub free_before : free_in rows h ≡ free_below ++ (free_among (x ∷ []) ++ free_above)
  free_before = free_was rows h new k low high old_parts ns replaced_swaps

  pub free_after : free_in rows new ≡ free_below ++ (free_among (items_in ns) ++ free_above)
  free_after = free_is rows h new k low high old_parts ns replaced_swaps
