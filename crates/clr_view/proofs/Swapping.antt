-- Heaps where a run of parts of one segment gives way to another.
use Rattle.std.proofs.Common.{◌≡◌, ◌≢◌, ◌⊎◌, inl, inr, ℕ, ◌+◌, ◌-◌, ◌%◌, ◌<◌, ◌≤◌, List, [], ◌∷◌, ◌++◌}
use Rattle.std.proofs.Common.{length, refl, ap, sym, ◌∙◌, subst, arith, filter}
use Rattle.std.specs.List.{AllByRecursion}
use Rattle.std.proofs.lemmas.Bool.{cases_eq}
use Rattle.std.proofs.lemmas.List.{append_assoc}
use Rattle.clr_types.specs.Rising.{IsIn}
use Rattle.clr_types.specs.Types.{TypeRow}
use Rattle.clr_types.specs.Ranges.{Piece}
use Rattle.clr_types.specs.Segments.{reserved_end}
use Rattle.clr_types.specs.declared.item.Item.{Item}
use Rattle.clr_types.proofs.ChangedLists.{all_imply, all_members, append_left, into_filter, map-agree, out_of_filter}
use Rattle.clr_types.proofs.ListMembers.{append_right, both_all, in_append}
use Rattle.clr_types.proofs.RisingLists.{all_at}
use Rattle.clr_heap.specs.Parts.{Among, item_part, items_in, Part, part_end, rest_part, start_of}
use Rattle.clr_heap.specs.View.{AreWalkable, first_of, heap_items, HeapView, IsHeap, IsWalkable, last_of, listing}
use Rattle.clr_heap.specs.View.{listings, parts_of, PartsAre, segment_at, word_of}
use Rattle.clr_heap.proofs.Framing.{lawful_at}
use Rattle.clr_heap.proofs.Staying.{segment_order}
use Rattle.clr_view.specs.View.{AreFreeHeads, free_among, free_in, HaveFreeHeads, IsHeld, is_object}
use Rattle.clr_view.specs.View.{KeepsObjects, object_in, objects_among}
use Rattle.clr_view.proofs.FreeHeads.{head_stays, listed_room}
use Rattle.clr_view.proofs.Items.{IsItem, object-stays}
use Rattle.clr_view.proofs.Listings.{free-append, heap-cut, items-append, listing-are, listings-agree, listings-all}

-- what each item among parts has, all their items have
pub items_all : (P : Item → Type 0) (ps : List Part) → ((i : Item) → Among ps (item_part i) → P i)
    → AllByRecursion P (items_in ps)
items_all P [] f = tt
items_all P (item_part i ∷ ps) f = (f i (inl refl), items_all P ps (λ j k. f j (inr k)))
items_all P (rest_part low high ∷ ps) f = items_all P ps (λ j k. f j (inr k))

-- ---- objects that stay

module _ (rows : List TypeRow) (h new : HeapView) (walkable : AreWalkable rows h) where
  abbrev Ranged : Item → Type 0
  Ranged i = (8 ≤ i.place) × IsItem rows i.place (i.place + i.size) i

  ranged : (j : ℕ) (i : Item) → IsItem rows (first_of h j) (last_of h j) i → Ranged i
  ranged j i is =
      let above = is.above in (
        omega arith,
        record {
          aligned = is.aligned;
          above = omega arith;
          below = omega arith;
          least = is.least;
          known = is.known;
          sized = is.sized;
          whole = is.whole;
        },
      )

  all_ranged : AllByRecursion Ranged (heap_items rows h)
  all_ranged =
      listings-all rows h walkable Ranged 0 (length h.segments) (λ j low high.
      all_imply (IsItem rows (first_of h j) (last_of h j)) Ranged (listing rows h j) (ranged j)
      (listing-are rows h walkable j (omega arith)))

  -- objects among items that were there are what they were, where the words of their cells are
  pub objects_same : (is : List Item) → ((i : Item) → IsIn i is → IsIn i (heap_items rows h)) → KeepsObjects rows h new
      → objects_among rows (word_of new) is ≡ objects_among rows (word_of h) is
  objects_same is there cells =
      map-agree (object_in rows (word_of new)) (object_in rows (word_of h)) (filter is_object is)
      (all_members (λ i. object_in rows (word_of new) i ≡ object_in rows (word_of h) i) (filter is_object is) (λ i j.
      let (object, among) = out_of_filter is_object i is j in
      let listed = there i among in
      let (up, is) = all_at Ranged listed all_ranged in
      object-stays rows (word_of h) (word_of new) i.place (i.place + i.size) i up
      (λ b z low high. cells i b listed object z low (omega arith)) is))

-- the items of lower segments end below a segment, and those of higher ones stand above it
module _ (rows : List TypeRow) (h : HeapView) (k : ℕ) (heap : IsHeap h) (walkable : AreWalkable rows h)
    (l : k < length h.segments) where
  pub items_lower : (a : ℕ) → (segment_at h k).base ≤ a
      → AllByRecursion (λ (i : Item). i.place + i.size ≤ a) (listings rows h 0 k)
  items_lower a from =
      listings-all rows h walkable (λ (i : Item). i.place + i.size ≤ a) 0 k (λ j up down.
      let order = segment_order h j k heap (omega arith) l in
      let end = (lawful_at h j heap (omega arith)).high in
      all_imply (IsItem rows (first_of h j) (last_of h j)) (λ (i : Item). i.place + i.size ≤ a) (listing rows h j)
      (λ i is. let below = is.below in omega arith) (listing-are rows h walkable j (omega arith)))

  pub items_higher : (c : ℕ) → c ≤ reserved_end (segment_at h k)
      → AllByRecursion (λ (i : Item). c ≤ i.place) (listings rows h (k + 1) (length h.segments - (k + 1)))
  items_higher c to =
      listings-all rows h walkable (λ (i : Item). c ≤ i.place) (k + 1) (length h.segments - (k + 1)) (λ j up down.
      let order = segment_order h k j heap (omega arith) (omega arith) in
      all_imply (IsItem rows (first_of h j) (last_of h j)) (λ (i : Item). c ≤ i.place) (listing rows h j)
      (λ i is. let above = is.above in omega arith) (listing-are rows h walkable j (omega arith)))

-- ---- a run of parts that gives way

-- Between two heaps the parts ms of segment k, from a on up to c, give way to the parts ns.
pub record Swaps (rows : List TypeRow) (h new : HeapView) (k a c : ℕ) (ms ns : List Part) : Type 0 where
  pub heap : IsHeap h
  pub new_heap : IsHeap new
  pub held : IsHeld rows h
  pub in_range : k < length h.segments
  pub count : length new.segments ≡ length h.segments
  pub below : List Part
  pub above : List Part
  pub old_parts : parts_of rows h k ≡ below ++ (ms ++ above)
  pub new_parts : PartsAre rows new k (below ++ (ns ++ above))
  pub low : (m : Part) → Among below m → part_end m ≤ a
  pub high : (m : Part) → Among above m → c ≤ start_of m
  pub others : (j : ℕ) → j < length h.segments → j ≢ k → PartsAre rows new j (parts_of rows h j)
  pub from : first_of h k ≤ a
  pub to : c ≤ reserved_end (segment_at h k)
  pub words : (b : ℕ) → b % 8 ≡ 0 → (b + 8 < a) ⊎ (c ≤ b + 8) → word_of new b ≡ word_of h b

module _ (rows : List TypeRow) (h new : HeapView) (k a c : ℕ) (ms ns : List Part)
    (f : Swaps rows h new k a c ms ns) where
  pub walkable_now : AreWalkable rows new
  walkable_now j l =
      let count = f.count in
      elim (cases_eq j k) [
        | inl same ↦ subst (IsWalkable rows new) (sym same) f.new_parts.walkable
        | inr other ↦ (f.others j (omega arith) other).walkable
      ]

  -- ---- the items before and after

  abbrev under : List Item
  under = listings rows h 0 k

  abbrev over : List Item
  over = listings rows h (k + 1) (length h.segments - (k + 1))

  abbrev pub front : List Item
  front = under ++ items_in f.below

  abbrev pub back : List Item
  back = items_in f.above ++ over

  regroup : (xs ys zs ws us : List Item) → xs ++ ((ys ++ (zs ++ ws)) ++ us) ≡ (xs ++ ys) ++ (zs ++ (ws ++ us))
  regroup xs ys zs ws us =
      ap (λ (vs : List Item). xs ++ vs)
      (append_assoc ys (zs ++ ws) us ∙ ap (λ (vs : List Item). ys ++ vs) (append_assoc zs ws us))
      ∙ sym (append_assoc xs ys (zs ++ (ws ++ us)))

  parts_items : (ps : List Part)
      → items_in (f.below ++ (ps ++ f.above)) ≡ items_in f.below ++ (items_in ps ++ items_in f.above)
  parts_items ps = items-append f.below (ps ++ f.above)
      ∙ ap (λ (is : List Item). items_in f.below ++ is) (items-append ps f.above)

  pub items_were : heap_items rows h ≡ front ++ (items_in ms ++ back)
  items_were =
      let here : listing rows h k ≡ items_in f.below ++ (items_in ms ++ items_in f.above) =
      ap items_in f.old_parts ∙ parts_items ms in
      heap-cut rows h k (length h.segments) f.in_range ∙ ap (λ (is : List Item). under ++ (is ++ over)) here
      ∙ regroup under (items_in f.below) (items_in ms) (items_in f.above) over

  pub items_are : heap_items rows new ≡ front ++ (items_in ns ++ back)
  items_are =
      let l = f.in_range in
      let here : listing rows new k ≡ items_in f.below ++ (items_in ns ++ items_in f.above) =
      ap items_in f.new_parts.parts ∙ parts_items ns in
      let low : listings rows new 0 k ≡ under =
      listings-agree rows rows h new 0 k
      (λ j up down. ap items_in (f.others j (omega arith) (λ same. omega arith)).parts) in
      let high : listings rows new (k + 1) (length h.segments - (k + 1)) ≡ over =
      listings-agree rows rows h new (k + 1) (length h.segments - (k + 1))
      (λ j up down. ap items_in (f.others j (omega arith) (λ same. omega arith)).parts) in
      ap (listings rows new 0) f.count ∙ heap-cut rows new k (length h.segments) l ∙ (λ i. low i ++ (here i ++ high i))
      ∙ regroup under (items_in f.below) (items_in ns) (items_in f.above) over

  -- those around what changes were there
  pub front_listed : (i : Item) → IsIn i front → IsIn i (heap_items rows h)
  front_listed i there = subst (IsIn i) (sym items_were) (append_left (items_in ms ++ back) there)

  pub back_listed : (i : Item) → IsIn i back → IsIn i (heap_items rows h)
  back_listed i there = subst (IsIn i) (sym items_were) (append_right front (append_right (items_in ms) there))

  -- ---- where they stand

  pub front_low : AllByRecursion (λ (i : Item). i.place + i.size ≤ a) front
  front_low =
      let from = f.from in
      both_all (λ (i : Item). i.place + i.size ≤ a) under (items_in f.below)
      (items_lower rows h k f.heap f.held.walkable f.in_range a (omega arith))
      (items_all (λ (i : Item). i.place + i.size ≤ a) f.below (λ i m. f.low (item_part i) m))

  pub back_high : AllByRecursion (λ (i : Item). c ≤ i.place) back
  back_high =
      both_all (λ (i : Item). c ≤ i.place) (items_in f.above) over
      (items_all (λ (i : Item). c ≤ i.place) f.above (λ i m. f.high (item_part i) m))
      (items_higher rows h k f.heap f.held.walkable f.in_range c f.to)

  -- ---- the objects

  -- where none stood in what gives way, the words of all objects stay
  pub cells_now : filter is_object (items_in ms) ≡ [] → KeepsObjects rows h new
  cells_now none_was i b listed object z low high = elim (in_append front (subst (IsIn i) items_were listed)) [
    | inl there ↦
        let end : i.place + i.size ≤ a = all_at (λ (i : Item). i.place + i.size ≤ a) there front_low in
        f.words b z (inl (omega arith))
    | inr there ↦ elim (in_append (items_in ms) there) [
      | inl here ↦
          let among = subst (IsIn i) none_was (into_filter is_object (items_in ms) object here) in
          absurd (elim among [ ])
      | inr past ↦
          let start : c ≤ i.place = all_at (λ (i : Item). c ≤ i.place) past back_high in
          f.words b z (inr (omega arith))
    ]
  ]

  -- ---- the heads of free items

  -- those of the parts that are new are fresh, and all others stay
  pub heads_now : HaveFreeHeads (word_of new) (items_in ns) → AreFreeHeads rows h → AreFreeHeads rows new
  heads_now fresh heads i listed free = elim (in_append front (subst (IsIn i) items_are listed)) [
    | inl there ↦
        let was = front_listed i there in
        let room = listed_room rows h f.heap f.held i was in
        let end : i.place + i.size ≤ a = all_at (λ (i : Item). i.place + i.size ≤ a) there front_low in
        head_stays (word_of h) (word_of new) i.place
        (f.words (i.place - 8) (omega (arith, room)) (inl (omega (arith, room, end))))
        (f.words i.place room.0 (inl (omega (arith, room, end)))) (heads i was free)
    | inr there ↦ elim (in_append (items_in ns) there) [
      | inl here ↦ fresh i here free
      | inr past ↦
          let was = back_listed i past in
          let room = listed_room rows h f.heap f.held i was in
          let start : c ≤ i.place = all_at (λ (i : Item). c ≤ i.place) past back_high in
          head_stays (word_of h) (word_of new) i.place (f.words (i.place - 8) (omega (arith, room)) (inr (omega arith)))
          (f.words i.place room.0 (inr (omega arith))) (heads i was free)
    ]
  ]

  -- ---- the free items

  free_around : (is : List Item)
      → free_among (front ++ (is ++ back)) ≡ free_among front ++ (free_among is ++ free_among back)
  free_around is = free-append front (is ++ back)
      ∙ ap (λ (ps : List Piece). free_among front ++ ps) (free-append is back)

  pub free_was : free_in rows h ≡ free_among front ++ (free_among (items_in ms) ++ free_among back)
  free_was = ap free_among items_were ∙ free_around (items_in ms)

  pub free_is : free_in rows new ≡ free_among front ++ (free_among (items_in ns) ++ free_among back)
  free_is = ap free_among items_are ∙ free_around (items_in ns)
