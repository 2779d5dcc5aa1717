-- What a full sweep makes of the items of each segment.
use Rattle.std.specs.Prelude.{◌≡◌, ℕ, ◌+◌, ◌-◌, ◌%◌, ◌<◌, ◌≤◌, ◌⊎◌, Bool, true, not, ◌&&◌, ◌||◌, ◌==◌, min, List, []}
use Rattle.std.specs.Prelude.{◌∷◌, ◌++◌, filter, count_by, sum_by, length, nat_eq, nat_lt, if◌then◌else◌}
use Rattle.clr_types.specs.Rising.{IsIn}
use Rattle.clr_types.specs.Segments.{ended_at, generation}
use Rattle.clr_types.specs.Types.{TypeRow}
use Rattle.clr_types.specs.declared.item.Item.{Item}
use Rattle.clr_heap.specs.Memories.{shapes}
use Rattle.clr_heap.specs.Parts.{free_item}
use Rattle.clr_heap.specs.View.{AreWalkable, first_of, frame, heap_items, HeapView, items_between, last_of, listing}
use Rattle.clr_heap.specs.View.{segment_at, sight, word_of}
use Rattle.clr_view.specs.Marks.{has_mark}
use Rattle.clr_view.specs.View.{AreFreeHeads, is_object, tail_of}
use Rattle.clr_view.specs.Memory.{word_without_mark}
use Rattle.clr_sweep.specs.declared.tally.Tally.{Tally}

-- an item stays where it is a marked object
abbrev pub stays : (ℕ → ℕ) → Item → Bool
stays word i = is_object i && has_mark (word i.place)

-- an item goes where it is an object without a mark
abbrev pub goes : (ℕ → ℕ) → Item → Bool
goes word i = is_object i && not (has_mark (word i.place))

-- whether a generation begins at p: a free item doesn't reach over such a place
abbrev pub is_cut : HeapView → ℕ → Bool
is_cut h p = nat_eq p h.start1 || nat_eq p h.start0

-- the free item from a to p, where there is room between them
abbrev pub gap : ℕ → ℕ → List Item
gap a p = if nat_lt a p then free_item a (p - a) ∷ [] else []

-- The items that a sweep leaves of those from p on. a is where the run starts that p ends, of what doesn't stay, and
-- `pending` are the free items since the last item that stays: they stand in the heap where another one stays behind
-- them.
abbrev pub swept_from : (Item → Bool) → (ℕ → Bool) → List Item → ℕ → ℕ → List Item → List Item
swept_from keep cut pending a p [] = []
swept_from keep cut pending a p (i ∷ is) =
    if keep i then pending ++ (gap a p ++ i ∷ swept_from keep cut [] (p + i.size) (p + i.size) is)
    else if cut (p + i.size) then swept_from keep cut (pending ++ gap a (p + i.size)) (p + i.size) (p + i.size) is
    else swept_from keep cut pending a (p + i.size) is

-- the items of segment k after a sweep
abbrev pub swept_items : List TypeRow → HeapView → ℕ → List Item
swept_items rows h k = swept_from (stays (word_of h)) (is_cut h) [] (first_of h k) (first_of h k) (listing rows h k)

-- where the last item that stays ends, and `end` where none does
abbrev pub last_end : (Item → Bool) → ℕ → List Item → ℕ
last_end keep end [] = end
last_end keep end (i ∷ is) = last_end keep (if keep i then i.place + i.size else end) is

-- where segment k ends after a sweep
abbrev pub swept_last : List TypeRow → HeapView → ℕ → ℕ
swept_last rows h k = last_end (stays (word_of h)) (first_of h k) (listing rows h k)

-- the items of segment k from a place on
abbrev pub items_from : List TypeRow → HeapView → ℕ → ℕ → List Item
items_from rows h k from = items_between (sight rows h k) from (last_of h k)

-- the items of segment k below a place
abbrev pub items_below : List TypeRow → HeapView → ℕ → ℕ → List Item
items_below rows h k from = items_between (sight rows h k) (first_of h k) from

-- what a sweep of the part of segment k that begins at a place leaves there
abbrev pub swept_part : List TypeRow → HeapView → ℕ → ℕ → List Item
swept_part rows h k from = swept_from (stays (word_of h)) (is_cut h) [] from from (items_from rows h k from)

-- where segment k ends after such a sweep
abbrev pub part_last : List TypeRow → HeapView → ℕ → ℕ → ℕ
part_last rows h k from = last_end (stays (word_of h)) from (items_from rows h k from)

-- The old heap, in which each segment was swept, and what was generation 0 begins where generation 1 ends.
pub record HasSweptItems (rows : List TypeRow) (old new : HeapView) : Type 0 where
  pub memories : shapes new.memories ≡ shapes old.memories
  pub count : length new.segments ≡ length old.segments
  pub segments : (k : ℕ) → k < length old.segments → segment_at new k ≡ ended_at (swept_last rows old k)
      (segment_at old k)
  pub start1 : new.start1 ≡ min old.start0 (tail_of new)
  pub start0 : new.start0 ≡ tail_of new
  pub others : new ≡ record old {
    memories = new.memories;
    segments = new.segments;
    start1 = new.start1;
    start0 = new.start0;
  }
  pub walkable : AreWalkable rows new
  pub items : (k : ℕ) → k < length old.segments → listing rows new k ≡ swept_items rows old k
  pub free_heads : AreFreeHeads rows new
  pub cells : (i : Item) (b : ℕ) → IsIn i (heap_items rows old) → stays (word_of old) i ≡ true → b % 8 ≡ 0
      → i.place ≤ b + 8 → b + 8 < i.place + i.size → word_of new b ≡ word_without_mark old i b
  pub outside : (b : ℕ) → b % 8 ≡ 0 → ((j : ℕ) → j < length old.segments → (b + 8 < first_of old j)
      ⊎ (last_of old j ≤ b + 8)) → word_of new b ≡ word_of old b

-- whether the item stays, and is of generation g
abbrev pub stays_of : HeapView → ℕ → Item → Bool
stays_of h g i = stays (word_of h) i && (generation (frame h) i.place == g)

-- how many objects among items stay and how many go, and the bytes of those of generations 0 and 1 that stay
abbrev pub tally_among : HeapView → List Item → Tally
tally_among h items = record {
  kept = count_by (stays (word_of h)) items;
  freed = count_by (goes (word_of h)) items;
  promoted1 = sum_by (λ i. i.size) (filter (stays_of h 0) items);
  promoted2 = sum_by (λ i. i.size) (filter (stays_of h 1) items);
}

-- where the part of the ephemeral segment begins that a sweep of generation 0 or 1 goes over
abbrev pub young_start : HeapView → ℕ → ℕ
young_start h g = if g == 0 then h.start0 else h.start1

-- the heap after a sweep of generation g, where what was generation 0 is 1 now, and what was 1 is 2
abbrev pub aged : HeapView → ℕ → HeapView
aged h g = record h { start1 = if g == 0 then h.start1 else min h.start0 (tail_of h); start0 = tail_of h }
