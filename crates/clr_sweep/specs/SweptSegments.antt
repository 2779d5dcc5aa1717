-- What the sweep of one segment leaves.
use Rattle.std.specs.Prelude.{◌≡◌, ℕ, ◌+◌, ◌%◌, ◌<◌, ◌≤◌, ◌⊎◌, Bool, true, false, length, set, List, ◌++◌}
use Rattle.clr_types.specs.Rising.{IsIn}
use Rattle.clr_types.specs.Segments.{ended_at, ephemeral}
use Rattle.clr_types.specs.Types.{TypeRow}
use Rattle.clr_types.specs.declared.item.Item.{Item}
use Rattle.clr_heap.specs.Memories.{shapes}
use Rattle.clr_heap.specs.View.{CanWalk, first_of, frame, HeapView, IsWalkable, last_of, listing, segment_at, sight}
use Rattle.clr_heap.specs.View.{word_of}
use Rattle.clr_view.specs.View.{HaveFreeHeads}
use Rattle.clr_view.specs.Memory.{word_without_mark}
use Rattle.clr_sweep.specs.SweptItems.{aged, items_below, items_from, part_last, stays, swept_items, swept_last}
use Rattle.clr_sweep.specs.SweptItems.{swept_part, tally_among, young_start}
use Rattle.clr_sweep.specs.declared.tally.Tally.{Tally}

-- the words of an item's cell are as before, but for the mark
abbrev pub HasCell : HeapView → HeapView → Item → Type 0
HasCell old new i = (b : ℕ) → b % 8 ≡ 0 → i.place ≤ b + 8 → b + 8 < i.place + i.size
    → word_of new b ≡ word_without_mark old i b

-- The part of segment k from this place on can be swept: words spell the items below it and those in it, and no item
-- reaches over it.
pub record IsParted (rows : List TypeRow) (h : HeapView) (k from : ℕ) : Type 0 where
  pub below : CanWalk (sight rows h k) h.memories (first_of h k) from
  pub above : CanWalk (sight rows h k) h.memories from (last_of h k)

-- The old heap, in which the part of segment k from this place on was swept.
pub record HasSweptSegment (rows : List TypeRow) (old new : HeapView) (k from : ℕ) : Type 0 where
  pub memories : shapes new.memories ≡ shapes old.memories
  pub others : new ≡ record old {
    memories = new.memories;
    segments = set old.segments k (ended_at (part_last rows old k from) (segment_at old k));
  }
  pub walkable : IsWalkable rows new k
  pub items : listing rows new k ≡ items_below rows old k from ++ swept_part rows old k from
  pub cells : (i : Item) → IsIn i (items_from rows old k from) → stays (word_of old) i ≡ true → HasCell old new i
  pub free_heads : HaveFreeHeads (word_of new) (swept_part rows old k from)
  pub outside : (b : ℕ) → b % 8 ≡ 0 → (b + 8 < from) ⊎ (last_of old k ≤ b + 8) → word_of new b ≡ word_of old b

-- The old heap, in which the young part of the ephemeral segment was swept, and its counts.
pub record HasSweptYoung (rows : List TypeRow) (old new : HeapView) (g : ℕ) (tally : Tally) : Type 0 where
  pub k : ℕ
  pub in_range : k < length old.segments
  pub young : segment_at old k ≡ ephemeral (frame old)
  pub between : HeapView
  pub swept : HasSweptSegment rows old between k (young_start old g)
  pub ages : new ≡ aged between g
  pub counts : tally ≡ tally_among old (items_from rows old k (young_start old g))

-- ---- segments that are swept whole

-- segment j of the old heap was swept
pub record IsSwept (rows : List TypeRow) (old now : HeapView) (j : ℕ) : Type 0 where
  pub segment : segment_at now j ≡ ended_at (swept_last rows old j) (segment_at old j)
  pub walkable : IsWalkable rows now j
  pub items : listing rows now j ≡ swept_items rows old j
  pub cells : (i : Item) → IsIn i (listing rows old j) → stays (word_of old) i ≡ true → HasCell old now i
  pub free_heads : HaveFreeHeads (word_of now) (listing rows now j)

-- segment j is as it was
pub record IsAhead (old now : HeapView) (j : ℕ) : Type 0 where
  pub segment : segment_at now j ≡ segment_at old j
  pub words : (b : ℕ) → b % 8 ≡ 0 → first_of old j ≤ b + 8 → b + 8 < last_of old j → word_of now b ≡ word_of old b

-- The old heap, in which the segments whose numbers pass the test were swept. The others are as they were.
pub record AreSwept (rows : List TypeRow) (old now : HeapView) (swept : ℕ → Bool) : Type 0 where
  pub memories : shapes now.memories ≡ shapes old.memories
  pub others : now ≡ record old { memories = now.memories; segments = now.segments }
  pub count : length now.segments ≡ length old.segments
  pub done : (j : ℕ) → j < length old.segments → swept j ≡ true → IsSwept rows old now j
  pub ahead : (j : ℕ) → j < length old.segments → swept j ≡ false → IsAhead old now j
