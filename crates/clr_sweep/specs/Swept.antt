-- What a sweep leaves: of the objects that it goes over exactly the marked ones, where they are, and the layout that
-- the machine's sweep leaves.
use Rattle.std.specs.Prelude.{◌≡◌, ℕ, ◌+◌, ◌%◌, ◌<◌, ◌≤◌, Bool, true, not, ◌&&◌, ◌⊎◌, ◌==◌, List, length, filter}
use Rattle.std.specs.Prelude.{count_by, sum_by, if◌then◌else◌}
use Rattle.clr_types.specs.Rising.{IsIn}
use Rattle.clr_types.specs.Segments.{generation, Layout}
use Rattle.clr_types.specs.Types.{TypeRow}
use Rattle.clr_types.specs.declared.item.Item.{Item}
use Rattle.clr_types.specs.declared.segment.SegKind.TheVariants.{Large}
use Rattle.clr_heap.specs.View.{frame, heap_items, HeapView, IsHeap, last_of, segment_at, word_of}
use Rattle.clr_model.specs.Lookups.{object_size}
use Rattle.clr_model.specs.Machine.{Machine, Object}
use Rattle.clr_model.specs.Sweep.{has_condemned_part, part_start, Survivor, survivors, swept_others, swept_small}
use Rattle.clr_view.specs.Marks.{Marked}
use Rattle.clr_view.specs.Memory.{is_left, is_marked, is_reached_by, IsMemoryOf, TestsMarks, word_without_mark}
use Rattle.clr_view.specs.View.{AreFreeHeads, is_object, IsHeld, layout_in, objects_in}
use Rattle.clr_sweep.specs.declared.tally.Tally.{Tally}

-- the layout that a sweep leaves, where these objects stay: one of all generations goes over the large segments too
abbrev pub swept_layout : Layout → ℕ → List Survivor → Layout
swept_layout layout g survive = if g == 2 then swept_others (swept_small layout 2 survive) 2 survive
    else swept_small layout g survive

-- the word at b of an item's cell afterwards: without the mark, where a sweep of generation g goes over the object
abbrev pub word_left : HeapView → ℕ → Item → ℕ → ℕ
word_left h g i b = if is_reached_by h g i.place then word_without_mark h i b else word_of h b

-- every word of the cells of the objects that stay is as before, but for the marks of those that the sweep went over
abbrev pub KeepsCells : List TypeRow → HeapView → HeapView → ℕ → Type 0
KeepsCells rows old new g =
    (i : Item) (b : ℕ) → IsIn i (heap_items rows new) → is_object i ≡ true → b % 8 ≡ 0 → i.place ≤ b + 8
    → b + 8 < i.place + i.size → word_of new b ≡ word_left old g i b

-- the word at b belongs to no cell of a part that a sweep of generation g goes over
abbrev pub IsOutside : HeapView → ℕ → ℕ → Type 0
IsOutside h g b =
    (k : ℕ) → k < length h.segments → has_condemned_part g (segment_at h k) ≡ true
    → (b + 8 < part_start (frame h) g (segment_at h k)) ⊎ (last_of h k ≤ b + 8)

-- The old heap after a sweep of generation g. Of the objects that it goes over exactly the marked ones stay, unmarked,
-- and what the others leave is free. All else is as it was.
pub record HasSwept (rows : List TypeRow) (old new : HeapView) (g : ℕ) : Type 0 where
  pub objects : objects_in rows new ≡ filter (is_left old g) (objects_in rows old)
  pub layout : (m : Machine) (kept : ℕ → Bool) → IsMemoryOf rows old m → TestsMarks rows old g kept
      → layout_in rows new ≡ swept_layout m.layout g (survivors m g kept)
  pub cells : KeepsCells rows old new g
  pub outside : (b : ℕ) → b % 8 ≡ 0 → IsOutside old g b → word_of new b ≡ word_of old b
  pub unmarked : (x : ℕ) → Marked rows new x → g < generation (frame old) x
  pub free_heads : (g ≡ 2) ⊎ AreFreeHeads rows old → AreFreeHeads rows new
  pub limit : new.limit ≡ old.limit
  pub heap : IsHeap new
  pub held : IsHeld rows new

-- whether a sweep of generation g goes over the object and finds it marked
abbrev pub is_kept : HeapView → ℕ → Object → Bool
is_kept h g o = is_reached_by h g o.place && is_marked h o

-- and whether the object is of generation e
abbrev pub is_kept_of : HeapView → ℕ → ℕ → Object → Bool
is_kept_of h g e o = is_kept h g o && (generation (frame h) o.place == e)

-- of the objects that a sweep of generation g goes over, how many are marked and how many aren't, and the bytes of the
-- marked ones of generations 0 and 1
abbrev pub tally_of : List TypeRow → HeapView → ℕ → Tally
tally_of rows h g = record {
  kept = count_by (is_kept h g) (objects_in rows h);
  freed = count_by (λ o. is_reached_by h g o.place && not (is_marked h o)) (objects_in rows h);
  promoted1 = sum_by (object_size rows) (filter (is_kept_of h g 0) (objects_in rows h));
  promoted2 = sum_by (object_size rows) (filter (is_kept_of h g 1) (objects_in rows h));
}
