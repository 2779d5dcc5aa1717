-- What a sweep of the large segments leaves.
use Rattle.std.specs.Prelude.{◌≡◌, ℕ, zero, suc, ◌+◌, ◌%◌, ◌<◌, ◌≤◌, Bool, true, false, not, ◌&&◌, ◌||◌, List, filter}
use Rattle.std.specs.Prelude.{map}
use Rattle.std.specs.Prelude.{if◌then◌else◌, length, ℤ}
use Rattle.std.specs.List.{list_any}
use Rattle.clr_types.specs.Rising.{IsIn}
use Rattle.clr_types.specs.Segments.{Layout, same_kind, stands_in}
use Rattle.clr_types.specs.Types.{TypeRow}
use Rattle.clr_types.specs.declared.item.Item.{Item}
use Rattle.clr_types.specs.declared.segment.SegInfo.{SegInfo}
use Rattle.clr_types.specs.declared.segment.SegKind.TheVariants.{Large}
use Rattle.clr_bricks.specs.Bricks.{entry_at}
use Rattle.clr_covers.specs.Covers.{CoverView, spans}
use Rattle.clr_generations.specs.Laws.{AreEntered, IsBrickOf}
use Rattle.clr_generations.specs.Renewing.{AreLeft, left_in}
use Rattle.clr_heap.specs.View.{first_of, frame, heap_items, HeapView, IsHeap, listing, segment_at, word_of}
use Rattle.clr_model.specs.Lookups.{object_piece}
use Rattle.clr_model.specs.Machine.{Object}
use Rattle.clr_model.specs.Sweep.{Survivor, survivor_pieces, swept_others}
use Rattle.clr_view.specs.Marks.{Marked}
use Rattle.clr_view.specs.Memory.{is_marked, word_without_mark}
use Rattle.clr_view.specs.View.{AreFreeHeads, is_object, IsHeld, layout_in, objects_in}
use Rattle.clr_types.specs.Segments.{is_large_or_pinned}
use Rattle.clr_sweep.specs.Passes.{no_tally, plus}
use Rattle.clr_sweep.specs.SweptItems.{tally_among}
use Rattle.clr_sweep.specs.declared.tally.Tally.{Tally}

-- whether a place stands in a large segment
abbrev pub is_large_place : HeapView → ℕ → Bool
is_large_place h place = list_any (λ s. is_large_or_pinned s.kind && stands_in s place) h.segments

-- what survives in a large segment are its marked objects
abbrev pub TellsLarge : List TypeRow → HeapView → List Survivor → Type 0
TellsLarge rows h survive =
    (s : SegInfo) → IsIn s h.segments → is_large_or_pinned s.kind ≡ true
    → survivor_pieces s survive
    ≡ map (object_piece rows) (filter (λ o. stands_in s o.place && is_marked h o) (objects_in rows h))

-- The old heap after a sweep of the large segments: of the objects there exactly the marked ones stay, unmarked, and
-- what the others leave is free. All else is as it was.
pub record HasSweptLarge (rows : List TypeRow) (old new : HeapView) : Type 0 where
  pub objects : objects_in rows new
      ≡ filter (λ o. not (is_large_place old o.place) || is_marked old o) (objects_in rows old)
  pub layout : (survive : List Survivor) → TellsLarge rows old survive
      → layout_in rows new ≡ swept_others (layout_in rows old) 2 survive
  pub cells : (i : Item) (b : ℕ) → IsIn i (heap_items rows new) → is_object i ≡ true → b % 8 ≡ 0 → i.place ≤ b + 8
      → b + 8 < i.place + i.size
      → word_of new b ≡ (if is_large_place old i.place then word_without_mark old i b else word_of old b)
  pub marks : (x : ℕ) → Marked rows new x → Marked rows old x × (is_large_place old x ≡ false)
  pub free_heads : AreFreeHeads rows old → AreFreeHeads rows new
  pub limit : new.limit ≡ old.limit
  pub rests : new.rests ≡ old.rests
  pub heap : IsHeap new
  pub held : IsHeld rows new

-- ---- one segment after the other

-- whether segment k is a large one
abbrev pub is_large : HeapView → ℕ → Bool
is_large h k = is_large_or_pinned (segment_at h k).kind

-- the bricks of the large segments obey their law
abbrev pub HaveLargeBricks : List TypeRow → HeapView → List (CoverView ℤ) → Type 0
HaveLargeBricks rows h bricks =
    (j : ℕ) → j < length h.segments → is_large h j ≡ true
    → AreEntered rows (frame h) (objects_in rows h) (entry_at bricks) (segment_at h j)

-- The bricks of the large segments are renewed before a sweep of these, and those of the others are as they were.
pub record AreLargeRenewed (rows : List TypeRow) (h : HeapView) (old new : List (CoverView ℤ)) : Type 0 where
  pub entered : (j : ℕ) (after : Layout) (keep : Object → Bool) → j < length h.segments → is_large h j ≡ true
      → AreLeft rows h j (first_of h j) after keep
      → AreEntered rows after (left_in rows h keep) (entry_at new) (segment_at h j)
  pub others : (j brick : ℕ) → j < length h.segments → is_large h j ≡ false → IsBrickOf (segment_at h j) brick
      → entry_at new brick ≡ entry_at old brick
  pub spans : spans new ≡ spans old

-- what is counted in those of the k lowest segments that are large
abbrev pub large_tally : List TypeRow → HeapView → ℕ → Tally
large_tally rows h zero = no_tally
large_tally rows h (suc k) = plus (large_tally rows h k)
    (if is_large h k then tally_among h (listing rows h k) else no_tally)
