-- Entries of bricks as a scan takes them: as places where a walk may begin.
use Rattle.std.specs.Prelude.{◌≡◌, ℕ, ◌+◌, ◌*◌, ◌/◌, ◌<◌, ◌≤◌, List, length, ℤ}
use Rattle.clr_types.specs.Segments.{reserved_end}
use Rattle.clr_types.specs.Types.{TypeRow}
use Rattle.clr_covers.specs.Covers.{CoverView, HasAll}
use Rattle.clr_bricks.specs.Bricks.{root_entry}
use Rattle.clr_heap.specs.View.{HeapView, segment_at}
use Rattle.clr_view.specs.SlotValues.{StandsAt}
use Rattle.clr_generations.specs.Laws.{IsBrickOf}

-- each segment has bricks for all that it reserves
abbrev pub HaveBricks : HeapView → List (CoverView ℤ) → Type 0
HaveBricks h bricks =
    (k : ℕ) → k < length h.segments
    → HasAll bricks ((segment_at h k).base / 4096) (reserved_end (segment_at h k) / 4096)

-- what entries of a segment's bricks name are objects
abbrev pub EntriesStand : List TypeRow → HeapView → (ℕ → ℤ) → Type 0
EntriesStand rows h entry =
    (k brick offset : ℕ) → k < length h.segments → IsBrickOf (segment_at h k) brick → entry brick ≡ root_entry offset
    → StandsAt rows h (4096 * brick + offset)

-- the place that an entry names, in a brick from `low` up to `from`
pub record IsEntryPlace (entry : ℕ → ℤ) (low from place : ℕ) : Type 0 where
  pub brick : ℕ
  pub offset : ℕ
  pub above : low ≤ brick
  pub below : brick ≤ from
  pub root : entry brick ≡ root_entry offset
  pub at : place ≡ 4096 * brick + offset
