-- A place for a pinned object: what each step of the ladder leaves of what is seen.
use Rattle.std.specs.Prelude.{◌≡◌, ◌⊎◌, ℕ, true, false, Result, Ok, Err}
use Rattle.clr_types.specs.declared.segment.SegKind.TheVariants.{Pinned}
use Rattle.clr_heap.specs.declared.heap.segments.AcquireFault.{AcquireFault}
use Rattle.clr_heap.specs.declared.heap.segments.AcquireFault.TheVariants.{NoMemory, OverLimit}
use Rattle.clr_model.specs.Allocation.{has_room_in}
use Rattle.clr_model.specs.Machine.{Machine}
use Rattle.clr_runtime.specs.Segments.{allows_for, with_segment_for}

-- A place that is there, or a new pinned segment; or there is no place and the limit allows no segment, or no memory
-- for it, and what is seen is as it was.
abbrev pub IsPinnedRoom : Machine → Machine → ℕ → Result (Unit {0}) AcquireFault → Type 0
IsPinnedRoom old new size (Ok done) =
    ((has_room_in Pinned old.layout size ≡ true) × (new ≡ old))
    ⊎ ((has_room_in Pinned old.layout size ≡ false) × (allows_for old size ≡ true)
    × (new ≡ with_segment_for Pinned old size))
IsPinnedRoom old new size (Err OverLimit) =
    (has_room_in Pinned old.layout size ≡ false) × (allows_for old size ≡ false) × (new ≡ old)
IsPinnedRoom old new size (Err NoMemory) =
    (has_room_in Pinned old.layout size ≡ false) × (allows_for old size ≡ true) × (new ≡ old)
