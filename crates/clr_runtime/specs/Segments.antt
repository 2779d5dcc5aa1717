-- A new segment beside the small heap: what it leaves of what is seen.
use Rattle.std.specs.Prelude.{◌≡◌, ℕ, Bool, true, false, Result, Ok, Err}
use Rattle.clr_types.specs.declared.segment.SegKind.{SegKind}
use Rattle.clr_heap.specs.declared.heap.segments.AcquireFault.{AcquireFault}
use Rattle.clr_heap.specs.declared.heap.segments.AcquireFault.TheVariants.{NoMemory, OverLimit}
use Rattle.clr_model.specs.Allocation.{allows, segment_for, with_layout, with_segment}
use Rattle.clr_model.specs.Machine.{Machine}

-- whether the limit allows one more segment for an object of this size
abbrev pub allows_for : Machine → ℕ → Bool
allows_for m size = allows m (segment_for m size)

-- an empty segment of the kind more for such an object
abbrev pub with_segment_for : SegKind → Machine → ℕ → Machine
with_segment_for kind m size = with_layout m (with_segment m.layout kind (segment_for m size))

-- A new segment of the kind; or the limit allows none, or there is no memory for it, and what is seen is as it was.
abbrev pub IsAcquired : SegKind → Machine → Machine → ℕ → Result (Unit {0}) AcquireFault → Type 0
IsAcquired kind old new size (Ok done) = (allows_for old size ≡ true) × (new ≡ with_segment_for kind old size)
IsAcquired kind old new size (Err OverLimit) = (allows_for old size ≡ false) × (new ≡ old)
IsAcquired kind old new size (Err NoMemory) = (allows_for old size ≡ true) × (new ≡ old)
