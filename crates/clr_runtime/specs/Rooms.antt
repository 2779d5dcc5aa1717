-- Room for a new object: what each step of the ladder leaves of a runtime's parts.
use Rattle.std.specs.Prelude.{◌≡◌, ◌+◌, ◌&&◌, ℕ, Bool, true, false, nat_le, Result, Ok, Err}
use Rattle.clr_heap.specs.declared.heap.segments.AcquireFault.{AcquireFault}
use Rattle.clr_heap.specs.declared.heap.segments.AcquireFault.TheVariants.{NoMemory, OverLimit}
use Rattle.clr_model.specs.Allocation.{allows, Attempt, has_room, IsRefilled, out_of_memory, out_of_room, own_fits}
use Rattle.clr_model.specs.Allocation.{roomed, sealed, waits, with_layout}
use Rattle.clr_model.specs.Machine.{Machine}
use Rattle.clr_runtime.specs.RuntimeView.{seen}
use Rattle.clr_runtime.specs.declared.rooms.NoRoom.{NoRoom}
use Rattle.clr_runtime.specs.declared.rooms.NoRoom.TheVariants.{Acquire, Wait}
use Rattle.clr_runtime.specs.declared.parts.Parts.{Parts}

-- The old machine with a new context for the thread, in which the size fits.
pub record HasNewContext (old new : Machine) (t size : ℕ) : Type 0 where
  pub refilled : IsRefilled old.layout t size new.layout
  pub same : new ≡ with_layout old new.layout
  pub fits : own_fits new.layout t size ≡ true

-- A new context, or there is no room for one, and nothing has changed.
abbrev pub IsRefill : Parts → Parts → ℕ → ℕ → Bool → Type 0
IsRefill old new t size true = HasNewContext (seen old) (seen new) t size
IsRefill old new t size false = (has_room (seen old).layout size ≡ false) × (new ≡ old)

-- so many bytes more are within the budget of generation 0
abbrev pub is_within_budget : Machine → ℕ → Bool
is_within_budget m size = nat_le (m.sums.spent0 + size) m.options.b0

-- A new context within the budget, or there is none, and nothing has changed.
abbrev pub IsRefillInBudget : Parts → Parts → ℕ → ℕ → Bool → Type 0
IsRefillInBudget old new t size true =
    (is_within_budget (seen old) size ≡ true) × HasNewContext (seen old) (seen new) t size
IsRefillInBudget old new t size false =
    ((is_within_budget (seen old) size && has_room (seen old).layout size) ≡ false) × (new ≡ old)

-- ---- a new segment

-- whether the limit allows one more segment of the size that the options say
abbrev pub allows_segment : Machine → Bool
allows_segment m = allows m m.options.segment

-- the ephemeral segment is sealed, and an empty one of that size has taken its place
abbrev pub with_new_segment : Machine → Machine
with_new_segment m = with_layout m (sealed m.layout m.options.segment)

-- A new ephemeral segment; or the limit allows none, or there is no memory for it, and what is seen is as it was.
abbrev pub IsSealing : Machine → Machine → Result (Unit {0}) AcquireFault → Type 0
IsSealing old new (Ok done) = (allows_segment old ≡ true) × (new ≡ with_new_segment old)
IsSealing old new (Err OverLimit) = (allows_segment old ≡ false) × (new ≡ old)
IsSealing old new (Err NoMemory) = (allows_segment old ≡ true) × (new ≡ old)

-- The same, and the thread has a new context in the new segment.
abbrev pub IsSealedRefill : Machine → Machine → ℕ → ℕ → Result (Unit {0}) AcquireFault → Type 0
IsSealedRefill old new t size (Ok done) =
    (allows_segment old ≡ true) × HasNewContext (with_new_segment old) new t size
IsSealedRefill old new t size (Err OverLimit) = (allows_segment old ≡ false) × (new ≡ old)
IsSealedRefill old new t size (Err NoMemory) = (allows_segment old ≡ true) × (new ≡ old)

-- ---- the ladder

-- what the ladder comes to
abbrev pub attempt_of : Result (Unit {0}) NoRoom → Attempt
attempt_of (Ok done) = roomed
attempt_of (Err (Wait k)) = waits k
attempt_of (Err (Acquire OverLimit)) = out_of_room
attempt_of (Err (Acquire NoMemory)) = out_of_memory
