-- What threads have begun: their types, and the fronts that they have.
use Rattle.std.specs.Prelude.{ℕ, ◌≤◌, List, length}
use Rattle.clr_types.specs.Types.{TypeRow}
pub use Rattle.clr_sos.specs.Steps.{fronts_among, IsNewStep}
use Rattle.clr_sos.specs.declared.step.Step.{Step}
use Rattle.clr_sos.specs.declared.step.Step.TheVariants.{Idle, Store, Begun}

-- an object that is begun is of a type of the table
abbrev pub IsKnownStep : List TypeRow → Step → Type 0
IsKnownStep rows Idle = Unit {0}
IsKnownStep rows (Store object slot) = Unit {0}
IsKnownStep rows (Begun t len local front) = t.0 ≤ length rows
