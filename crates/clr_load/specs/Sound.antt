-- What holds of a loaded image.
use Rattle.std.specs.Prelude.{◌≡◌, ℕ, List, [], true}
use Rattle.clr_types.specs.Rising.{IsIn}
use Rattle.clr_heap.specs.View.{IsHeap}
use Rattle.clr_sos.specs.declared.step.Step.{Step}
use Rattle.clr_view.specs.Flags.{is_final_at}
use Rattle.clr_view.specs.SlotValues.{StandsAt}
use Rattle.clr_view.specs.View.{IsHeld}
use Rattle.clr_view.specs.World.{HandlesStand, IsNullOrStands}
use Rattle.clr_sos.specs.CleanStates.{HasNoContexts}
use Rattle.clr_sos.specs.Faultless.{IsFaultless}
use Rattle.clr_sos.specs.Faults.{AreInside}
pub use Rattle.clr_sos.specs.Steps.{StepStands}
use Rattle.clr_sos.specs.Steps.{with_earlier}
use Rattle.clr_load.specs.declared.image.Image.{Image}

-- an object of the image stands at the place, and its type has a finaliser
pub record IsFinal (image : Image) (place : ℕ) : Type 0 where
  pub stands : StandsAt image.types image.heap place
  pub final : is_final_at image.types image.heap place ≡ true

-- The heap is lawful, objects and free items fill it, no thread has a context in it, and nothing is wrong with it and
-- the locals: `verifyheap` answers Ok. All that names objects from outside of the heap names objects that are there.
pub record IsSound (image : Image) : Type 0 where
  pub heap : IsHeap image.heap
  pub held : IsHeld image.types image.heap
  pub alone : HasNoContexts image.heap
  pub inside : AreInside image.heap
  pub faultless : IsFaultless image.types image.large image.heap image.locals.items
  pub locals : (x : ℕ) → IsIn x image.locals.items → IsNullOrStands image.types image.heap x
  pub steps : (e : List ℕ × Step) → IsIn e (with_earlier [] image.steps.items) → StepStands image.types image.heap e
  pub handles : HandlesStand image.types image.heap image.handles
  pub entries : (x : ℕ) → IsIn x image.finals.entries → IsFinal image x
  pub ready : (x : ℕ) → IsIn x image.finals.ready → IsFinal image x
