-- What has to hold of a state so that nothing in it is wrong.
use Rattle.std.specs.Prelude.{◌≡◌, ℕ, ◌<◌, List, [], Some, true, Option, None, IfSome}
use Rattle.std.specs.FinMap as finmap
use Rattle.clr_types.specs.Rising.{IsIn}
use Rattle.clr_types.specs.Types.{TypeRow}
use Rattle.clr_types.specs.declared.handle.Handle.{Handle}
use Rattle.clr_heap.specs.View.{heap_items, HeapView}
use Rattle.clr_model.specs.Lookups.{is_thread}
use Rattle.clr_view.specs.World.{HandlesStand}
use Rattle.clr_sos.specs.Faultless.{IsFaultless}
use Rattle.clr_sos.specs.Steps.{IsNewStep, is_final_object, object_at, StepStands, with_earlier}
use Rattle.clr_sos.specs.declared.state.State.{State}
use Rattle.clr_sos.specs.declared.step.Step.{Step}

-- at each of the places an object stands whose type has a finalizer
abbrev pub AreFinal : List TypeRow → HeapView → List ℕ → Type 0
AreFinal rows h places =
    (place : ℕ) → IsIn place places → is_final_object rows (object_at (heap_items rows h) place) ≡ true

-- what a thread has begun is lawful, beside the fronts of those before it
abbrev pub IsLawfulStep : List TypeRow → ℕ → HeapView → List ℕ × Step → Type 0
IsLawfulStep rows large h e = IsNewStep rows large e.1 × StepStands rows h e

-- Nothing is wrong with handles, queues and what threads have begun. The target of each handle and its second are null
-- or an object, and only a dependent handle whose target is an object has a second. Each entry of the finalization
-- queue and each f-reachable address is that of an object whose type has a finalizer. What threads have begun is
-- lawful, and the holder of a suspension is one of the 16 threads.
pub record AreLawfulTables (s : State) : Type 0 where
  pub numbers : (k : ℕ) (row : Handle) → finmap.get s.view.handles.now k ≡ Some row → k < 65536
  pub handles : HandlesStand s.view.types.now s.view.heap.now s.view.handles.now
  pub entries : AreFinal s.view.types.now s.view.heap.now s.view.finals.now.entries
  pub ready : AreFinal s.view.types.now s.view.heap.now s.view.finals.now.ready
  pub steps : (e : List ℕ × Step) → IsIn e (with_earlier [] s.steps.now)
      → IsLawfulStep s.view.types.now s.view.large s.view.heap.now e
  pub holder : IfSome s.holder (λ t. is_thread t ≡ true)

-- nor with heap and locals
abbrev pub IsLawfulState : State → Type 0
IsLawfulState s =
    IsFaultless s.view.types.now s.view.large s.view.heap.now s.view.locals.now × AreLawfulTables s

-- the address of a fault, 0 where none is told
abbrev pub fault_or_zero : Option ℕ → ℕ
fault_or_zero None = 0
fault_or_zero (Some a) = a
