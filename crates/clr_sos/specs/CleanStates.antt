-- What a runtime shows between lines, and that nothing is wrong with it; and heaps without contexts.
use Rattle.std.specs.Prelude.{◌≡◌, ℕ, List, None, get_or}
use Rattle.clr_types.specs.Types.{TypeRow}
use Rattle.clr_heap.specs.View.{HeapView, IsHeap}
use Rattle.clr_model.specs.Lawful.{IsPlaceNamed}
use Rattle.clr_model.specs.Machine.{Machine}
use Rattle.clr_view.specs.Clean.{AreClean}
use Rattle.clr_view.specs.Marks.{IsUnmarked}
use Rattle.clr_view.specs.View.{AreFreeHeads, IsHeld}
use Rattle.clr_view.specs.World.{HandlesStand}
use Rattle.clr_sos.specs.declared.state.State.{State}
use Rattle.clr_sos.specs.declared.view.View.{View}
use Rattle.clr_sos.specs.Faultless.{IsFaultless}
use Rattle.clr_sos.specs.Faults.{AreInside}
use Rattle.clr_sos.specs.LawfulStates.{IsLawfulState}
use Rattle.clr_sos.specs.Steps.{steps_of}
use Rattle.clr_sos.specs.Views.{AllStand, IsShownView, IsViewOf}

-- What is seen is a lawful machine, named by places. No object is marked, and headers and padding are clean.
pub record IsCleanState (v : View) (m : Machine) : Type 0 where
  pub held : IsHeld v.types.now v.heap.now
  pub unmarked : IsUnmarked v.types.now v.heap.now
  pub free_heads : AreFreeHeads v.types.now v.heap.now
  pub clean : AreClean v.types.now v.heap.now
  pub seen : IsViewOf v m
  pub sound : IsPlaceNamed m
  pub large : v.large ≡ m.options.large

-- what threads have begun, and who holds them, is this machine's; a begun object is to stand at the front of the
-- thread's context
pub record HasSteps (s : State) (m : Machine) : Type 0 where
  pub steps : steps_of m.layout 1 m.steps ≡ s.steps.now
  pub holder : m.holder ≡ s.holder

-- a clean state with the steps of its machine meets the condition of `verifyheap`, and has no fault
abbrev pub CleanStateLaw : Type 0
CleanStateLaw =
    (s : State) (m : Machine) → IsHeap s.view.heap.now → IsCleanState s.view m → HasSteps s m
    → AreInside s.view.heap.now × IsLawfulState s

-- no thread has a context
abbrev pub HasNoContexts : HeapView → Type 0
HasNoContexts h = (i : ℕ) → get_or h.rests i None ≡ None

-- a heap without contexts meets the condition of `verifyheap`, and where it has no fault its words hold a machine's
-- objects
pub record FaultlessLaw (rows : List TypeRow) (large : ℕ) (h : HeapView) (locals : List ℕ) : Type 0 where
  pub inside : HasNoContexts h → AreInside h
  pub held : IsHeap h → HasNoContexts h → IsFaultless rows large h locals → IsHeld rows h

-- what the handles and the finalisation queue of a view name stands in its heap
pub record HaveNamed (v : View) : Type 0 where
  pub handles : HandlesStand v.types.now v.heap.now v.handles.now
  pub entries : AllStand v.types.now v.heap.now v.finals.now.entries
  pub ready : AllStand v.types.now v.heap.now v.finals.now.ready

-- a view of a heap without contexts that has no fault names objects alone, where its handles and its queue do
abbrev pub ShownLaw : Type 0
ShownLaw =
    (v : View) → IsHeap v.heap.now → HasNoContexts v.heap.now
    → IsFaultless v.types.now v.large v.heap.now v.locals.now → HaveNamed v → IsShownView v
