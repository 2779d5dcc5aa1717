use Rattle.std.proofs.Common.{ℕ, List, [], drop}
use Rattle.clr_types.specs.Rising.{IsIn}
use Rattle.clr_sos.specs.LawfulStates.{IsLawfulStep}
use Rattle.clr_sos.specs.Steps.{with_earlier}
use Rattle.clr_sos.specs.declared.step.Step.{Step}
use Rattle.clr_sos.proofs.verify.others.are_lawful_steps.Given as goal

abbrev pub invariant-loop-i : goal.invariant-loop-i
invariant-loop-i l =
    ((e : List ℕ × Step) → IsIn e (drop l.i (with_earlier [] l.state.steps.now))
    → IsLawfulStep l.state.view.types.now l.state.view.large l.state.view.heap.now e)
    → (e : List ℕ × Step) → IsIn e (with_earlier [] l.state.steps.now)
    → IsLawfulStep l.state.view.types.now l.state.view.large l.state.view.heap.now e
