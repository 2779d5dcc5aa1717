-- Thread by thread.
use Rattle.std.proofs.Common.{◌<◌, ◌≤◌, ◌∙◌, ℕ, List, [], length, true, refl, sym}
use Rattle.std.proofs.Common.{subst, arith}
use Rattle.clr_generations.proofs.FoundItems.{in-at}
use Rattle.clr_sos.specs.LawfulStates.{IsLawfulStep}
use Rattle.clr_sos.specs.Steps.{with_earlier}
use Rattle.clr_sos.specs.declared.step.Step.{Step}
use Rattle.clr_sos.specs.declared.step.Step.TheVariants.{Idle}
use Rattle.clr_sos.proofs.EarlierSteps.{all_drop, as_many, none_left, thread_at}
use Rattle.clr_sos.proofs.verify.others.are_lawful_steps.Goals as goal

nobody : List ℕ × Step
nobody = ([], Idle)

pub loop-i-preserved : goal.loop-i-preserved
loop-i-preserved c =
    let view = c.args.state.now.view in
    let steps = c.args.state.now.steps.now in
    let less : c.loop-i.i < length (with_earlier [] c.args.state.now.steps.now) =
    let n = as_many [] c.args.state.now.steps.now in let l = c.loop-i-test.true in omega arith in
    λ rest. c.loop-i.invariant
    (all_drop (IsLawfulStep view.types.now view.large view.heap.now) (with_earlier [] steps) c.loop-i.i nobody less
    (subst (IsLawfulStep view.types.now view.large view.heap.now)
    (sym (thread_at steps c.loop-i.i nobody Idle c.loop-i-test.true))
    (c.is_lawful_step.ensures.0 c.if-not-is_lawful_step.false)) rest)

pub returns-then-not-is_lawful_step : goal.returns-then-not-is_lawful_step
returns-then-not-is_lawful_step c =
    let view = c.args.state.now.view in
    let steps = c.args.state.now.steps.now in
    let less : c.loop-i.i < length (with_earlier [] c.args.state.now.steps.now) =
    let n = as_many [] c.args.state.now.steps.now in let l = c.loop-i-test.true in omega arith in (
      λ e. absurd cc,
      λ all. sym c.if-not-is_lawful_step.true
          ∙ c.is_lawful_step.ensures.1
          (subst (IsLawfulStep view.types.now view.large view.heap.now)
          (thread_at steps c.loop-i.i nobody Idle c.loop-i-test.true)
          (all _ (in-at (with_earlier [] steps) c.loop-i.i nobody less))),
    )

pub returns : goal.returns
returns c =
    let view = c.args.state.now.view in
    let steps = c.args.state.now.steps.now in
    let most : length (with_earlier [] c.args.state.now.steps.now) ≤ c.loop-i.i =
    let n = as_many [] c.args.state.now.steps.now in let l = c.loop-i-test.false in omega arith in (
      λ e. c.loop-i.invariant
          (none_left (IsLawfulStep view.types.now view.large view.heap.now) (with_earlier [] steps) c.loop-i.i most),
      λ all. refl,
    )
