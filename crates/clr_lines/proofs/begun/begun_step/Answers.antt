-- What the thread has begun is its step.
use Rattle.std.proofs.Common.{◌≡◌, ◌∙◌, ap, sym}
use Rattle.clr_safe.specs.Threads.{step_by}
use Rattle.clr_sos.specs.Steps as steps
use Rattle.clr_lines.proofs.BegunSteps.{step-begun}
use Rattle.clr_lines.proofs.begun.begun_step.Goals as goal

pub returns-in-Store : goal.returns-in-Store
returns-in-Store c =
    let m = c.args.runtime.now.machine in
    ap (λ s. steps.step_of m.layout c.args.t s)
    (ap step_by (sym c.in-Store.is ∙ c.begun.ensures)
    ∙ step-begun m c.threads.result.now c.args.t c.threads.ensures.steps)

pub returns-in-Birth : goal.returns-in-Birth
returns-in-Birth c =
    let m = c.args.runtime.now.machine in
    rw c.front_of.ensures
    (ap (λ s. steps.step_of m.layout c.args.t s)
    (ap step_by (sym c.in-Birth.is ∙ c.begun.ensures)
    ∙ step-begun m c.threads.result.now c.args.t c.threads.ensures.steps))
