-- What stands of the image is gone on from.
use Rattle.std.proofs.Common.{ap, ◌∙◌, sym, subst}
use Rattle.clr_model.specs.Machine.{Options}
use Rattle.clr_runtime.specs.Standings.{CanGoOn, standing_machine}
use Rattle.clr_open.specs.Fit.{budgets_of}
use Rattle.clr_open.proofs.opening.go_on.Goals as goal

pub over-requires : goal.over-requires
over-requires c =
    let (bytes, p, read, fit) = c.requires.fit in
    let stands = c.in-Ok.ensures bytes p (budgets_of c.args.budgets) read fit c.requires.lawful in
    subst (λ (o : Options). CanGoOn c.in-Ok.standing o) (sym (c.options_of-options.ensures p read.shows)) stands.goes_on

pub returns-clause-opened : goal.returns-clause-opened
returns-clause-opened c = λ bytes p read fit.
    let stands = c.in-Ok.ensures bytes p (budgets_of c.args.budgets) read fit c.requires.lawful in
    c.in-Ok-over.ensures.opens
    ∙ ap (λ (o : Options). standing_machine c.in-Ok.standing o) (c.options_of-options.ensures p read.shows)
    ∙ stands.machine
