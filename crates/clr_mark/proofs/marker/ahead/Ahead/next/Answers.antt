use Rattle.std.proofs.Common.{◌+◌, arith, sym, subst}
use Rattle.clr_mark.specs.declared.marker.ahead.Ahead.{Ahead}
use Rattle.clr_mark.specs.declared.marker.ahead.Ahead.TheVariants.{From}
use Rattle.clr_mark.specs.HandlePasses.{AllArePassed, HasTaken}
use Rattle.clr_mark.proofs.HandleSteps.{none_from, taken_from}
use Rattle.clr_mark.proofs.marker.ahead.Ahead.next.Goals as goal

pub returns-in_err-found-in-From-clause-none : goal.returns-in_err-found-in-From-clause-none
returns-in_err-found-in-From-clause-none c =
    rw c.from_residual.ensures (subst (AllArePassed c.args.handles.now c.args.low) (sym c.in-From.is)
    (none_from c.args.handles.now c.args.low c.in-From.number c.in_err-found-in-From.ensures.below
    c.in_err-found-in-From.ensures.none))

pub overflow_add-self : goal.overflow_add-self
overflow_add-self c =
    let next = c.in_ok-found-in-From.ensures.found in
    let most = c.in_ok-found-in-From.ensures.below c.in_ok-found-in-From.found c.in_ok-found-in-From.handle
    next.in_use in
    omega (arith, most)

pub returns-in_ok-found-in-From-clause-taken : goal.returns-in_ok-found-in-From-clause-taken
returns-in_ok-found-in-From-clause-taken c =
    let k = c.in_ok-found-in-From.found in
    let row = c.in_ok-found-in-From.handle in
    subst (λ (old : Ahead). HasTaken c.args.handles.now c.args.low old (From (k + 1)) row) (sym c.in-From.is)
    (taken_from c.args.handles.now c.args.low c.in-From.number c.in_ok-found-in-From.ensures.below k row
    c.in_ok-found-in-From.ensures.found)
