use Rattle.std.proofs.Common.{ℕ, ◌+◌, sym, ◌∙◌, subst}
use Rattle.clr_evacuate.specs.Fittings.{ArePassed}
use Rattle.clr_evacuate.proofs.PassedItems.{can_look, none_passed, one_passed, told-same}
use Rattle.clr_evacuate.proofs.fittings.past_alike.Goals as goal

pub loop-place-init : goal.loop-place-init
loop-place-init c = none_passed c.args.types.now c.args.heap.now c.args.k c.args.from c.args.end c.args.may
    c.requires.scan

pub look-seen-requires : goal.look-seen-requires
look-seen-requires c = can_look c.args.types.now c.args.heap.now c.args.k c.args.from c.args.end c.args.may
    c.loop-place.place c.loop-place.invariant c.loop-place-test.true

pub loop-place-preserved : goal.loop-place-preserved
loop-place-preserved c =
    let rows = c.args.types.now in
    let h = c.args.heap.now in
    subst (λ (n : ℕ). ArePassed rows h c.args.k c.args.from c.args.end c.args.may (c.loop-place.place + n))
    (sym c.look-seen.ensures.size)
    (one_passed rows h c.args.k c.args.from c.args.end c.args.may c.loop-place.place c.loop-place.invariant
    c.loop-place-test.true (sym c.look-seen.ensures.may_fit
    ∙ told-same c.look-seen.result.may_fit c.args.may c.if-seen-may.false))
