use Rattle.std.proofs.Common.{◌∙◌, sym}
use Rattle.clr_plan.specs.Pins.{piece_of_pin}
use Rattle.clr_plan.specs.Waiting.{ranges_from}
use Rattle.clr_plan.proofs.Raising.{filter-at}
use Rattle.clr_plan.proofs.raise.passed_below.Goals as goal

pub returns-then-pin-place-clause-left : goal.returns-then-pin-place-clause-left
returns-then-pin-place-clause-left c =
    let is = c.in-Some.ensures.some in
    let (behind, rise, same) = c.loop-pin.invariant in
    sym (filter-at c.args.place (ranges_from c.loop-pin.i c.args.queue.now.entries)
    (ranges_from c.in-Some.pin.behind c.args.queue.now.entries) (piece_of_pin c.in-Some.pin) rise is.first
    c.if-pin-place.true) ∙ same
