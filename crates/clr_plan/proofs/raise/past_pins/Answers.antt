use Rattle.std.proofs.Common.{◌≡◌, arith}
use Rattle.clr_types.specs.Ranges.{piece_end}
use Rattle.clr_plan.specs.Pins.{piece_of_pin}
use Rattle.clr_plan.proofs.Raising.{raise-more, raised-at-end, raised-before}
use Rattle.clr_plan.proofs.raise.past_pins.Goals as goal

pub loop-pin-preserved : goal.loop-pin-preserved
loop-pin-preserved c =
    let is = c.in-Some.ensures.some in
    let end : c.in-Some.pin.end ≡ piece_end (piece_of_pin c.in-Some.pin) = let l = is.some in omega (arith, l) in (
      is.within,
      λ w h can. raise-more w h c.args.queue.now.entries c.args.from c.loop-pin.at can
          (c.loop-pin.invariant.1 w h can) (piece_of_pin c.in-Some.pin) c.in-Some.pin.behind is.first c.if-pin-at.false
          c.in-Some.pin.end end,
    )

pub returns-then-pin-at : goal.returns-then-pin-at
returns-then-pin-at c = record {
  raised = λ w h can. raised-before w h c.args.queue.now.entries c.args.from c.loop-pin.at can
      (c.loop-pin.invariant.1 w h can) c.loop-pin.invariant.0 (piece_of_pin c.in-Some.pin) c.in-Some.pin.behind
      c.in-Some.ensures.some.first c.if-pin-at.true;
}

pub returns-in_default : goal.returns-in_default
returns-in_default c = record {
  raised = λ w h can. raised-at-end w h c.args.queue.now.entries c.args.from c.loop-pin.at can
      (c.loop-pin.invariant.1 w h can) c.loop-pin.invariant.0 c.in_default.ensures.none;
}
