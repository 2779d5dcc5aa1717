-- Each turn takes one digit more.
use Rattle.std.proofs.Common.{◌<◌, ◌∙◌, ◌++◌, ℕ, List, ap, arith, decimal}
use Rattle.clr_script.proofs.Places.{digit_more, number_near}
use Rattle.clr_script.proofs.quick.places.more_digits.Goals as goal

pub digit_at-digit-requires : goal.digit_at-digit-requires
digit_at-digit-requires c =
    let turn = c.loop-number in
    let bound = turn.invariant.bound in
    let room = c.requires.room in
    let near = number_near c.args.text.now c.args.front turn.number c.args.from turn.at (omega arith)
    (omega (arith, bound)) (omega (arith, room)) turn.invariant.within turn.invariant.read in
    omega (arith, near, room)

pub loop-number-preserved : goal.loop-number-preserved
loop-number-preserved c =
    let turn = c.loop-number in
    let digit = c.digit_at-digit.result in
    let high = c.if-digit-gt9.false in
    let some = turn.invariant.some in
    let bound = turn.invariant.bound in
    let small = c.loop-number-test.true in
    let low : digit < 10 = omega (arith, high) in
    let room = c.requires.room in
    let near = number_near c.args.text.now c.args.front turn.number c.args.from turn.at (omega arith)
    (omega (arith, bound)) (omega (arith, room)) turn.invariant.within turn.invariant.read in
    record {
      some = omega (arith, some);
      bound = omega (arith, small, low);
      read = turn.invariant.read ∙ (ap (λ (l : List ℕ). decimal turn.number ++ l) (c.digit_at-digit.ensures low)
          ∙ digit_more turn.number digit _ low (λ e. omega (arith, e, some)) small);
      within = omega (arith, near, room);
    }

pub returns-after-loop-number-clause-near : goal.returns-after-loop-number-clause-near
returns-after-loop-number-clause-near c =
    let turn = c.loop-number in
    let bound = turn.invariant.bound in
    let room = c.requires.room in
    number_near c.args.text.now c.args.front turn.number c.args.from turn.at (omega arith) (omega (arith, bound))
    (omega (arith, room)) turn.invariant.within turn.invariant.read

pub returns-then-digit-gt9-clause-near : goal.returns-then-digit-gt9-clause-near
returns-then-digit-gt9-clause-near c =
    let turn = c.loop-number in
    let bound = turn.invariant.bound in
    let room = c.requires.room in
    number_near c.args.text.now c.args.front turn.number c.args.from turn.at (omega arith) (omega (arith, bound))
    (omega (arith, room)) turn.invariant.within turn.invariant.read
