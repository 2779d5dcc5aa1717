-- Handle by handle.
use Rattle.std.proofs.Common.{refl, sym, ◌∙◌, arith}
use Rattle.clr_model.specs.Lawful.{HasItsSecond}
use Rattle.clr_sos.proofs.HandlePasses.{good_all, good_none, good_on}
use Rattle.clr_sos.proofs.verify.others.are_owned.Goals as goal

pub loop-number-init : goal.loop-number-init
loop-number-init c = record { good = good_none c.args.handles.now HasItsSecond; within = omega arith }

pub loop-number-preserved : goal.loop-number-preserved
loop-number-preserved c =
    let next = c.in-Some.ensures.found in
    let below = c.in-Some.ensures.below c.in-Some.number c.in-Some.handle next.in_use in
    record {
      good =
          good_on c.args.handles.now HasItsSecond c.loop-number.from c.in-Some.number c.in-Some.handle
          c.loop-number.invariant.good next (c.is_owned.ensures.0 c.if-not-is_owned.false);
      within = omega (arith, below);
    }

pub returns-then-not-is_owned : goal.returns-then-not-is_owned
returns-then-not-is_owned c = (
  λ e. absurd cc,
  λ all. sym c.if-not-is_owned.true
      ∙ c.is_owned.ensures.1 (all c.in-Some.number c.in-Some.handle c.in-Some.ensures.found.in_use),
)

pub returns : goal.returns
returns c = (
  λ e. good_all c.args.handles.now HasItsSecond c.loop-number.from c.loop-number.invariant.good
      c.in_default.ensures.none c.in_default.ensures.below,
  λ all. refl,
)
