use Rattle.std.proofs.Common.{inl, inr, arith, refl}
use Rattle.std.proofs.lemmas.Bool.{both_ways, cases_lt}
use Rattle.clr_bgmark.proofs.AllFound.{none_named, passed_targets}
use Rattle.clr_bgmark.proofs.background.Background.are_targets_found.Goals as goal

pub loop-h-init : goal.loop-h-init
loop-h-init c = record { found = λ k row low e. absurd (omega (arith, low)); most = omega arith }

pub overflow_add-from : goal.overflow_add-from
overflow_add-from c =
    let most = c.in-Some.ensures.below c.in-Some.h c.in-Some.handle c.in-Some.ensures.found.in_use in
    omega (arith, most)

pub loop-h-preserved : goal.loop-h-preserved
loop-h-preserved c =
    let next = c.in-Some.ensures.found in
    let most = c.in-Some.ensures.below c.in-Some.h c.in-Some.handle next.in_use in
    record {
      found = passed_targets c.args.handles.now c.args.self.now.shades c.loop-h.from c.in-Some.h c.in-Some.handle
          c.loop-h.invariant.found next.none_before next.in_use (c.has_found.ensures.0 c.if-not-has_found.false);
      most = omega (arith, most);
    }

pub returns : goal.returns
returns c = (
  (λ sure k row e.
      let low = c.in_default.ensures.below k row e in
      elim (cases_lt k c.loop-h.from) [
        | inl before ↦ c.loop-h.invariant.found k row before e
        | inr behind ↦ absurd (none_named c.args.handles.now c.loop-h.from 65536 c.in_default.ensures.none k row behind
            low e)
      ]),
  (λ all. refl),
)

pub returns-then-not-has_found : goal.returns-then-not-has_found
returns-then-not-has_found c = (
  (λ sure. absurd cc),
  (λ all.
      absurd (both_ways c.has_found.result c.if-not-has_found.true
      (c.has_found.ensures.1 (all c.in-Some.h c.in-Some.handle c.in-Some.ensures.found.in_use)))),
)
