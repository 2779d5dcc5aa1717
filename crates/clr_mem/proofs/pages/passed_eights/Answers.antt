use Rattle.std.proofs.Common.{◌*◌, get_or, ◌∙◌, arith}
use Rattle.clr_mem.proofs.Between.{before-both, number-behind, number-front, rest-next}
use Rattle.clr_mem.proofs.pages.passed_eights.Goals as goal

pub loop-eight-preserved : goal.loop-eight-preserved
loop-eight-preserved c =
    let xs = c.args.words.now in
    let rest = c.loop-eight.rest.now in
    let n = c.loop-eight.passed in
    let eight = c.in-Some.eight.now in
    let cut = c.in-Some.ensures.cases in
    let left = cut.2 in
    record {
      rest = rest-next 8 xs rest c.in-Some.more.now n c.loop-eight.invariant.rest cut.1;
      sum = let sum = c.loop-eight.invariant.sum in omega (arith, left, sum);
      before = λ j l.
          before-both c.args.low c.args.high (λ i. get_or xs i 0) (λ i. get_or eight i 0) (8 * n) 8
          (λ i within.
          number-front rest eight i cut.0 within ∙ number-behind xs rest (8 * n) i c.loop-eight.invariant.rest)
          c.loop-eight.invariant.before (c.is_any_between.ensures c.if-is_any_between.false) j (omega (arith, l));
    }
