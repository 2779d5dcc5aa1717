use Rattle.std.proofs.Common.{◌*◌, take, drop, ap, ◌∙◌, arith}
use Rattle.clr_mem.specs.Words.{spelled}
use Rattle.clr_mem.proofs.Between.{before-both, rest-next, word-of_eight}
use Rattle.clr_mem.proofs.bytes.passed_eights.Goals as goal

pub loop-eight-preserved : goal.loop-eight-preserved
loop-eight-preserved c =
    let xs = c.args.bytes.now in
    let n = c.loop-eight.passed in
    let eight = c.in-Some.eight.now in
    let cut = c.in-Some.ensures.cases in
    let left = cut.2 in
    record {
      rest = rest-next 64 xs c.loop-eight.rest.now c.in-Some.more.now n c.loop-eight.invariant.rest cut.1;
      sum = let sum = c.loop-eight.invariant.sum in omega (arith, left, sum);
      before = λ j l.
          before-both c.args.low c.args.high (λ i. spelled (drop (8 * i) xs)) (λ i. spelled (drop (8 * i) eight))
          (8 * n) 8 (λ i. word-of_eight xs eight n i (cut.0 ∙ ap (take 64) c.loop-eight.invariant.rest))
          c.loop-eight.invariant.before (c.is_any_between.ensures c.if-is_any_between.false) j (omega (arith, l));
    }
