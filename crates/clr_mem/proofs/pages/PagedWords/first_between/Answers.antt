use Rattle.std.proofs.Common.{arith}
use Rattle.clr_mem.proofs.Between.{both_before}
use Rattle.clr_mem.proofs.pages.PagedWords.first_between.Goals as goal

pub loop-passed-init : goal.loop-passed-init
loop-passed-init c = (omega arith, λ j l. absurd (omega (arith, l)))

pub returns-then-met-count-clause-before : goal.returns-then-met-count-clause-before
returns-then-met-count-clause-before c = λ j l.
    both_before c.args.low c.args.high c.args.self.now c.args.i c.loop-passed.passed c.first_in_page-met.result
    c.loop-passed.invariant.1 c.first_in_page-met.ensures.before j (omega (arith, l))

pub loop-passed-preserved : goal.loop-passed-preserved
loop-passed-preserved c =
    let some = c.loop-passed-test.true in
    let count = c.min-count.ensures in
    let all = c.if-met-count.false in (
      omega (arith, some, count),
      both_before c.args.low c.args.high c.args.self.now c.args.i c.loop-passed.passed c.min-count.result
          c.loop-passed.invariant.1 (λ j l. c.first_in_page-met.ensures.before j (omega (arith, l, all))),
    )

pub returns-clause-before : goal.returns-clause-before
returns-clause-before c = λ j l.
    let past = c.loop-passed-test.false in
    c.loop-passed.invariant.1 j (omega (arith, l, past))
