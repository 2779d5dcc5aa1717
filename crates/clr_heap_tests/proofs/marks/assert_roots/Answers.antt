use Rattle.std.proofs.Common.{arith}
use Rattle.clr_mark.proofs.FoundObjects.{roots_from}
use Rattle.clr_heap_tests.proofs.marks.assert_roots.Goals as goal

pub loop-root-init : goal.loop-root-init
loop-root-init g c = λ j l. absurd (omega arith)

pub returns : goal.returns
returns g c = roots_from c.args.types.now c.args.heap.now c.args.roots.now c.loop-root.root-index c.loop-root-test.false
    c.loop-root.invariant
