use Rattle.clr_plugs.specs.Cursors.{AreLeft}
use Rattle.clr_heap_tests.proofs.plugs.expect_walked.Given as goal

abbrev pub invariant-loop-want : goal.invariant-loop-want
invariant-loop-want g l = AreLeft l.heap l.bricks l.cursor.brick l.cursor.past
