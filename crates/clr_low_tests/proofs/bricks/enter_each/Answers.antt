use Rattle.std.proofs.Common.{sym, arith}
use Rattle.clr_covers.proofs.Spans.{HasAll-covered, HasAll-spans}
use Rattle.clr_low_tests.proofs.bricks.enter_each.Goals as goal

pub enter-requires : goal.enter-requires
enter-requires g c = HasAll-covered _ 65536 65600 _ c.loop-number.invariant (omega arith) (omega arith)

pub loop-number-preserved : goal.loop-number-preserved
loop-number-preserved g c = HasAll-spans _ _ 65536 65600 (sym c.enter.ensures) c.loop-number.invariant

pub expect_entry-requires : goal.expect_entry-requires
expect_entry-requires g c =
    HasAll-covered _ 65536 65600 _ (HasAll-spans _ _ 65536 65600 (sym c.enter.ensures) c.loop-number.invariant)
    (omega arith) (omega arith)
