use Rattle.std.proofs.Common.{sym, arith}
use Rattle.clr_covers.proofs.Spans.{HasAll-covered, HasAll-spans}
use Rattle.clr_low_tests.proofs.cards.put_each.Goals as goal

pub put-requires : goal.put-requires
put-requires g c = HasAll-covered _ 131072 131200 _ c.loop-a.invariant (omega arith) (omega arith)

pub loop-a-preserved : goal.loop-a-preserved
loop-a-preserved g c = HasAll-spans _ _ 131072 131200 (sym c.put.ensures) c.loop-a.invariant

pub expect_card-requires : goal.expect_card-requires
expect_card-requires g c =
    HasAll-covered _ 131072 131200 _ (HasAll-spans _ _ 131072 131200 (sym c.put.ensures) c.loop-a.invariant)
    (omega arith) (omega arith)
