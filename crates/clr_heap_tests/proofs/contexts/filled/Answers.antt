use Rattle.std.proofs.Common.{◌*◌, ◌-◌, ap, arith}
use Rattle.clr_types.specs.Ranges.{Piece}
use Rattle.clr_heap_tests.proofs.FrontItems.{put-front}
use Rattle.clr_heap_tests.proofs.contexts.filled.Goals as goal

pub loop-left-preserved : goal.loop-left-preserved
loop-left-preserved c =
    let inv = c.loop-left.invariant in
    let some = c.loop-left-test.true in
    let here = ap (λ (p : Piece). p.place) c.between.ensures in
    let both = put-front c.between.result c.loop-left.items.items c.insert_item.new.items.items
    (64 * c.loop-left.left) (64 * (c.loop-left.left - 1)) (c.insert_item.ensures c.if-not-insert_item.false) here
    (omega (arith, some))
    inv.0 inv.1 in
    (both.0, both.1, omega (arith, inv))
