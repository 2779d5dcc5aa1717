use Rattle.std.proofs.Common.{arith}
use Rattle.clr_types.specs.Segments.{sealed_segment}
use Rattle.clr_heap.proofs.Sealing.{replaced_more}
use Rattle.clr_heap.proofs.heap.segments.seal.Goals as goal

pub loop-i-preserved : goal.loop-i-preserved
loop-i-preserved c =
    let xs = c.args.segments.now.items in
    let now = c.loop-i.segments.items in
    let below = c.loop-i-test.true in
    let is = c.sealed.ensures in
    record {
      items = replaced_more sealed_segment xs now c.loop-i.i c.index.result.now c.sealed.result (omega arith)
          c.loop-i.invariant.items c.index.ensures is;
      len = c.loop-i.invariant.len;
      room = c.loop-i.invariant.room;
    }
