use Rattle.std.proofs.Common.{◌≤◌, ◌*◌, ◌+◌, ◌/◌, arith}
use Rattle.clr_handles.proofs.ClearedRows.{highest}
use Rattle.clr_handles.proofs.NamedRows.{none-in_chunk, none-joined}
use Rattle.clr_handles.proofs.handles.Handles.next_from.Goals as goal

pub loop-h-preserved-then-index-low : goal.loop-h-preserved-then-index-low
loop-h-preserved-then-index-low c =
    let above = c.loop-h.invariant.above in
    let h = c.loop-h.h in
    let fits : c.args.low ≤ highest = omega (arith, c.ranges.low) in
    record {
      above = omega (arith, above);
      none_before =
          none-joined c.args.self.now c.args.low c.args.from h (64 * (h / 64)) (64 * (h / 64 + 1)) (omega arith)
          c.loop-h.invariant.none_before
          (none-in_chunk c.args.self.now c.self.inside.rows c.self.inside.tops.items c.args.low c.self.view_is
          c.self.invariant.0 h c.index.result.now c.index.ensures fits c.if-index-low.true);
    }
