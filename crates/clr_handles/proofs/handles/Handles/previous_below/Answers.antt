use Rattle.std.proofs.Common.{◌≤◌, ◌*◌, ◌+◌, ◌-◌, ◌/◌, arith}
use Rattle.clr_handles.proofs.ClearedRows.{highest}
use Rattle.clr_handles.proofs.NamedRows.{none-in_chunk, none-joined}
use Rattle.clr_handles.proofs.handles.Handles.previous_below.Goals as goal

pub loop-end-preserved-then-index-low : goal.loop-end-preserved-then-index-low
loop-end-preserved-then-index-low c =
    let few = c.loop-end.invariant.few in
    let inside = c.loop-end.invariant.inside in
    let end = c.loop-end.end in
    let h = end - 1 in
    let fits : c.args.low ≤ highest = omega (arith, c.ranges.low) in
    let meets : end ≤ 64 * (h / 64 + 1) = omega arith in
    record {
      few = omega (arith, few);
      inside = omega (arith, inside);
      none_between =
          none-joined c.args.self.now c.args.low (64 * (h / 64)) (64 * (h / 64 + 1)) end c.args.before meets
          (none-in_chunk c.args.self.now c.self.inside.rows c.self.inside.tops.items c.args.low c.self.view_is
          c.self.invariant.0 h c.index.result.now c.index.ensures fits c.if-index-low.true)
          c.loop-end.invariant.none_between;
    }
