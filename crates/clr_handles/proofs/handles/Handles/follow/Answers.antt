use Rattle.std.proofs.Common.{◌∙◌, ◌<◌, ℕ, length, inr, sym, arith, ap}
use Rattle.std.specs.FinMap as finmap
use Rattle.clr_handles.specs.Places.{IsFollowed}
use Rattle.clr_handles.specs.Tables.{Table}
use Rattle.clr_handles.proofs.ChangedRows.{within-chunk}
use Rattle.clr_handles.proofs.MovedRows.{tops-moved}
use Rattle.clr_handles.proofs.TopSteps.{top-read}
use Rattle.clr_handles.proofs.handles.Handles.follow.Goals as goal

pub follow_in_chunk-requires-clause-top : goal.follow_in_chunk-requires-clause-top
follow_in_chunk-requires-clause-top g c =
    top-read c.loop-chunk.self-inside.rows c.loop-chunk.self-inside.tops.items c.loop-chunk.chunk
    c.index-top.result.now c.loop-chunk.invariant.tops c.index-top.ensures

pub follow_in_chunk-requires-clause-follow : goal.follow_in_chunk-requires-clause-follow
follow_in_chunk-requires-clause-follow g c = λ h from to row here.
    c.requires h row
    (ap (λ (t : Table). finmap.get t h) (sym c.self.view_is)
    ∙ sym (c.loop-chunk.invariant.moved.outside h (inr from)) ∙ here)

pub loop-chunk-preserved : goal.loop-chunk-preserved
loop-chunk-preserved g c =
    let R = IsFollowed c.args.spares (λ (place moved : ℕ). goal.F-post g c.args.to.now place moved) c.args.low in
    let before = c.loop-chunk.self-inside in
    let same = c.loop-chunk.invariant.same in
    let end = c.len-chunk-end.ensures in
    let more = c.loop-chunk-test.true in
    let ok = before.tops.ok in
    let within : c.loop-chunk.chunk < length before.tops.items = omega (arith, same, end, more, ok) in
    record {
      moved =
          within-chunk R c.self.inside.rows before.rows c.follow_in_chunk.new.rows c.loop-chunk.chunk
          c.loop-chunk.invariant.moved c.follow_in_chunk.ensures.moved;
      same = same;
      tops =
          tops-moved R before.rows c.follow_in_chunk.new.rows before.tops.items c.loop-chunk.chunk
          c.follow_in_chunk.result c.loop-chunk.invariant.tops within c.follow_in_chunk.ensures.moved
          c.follow_in_chunk.ensures.top;
      counts = λ kind. c.loop-chunk.invariant.counts kind ∙ sym (c.follow_in_chunk.ensures.counts kind);
    }
