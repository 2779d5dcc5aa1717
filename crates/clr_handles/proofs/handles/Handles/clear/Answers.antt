use Rattle.std.proofs.Common.{◌∙◌, ◌*◌, ◌+◌, ℕ, Bool, arith, ap, sym, vec_len}
use Rattle.clr_handles.specs.Places.{IsCleared}
use Rattle.clr_handles.proofs.ChangedRows.{within-chunk}
use Rattle.clr_handles.proofs.ClearedRows.{cleared-none, tops-cleared}
use Rattle.clr_handles.proofs.TopSteps.{top-read}
use Rattle.clr_handles.proofs.handles.Handles.clear.Goals as goal

pub index-requires : goal.index-requires
index-requires g c =
    let same = ap vec_len c.loop-chunk.invariant.same in
    let end = c.len-chunk-end.ensures in
    let more = c.loop-chunk-test.true in
    omega (arith, same, end, more)

pub clear_chunk-requires-clause-top : goal.clear_chunk-requires-clause-top
clear_chunk-requires-clause-top g c =
    top-read c.loop-chunk.self-inside.rows c.loop-chunk.self-inside.tops.items c.loop-chunk.chunk c.index.result.now
    c.loop-chunk.invariant.tops c.index.ensures

pub loop-chunk-preserved : goal.loop-chunk-preserved
loop-chunk-preserved g c =
    let post = λ (place : ℕ) (answer : Bool). goal.F-post g c.args.kept.now place answer in
    let before = c.loop-chunk.self-inside in
    let n = c.loop-chunk.chunk in
    record {
      cleared =
          within-chunk (IsCleared c.args.kind post c.args.low) c.self.inside.rows before.rows c.clear_chunk.new.rows n
          c.loop-chunk.invariant.cleared c.clear_chunk.ensures.cleared;
      same = c.loop-chunk.invariant.same;
      tops =
          tops-cleared c.args.kind post c.args.low before.rows c.clear_chunk.new.rows before.tops.items (64 * n)
          (64 * n + 64) c.loop-chunk.invariant.tops c.clear_chunk.ensures.cleared;
      counts = λ kind. c.loop-chunk.invariant.counts kind ∙ sym (c.clear_chunk.ensures.counts kind);
    }

pub returns-then-not-has_kind : goal.returns-then-not-has_kind
returns-then-not-has_kind g c =
    let post = λ (place : ℕ) (answer : Bool). goal.F-post g c.args.kept.now place answer in
    cleared-none c.args.kind post c.args.low c.args.self.now (c.has_kind.ensures c.if-not-has_kind.true)
