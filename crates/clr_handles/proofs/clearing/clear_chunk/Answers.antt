use Rattle.std.proofs.Common.{◌∙◌, ◌*◌, ◌≤◌, ℕ, Bool, inr, sym, arith, refl}
use Rattle.clr_handles.specs.Places.{IsCleared}
use Rattle.clr_handles.proofs.ChangedRows.{within-none, within-more}
use Rattle.clr_handles.proofs.ClearedRows.{chunk-below, cleared-below, highest}
use Rattle.clr_handles.proofs.clearing.clear_chunk.Goals as goal

pub returns-then-top-low : goal.returns-then-top-low
returns-then-top-low g c =
    let post = λ (place : ℕ) (answer : Bool). goal.F-post g c.args.kept.now place answer in
    let fits : c.args.low ≤ highest = omega (arith, c.ranges.low) in
    record {
      cleared =
          chunk-below (IsCleared c.args.kind post c.args.low) c.args.rows.now c.args.chunk c.args.top c.args.low fits
          c.requires.top c.if-top-low.true (cleared-below c.args.kind post c.args.low);
      counts = λ kind. refl;
    }

pub loop-h-init : goal.loop-h-init
loop-h-init g c =
    let post = λ (place : ℕ) (answer : Bool). goal.F-post g c.args.kept.now place answer in
    record {
      cleared = within-none (IsCleared c.args.kind post c.args.low) c.args.rows.now (64 * c.args.chunk);
      counts = λ kind. refl;
    }

pub clear_row-requires : goal.clear_row-requires
clear_row-requires g c = λ row here same some high.
    let low = c.loop-h.auto.h in
    let more = c.loop-h-test.true in
    c.requires.ask c.loop-h.h low more row
    (sym (c.loop-h.invariant.cleared.outside c.loop-h.h (inr (omega arith))) ∙ here) same some high

pub loop-h-preserved : goal.loop-h-preserved
loop-h-preserved g c =
    let post = λ (place : ℕ) (answer : Bool). goal.F-post g c.args.kept.now place answer in
    record {
      cleared =
          within-more (IsCleared c.args.kind post c.args.low) c.args.rows.now c.loop-h.rows c.clear_row.new.rows
          (64 * c.args.chunk) c.loop-h.h c.loop-h.auto.h c.loop-h.invariant.cleared c.clear_row.ensures.cleared;
      counts = λ kind. c.clear_row.ensures.counts kind ∙ c.loop-h.invariant.counts kind;
    }
