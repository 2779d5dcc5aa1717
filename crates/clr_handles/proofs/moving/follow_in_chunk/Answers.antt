use Rattle.std.proofs.Common.{◌≡◌, ◌∙◌, ◌*◌, ◌+◌, ◌≤◌, ℕ, max, inr, sym, arith, refl, subst, rules}
use Rattle.clr_handles.specs.Places.{IsFollowed}
use Rattle.clr_handles.specs.Tops.{IsTopBetween}
use Rattle.clr_handles.proofs.ChangedRows.{within-none, within-more}
use Rattle.clr_handles.proofs.ClearedRows.{chunk-below, highest}
use Rattle.clr_handles.proofs.MovedRows.{followed-below, top-more, top-none}
use Rattle.clr_handles.proofs.moving.follow_in_chunk.Goals as goal

pub returns-then-top-low-clause-moved : goal.returns-then-top-low-clause-moved
returns-then-top-low-clause-moved g c =
    let post = λ (place moved : ℕ). goal.F-post g c.args.to.now place moved in
    let fits : c.args.low ≤ highest = omega (arith, c.ranges.low) in
    chunk-below (IsFollowed c.args.spares post c.args.low) c.args.rows.now c.args.chunk c.args.top c.args.low fits
    c.requires.top c.if-top-low.true (followed-below post c.args.low c.args.spares)

pub loop-h-init : goal.loop-h-init
loop-h-init g c =
    let post = λ (place moved : ℕ). goal.F-post g c.args.to.now place moved in
    record {
      moved = within-none (IsFollowed c.args.spares post c.args.low) c.args.rows.now (64 * c.args.chunk);
      counts = λ kind. refl;
      top = top-none c.args.rows.now (64 * c.args.chunk);
    }

pub follow_in_row-high-requires : goal.follow_in_row-high-requires
follow_in_row-high-requires g c = λ row here.
    let low = c.loop-h.auto.h in
    let more = c.loop-h-test.true in
    c.requires.follow c.loop-h.h low more row
    (sym (c.loop-h.invariant.moved.outside c.loop-h.h (inr (omega arith))) ∙ here)

pub loop-h-preserved : goal.loop-h-preserved
loop-h-preserved g c =
    let post = λ (place moved : ℕ). goal.F-post g c.args.to.now place moved in
    let step = c.follow_in_row-high in
    record {
      moved =
          within-more (IsFollowed c.args.spares post c.args.low) c.args.rows.now c.loop-h.rows step.new.rows
          (64 * c.args.chunk) c.loop-h.h c.loop-h.auto.h c.loop-h.invariant.moved step.ensures.moved;
      counts = λ kind. step.ensures.counts kind ∙ c.loop-h.invariant.counts kind;
      top =
          let top : c.max-new_top.result ≡ max c.loop-h.new_top step.result = search rules in
          subst (IsTopBetween step.new.rows (64 * c.args.chunk) (c.loop-h.h + 1)) (sym top)
          (top-more c.loop-h.rows step.new.rows (64 * c.args.chunk) c.loop-h.h c.loop-h.new_top step.result
          c.loop-h.invariant.top step.ensures.moved.others step.ensures.reach);
    }
