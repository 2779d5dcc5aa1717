use Rattle.std.proofs.Common.{ℕ, Bool, ap, subst, arith}
use Rattle.clr_types.specs.Segments.{first_place, Layout}
use Rattle.clr_bricks.specs.Bricks.{entry_at}
use Rattle.clr_heap.specs.View.{segment_at}
use Rattle.clr_model.specs.Machine.{Object}
use Rattle.clr_generations.specs.Laws.{AreEntered}
use Rattle.clr_generations.specs.Renewing.{AreLeft, left_in}
use Rattle.clr_generations.proofs.AllBricks.{all_more, all_start}
use Rattle.clr_generations.proofs.all_bricks.renew_all_bricks.Goals as goal

pub loop-k-init : goal.loop-k-init
loop-k-init c = all_start c.args.types.now c.args.heap.now c.args.bricks.now c.requires.law

pub loop-k-preserved : goal.loop-k-preserved
loop-k-preserved c =
    let rows = c.args.types.now in
    let h = c.args.heap.now in
    let k = c.loop-k.k in
    let new = c.renew_bricks.new.bricks in
    let P : ℕ → Type 0 = λ from. (after : Layout) (keep : Object → Bool) → AreLeft rows h k from after keep
    → AreEntered rows after (left_in rows h keep) (entry_at new) (segment_at h k) in
    all_more rows h c.segments-count.ensures.heap c.requires.held c.args.bricks.now c.loop-k.bricks new k
    (omega (arith, c.segments-count.ensures.count, c.loop-k-test.true)) c.loop-k.invariant
    (subst P (ap first_place c.info-from.ensures.value) c.renew_bricks.ensures.entered) c.renew_bricks.ensures.others
    c.renew_bricks.ensures.spans
