use Rattle.std.proofs.Common.{◌∙◌}
use Rattle.clr_bricks.specs.Bricks.{entry_at}
use Rattle.clr_sweep.proofs.BehindWhole.{has_counted_behind, has_law_behind, has_swept_behind}
use Rattle.clr_sweep.proofs.behind.sweep_behind.Goals as goal

pub returns-clause-swept : goal.returns-clause-swept
returns-clause-swept c = λ v fs.
    has_swept_behind c.args.types.now c.args.heap.now v c.sweep_parts.new.heap c.args.fronts.now
    c.segments-count.ensures.heap c.requires.held c.requires.no_contexts fs (c.sweep_parts.ensures.swept v fs)
    c.sweep_parts.ensures.lawful c.requires.laid

pub returns-clause-tally : goal.returns-clause-tally
returns-clause-tally c = λ v fs.
    c.sweep_parts.ensures.tally v fs
    ∙ has_counted_behind c.args.types.now c.args.heap.now v c.sweep_parts.new.heap c.args.fronts.now
    c.segments-count.ensures.heap c.requires.held c.requires.no_contexts fs (c.sweep_parts.ensures.swept v fs)

pub returns-clause-brick_law : goal.returns-clause-brick_law
returns-clause-brick_law c =
    let (v, fs) = c.requires.fronts in
    has_law_behind c.args.types.now c.args.heap.now v c.sweep_parts.new.heap c.args.fronts.now
    c.segments-count.ensures.heap c.requires.held c.requires.no_contexts fs (c.sweep_parts.ensures.swept v fs)
    c.sweep_parts.ensures.lawful (entry_at c.renew_behind.new.bricks) c.renew_behind.ensures.entered
