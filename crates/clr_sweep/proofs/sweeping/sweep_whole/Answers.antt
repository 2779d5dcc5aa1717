use Rattle.std.proofs.Common.{◌∙◌}
use Rattle.clr_bricks.specs.Bricks.{entry_at}
use Rattle.clr_sweep.proofs.WholeBricks.{whole-law}
use Rattle.clr_sweep.proofs.WholeSwept.{has_counted, has_swept}
use Rattle.clr_sweep.proofs.YoungTables.{young_border}
use Rattle.clr_sweep.proofs.sweeping.sweep_whole.Goals as goal

pub renew_all_bricks-requires-clause-young : goal.renew_all_bricks-requires-clause-young
renew_all_bricks-requires-clause-young c =
    young_border c.args.types.now c.args.heap.now c.segments-count.ensures.heap c.requires.held
    c.requires.no_contexts c.requires.laid

pub returns-clause-swept : goal.returns-clause-swept
returns-clause-swept c =
    has_swept c.args.types.now c.args.heap.now c.sweep_segments.new.heap c.sweep_segments.ensures.swept
    c.segments-count.ensures.heap c.requires.held c.requires.no_contexts c.sweep_segments.ensures.lawful
    c.requires.laid

pub returns-clause-tally : goal.returns-clause-tally
returns-clause-tally c =
    c.sweep_segments.ensures.tally ∙ has_counted c.args.types.now c.args.heap.now c.sweep_segments.new.heap
    c.sweep_segments.ensures.swept c.segments-count.ensures.heap c.requires.held c.requires.no_contexts

pub returns-clause-brick_law : goal.returns-clause-brick_law
returns-clause-brick_law c =
    whole-law c.args.types.now c.args.heap.now c.sweep_segments.new.heap c.sweep_segments.ensures.swept
    c.segments-count.ensures.heap c.requires.held c.requires.no_contexts c.sweep_segments.ensures.lawful
    (entry_at c.renew_all_bricks.new.bricks) c.renew_all_bricks.ensures.entered
