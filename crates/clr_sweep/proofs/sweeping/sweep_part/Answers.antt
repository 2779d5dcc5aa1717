use Rattle.std.proofs.Common.{ℕ, Bool, subst}
use Rattle.clr_bricks.specs.Bricks.{entry_at}
use Rattle.clr_generations.specs.Laws.{AreEntered}
use Rattle.clr_generations.specs.Renewing.{AreLeft, left_in}
use Rattle.clr_heap.specs.View.{segment_at}
use Rattle.clr_model.specs.Machine.{Object}
use Rattle.clr_types.specs.Segments.{empty_segment, Layout}
use Rattle.clr_sweep.proofs.SurvivorsSwept.{at-in}
use Rattle.clr_sweep.proofs.YoungTables.{law_holds, young_border}
use Rattle.clr_sweep.proofs.YoungWhole.{has_counted_young, has_swept_young, part_parted}
use Rattle.clr_sweep.proofs.sweeping.sweep_part.Goals as goal

pub renew_bricks-requires-clause-young : goal.renew_bricks-requires-clause-young
renew_bricks-requires-clause-young c =
    young_border c.args.types.now c.args.heap.now c.ephemeral-k.ensures.heap c.requires.held c.requires.no_contexts
    c.requires.laid c.ephemeral-k.result c.ephemeral-k.ensures.in_range

pub renew_bricks-requires-clause-law : goal.renew_bricks-requires-clause-law
renew_bricks-requires-clause-law c =
    let old = c.args.heap.now in
    c.requires.brick_law (segment_at old c.ephemeral-k.result)
    (at-in old.segments c.ephemeral-k.result empty_segment c.ephemeral-k.ensures.in_range)

pub sweep_young-requires-clause-parted : goal.sweep_young-requires-clause-parted
sweep_young-requires-clause-parted c =
    part_parted c.args.types.now c.args.heap.now c.ephemeral-k.ensures.heap c.requires.held c.requires.no_contexts
    c.requires.laid c.args.g c.requires.generation

pub returns-clause-swept : goal.returns-clause-swept
returns-clause-swept c =
    has_swept_young c.args.types.now c.args.heap.now c.ephemeral-k.ensures.heap c.requires.held c.requires.no_contexts
    c.requires.laid c.args.g c.requires.generation c.sweep_young.new.heap c.sweep_young.result
    c.sweep_young.ensures.swept c.sweep_young.ensures.lawful

pub returns-clause-tally : goal.returns-clause-tally
returns-clause-tally c =
    has_counted_young c.args.types.now c.args.heap.now c.ephemeral-k.ensures.heap c.requires.held
    c.requires.no_contexts c.requires.laid c.args.g c.requires.generation c.sweep_young.new.heap c.sweep_young.result
    c.sweep_young.ensures.swept c.sweep_young.ensures.lawful

pub returns-clause-brick_law : goal.returns-clause-brick_law
returns-clause-brick_law c =
    let rows = c.args.types.now in
    let old = c.args.heap.now in
    let k = c.ephemeral-k.result in
    let after = c.renew_bricks.new.bricks in
    let P : ℕ → Type 0 = λ from. (layout : Layout) (keep : Object → Bool) → AreLeft rows old k from layout keep
    → AreEntered rows layout (left_in rows old keep) (entry_at after) (segment_at old k) in
    law_holds rows old c.ephemeral-k.ensures.heap c.requires.held c.requires.no_contexts c.requires.laid c.args.g
    c.requires.generation k c.ephemeral-k.ensures.in_range c.ephemeral-k.ensures.segment c.sweep_young.new.heap
    c.sweep_young.result c.sweep_young.ensures.swept c.sweep_young.ensures.lawful c.args.bricks.now after
    c.requires.brick_law (subst P c.start_of-start.ensures c.renew_bricks.ensures.entered)
    c.renew_bricks.ensures.others
