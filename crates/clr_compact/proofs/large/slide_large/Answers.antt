use Rattle.std.proofs.Common.{subst}
use Rattle.clr_bricks.specs.Bricks.{entry_at}
use Rattle.clr_heap.specs.View.{frame, HeapView}
use Rattle.clr_heap.proofs.Rewrite.{shaped_heap}
use Rattle.clr_generations.specs.Tables.{AreBricksOf}
use Rattle.clr_moves.specs.declared.condemned.Condemned.TheVariants.{LargeSegments}
use Rattle.clr_compact.proofs.SlidBricks.{mid-bricks}
use Rattle.clr_compact.proofs.SlidLarge.{slid_walkable, slide_done, slide_enters, slide_law}
use Rattle.clr_compact.proofs.large.slide_large.Goals as goal

pub enter_whole_parts-requires-clause-parts : goal.enter_whole_parts-requires-clause-parts
enter_whole_parts-requires-clause-parts c =
    let can = c.requires in
    let plan = can.plan in
    slid_walkable c.args.types.now can.view c.args.heap.now c.args.bricks.now c.args.pins.now.entries can.moves plan
    c.slide_plan.new.heap (c.slide_plan.ensures.slid can.view can.moves plan.overlaid plan.told)

pub enter_whole_parts-requires-clause-bricks : goal.enter_whole_parts-requires-clause-bricks
enter_whole_parts-requires-clause-bricks c =
    let can = c.requires in
    let plan = can.plan in
    let B : HeapView → Type 0 = λ h. AreBricksOf (frame h) c.args.bricks.now in
    mid-bricks can.view LargeSegments can.moves c.slide_plan.new.heap
    (c.slide_plan.ensures.slid can.view can.moves plan.overlaid plan.told) c.args.bricks.now
    (subst B plan.overlaid.shape.others can.bricks_of)

pub returns-clause-compacted : goal.returns-clause-compacted
returns-clause-compacted c = λ view vs plan.
    slide_done c.args.types.now view c.args.heap.now c.args.bricks.now c.args.pins.now.entries vs plan
    c.slide_plan.new.heap (c.slide_plan.ensures.slid view vs plan.overlaid plan.told) c.slide_plan.ensures.lawful
    c.enter_whole_parts.new.heap c.enter_whole_parts.ensures.shape c.enter_whole_parts.ensures.words

pub returns-clause-lawful : goal.returns-clause-lawful
returns-clause-lawful c =
    shaped_heap c.slide_plan.new.heap c.enter_whole_parts.new.heap c.enter_whole_parts.ensures.shape
    c.slide_plan.ensures.lawful

pub returns-clause-brick_law : goal.returns-clause-brick_law
returns-clause-brick_law c =
    let can = c.requires in
    let plan = can.plan in
    let rows = c.args.types.now in
    let old = c.args.bricks.now in
    let mid = c.slide_plan.new.heap in
    let fin = c.enter_whole_parts.new.heap in
    let slid = c.slide_plan.ensures.slid can.view can.moves plan.overlaid plan.told in
    let heap = c.slide_plan.ensures.lawful in
    let done = c.enter_whole_parts.ensures in
    slide_law rows can.view c.args.heap.now old c.args.pins.now.entries can.moves plan mid slid heap fin
    done.shape done.words old can.entry can.law can.others
    (entry_at c.enter_whole_parts.new.bricks)
    (done.parts fin
    (slide_enters rows can.view c.args.heap.now old c.args.pins.now.entries can.moves plan mid slid heap fin
    done.shape done.words))
    done.others
