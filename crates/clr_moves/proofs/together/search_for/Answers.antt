use Rattle.clr_moves.proofs.SearchesTogether.{search_begun}
use Rattle.clr_moves.proofs.Stretches.{used_plan}
use Rattle.clr_moves.proofs.together.search_for.Goals as goal

pub returns-then-place-eq0 : goal.returns-then-place-eq0
returns-then-place-eq0 c = c.nothing.ensures c.args.heap.now c.args.bricks.now c.args.g

pub returns-then-not-is_used : goal.returns-then-not-is_used
returns-then-not-is_used c = c.nothing-then-not-is_used.ensures c.args.heap.now c.args.bricks.now c.args.g

pub begin-requires : goal.begin-requires
begin-requires c =
    let (rows, view, entries, vs, start1, start0, plan) = c.requires in
    used_plan rows view c.args.heap.now c.args.bricks.now entries c.args.g vs start1 start0 plan c.segment_around-k.result
    c.args.place (c.is_used.ensures c.if-not-is_used.false)

pub returns : goal.returns
returns c =
    search_begun c.args.heap.now c.args.bricks.now c.args.g c.begin.result c.segment_around-k.result c.args.place
    c.begin.ensures.searching c.begin.ensures.place c.begin.ensures.segment (c.is_used.ensures c.if-not-is_used.false)
