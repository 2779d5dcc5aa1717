-- What a walk from near the address leaves out is the item before it at most.
use Rattle.std.proofs.Common.{◌∙◌, ap, arith, sym}
use Rattle.clr_types.specs.Segments.{first_place}
use Rattle.clr_shows.proofs.NearWalks.{cut-from-start, near-all, near-behind, near-found}
use Rattle.clr_shows.proofs.near.near_within.Goals as goal

pub near_from-near-requires-clause-walk : goal.near_from-near-requires-clause-walk
near_from-near-requires-clause-walk c =
    (cut-from-start c.args.view.now.types.now c.args.view.now.heap.now c.requires.lawful.heap c.requires.lawful.held
    c.args.k c.args.a c.walk_start-start.result c.requires.in_range c.requires.high c.walk_start-start.ensures).walk

pub returns-then-is_some : goal.returns-then-is_some
returns-then-is_some c =
    near-found c.args.view.now.types.now c.args.view.now.heap.now c.requires.lawful.held c.args.k c.args.a
    c.walk_start-start.result c.requires.in_range
    (cut-from-start c.args.view.now.types.now c.args.view.now.heap.now c.requires.lawful.heap c.requires.lawful.held
    c.args.k c.args.a c.walk_start-start.result c.requires.in_range c.requires.high c.walk_start-start.ensures)
    c.walk_start-start.ensures.below c.near_from-near.result c.near_from-near.ensures
    (sym c.is_some.ensures ∙ c.if-is_some.true)

pub returns-then-start-first_place : goal.returns-then-start-first_place
returns-then-start-first_place c =
    near-all c.args.view.now.types.now c.args.view.now.heap.now c.requires.lawful.held c.args.k c.args.a
    c.walk_start-start.result c.requires.in_range
    (cut-from-start c.args.view.now.types.now c.args.view.now.heap.now c.requires.lawful.heap c.requires.lawful.held
    c.args.k c.args.a c.walk_start-start.result c.requires.in_range c.requires.high c.walk_start-start.ensures)
    c.walk_start-start.ensures.below c.near_from-near.result c.near_from-near.ensures
    (c.if-start-first_place.true ∙ c.first_place.ensures ∙ ap first_place c.info.ensures.value)

pub returns : goal.returns
returns c =
    let first = c.first_place.ensures ∙ ap first_place c.info.ensures.value in
    let at = c.walk_start-start.ensures.above in
    let other = c.if-start-first_place.false in
    near-behind c.args.view.now.types.now c.args.view.now.heap.now c.requires.lawful.held c.args.k c.args.a
    c.walk_start-start.result c.requires.in_range
    (cut-from-start c.args.view.now.types.now c.args.view.now.heap.now c.requires.lawful.heap c.requires.lawful.held
    c.args.k c.args.a c.walk_start-start.result c.requires.in_range c.requires.high c.walk_start-start.ensures)
    c.walk_start-start.ensures.below c.near_from-near.result c.last_at.result c.near_from-near.ensures
    (sym c.is_some.ensures ∙ c.if-is_some.false) (omega (arith, first, at, other)) c.last_at.ensures
