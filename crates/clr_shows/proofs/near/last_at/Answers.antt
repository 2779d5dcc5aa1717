-- The item over the address, or the one before that, is the last one that begins at or below it.
use Rattle.std.proofs.Common.{◌∙◌}
use Rattle.clr_shows.proofs.NearWalks.{begun-found, cut-from-start}
use Rattle.clr_shows.proofs.near.last_at.Goals as goal

pub near_from-near-requires-clause-walk : goal.near_from-near-requires-clause-walk
near_from-near-requires-clause-walk c =
    (cut-from-start c.args.view.now.types.now c.args.view.now.heap.now c.requires.lawful.heap c.requires.lawful.held
    c.args.k c.args.a c.walk_start-start.result c.requires.in_range c.requires.high c.walk_start-start.ensures).walk

pub returns : goal.returns
returns c =
    c.or.ensures
    ∙ begun-found c.args.view.now.types.now c.args.view.now.heap.now c.requires.lawful.held c.args.k c.args.a
    c.walk_start-start.result c.requires.in_range
    (cut-from-start c.args.view.now.types.now c.args.view.now.heap.now c.requires.lawful.heap c.requires.lawful.held
    c.args.k c.args.a c.walk_start-start.result c.requires.in_range c.requires.high c.walk_start-start.ensures)
    c.walk_start-start.ensures.below c.near_from-near.result c.near_from-near.ensures
