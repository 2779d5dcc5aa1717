use Rattle.clr_large.proofs.PlacedBirths.{index_rises}
use Rattle.clr_large.proofs.items.KindItems.allocate_placed.Goals as goal

pub take_place-requires-clause-rising : goal.take_place-requires-clause-rising
take_place-requires-clause-rising c =
    index_rises c.args.kind c.args.types.now c.args.heap.now c.args.self.now c.self.inside.items.items
    c.self.inside.complete c.requires.heap c.requires.held c.requires.index c.self.view_is c.if-self.true
