use Rattle.clr_ctx.proofs.Choices.{index_rises}
use Rattle.clr_ctx.proofs.young_items.YoungItems.give_up.Goals as goal

pub insert_item-self-inside-requires : goal.insert_item-self-inside-requires
insert_item-self-inside-requires c =
    index_rises c.args.types.now c.args.heap.now c.args.self.now c.self.inside.items.items c.self.inside.complete
    c.lawful.ensures c.requires.held c.requires.index c.self.view_is c.if-self.true
