use Rattle.std.proofs.Common.{sym, subst}
use Rattle.clr_view.specs.SlotValues.{IsObjectAt}
use Rattle.clr_view.proofs.ObjectItems.{stands-head, stands-item}
use Rattle.clr_view.proofs.slot_values.object_item.Goals as goal

pub item-requires : goal.item-requires
item-requires c = stands-head c.args.types.now c.args.heap.now c.lawful.ensures c.requires.held c.args.place
    c.requires.stands

pub returns : goal.returns
returns c =
    subst (IsObjectAt c.args.types.now c.args.heap.now c.args.place) (sym c.item.ensures)
    (stands-item c.args.types.now c.args.heap.now c.lawful.ensures c.requires.held c.args.place
    c.requires.stands)
