-- What the table says of the object's type.
use Rattle.std.proofs.Common.{◌∙◌}
use Rattle.clr_view.proofs.Headers.{final-told}
use Rattle.clr_view.proofs.flags.is_final.Goals as goal

pub returns : goal.returns
returns c =
    c.finalizer.ensures
    ∙ final-told c.args.types.now c.args.heap.now c.args.place c.object_item-item.result c.object_item-item.ensures
