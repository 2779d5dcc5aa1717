-- The item at a place tells the type of the object there.
use Rattle.std.proofs.Common.{ℕ, ◌∙◌, ap}
use Rattle.clr_types.specs.Types.{name_of}
use Rattle.clr_sos.proofs.QueuedObjects.{type-at}
use Rattle.clr_sos.proofs.buffered.queue.name_at.Goals as goal

pub returns : goal.returns
returns c =
    c.name.ensures ∙ ap (λ (type : ℕ). name_of c.args.types.now type)
    (type-at c.args.types.now c.args.heap.now c.args.place c.object_item-item.result c.object_item-item.ensures)
