use Rattle.std.proofs.Common.{sym}
use Rattle.clr_view.proofs.Listed.{listed-known}
use Rattle.clr_view.proofs.SlotReads.{reference-word}
use Rattle.clr_view.proofs.slot_values.is_byte.Goals as goal

pub shape-requires : goal.shape-requires
shape-requires c =
    listed-known c.args.types.now c.args.heap.now c.args.item.now c.lawful.ensures c.requires.held
    c.requires.listed

pub returns-then-slot-clause-value : goal.returns-then-slot-clause-value
returns-then-slot-clause-value c =
    sym (reference-word c.args.types.now c.args.item.now c.args.slot c.requires.slot c.if-slot.true)
