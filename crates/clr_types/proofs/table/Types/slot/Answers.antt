use Rattle.clr_types.proofs.SlotKinds.{slot_at}
use Rattle.clr_types.proofs.table.Types.slot.Goals as goal

pub returns-clause-slot : goal.returns-clause-slot
returns-clause-slot c = slot_at _ c.args.len c.args.i c.slot.result (rw (← c.table.ensures.form) c.slot.ensures.offset)
    (rw (← c.table.ensures.form) c.slot.ensures.reference)
