use Rattle.std.proofs.Common.{arith}
use Rattle.clr_types.specs.Types.{form_at}
use Rattle.clr_scan.proofs.SlotScans.{slots_in_row}
use Rattle.clr_scan.proofs.slots.slots_on.Goals as goal

pub returns-clause-slots : goal.returns-clause-slots
returns-clause-slots c j l =
    let at = c.slot.ensures.offset in
    let row = slots_in_row (form_at c.args.types.now c.args.found.type_id.0) c.args.found.place j c.requires.words in
    omega (arith, at, row)
