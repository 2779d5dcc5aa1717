use Rattle.std.proofs.Common.{◌≡◌, ◌++◌, ◌-◌}
use Rattle.clr_sos.specs.ObjectTexts.{slot_lines, slots_in}
use Rattle.clr_sos.proofs.object_text.put_slots.Given as goal

abbrev pub invariant-loop-i : goal.invariant-loop-i
invariant-loop-i l = l.text.items ≡ l.initial.text.items ++ slot_lines l.from (l.i - l.from) (slots_in l.types l.heap l.item)
