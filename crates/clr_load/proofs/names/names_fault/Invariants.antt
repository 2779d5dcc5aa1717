-- No name before the next one is bad.
use Rattle.std.proofs.Common.{◌≡◌, List, drop}
use Rattle.clr_types.specs.declared.item.Item.{Item}
use Rattle.clr_load.specs.KnownStarts.{AreStarts}
use Rattle.clr_format.specs.NameTests.{name_tests}
use Rattle.clr_load.proofs.NameSteps.{failed_from}
use Rattle.clr_load.proofs.names.names_fault.Given as goal

abbrev pub invariant-loop-i : goal.invariant-loop-i
invariant-loop-i l =
    (items : List Item) → AreStarts l.starts items
    → failed_from 8 (name_tests items) l.o l.i (drop l.i l.names) ≡ failed_from 8 (name_tests items) l.o 0 l.names
