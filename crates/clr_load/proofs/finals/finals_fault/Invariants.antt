-- No place before the next one is bad.
use Rattle.std.proofs.Common.{◌≡◌, drop}
use Rattle.clr_format.specs.NameTests.{final_tests}
use Rattle.clr_load.specs.SeenItems.{items_seen}
use Rattle.clr_load.proofs.NameSteps.{failed_from}
use Rattle.clr_load.proofs.finals.finals_fault.Given as goal

abbrev pub invariant-loop-i : goal.invariant-loop-i
invariant-loop-i l =
    failed_from 8 (final_tests l.seen.types.now (items_seen l.seen)) l.o l.i (drop l.i l.places)
    ≡ failed_from 8 (final_tests l.seen.types.now (items_seen l.seen)) l.o 0 l.places
