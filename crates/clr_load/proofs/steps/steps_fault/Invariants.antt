-- Nothing before the next thread's is bad.
use Rattle.std.proofs.Common.{◌≡◌, drop, []}
use Rattle.clr_format.specs.NameTests.{step_tests, with_earlier}
use Rattle.clr_load.specs.SeenItems.{items_seen}
use Rattle.clr_load.proofs.NameSteps.{failed_from}
use Rattle.clr_load.proofs.steps.steps_fault.Given as goal

abbrev pub invariant-loop-i : goal.invariant-loop-i
invariant-loop-i l =
    failed_from 40 (step_tests l.seen.types.now (items_seen l.seen) l.seen.heap.now) l.o l.i
    (drop l.i (with_earlier [] l.steps))
    ≡ failed_from 40 (step_tests l.seen.types.now (items_seen l.seen) l.seen.heap.now) l.o 0 (with_earlier [] l.steps)
