use Rattle.std.proofs.Common.{arith, refl}
use Rattle.clr_heap_tests.proofs.Opening.{given_laid, HasMachine, none_given, refilled_machine, started_machine}
use Rattle.clr_heap_tests.proofs.Opening.{test_options, tests_allowed}
use Rattle.clr_heap_tests.proofs.contexts.renewed.Goals as goal
use Rattle.clr_heap_tests.proofs.contexts.renewed.Goals.{After-forget}

filled : (c : After-forget) → HasMachine c.args.types.now c.refill-2.new.heap
filled c =
    refilled_machine c.args.types.now c.refill.new.heap c.refill-2.new.heap 2 104 refl refl (omega arith, refl)
    c.in-Some-refill.ensures.refilled
    (refilled_machine c.args.types.now c.args.heap.now c.refill.new.heap 1 20000 refl refl (omega arith, refl)
    c.in-Some.ensures.refilled
    (started_machine c.args.types.now c.args.heap.now test_options tests_allowed c.requires.no_types
    c.requires.opening))

pub renew-requires-clause-laid : goal.renew-requires-clause-laid
renew-requires-clause-laid c =
    given_laid c.args.types.now c.refill-2.new.heap c.give_up_all.new.heap (filled c.before)
    c.give_up_all.ensures.given

pub renew-requires-clause-no_contexts : goal.renew-requires-clause-no_contexts
renew-requires-clause-no_contexts c =
    none_given c.args.types.now c.refill-2.new.heap c.give_up_all.new.heap (filled c.before)
    c.give_up_all.ensures.given
