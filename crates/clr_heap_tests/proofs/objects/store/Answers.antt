use Rattle.clr_view.proofs.Unmarked.{stands-kept}
use Rattle.clr_heap_tests.proofs.objects.store.Goals as goal

pub returns-clause-stands : goal.returns-clause-stands
returns-clause-stands g c =
    stands-kept c.args.types.now c.args.heap.now c.set_slot_value.new.heap
    (c.set_slot_value.ensures.stored c.args.i c.slot-slot.ensures.slot).items c.args.place c.requires.stands
