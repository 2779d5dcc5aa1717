use Rattle.std.proofs.Common.{subst}
use Rattle.clr_heap.proofs.Framing.{SameShape-trans}
use Rattle.clr_heap.proofs.Rewrite.{shaped_heap}
use Rattle.clr_evacuate.specs.Carried.{HasVacated}
use Rattle.clr_evacuate.proofs.Copying.{carried_head, carried_least, head_kept}
use Rattle.clr_evacuate.proofs.CarriedHeap.{carried}
use Rattle.clr_evacuate.proofs.carrying.carry_object.Goals as goal

pub vacate-requires-clause-least : goal.vacate-requires-clause-least
vacate-requires-clause-least c = carried_least c.args.types.now c.args.heap.now c.args.object c.args.item
    c.requires.heap c.requires.held c.requires.can

pub vacate-requires-clause-head : goal.vacate-requires-clause-head
vacate-requires-clause-head c =
    head_kept c.args.heap.now c.copy_object.new.heap c.args.object.place c.copy_object.ensures.shape
    (carried_head c.args.types.now c.args.heap.now c.args.object c.args.item c.requires.heap c.requires.held
    c.requires.can)

pub returns-clause-carried : goal.returns-clause-carried
returns-clause-carried c =
    carried c.args.types.now c.args.heap.now c.copy_object.new.heap c.vacate.new.heap c.args.object c.args.item
    c.requires.heap c.requires.held c.requires.no_contexts c.requires.can c.copy_object.ensures
    (subst (HasVacated c.copy_object.new.heap c.vacate.new.heap c.args.object) c.place.ensures c.vacate.ensures)

pub returns-clause-heap : goal.returns-clause-heap
returns-clause-heap c =
    shaped_heap c.args.heap.now c.vacate.new.heap
    (SameShape-trans c.args.heap.now c.copy_object.new.heap c.vacate.new.heap c.copy_object.ensures.shape
    c.vacate.ensures.shape) c.requires.heap
