use Rattle.std.proofs.Common.{sym, subst}
use Rattle.clr_view.specs.SlotValues.{StandsAt}
use Rattle.clr_view.proofs.Bearing.{born-stands}
use Rattle.clr_heap_tests.proofs.objects.birth.Goals as goal

pub returns-clause-stands : goal.returns-clause-stands
returns-clause-stands g c =
    subst (StandsAt c.args.types.now c.allocate.new.heap) (sym c.allocate.ensures.place)
    (born-stands c.args.types.now c.args.heap.now c.allocate.new.heap c.args.thread c.args.t.0 c.args.len
    c.allocate.ensures.born)
