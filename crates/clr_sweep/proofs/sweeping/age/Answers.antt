use Rattle.std.proofs.Common.{sym, subst}
use Rattle.clr_heap.specs.View.{IsHeap}
use Rattle.clr_sweep.proofs.LawfulHeaps.{bounded_heap}
use Rattle.clr_sweep.proofs.sweeping.age.Goals as goal

pub returns-clause-lawful : goal.returns-clause-lawful
returns-clause-lawful c =
    subst IsHeap (sym c.set_boundaries.ensures)
    (bounded_heap c.args.heap.now c.if-g-eq0.old c.info-tail.result.end c.ephemeral.ensures.heap)
