-- What is queued stands in the heap.
use Rattle.std.proofs.Common.{List, ℕ, subst, sym}
use Rattle.clr_sos.specs.Views.{AllStand}
use Rattle.clr_sos.proofs.queues.finalizequeue.Goals as goal

pub put_queue-requires-clause-stand : goal.put_queue-requires-clause-stand
put_queue-requires-clause-stand c =
    subst (λ (places : List ℕ). AllStand c.args.view.now.types.now c.args.view.now.heap.now places)
    (sym c.entries-entries.ensures) c.requires.entries

pub put_queue-requires-2-clause-stand : goal.put_queue-requires-2-clause-stand
put_queue-requires-2-clause-stand c =
    subst (λ (places : List ℕ). AllStand c.args.view.now.types.now c.args.view.now.heap.now places)
    (sym c.ready-ready.ensures) c.requires.ready
