use Rattle.std.proofs.Common.{◌≡◌, ◌-◌}
use Rattle.clr_sos.specs.Walks.{ahead, AreAhead}
use Rattle.clr_sos.proofs.heap_items.HeapItemsIterator.next.Given as goal

abbrev pub invariant-loop-found : goal.invariant-loop-found
invariant-loop-found l = record {
  inside : AreAhead l.self-inside.types.now l.self-inside.heap.now l.self-inside.next l.self-inside.count;
  same : ahead l.self-inside.walk l.self-inside.types.now l.self-inside.heap.now l.self-inside.next
      l.self-inside.count
      ≡ ahead l.initial.self-inside.walk l.initial.self-inside.types.now l.initial.self-inside.heap.now
      l.initial.self-inside.next l.initial.self-inside.count;
}

abbrev pub decreases-loop-found : goal.decreases-loop-found
decreases-loop-found l = l.self-inside.count - l.self-inside.next
