use Rattle.clr_heap.proofs.Framing.{memories_apart}
use Rattle.clr_heap.proofs.heap.Heap.segment_near.Goals as goal

pub find-requires-clause-apart : goal.find-requires-clause-apart
find-requires-clause-apart c = memories_apart _ c.self.invariant.heap
