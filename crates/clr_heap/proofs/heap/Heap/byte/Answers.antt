use Rattle.clr_heap.proofs.Framing.{memories_apart}
use Rattle.clr_heap.proofs.heap.Heap.byte.Goals as goal

pub byte_of_memories-requires-clause-apart : goal.byte_of_memories-requires-clause-apart
byte_of_memories-requires-clause-apart c = memories_apart _ c.self.invariant.heap
