use Rattle.clr_heap.proofs.Framing.{memories_apart}
use Rattle.clr_heap.proofs.heap.Heap.set_byte.Goals as goal

pub set_byte_of_memories-requires-clause-apart : goal.set_byte_of_memories-requires-clause-apart
set_byte_of_memories-requires-clause-apart c = memories_apart _ c.self.invariant.heap
