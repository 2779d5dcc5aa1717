use Rattle.clr_heap.proofs.Framing.{memories_apart}
use Rattle.clr_heap.proofs.heap.Heap.clear_cells.Goals as goal

pub clear_in_memories-requires-clause-apart : goal.clear_in_memories-requires-clause-apart
clear_in_memories-requires-clause-apart c = memories_apart _ c.self.invariant.heap
