use Rattle.clr_heap.proofs.Framing.{memories_apart}
use Rattle.clr_heap.proofs.heap.Heap.move_cells.Goals as goal

pub move_in_memories-requires-clause-apart : goal.move_in_memories-requires-clause-apart
move_in_memories-requires-clause-apart c = memories_apart _ c.self.invariant.heap
