use Rattle.clr_heap.proofs.Framing.{memories_apart}
use Rattle.clr_heap.proofs.heap.Heap.set_word.Goals as goal

pub set_word_of_memories-requires-clause-apart : goal.set_word_of_memories-requires-clause-apart
set_word_of_memories-requires-clause-apart c = memories_apart _ c.self.invariant.heap
