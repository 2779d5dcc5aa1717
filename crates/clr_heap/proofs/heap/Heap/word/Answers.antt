use Rattle.clr_heap.proofs.Framing.{memories_apart}
use Rattle.clr_heap.proofs.heap.Heap.word.Goals as goal

pub word_of_memories-requires-clause-apart : goal.word_of_memories-requires-clause-apart
word_of_memories-requires-clause-apart c = memories_apart _ c.self.invariant.heap
