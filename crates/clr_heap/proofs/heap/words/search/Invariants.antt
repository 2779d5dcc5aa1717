use Rattle.std.proofs.Common.{◌-◌, ◌<◌, ◌≤◌, length}
use Rattle.clr_heap.specs.Memories.{memory_index}
use Rattle.clr_heap.proofs.heap.words.search.Given as goal

abbrev pub invariant-loop-low : goal.invariant-loop-low
invariant-loop-low l = record {
  above : l.low ≤ memory_index l.memories.items l.a;
  below : memory_index l.memories.items l.a < l.high;
  within : l.high ≤ length l.memories.items;
}

abbrev pub decreases-loop-low : goal.decreases-loop-low
decreases-loop-low l = l.high - l.low
