-- i words are filled.
use Rattle.std.proofs.Common.{◌≡◌}
use Rattle.clr_heap.specs.Filled.{filled}
use Rattle.clr_heap.proofs.memory.fill.Given as goal

abbrev pub invariant-loop-i : goal.invariant-loop-i
invariant-loop-i l = l.memory ≡ filled l.info l.bytes l.at l.i
