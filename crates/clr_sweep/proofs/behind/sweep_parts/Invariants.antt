use Rattle.std.specs.Prelude.{List}
use Rattle.clr_mem.specs.Words.{Memory}
use Rattle.clr_sweep.specs.Fronts.{HasFronts}
use Rattle.clr_sweep.proofs.AllBehind.{IsSweepingBehind}
use Rattle.clr_sweep.proofs.SweptBehind.{with_memories}
use Rattle.clr_sweep.proofs.behind.sweep_parts.Given as goal

abbrev pub invariant-loop-k : goal.invariant-loop-k
invariant-loop-k l =
    (vm : List Memory) → HasFronts l.types l.initial.heap (with_memories l.initial.heap vm) l.fronts
    → IsSweepingBehind l.types l.initial.heap (with_memories l.initial.heap vm) l.heap l.k l.tally
