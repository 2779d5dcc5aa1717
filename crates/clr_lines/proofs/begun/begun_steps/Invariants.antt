use Rattle.std.proofs.Common.{◌≡◌, length, take}
use Rattle.clr_sos.specs.Steps.{steps_of}
use Rattle.clr_lines.proofs.begun.begun_steps.Given as goal

abbrev pub invariant-loop-k : goal.invariant-loop-k
invariant-loop-k l = record {
  built : steps_of l.runtime.machine.layout 1 (take l.k l.runtime.machine.steps) ≡ take l.k l.steps;
  all : length l.steps ≡ 16;
}
