use Rattle.std.proofs.Common.{◌≡◌, ◌+◌, drop}
use Rattle.clr_model.specs.Lookups.{lowest_step_from}
use Rattle.clr_safe.specs.Threads.{steps_of}
use Rattle.clr_safe.proofs.safe.Safe.all_safe.Given as goal

abbrev pub invariant-loop-i : goal.invariant-loop-i
invariant-loop-i l = lowest_step_from 1 (steps_of l.self) ≡ lowest_step_from (l.i + 1) (drop l.i (steps_of l.self))
