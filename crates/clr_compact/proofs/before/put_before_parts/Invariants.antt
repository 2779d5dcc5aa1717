use Rattle.clr_compact.proofs.BeforeParts.{IsPuttingBefore}
use Rattle.clr_compact.proofs.before.put_before_parts.Given as goal

abbrev pub invariant-loop-k : goal.invariant-loop-k
invariant-loop-k l = IsPuttingBefore l.initial.heap l.heap l.pins.entries l.g l.k
