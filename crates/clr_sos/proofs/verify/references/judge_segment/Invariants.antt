use Rattle.std.proofs.Common.{◌≡◌, ◌++◌}
use Rattle.clr_sos.specs.Faults.{addresses}
use Rattle.clr_sos.specs.Windows.{lowest_bad}
use Rattle.clr_sos.proofs.verify.references.judge_segment.Given as goal

abbrev pub invariant-loop-item : goal.invariant-loop-item
invariant-loop-item l = record {
  walked : l.yielded ++ l.item-iterator ≡ l.initial.item-iterator;
  low : l.low ≡ lowest_bad l.judge l.initial.low (addresses l.judge.types.now l.yielded);
}
