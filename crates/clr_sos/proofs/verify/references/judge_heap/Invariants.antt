use Rattle.std.proofs.Common.{◌≡◌}
use Rattle.clr_heap.specs.View.{listings}
use Rattle.clr_sos.specs.Faults.{addresses}
use Rattle.clr_sos.specs.Windows.{lowest_bad}
use Rattle.clr_sos.proofs.verify.references.judge_heap.Given as goal

abbrev pub invariant-loop-k : goal.invariant-loop-k
invariant-loop-k l =
    l.low
    ≡ lowest_bad l.judge l.initial.low
    (addresses l.judge.types.now (listings l.judge.types.now l.judge.heap.now 0 l.k))
