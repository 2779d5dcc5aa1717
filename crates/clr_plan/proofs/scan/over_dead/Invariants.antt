use Rattle.std.proofs.Common.{◌-◌, List}
use Rattle.clr_types.specs.Types.{TypeRow}
use Rattle.clr_heap.specs.ObjectKinds.{IsObjectKind}
use Rattle.clr_plan.specs.Counts.{HasCounted}
use Rattle.clr_plan.specs.Runs.{IsPassing}
use Rattle.clr_plan.specs.Scans.{CanScan}
use Rattle.clr_plan.proofs.scan.over_dead.Given as goal

abbrev pub invariant-loop-place : goal.invariant-loop-place
invariant-loop-place l = (rows : List TypeRow) → CanScan rows l.heap l.k l.from l.end → IsObjectKind rows l.kind
    → IsPassing rows l.heap l.k l.from l.end l.place
    × HasCounted rows l.heap l.k l.end l.from l.initial.walk.counts l.place l.counts

abbrev pub decreases-loop-place : goal.decreases-loop-place
decreases-loop-place l = l.end - l.place
