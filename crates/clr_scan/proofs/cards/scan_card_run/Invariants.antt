use Rattle.std.proofs.Common.{◌-◌}
use Rattle.clr_scan.proofs.RunScans.{IsRunScan}
use Rattle.clr_scan.proofs.cards.scan_card_run.Given as goal

abbrev pub invariant-loop-at : goal.invariant-loop-at
invariant-loop-at l = IsRunScan l.types l.initial.heap l.heap l.initial.marker l.marker l.initial.cards l.cards l.k
    l.lo l.hi l.at l.place

abbrev pub decreases-loop-at : goal.decreases-loop-at
decreases-loop-at l = l.hi - l.at
