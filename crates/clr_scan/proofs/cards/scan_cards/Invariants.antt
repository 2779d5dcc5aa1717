use Rattle.clr_scan.proofs.AllCards.{IsCardScan}
use Rattle.clr_scan.proofs.cards.scan_cards.Given as goal

abbrev pub invariant-loop-k : goal.invariant-loop-k
invariant-loop-k l = IsCardScan l.types l.initial.heap l.heap l.initial.marker l.marker l.initial.cards l.cards l.k
