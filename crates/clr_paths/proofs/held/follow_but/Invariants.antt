use Rattle.std.proofs.Common.{◌-◌}
use Rattle.clr_sos.specs.Reaching.{IsSearch}
use Rattle.clr_paths.proofs.HeldReach.{IsPassing}
use Rattle.clr_paths.proofs.held.follow_but.Given as goal

abbrev pub invariant-loop-next : goal.invariant-loop-next
invariant-loop-next l = record {
  search : IsSearch l.view l.reached.seen.items l.reached.entries.items;
  passing : IsPassing l.view l.a l.reached.entries.items l.next;
}

-- there are never more entries than a word can count
abbrev pub decreases-loop-next : goal.decreases-loop-next
decreases-loop-next l = 18446744073709551616 - l.next
