use Rattle.std.proofs.Common.{ℕ, ◌-◌}
use Rattle.clr_sos.specs.Reaching.{IsFollowed, IsListed, IsRootOf, IsSearch}
use Rattle.clr_sos.proofs.reach.reach_all.Given as goal

abbrev pub invariant-loop-next : goal.invariant-loop-next
invariant-loop-next l = record {
  search : IsSearch l.view l.reached.seen.items l.reached.entries.items;
  roots : (x : ℕ) → IsRootOf l.view x → IsListed l.reached.entries.items x;
  followed : IsFollowed l.view l.reached.entries.items l.next;
}

-- there are never more entries than a word can count
abbrev pub decreases-loop-next : goal.decreases-loop-next
decreases-loop-next l = 18446744073709551616 - l.next
