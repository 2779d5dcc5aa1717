use Rattle.std.proofs.Common.{ℕ, ◌-◌, length}
use Rattle.clr_sos.specs.BreadthFirst.{IsBreadthFirst}
use Rattle.clr_sos.specs.Reaching.{IsFollowed, IsListed, IsRootOf, IsSearch, Leads, place_at, via_at}
use Rattle.clr_sos.proofs.reach.reach_to.Given as goal

abbrev pub invariant-loop-next : goal.invariant-loop-next
invariant-loop-next l = record {
  search : IsSearch l.view l.reached.seen.items l.reached.entries.items;
  roots : (x : ℕ) → IsRootOf l.view x → IsListed l.reached.entries.items x;
  breadth : IsBreadthFirst (Leads l.view) (IsRootOf l.view) (place_at l.reached.entries.items)
      (via_at l.reached.entries.items) (length l.reached.entries.items) l.next;
  followed : IsFollowed l.view l.reached.entries.items l.next;
}

-- there are never more entries than a word can count
abbrev pub decreases-loop-next : goal.decreases-loop-next
decreases-loop-next l = 18446744073709551616 - l.next
