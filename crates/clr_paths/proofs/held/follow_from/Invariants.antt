use Rattle.std.proofs.Common.{◌≡◌, ℕ, ◌+◌, ◌-◌, ◌<◌, ◌≤◌, length}
use Rattle.clr_sos.specs.Reaching.{HasGrown, IsListed, IsSearch, Leads, place_at}
use Rattle.clr_paths.specs.Held.{bytes_among}
use Rattle.clr_paths.proofs.held.follow_from.Given as goal

abbrev pub invariant-loop-next : goal.invariant-loop-next
invariant-loop-next l = record {
  search : IsSearch l.view l.reached.seen.items l.reached.entries.items;
  grown : HasGrown l.initial.reached.entries.items l.reached.entries.items;
  from : l.start ≤ l.next;
  within : l.next ≤ length l.reached.entries.items;
  followed : (j y : ℕ) → l.start ≤ j → j < l.next → Leads l.view (place_at l.reached.entries.items j) y
      → IsListed l.reached.entries.items y;
  bytes : l.bytes + bytes_among l.view l.reached.entries.items l.start
      ≡ bytes_among l.view l.reached.entries.items l.next;
}

-- there are never more entries than a word can count
abbrev pub decreases-loop-next : goal.decreases-loop-next
decreases-loop-next l = 18446744073709551616 - l.next
