use Rattle.std.proofs.Common.{◌≡◌, ◌≤◌, ◌-◌}
use Rattle.clr_paths.specs.AllRoots.{AreWaysUpTo, count_of, node_at}
use Rattle.clr_paths.proofs.all_roots.ways_to.Given as goal

abbrev pub invariant-loop-next : goal.invariant-loop-next
invariant-loop-next l = record {
  ways : AreWaysUpTo l.view l.numbers.places.items l.ways l.next;
  goal : node_at l.numbers.places.items l.ways 0 ≡ l.a;
  within : l.next ≤ count_of l.ways;
}

-- there are never more entries than a word can count
abbrev pub decreases-loop-next : goal.decreases-loop-next
decreases-loop-next l = 18446744073709551616 - l.next
