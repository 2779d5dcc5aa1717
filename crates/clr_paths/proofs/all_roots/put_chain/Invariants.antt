use Rattle.std.proofs.Common.{◌≡◌, ℕ, List, ◌++◌}
use Rattle.std.specs.List.{flat_map}
use Rattle.clr_sos.specs.RootTexts.{place_line}
use Rattle.clr_paths.proofs.WayChains.{IsHalfWay}
use Rattle.clr_paths.proofs.all_roots.put_chain.Given as goal

abbrev pub invariant-loop-way : goal.invariant-loop-way
invariant-loop-way l =
    (shown : List ℕ) × IsHalfWay l.numbers.places.items l.ways l.fn.entry l.way shown
    × (l.text.items ≡ l.fn.text.items ++ flat_map (place_line l.view) shown)

-- each next entry is an earlier one
abbrev pub decreases-loop-way : goal.decreases-loop-way
decreases-loop-way l = l.way.next
