use Rattle.std.proofs.Common.{◌-◌, ◌≤◌}
use Rattle.clr_paths.specs.AllRoots.{node_at, PutsRoots}
use Rattle.clr_paths.proofs.RootBlocks.{held_below}
use Rattle.clr_paths.proofs.all_roots.put_targets.Given as goal

abbrev pub invariant-loop-number : goal.invariant-loop-number
invariant-loop-number l = record {
  told : PutsRoots l.view (node_at l.numbers.places.items l.ways 0) (held_below l.from) l.count l.initial.text.items
      l.text.items;
  few : l.count ≤ l.from;
  within : l.from ≤ 65536;
}

abbrev pub decreases-loop-number : goal.decreases-loop-number
decreases-loop-number l = 65536 - l.from
