use Rattle.std.proofs.Common.{◌+◌, ◌≤◌, length}
use Rattle.clr_paths.specs.AllRoots.{AreMarked, HasMet, way_at}
use Rattle.clr_paths.proofs.WaysBack.{IsHalfFollowed}
use Rattle.clr_paths.proofs.all_roots.Ways.follow.Given as goal

abbrev pub invariant-loop-e : goal.invariant-loop-e
invariant-loop-e l = record {
  marks : AreMarked (length l.initial.self.at.items) l.self;
  met : HasMet l.initial.self l.self (l.i + 1);
  half : IsHalfFollowed l.incoming (way_at l.initial.self l.i).number l.e l.initial.self l.self;
  within : l.e ≤ length l.incoming.edges.items;
}

-- each edge of a list is an earlier one
abbrev pub decreases-loop-e : goal.decreases-loop-e
decreases-loop-e l = l.e
