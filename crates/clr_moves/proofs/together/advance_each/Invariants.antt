use Rattle.std.specs.List.{All}
use Rattle.clr_plugs.specs.BrickEntries.{BricksView}
use Rattle.clr_moves.specs.Together.{IsSearchIn}
use Rattle.clr_moves.specs.declared.condemned.Condemned.{Condemned}
use Rattle.clr_moves.proofs.together.advance_each.Given as goal

abbrev pub invariant-loop-search : goal.invariant-loop-search
invariant-loop-search l =
    (bricks : BricksView) (g : Condemned) → All (IsSearchIn l.heap bricks g) l.initial.searches
    → All (IsSearchIn l.heap bricks g) l.searches
