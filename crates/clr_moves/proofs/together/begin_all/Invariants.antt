use Rattle.std.specs.List.{All}
use Rattle.clr_moves.specs.Together.{IsSearchIn}
use Rattle.clr_moves.proofs.together.begin_all.Given as goal

abbrev pub invariant-loop-i : goal.invariant-loop-i
invariant-loop-i l =
    All (IsSearchIn l.heap l.bricks l.g) l.initial.searches → All (IsSearchIn l.heap l.bricks l.g) l.searches
