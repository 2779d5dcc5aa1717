use Rattle.std.proofs.Common.{◌-◌, List, length}
use Rattle.clr_types.specs.Types.{TypeRow}
use Rattle.clr_model.specs.Compaction.{Move}
use Rattle.clr_moves.specs.PlugMoves.{Gives}
use Rattle.clr_moves.proofs.plug_moves.PlugMoves.seek.Given as goal

abbrev pub invariant-loop-self : goal.invariant-loop-self
invariant-loop-self l =
    (rows : List TypeRow) (vs : List Move) → Gives rows l.heap l.bricks l.g l.initial.self vs
    → Gives rows l.heap l.bricks l.g l.self vs

abbrev pub decreases-loop-self : goal.decreases-loop-self
decreases-loop-self l = length l.heap.segments - l.self.segment
