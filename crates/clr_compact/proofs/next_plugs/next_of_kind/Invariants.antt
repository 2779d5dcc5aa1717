use Rattle.std.proofs.Common.{ℕ, List, ◌-◌}
use Rattle.clr_model.specs.Compaction.{Move}
use Rattle.clr_compact.specs.NextPlugs.{GivesFrom}
use Rattle.clr_compact.proofs.PassingPlugs.{IsPassing}
use Rattle.clr_compact.proofs.next_plugs.next_of_kind.Given as goal

abbrev pub invariant-loop-plug : goal.invariant-loop-plug
invariant-loop-plug l =
    (vs : List Move) (start : ℕ) → GivesFrom l.types l.heap l.bricks l.g vs start l.initial.moves
    → IsPassing l.types l.heap l.bricks l.g l.going vs start l.moves l.place

abbrev pub decreases-loop-plug : goal.decreases-loop-plug
decreases-loop-plug l = l.heap.top - l.place
