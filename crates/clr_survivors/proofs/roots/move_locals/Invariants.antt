use Rattle.std.proofs.Common.{◌≡◌, length, map, take}
use Rattle.clr_model.specs.Compaction.{moved_by}
use Rattle.clr_moves.specs.Going.{IsStretchOf}
use Rattle.clr_survivors.specs.Roots.{AllGo, Guides, Plan}
use Rattle.clr_survivors.proofs.NamesGone.{AreSameFrom}
use Rattle.clr_survivors.proofs.roots.move_locals.Given as goal

-- The places before i have gone, the others are those of before. The stretch that was met last is one of the moves.
abbrev pub invariant-loop-i : goal.invariant-loop-i
invariant-loop-i l =
    (length l.locals ≡ length l.initial.locals)
    × AreSameFrom l.initial.locals l.locals l.i
    × ((p : Plan) → Guides p l.heap l.bricks l.g → AllGo p l.g l.initial.locals
    → (take l.i l.locals ≡ map (moved_by p.moves) (take l.i l.initial.locals))
    × IsStretchOf p.view l.g p.moves l.last)
