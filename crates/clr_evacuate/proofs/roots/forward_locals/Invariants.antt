use Rattle.std.proofs.Common.{◌≡◌, ℕ, length, map, take}
use Rattle.clr_evacuate.specs.Forwarding.{LeadsBy}
use Rattle.clr_evacuate.proofs.NamesGone.{AreSameFrom}
use Rattle.clr_evacuate.proofs.roots.forward_locals.Given as goal

-- The places before i have gone, the others are those of before.
abbrev pub invariant-loop-i : goal.invariant-loop-i
invariant-loop-i l =
    (length l.locals ≡ length l.initial.locals)
    × AreSameFrom l.initial.locals l.locals l.i
    × ((go : ℕ → ℕ) → LeadsBy l.types l.heap go → take l.i l.locals ≡ map go (take l.i l.initial.locals))
