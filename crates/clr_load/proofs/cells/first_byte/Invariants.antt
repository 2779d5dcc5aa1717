use Rattle.std.proofs.Common.{◌≡◌, ◌+◌, ◌-◌}
use Rattle.clr_sos.specs.CheckedCells.{first_byte}
use Rattle.clr_load.proofs.cells.first_byte.Given as goal

abbrev pub invariant-loop-i : goal.invariant-loop-i
invariant-loop-i l = first_byte (8 - l.i) l.from (l.a + l.i) l.rest ≡ first_byte 8 l.from l.a l.word
