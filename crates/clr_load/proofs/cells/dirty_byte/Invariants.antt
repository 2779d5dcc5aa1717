-- Nothing is found up to word i.
use Rattle.std.proofs.Common.{◌≡◌, ◌+◌, ◌-◌, ◌*◌}
use Rattle.clr_sos.specs.CheckedCells.{first_in_words}
use Rattle.clr_load.specs.Scans.{words_in}
use Rattle.clr_load.proofs.cells.dirty_byte.Given as goal

abbrev pub invariant-loop-i : goal.invariant-loop-i
invariant-loop-i l =
    first_in_words (l.n - l.i) l.from (words_in l.scan) (l.a + 8 * l.i)
    ≡ first_in_words l.n l.from (words_in l.scan) l.a
