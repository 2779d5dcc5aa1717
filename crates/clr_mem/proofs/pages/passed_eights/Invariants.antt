use Rattle.std.proofs.Common.{◌≡◌, ℕ, ◌+◌, ◌*◌, ◌<◌, length, drop, get_or, false}
use Rattle.clr_mem.specs.Words.{is_between}
use Rattle.clr_mem.proofs.pages.passed_eights.Given as goal

abbrev pub invariant-loop-eight : goal.invariant-loop-eight
invariant-loop-eight l =
    record {
      rest : l.rest ≡ drop (8 * l.passed) l.words;
      sum : 8 * l.passed + length l.rest ≡ length l.words;
      before : (j : ℕ) → j < 8 * l.passed → is_between l.low l.high (get_or l.words j 0) ≡ false;
    }

abbrev pub decreases-loop-eight : goal.decreases-loop-eight
decreases-loop-eight l = length l.rest
