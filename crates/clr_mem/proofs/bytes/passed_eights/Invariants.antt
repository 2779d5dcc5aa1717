use Rattle.std.proofs.Common.{◌≡◌, ℕ, ◌+◌, ◌*◌, ◌<◌, length, drop, false}
use Rattle.clr_mem.specs.Words.{is_between, spelled}
use Rattle.clr_mem.proofs.bytes.passed_eights.Given as goal

abbrev pub invariant-loop-eight : goal.invariant-loop-eight
invariant-loop-eight l =
    record {
      rest : l.rest ≡ drop (64 * l.passed) l.bytes;
      sum : 64 * l.passed + length l.rest ≡ length l.bytes;
      before : (j : ℕ) → j < 8 * l.passed → is_between l.low l.high (spelled (drop (8 * j) l.bytes)) ≡ false;
    }

abbrev pub decreases-loop-eight : goal.decreases-loop-eight
decreases-loop-eight l = length l.rest
