use Rattle.std.proofs.Common.{◌≡◌, ℕ, ◌+◌, ◌*◌, ◌<◌, length, drop, false}
use Rattle.clr_mem.specs.Words.{is_between, spelled}
use Rattle.clr_mem.proofs.bytes.next_between.Given as goal

abbrev pub invariant-loop-word : goal.invariant-loop-word
invariant-loop-word l =
    record {
      rest : l.rest ≡ drop (8 * l.passed) l.bytes;
      sum : 8 * l.passed + length l.rest ≡ length l.bytes;
      before : (j : ℕ) → j < l.passed → is_between l.low l.high (spelled (drop (8 * j) l.bytes)) ≡ false;
    }

abbrev pub decreases-loop-word : goal.decreases-loop-word
decreases-loop-word l = length l.rest
