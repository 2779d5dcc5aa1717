use Rattle.std.proofs.Common.{◌≡◌, ℕ, ◌-◌, ◌*◌, ◌/◌, ◌<◌, ◌≤◌, true, length}
use Rattle.clr_bgmark.specs.Bits.{has_bit}
use Rattle.clr_bgmark.specs.Shades.{is_gray_number}
use Rattle.clr_bgmark.proofs.shade.first_gray.Given as goal

abbrev pub invariant-loop-k : goal.invariant-loop-k
invariant-loop-k l = record {
  lowest : l.k ≡ l.pending.lowest;
  above : (n : ℕ) → has_bit l.pending.numbers n ≡ true → l.k ≤ n;
  length : length l.pending.numbers ≡ length l.initial.pending.numbers;
  pending : (n : ℕ) → n < 64 * l.past → is_gray_number l.marked l.scanned n ≡ true
      → has_bit l.pending.numbers (n / 64) ≡ true;
}

abbrev pub decreases-loop-k : goal.decreases-loop-k
decreases-loop-k l = l.past - l.k
