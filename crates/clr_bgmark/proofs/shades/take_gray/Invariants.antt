use Rattle.std.proofs.Common.{◌≡◌, ℕ, ◌-◌, ◌≤◌, true}
use Rattle.clr_bgmark.specs.Bits.{has_bit}
use Rattle.clr_bgmark.specs.Shades.{IsWatched}
use Rattle.clr_bgmark.proofs.shades.take_gray.Given as goal

abbrev pub invariant-loop-k : goal.invariant-loop-k
invariant-loop-k l = record {
  same : l.shades.items ≡ l.initial.shades.items;
  watched : IsWatched l.initial.shades.items l.pending.numbers;
  lowest : l.k ≡ l.pending.lowest;
  above : (n : ℕ) → has_bit l.pending.numbers n ≡ true → l.k ≤ n;
}

abbrev pub decreases-loop-k : goal.decreases-loop-k
decreases-loop-k l = l.past - l.k
