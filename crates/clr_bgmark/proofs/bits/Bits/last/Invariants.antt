use Rattle.std.proofs.Common.{◌≡◌, ℕ, ◌<◌, ◌≤◌, false}
use Rattle.clr_bgmark.specs.Bits.{has_bit}
use Rattle.clr_bgmark.proofs.bits.Bits.last.Given as goal

abbrev pub invariant-loop-end : goal.invariant-loop-end
invariant-loop-end l = (l.end ≤ l.before) × ((i : ℕ) → l.end ≤ i → i < l.before → has_bit l.self i ≡ false)

abbrev pub decreases-loop-end : goal.decreases-loop-end
decreases-loop-end l = l.end
