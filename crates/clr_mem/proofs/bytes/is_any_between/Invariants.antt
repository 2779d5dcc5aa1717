use Rattle.std.proofs.Common.{◌≡◌, ℕ, ◌*◌, ◌<◌, drop, false}
use Rattle.clr_mem.specs.Words.{is_between, spelled}
use Rattle.clr_mem.proofs.bytes.is_any_between.Given as goal

abbrev pub invariant-loop-i : goal.invariant-loop-i
invariant-loop-i l =
    l.any ≡ false → (j : ℕ) → j < l.i → is_between l.low l.high (spelled (drop (8 * j) l.eight)) ≡ false
