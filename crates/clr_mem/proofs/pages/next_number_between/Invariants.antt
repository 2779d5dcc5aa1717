use Rattle.std.proofs.Common.{◌≡◌, ℕ, ◌<◌, get_or, false}
use Rattle.clr_mem.specs.Words.{is_between}
use Rattle.clr_mem.proofs.pages.next_number_between.Given as goal

abbrev pub invariant-loop-i : goal.invariant-loop-i
invariant-loop-i l = (j : ℕ) → j < l.i → is_between l.low l.high (get_or l.words j 0) ≡ false
