use Rattle.std.proofs.Common.{◌≡◌, ℕ, ◌+◌, ◌-◌, ◌<◌, ◌≤◌, false, get_or}
use Rattle.clr_mem.specs.Words.{is_between}
use Rattle.clr_mem.proofs.pages.PagedWords.first_between.Given as goal

-- none of the words that were passed is one of the numbers
abbrev pub invariant-loop-passed : goal.invariant-loop-passed
invariant-loop-passed l =
    (l.passed ≤ l.n)
    × ((j : ℕ) → j < l.passed → is_between l.low l.high (get_or l.self (l.i + j) 0) ≡ false)

abbrev pub decreases-loop-passed : goal.decreases-loop-passed
decreases-loop-passed l = l.n - l.passed
