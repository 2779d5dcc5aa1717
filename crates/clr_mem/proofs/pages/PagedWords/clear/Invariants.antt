use Rattle.std.proofs.Common.{◌≡◌, ◌-◌, ◌≤◌}
use Rattle.clr_mem.specs.Words.{overwrite, zeros}
use Rattle.clr_mem.proofs.pages.PagedWords.clear.Given as goal

abbrev pub invariant-loop-done : goal.invariant-loop-done
invariant-loop-done l = (l.done ≤ l.n) × (l.self ≡ overwrite l.fn.self l.at (zeros l.done))

abbrev pub decreases-loop-done : goal.decreases-loop-done
decreases-loop-done l = l.n - l.done
