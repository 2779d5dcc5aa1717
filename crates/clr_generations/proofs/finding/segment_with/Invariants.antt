use Rattle.std.proofs.Common.{ℕ, ◌<◌, ◌≤◌, ◌⊎◌}
use Rattle.clr_heap.specs.View.{first_of, last_of}
use Rattle.clr_generations.proofs.finding.segment_with.Given as goal

abbrev pub invariant-loop-k : goal.invariant-loop-k
invariant-loop-k l = (j : ℕ) → j < l.k → (l.a < first_of l.heap j) ⊎ (last_of l.heap j ≤ l.a)
