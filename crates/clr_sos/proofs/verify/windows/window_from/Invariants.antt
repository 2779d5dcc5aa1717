use Rattle.std.proofs.Common.{◌≡◌, ℕ, ◌%◌, ◌^◌, ◌<◌, ◌≤◌}
use Rattle.clr_heap.specs.View.{first_of, last_of}
use Rattle.clr_sos.proofs.verify.windows.window_from.Given as goal

abbrev pub invariant-loop-k : goal.invariant-loop-k
invariant-loop-k l = record {
  low : l.from ≤ l.start;
  aligned : l.start % 8 ≡ 0;
  small : l.top ≤ 2 ^ 62;
  each : (j x : ℕ) → j < l.k → l.from ≤ x → first_of l.heap j ≤ x → x < last_of l.heap j → (l.start ≤ x) × (x < l.top);
}
