use Rattle.std.proofs.Common.{◌≡◌, ℕ, ◌<◌, length, get_or}
use Rattle.clr_heap.specs.View.{segment_at}
use Rattle.clr_bgmark.specs.FirstParts.{IsUntold, no_part}
use Rattle.clr_bgmark.specs.Pauses.{used_size}
use Rattle.clr_bgmark.proofs.first_pause.parts_of.Given as goal

abbrev pub invariant-loop-k : goal.invariant-loop-k
invariant-loop-k l = record {
  count : length l.parts.items ≡ l.k;
  each : (j : ℕ) → j < l.k → IsUntold (used_size (segment_at l.heap j)) (get_or l.parts.items j no_part);
}
