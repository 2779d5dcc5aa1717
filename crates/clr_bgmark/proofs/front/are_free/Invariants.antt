use Rattle.std.proofs.Common.{◌≡◌, ◌⊎◌, ℕ, ◌+◌, ◌*◌}
use Rattle.std.specs.Int.{bit_at}
use Rattle.clr_heap.specs.View.{word_of}
use Rattle.clr_bgmark.specs.Settling.{IsFreeGap}
use Rattle.clr_bgmark.proofs.front.are_free.Given as goal

abbrev pub invariant-loop-rest : goal.invariant-loop-rest
invariant-loop-rest l = record {
  left : (i : ℕ) → bit_at l.gaps i ≡ 1 → (bit_at l.rest i ≡ 1) ⊎ IsFreeGap (word_of l.heap) l.shade (l.place + 8 * i);
  among : (i : ℕ) → bit_at l.rest i ≡ 1 → bit_at l.gaps i ≡ 1;
}

abbrev pub decreases-loop-rest : goal.decreases-loop-rest
decreases-loop-rest l = l.rest
