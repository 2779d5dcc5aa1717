use Rattle.std.proofs.Common.{◌≡◌, ℕ}
use Rattle.std.specs.Int.{bit_at}
use Rattle.clr_bgmark.specs.LastPause.{IsInWord}
use Rattle.clr_bgmark.proofs.EachMarked.{IsMarking}
use Rattle.clr_bgmark.proofs.last_pause.mark_word.Given as goal

abbrev pub invariant-loop-rest : goal.invariant-loop-rest
invariant-loop-rest l = record {
  marking : IsMarking l.types (IsInWord l.place l.bits) (IsInWord l.place l.rest) l.initial.heap l.heap;
  among : (i : ℕ) → bit_at l.rest i ≡ 1 → bit_at l.bits i ≡ 1;
}

abbrev pub decreases-loop-rest : goal.decreases-loop-rest
decreases-loop-rest l = l.rest
