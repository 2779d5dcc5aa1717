use Rattle.std.proofs.Common.{◌≡◌, ℕ, ◌+◌, ◌*◌, ◌<◌, ◌||◌, ◌++◌, length}
use Rattle.clr_sos.specs.Faults.{stands}
use Rattle.clr_sos.specs.Windows.{bit_of}
use Rattle.clr_sos.proofs.verify.starts.mark_segment.Given as goal

abbrev pub invariant-loop-item : goal.invariant-loop-item
invariant-loop-item l = record {
  walked : l.yielded ++ l.item-iterator ≡ l.initial.item-iterator;
  bits : (j : ℕ) → j < 64 * length l.initial.bits
      → bit_of l.bits j ≡ (bit_of l.initial.bits j || stands l.yielded (l.window.start + 8 * j));
}
