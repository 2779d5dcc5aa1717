use Rattle.std.proofs.Common.{◌≡◌, ℕ, ◌+◌, ◌*◌, ◌<◌, length}
use Rattle.clr_heap.specs.View.{listings}
use Rattle.clr_sos.specs.Faults.{stands}
use Rattle.clr_sos.specs.Windows.{bit_of}
use Rattle.clr_sos.proofs.verify.starts.mark_starts.Given as goal

abbrev pub invariant-loop-k : goal.invariant-loop-k
invariant-loop-k l =
    (j : ℕ) → j < 64 * length l.bits → bit_of l.bits j ≡ stands (listings l.types l.heap 0 l.k) (l.window.start + 8 * j)
