use Rattle.std.proofs.Common.{◌≡◌, ◌<◌, ℕ, [], false, get_or, length}
use Rattle.clr_sos.specs.Bits.{has_bit}
use Rattle.clr_sos.specs.Reaching.{HasRoomAt}
use Rattle.clr_sos.proofs.reach.Reached.new.Given as goal

abbrev pub invariant-loop-k : goal.invariant-loop-k
invariant-loop-k l = record {
  count : length l.seen.items ≡ l.k;
  room : (j : ℕ) → j < l.k → HasRoomAt l.heap l.seen.items j;
  clear : (j n : ℕ) → has_bit (get_or l.seen.items j []) n ≡ false;
}
