-- The flags of the places so far were cleared, and whether one of them isn't left.
use Rattle.std.proofs.Common.{◌≡◌, false, take}
use Rattle.clr_collect.specs.Collecting.{AllLeft, HasUnflagged}
use Rattle.clr_collect.proofs.judging.clear_flags.Given as goal

abbrev pub invariant-loop-place : goal.invariant-loop-place
invariant-loop-place l = record {
  unflagged : HasUnflagged l.types l.fn.heap l.heap l.marker.oldest (take l.place-index l.places);
  left : l.any_dead ≡ false → AllLeft l.types l.fn.heap l.marker.oldest (take l.place-index l.places);
}
