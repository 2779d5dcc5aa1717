use Rattle.std.proofs.Common.{◌≡◌, length}
use Rattle.clr_mark.proofs.marker.overflow.OverflowRanges.clear.Given as goal

abbrev pub decreases-loop-self : goal.decreases-loop-self
decreases-loop-self l = length l.self
