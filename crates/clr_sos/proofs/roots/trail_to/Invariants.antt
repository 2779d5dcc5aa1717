use Rattle.std.proofs.Common.{◌<◌, length, reverse}
use Rattle.clr_sos.specs.Reaching.{place_at}
use Rattle.clr_sos.specs.RootTexts.{IsTrail}
use Rattle.clr_sos.proofs.roots.trail_to.Given as goal

abbrev pub invariant-loop-i : goal.invariant-loop-i
invariant-loop-i l = record {
  inside : l.i < length l.entries;
  trail : IsTrail l.entries (place_at l.entries l.last) l.i (reverse l.places.items);
}

-- each index is lower than the one before it
abbrev pub decreases-loop-i : goal.decreases-loop-i
decreases-loop-i l = l.i
