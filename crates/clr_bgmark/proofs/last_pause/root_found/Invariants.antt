use Rattle.std.proofs.Common.{◌+◌, ◌-◌, ◌*◌, ◌^◌, length}
use Rattle.clr_mark.proofs.Rooting.{IsRooting}
use Rattle.clr_bgmark.specs.Pauses.{IsFound}
use Rattle.clr_bgmark.proofs.RootedFound.{IsVisited}
use Rattle.clr_bgmark.proofs.last_pause.root_found.Given as goal

abbrev pub invariant-loop-k : goal.invariant-loop-k
invariant-loop-k l = IsRooting l.types l.initial.heap l.heap l.initial.marker l.marker
    (IsFound l.shades.items) (IsVisited l.search l.shades.items l.spot.k l.spot.from)

abbrev pub decreases-loop-k : goal.decreases-loop-k
decreases-loop-k l = (length l.shades.items - l.spot.k) * 2 ^ 64 + (2 ^ 64 - l.spot.from)
