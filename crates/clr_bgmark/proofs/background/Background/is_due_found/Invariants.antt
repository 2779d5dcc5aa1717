use Rattle.std.proofs.Common.{ℕ, ◌+◌, ◌-◌, ◌*◌, ◌^◌, length}
use Rattle.clr_bgmark.specs.Closing.{NamesFound}
use Rattle.clr_bgmark.specs.Pauses.{IsFound}
use Rattle.clr_bgmark.specs.declared.shade.Search.TheVariants.{Logged}
use Rattle.clr_bgmark.proofs.RootedFound.{IsVisited}
use Rattle.clr_bgmark.proofs.background.Background.is_due_found.Given as goal

abbrev pub invariant-loop-near : goal.invariant-loop-near
invariant-loop-near l = (x : ℕ) → IsFound l.self.shades x
    → IsVisited Logged l.self.shades l.spot.k l.spot.from x → NamesFound l.types l.heap l.self.shades x

abbrev pub decreases-loop-near : goal.decreases-loop-near
decreases-loop-near l = (length l.self.shades - l.spot.k) * 2 ^ 64 + (2 ^ 64 - l.spot.from)
