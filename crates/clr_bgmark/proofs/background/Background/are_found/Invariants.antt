use Rattle.std.proofs.Common.{ℕ, ◌<◌, get_or}
use Rattle.clr_bgmark.specs.Closing.{IsNullOrFound}
use Rattle.clr_bgmark.proofs.background.Background.are_found.Given as goal

abbrev pub invariant-loop-place : goal.invariant-loop-place
invariant-loop-place l = (j : ℕ) → j < l.place-index → IsNullOrFound l.self.shades (get_or l.places j 0)
