use Rattle.std.proofs.Common.{◌≡◌, ◌<◌, ℕ, false, nat_eq}
use Rattle.clr_sos.specs.Reaching.{place_at}
use Rattle.clr_sos.proofs.reach.Reached.find.Given as goal

abbrev pub invariant-loop-i : goal.invariant-loop-i
invariant-loop-i l = (j : ℕ) → j < l.i → nat_eq (place_at l.self.entries.items j) l.place ≡ false
