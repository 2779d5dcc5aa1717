use Rattle.std.proofs.Common.{◌≡◌, ℕ, true, ◌+◌, ◌-◌, ◌*◌, ◌^◌, length}
use Rattle.clr_bgmark.specs.Closing.{HasFollowed, HasFoundMore, IsAtWork}
use Rattle.clr_bgmark.specs.Pauses.{IsBehind, IsFound}
use Rattle.clr_bgmark.specs.Shades.{is_scanned}
use Rattle.clr_bgmark.proofs.background.Background.meet_due.Given as goal

abbrev pub invariant-loop-near : goal.invariant-loop-near
invariant-loop-near l = record {
  work : IsAtWork l.types l.heap l.self;
  more : HasFoundMore l.types l.heap (λ y. ⊥) l.initial.self l.self;
  black : (x : ℕ) → IsFound l.self.shades x → is_scanned l.self.shades x ≡ true
      → IsBehind l.self.shades l.spot.k l.spot.from x → HasFollowed l.types l.heap l.self.shades x;
}

abbrev pub decreases-loop-near : goal.decreases-loop-near
decreases-loop-near l = (length l.initial.self.shades - l.spot.k) * 2 ^ 64 + (2 ^ 64 - l.spot.from)
