use Rattle.std.proofs.Common.{◌≡◌, ◌≤◌, ℕ}
use Rattle.clr_bricks.specs.Bricks.{entry_at, led_back}
use Rattle.clr_covers.specs.Covers.{spans}
use Rattle.clr_bricks.proofs.bricks.Bricks.lead_on.Given as goal

abbrev pub invariant-loop-brick : goal.invariant-loop-brick
invariant-loop-brick l = record {
  entries : (i : ℕ) → entry_at l.self i ≡ led_back (entry_at l.initial.self) l.from l.brick i;
  spans : spans l.self ≡ spans l.initial.self;
  low : l.from ≤ l.brick;
}
