use Rattle.std.proofs.Common.{◌≡◌, ℕ}
use Rattle.clr_bricks.specs.Bricks.{entry_at}
use Rattle.clr_covers.specs.Covers.{spans}
use Rattle.clr_generations.specs.Renewing.{led_back}
use Rattle.clr_generations.proofs.old_births.lead_back.Given as goal

abbrev pub invariant-loop-brick : goal.invariant-loop-brick
invariant-loop-brick l = record {
  entries : (i : ℕ) → entry_at l.bricks i ≡ led_back (entry_at l.initial.bricks) l.next l.brick i;
  spans : spans l.bricks ≡ spans l.initial.bricks;
}
