use Rattle.std.proofs.Common.{◌-◌, ◌≤◌}
use Rattle.clr_bricks.specs.Bricks.{AreLedBack, entry_at}
use Rattle.clr_generations.specs.Renewing as renewing
use Rattle.clr_generations.proofs.Renewed.{IsRenewing}
use Rattle.clr_generations.proofs.renewing.renew_part.Given as goal

abbrev pub invariant-loop-brick : goal.invariant-loop-brick
invariant-loop-brick l = record {
  renewing : IsRenewing l.types l.heap (renewing.passes l.counted) l.k l.from l.fn.bricks l.bricks l.brick l.next;
  led_low : l.next ≤ l.led;
  led_high : l.led ≤ l.brick;
  led : AreLedBack (entry_at l.bricks) l.next l.led;
}

abbrev pub decreases-loop-brick : goal.decreases-loop-brick
decreases-loop-brick l = l.end - l.brick
