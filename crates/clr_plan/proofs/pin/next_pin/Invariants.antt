use Rattle.std.proofs.Common.{◌≡◌, ◌≤◌, ◌-◌, length}
use Rattle.clr_plan.specs.Waiting.{ranges_from}
use Rattle.clr_plan.proofs.pin.next_pin.Given as goal

abbrev pub invariant-loop-i : goal.invariant-loop-i
invariant-loop-i l = (l.start ≤ l.i) × (l.i ≤ length l.queue.entries)
    × (ranges_from l.i l.queue.entries ≡ ranges_from l.start l.queue.entries)

abbrev pub decreases-loop-i : goal.decreases-loop-i
decreases-loop-i l = length l.queue.entries - l.i
