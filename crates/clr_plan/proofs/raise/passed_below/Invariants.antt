use Rattle.std.proofs.Common.{◌≡◌, ◌-◌, ◌≤◌, filter, length, nat_le}
use Rattle.clr_types.specs.Rising.{IsRisingBy}
use Rattle.clr_plan.specs.Waiting.{ranges_from}
use Rattle.clr_plan.proofs.raise.passed_below.Given as goal

abbrev pub invariant-loop-pin : goal.invariant-loop-pin
invariant-loop-pin l =
    (l.i ≤ length l.queue.entries) × IsRisingBy (λ x. x.place) (ranges_from l.i l.queue.entries)
    × (filter (λ x. nat_le l.place x.place) (ranges_from l.i l.queue.entries) ≡ filter (λ x. nat_le l.place x.place)
    (ranges_from l.passed l.queue.entries))

abbrev pub decreases-loop-pin : goal.decreases-loop-pin
decreases-loop-pin l = length l.queue.entries - l.i
