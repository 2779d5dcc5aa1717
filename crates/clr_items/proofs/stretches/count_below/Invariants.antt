use Rattle.std.specs.Prelude.{◌-◌, ◌≤◌, length}
use Rattle.clr_items.specs.Items.{lower_count}
use Rattle.clr_items.proofs.stretches.count_below.Given as goal

abbrev pub invariant-loop-low : goal.invariant-loop-low
invariant-loop-low l =
    (l.low ≤ lower_count l.fn.place l.fn.items) × (lower_count l.fn.place l.fn.items ≤ l.high)
    × (l.high ≤ length l.fn.items)

abbrev pub decreases-loop-low : goal.decreases-loop-low
decreases-loop-low l = l.high - l.low
