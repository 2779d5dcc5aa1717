use Rattle.std.proofs.Common.{◌-◌, ◌<◌, ◌≤◌, [], get_or, length, take}
use Rattle.clr_items.specs.Items.{lower_count}
use Rattle.clr_items.proofs.StretchRows.{AreBelow}
use Rattle.clr_items.proofs.rows.find_stretch.Given as goal

abbrev pub invariant-loop-low : goal.invariant-loop-low
invariant-loop-low l =
    (l.low ≤ l.high) × (l.high ≤ length l.fn.row) × AreBelow l.fn.place (take l.low l.fn.row)
    × (l.high < length l.fn.row
    → lower_count l.fn.place (get_or l.fn.row l.high []) < length (get_or l.fn.row l.high []))

abbrev pub decreases-loop-low : goal.decreases-loop-low
decreases-loop-low l = l.high - l.low
