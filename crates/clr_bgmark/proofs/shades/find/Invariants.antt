use Rattle.std.proofs.Common.{◌-◌, ◌<◌, ◌≤◌, length}
use Rattle.clr_bgmark.proofs.Rising.{NoneCovers}
use Rattle.clr_bgmark.proofs.shades.find.Given as goal

abbrev pub invariant-loop-low : goal.invariant-loop-low
invariant-loop-low l = record {
  before : NoneCovers l.shades.items 0 l.low l.a;
  behind : NoneCovers l.shades.items l.high (length l.shades.items) l.a;
  apart : l.low < l.high;
  within : l.high ≤ length l.shades.items;
}

abbrev pub decreases-loop-low : goal.decreases-loop-low
decreases-loop-low l = l.high - l.low
