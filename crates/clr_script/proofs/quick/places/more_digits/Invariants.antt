use Rattle.std.proofs.Common.{◌≡◌, ◌<◌, ◌≤◌, ◌-◌, ◌^◌, ◌++◌, decimal, drop, length}
use Rattle.clr_script.proofs.quick.places.more_digits.Given as goal

-- the digits so far are those of the number, and the rest stands at the place
abbrev pub invariant-loop-number : goal.invariant-loop-number
invariant-loop-number l = record {
  some : 0 < l.number;
  bound : l.number < 10 ^ 19;
  read : decimal l.front ++ drop l.from l.text ≡ decimal l.number ++ drop l.at l.text;
  within : l.at ≤ length l.text;
}

abbrev pub decreases-loop-number : goal.decreases-loop-number
decreases-loop-number l = length l.text - l.at
