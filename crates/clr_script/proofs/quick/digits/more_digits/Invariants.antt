use Rattle.std.proofs.Common.{◌≡◌, ◌<◌, ◌^◌, ◌++◌, decimal, length}
use Rattle.clr_script.proofs.quick.digits.more_digits.Given as goal

-- the digits so far are those of the number, and the rest stands behind them
abbrev pub invariant-loop-number : goal.invariant-loop-number
invariant-loop-number l = record {
  some : 0 < l.number;
  bound : l.number < 10 ^ 19;
  read : decimal l.front ++ l.text ≡ decimal l.number ++ l.rest;
}

abbrev pub decreases-loop-number : goal.decreases-loop-number
decreases-loop-number l = length l.rest
