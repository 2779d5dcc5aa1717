use Rattle.std.proofs.Common.{◌≡◌, ◌+◌}
use Rattle.clr_low_tests.proofs.numbers.take_steps.Given as goal

abbrev pub invariant-loop-step : goal.invariant-loop-step
invariant-loop-step g l = l.steps ≡ l.fn.steps + l._step
