use Rattle.std.proofs.Common.{◌≡◌, length}
use Rattle.clr_bgmark.proofs.first_pause.fronts_of.Given as goal

abbrev pub invariant-loop : goal.invariant-loop
invariant-loop l = length l.fronts.items ≡ l.counter
