use Rattle.std.proofs.Common.{◌≡◌, ◌+◌, ◌≤◌, drop}
use Rattle.clr_safe.specs.Threads.{owed_in}
use Rattle.clr_safe.proofs.safe.Safe.count_owed.Given as goal

abbrev pub invariant-loop-what : goal.invariant-loop-what
invariant-loop-what l = record {
  counted : l.owed + owed_in (drop l.what-index l.self.begun) ≡ owed_in l.self.begun;
  few : l.owed ≤ l.what-index;
}
