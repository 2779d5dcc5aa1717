use Rattle.std.proofs.Common.{◌-◌, ◌≤◌}
use Rattle.clr_heap.specs.View.{word_of}
use Rattle.clr_bgmark.specs.Lending.{HasMetNear, StaysLawful}
use Rattle.clr_bgmark.proofs.lending.meet_lent.Given as goal

abbrev pub invariant-loop-i : goal.invariant-loop-i
invariant-loop-i l = record {
  low : l.fn.from ≤ l.i;
  high : l.i ≤ l.run.count;
  few : l.found ≤ l.i;
  lawful : StaysLawful l.initial.shade l.shade;
  met : HasMetNear (word_of l.heap) l.obj l.run.offset l.fn.from l.i l.initial.shade l.shade l.found;
}

abbrev pub decreases-loop-i : goal.decreases-loop-i
decreases-loop-i l = l.run.count - l.i
