use Rattle.std.proofs.Common.{◌≡◌, ◌-◌, ◌≤◌}
use Rattle.clr_types.specs.Descriptors.{offsets_from}
use Rattle.clr_heap.specs.View.{word_of}
use Rattle.clr_bgmark.specs.Shades.{met_all}
use Rattle.clr_bgmark.proofs.background.Background.meet_long_run.Given as goal

abbrev pub invariant-loop-i : goal.invariant-loop-i
invariant-loop-i l = record {
  high : l.i ≤ l.run.count;
  met : l.self ≡ met_all (word_of l.heap) l.fn.self l.obj (offsets_from l.run.offset l.i);
}

abbrev pub decreases-loop-i : goal.decreases-loop-i
decreases-loop-i l = l.run.count - l.i
