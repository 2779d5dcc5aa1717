use Rattle.std.proofs.Common.{◌-◌, ◌≤◌}
use Rattle.clr_heap.specs.View.{first_of}
use Rattle.clr_mark.specs.LargeMarks.{HasItemMark, IsKeptOutside, KeepsMarks}
use Rattle.clr_mark.proofs.Visiting.{IsVisiting}
use Rattle.clr_mark.proofs.large.mark_segment.Given as goal

abbrev pub invariant-loop-place : goal.invariant-loop-place
invariant-loop-place l = record {
  visiting : IsVisiting l.types l.initial.heap l.heap l.k (HasItemMark l.heap) l.place l.segment.end;
  kept : KeepsMarks l.initial.heap l.heap;
  outside : IsKeptOutside l.initial.heap l.heap l.k;
  up : first_of l.initial.heap l.k ≤ l.place;
}

abbrev pub decreases-loop-place : goal.decreases-loop-place
decreases-loop-place l = l.segment.end - l.place
