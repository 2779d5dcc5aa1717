use Rattle.std.proofs.Common.{◌-◌}
use Rattle.clr_heap.specs.ObjectKinds.{IsObjectKind}
use Rattle.clr_heap.specs.Parts.{parts}
use Rattle.clr_heap.specs.View.{items_between, last_of, sight}
use Rattle.clr_compact.specs.Rewrites.{cleared, IsRewriting}
use Rattle.clr_compact.proofs.EnteringWalks.{AreWalks, IsSettling}
use Rattle.clr_compact.proofs.entering.enter_bricks.Given as goal

abbrev pub invariant-loop-place : goal.invariant-loop-place
invariant-loop-place l = record {
  rewriting : IsRewriting
      (cleared (items_between (sight l.types l.initial.heap l.k) l.fn.from (last_of l.initial.heap l.k)))
      l.types l.k (parts (last_of l.initial.heap l.k) (sight l.types l.initial.heap l.k) l.fn.from
      (last_of l.initial.heap l.k)) l.initial.heap l.heap l.place (last_of l.initial.heap l.k);
  settling : IsSettling l.initial.heap l.k l.initial.bricks l.bricks l.next;
  walks : AreWalks l.types l.initial.heap l.k l.fn.from l.initial.bricks l.bricks l.place l.next;
  known : IsObjectKind l.types l.known;
}

abbrev pub decreases-loop-place : goal.decreases-loop-place
decreases-loop-place l = l.segment.end - l.place
