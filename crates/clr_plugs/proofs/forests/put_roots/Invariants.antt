use Rattle.std.proofs.Common.{◌-◌, ◌≤◌, take}
use Rattle.clr_heap.specs.View.{HeapView, word_of}
use Rattle.clr_plugs.specs.Cursors.{AreLeft, starts_between}
use Rattle.clr_plugs.specs.Plans.{plug_starts}
use Rattle.clr_plugs.proofs.Roots.{AreRooted}
use Rattle.clr_plugs.proofs.forests.put_roots.Given as goal

abbrev pub invariant-loop-brick : goal.invariant-loop-brick
invariant-loop-brick l = record {
  rooted : (h : HeapView) (left : AreLeft h l.bricks l.first l.past)
      → AreRooted (word_of h) (starts_between l.first l.past (plug_starts left.part.plugs)) l.first l.brick
      (take l.count l.into);
  few : l.count ≤ l.brick - l.first;
}
