use Rattle.std.proofs.Common.{◌≡◌, ◌++◌}
use Rattle.clr_bricks.specs.Bricks.{entry_at}
use Rattle.clr_covers.specs.Covers.{spans}
use Rattle.clr_heap.specs.View.{frame, listings, word_of}
use Rattle.clr_view.specs.View.{objects_among}
use Rattle.clr_generations.specs.Laws.{BrickLaw}
use Rattle.clr_generations.proofs.standing.enter_segment.Given as goal

abbrev pub invariant-loop-item : goal.invariant-loop-item
invariant-loop-item l = record {
  walked : l.yielded ++ l.item-iterator ≡ l.initial.item-iterator;
  law : BrickLaw l.types (frame l.heap)
      (objects_among l.types (word_of l.heap) (listings l.types l.heap 0 l.k ++ l.yielded)) (entry_at l.bricks);
  spans : spans l.bricks ≡ spans l.initial.bricks;
}
