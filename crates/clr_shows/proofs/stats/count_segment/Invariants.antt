use Rattle.std.proofs.Common.{◌≡◌, ◌++◌, ℕ, Bool, length}
use Rattle.clr_heap.specs.View.{heap_items, listings}
use Rattle.clr_sos.specs.Wants.{AnswersFor}
use Rattle.clr_shows.specs.StatBounds.{AreWithin}
use Rattle.clr_shows.specs.Stats.{AreCounted}
use Rattle.clr_shows.proofs.stats.count_segment.Given as goal

abbrev pub invariant-loop-item : goal.invariant-loop-item
invariant-loop-item g l = record {
  lines : length l.stats ≡ 6;
  walked : l.yielded ++ l.item-iterator ≡ l.initial.item-iterator;
  within : AreWithin l.stats (listings l.view.types.now l.view.heap.now 0 l.k ++ l.yielded);
  counted : (test : ℕ → Bool)
      → AnswersFor (λ place answer. goal.F-post g l.live place answer) test
      (heap_items l.view.types.now l.view.heap.now)
      → AreCounted l.view.types.now l.view.heap.now test l.initial.stats
      (listings l.view.types.now l.view.heap.now 0 l.k)
      → AreCounted l.view.types.now l.view.heap.now test l.stats
      (listings l.view.types.now l.view.heap.now 0 l.k ++ l.yielded);
}
