use Rattle.std.proofs.Common.{ℕ, Bool}
use Rattle.clr_heap.specs.View.{heap_items, listings}
use Rattle.clr_sos.specs.Wants.{AnswersFor}
use Rattle.clr_shows.specs.StatBounds.{AreWithin}
use Rattle.clr_shows.specs.Stats.{AreCounted}
use Rattle.clr_shows.proofs.stats.stats_of.Given as goal

abbrev pub invariant-loop-k : goal.invariant-loop-k
invariant-loop-k g l = record {
  within : AreWithin l.stats (listings l.view.types.now l.view.heap.now 0 l.k);
  counted : (test : ℕ → Bool)
      → AnswersFor (λ place answer. goal.F-post g l.live place answer) test
      (heap_items l.view.types.now l.view.heap.now)
      → AreCounted l.view.types.now l.view.heap.now test l.stats (listings l.view.types.now l.view.heap.now 0 l.k);
}
