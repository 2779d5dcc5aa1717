use Rattle.std.proofs.Common.{◌≡◌, ◌++◌, ◌+◌, ℕ, Bool, filter, length}
use Rattle.clr_sos.specs.Dumping.{AreTallies, AreTalliesWithin, IsWithin, totals_of}
use Rattle.clr_sos.specs.Wants.{AnswersFor, is_wanted}
use Rattle.clr_sos.proofs.listing_counts.count_items.Given as goal

abbrev pub invariant-loop-item : goal.invariant-loop-item
invariant-loop-item g l = record {
  walked : l.yielded ++ l.item-iterator ≡ l.initial.item-iterator;
  types : length l.counts.tallies.items ≡ length l.types + 1;
  within : IsWithin l.counts.totals l.yielded;
  within_each : AreTalliesWithin l.counts.tallies.items l.yielded;
  totals : (test : ℕ → Bool)
      → AnswersFor (λ place answer. goal.F-post g l.live place answer) test l.initial.item-iterator
      → l.counts.totals ≡ totals_of (filter (is_wanted l.wanted test) l.yielded);
  tallies : (test : ℕ → Bool)
      → AnswersFor (λ place answer. goal.F-post g l.live place answer) test l.initial.item-iterator
      → AreTallies l.counts.tallies.items (filter (is_wanted l.wanted test) l.yielded);
}
