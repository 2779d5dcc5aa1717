use Rattle.std.proofs.Common.{◌≡◌, ◌++◌, ℕ, Bool, filter}
use Rattle.clr_sos.specs.Wants.{AnswersFor, is_wanted}
use Rattle.clr_sos.proofs.ShownLines.{is_some_item, place_line, Says}
use Rattle.clr_sos.proofs.listing_lines.put_places.Given as goal

abbrev pub invariant-loop-item : goal.invariant-loop-item
invariant-loop-item g l = record {
  walked : l.yielded ++ l.item-iterator ≡ l.initial.item-iterator;
  text : (test : ℕ → Bool)
      → AnswersFor (λ place answer. goal.F-post g l.live place answer) test l.initial.item-iterator
      → Says place_line (is_wanted l.wanted test) l.initial.text.items l.text.items l.yielded;
  found : (test : ℕ → Bool)
      → AnswersFor (λ place answer. goal.F-post g l.live place answer) test l.initial.item-iterator
      → l.found ≡ is_some_item (filter (is_wanted l.wanted test) l.yielded);
}
