use Rattle.std.proofs.Common.{◌≡◌, ◌++◌, ℕ, Bool, filter}
use Rattle.clr_model.specs.Sos.{item_line}
use Rattle.clr_sos.specs.Dumping.{IsWithin, totals_of}
use Rattle.clr_sos.specs.LineEnds.{AreLineEnds}
use Rattle.clr_sos.specs.Wants.{AnswersFor, is_wanted}
use Rattle.clr_sos.proofs.ShownLines.{Says}
use Rattle.clr_sos.proofs.listing_lines.put_lines.Given as goal

abbrev pub invariant-loop-item : goal.invariant-loop-item
invariant-loop-item g l = record {
  walked : l.yielded ++ l.item-iterator ≡ l.initial.item-iterator;
  within : IsWithin l.totals l.yielded;
  text : (test : ℕ → Bool)
      → AnswersFor (λ place answer. goal.F-post g l.live place answer) test l.initial.item-iterator
      → Says (item_line l.types) (is_wanted l.wanted test) l.initial.text.items l.text.items l.yielded;
  totals : (test : ℕ → Bool)
      → AnswersFor (λ place answer. goal.F-post g l.live place answer) test l.initial.item-iterator
      → l.totals ≡ totals_of (filter (is_wanted l.wanted test) l.yielded);
  ends : AreLineEnds l.types l.ends;
}
