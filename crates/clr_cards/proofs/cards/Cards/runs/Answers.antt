use Rattle.std.proofs.Common.{ap, sym, subst, ◌∙◌, List, ℕ}
use Rattle.clr_covers.specs.Covers.{CoverView, value_at}
use Rattle.clr_cards.specs.Cards.{AreRuns, is_card_set}
use Rattle.clr_cards.proofs.Stretches.{are_runs}
use Rattle.clr_cards.proofs.cards.Cards.runs.Goals as goal

pub returns : goal.returns
returns c =
    let met = c.values-cards.ensures in
    let P : List (ℕ × ℕ) → Type 0 = AreRuns (is_card_set c.args.self.now) c.args.lo c.args.hi in
    subst P (sym c.new-2.ensures)
    (are_runs c.args.self.now c.args.lo c.args.hi c.cover-from.result.0 c.cover-from.result.1 c.values-cards.result.now
    c.if-lo-hi.false c.cover-from.ensures.first c.cover-from.ensures.past_last met.count
    (λ d i low high. met.values d i low high ∙ ap (λ (cs : List (CoverView ℕ)). value_at d cs i) c.self.view_is))
