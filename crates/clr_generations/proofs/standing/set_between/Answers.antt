use Rattle.std.proofs.Common.{◌≡◌, ℕ, ◌*◌, ◌/◌, true, sym, ◌∙◌, subst, arith}
use Rattle.clr_covers.specs.Covers.{is_covered}
use Rattle.clr_covers.proofs.Spans.{is_covered-spans}
use Rattle.clr_generations.proofs.standing.set_between.Goals as goal

pub set-requires : goal.set-requires
set-requires c =
    let card = c.loop-card.card in
    let low = c.loop-card.auto.card in
    let high = c.loop-card-test.true in
    let at : card ≡ 2048 * card / 2048 = omega arith in
    subst (λ (i : ℕ). is_covered c.loop-card.cards i ≡ true) at
    (is_covered-spans c.loop-card.cards c.args.cards.now card c.loop-card.invariant.spans
    ∙ c.requires.covered card (omega (arith, low)) (omega (arith, high)))
