use Rattle.std.proofs.Common.{◌≡◌, ◌+◌, ℕ, List, refl, ap, sym, ◌∙◌, subst, arith}
use Rattle.clr_covers.specs.Covers.{CoverView, HasAll, past_last}
use Rattle.clr_covers.proofs.Changing.{length-same_values}
use Rattle.clr_covers.proofs.Spans.{HasAll-new_values, HasAll-with_cover, has_unit_above}
use Rattle.clr_cards.specs.Cards.{clear_cards}
use Rattle.clr_low_tests.proofs.cards.three_segments.Goals as goal

pub add-requires-2-clause-free : goal.add-requires-2-clause-free
add-requires-2-clause-free c i low high =
    let first = clear_cards 268435456 262144 in
    let end : past_last first ≡ 131200 = ap (λ (n : ℕ). 131072 + n) (length-same_values {X = ℕ} 0 128) in
    c.in_ok-add.ensures.covered i ∙ rw (has_unit_above first i (omega arith), c.new-cards.ensures) refl

pub returns : goal.returns
returns c =
    let P : List (CoverView ℕ) → Type 0 = λ cs. HasAll cs 131072 131200 in
    let first = subst P (sym c.in_ok-add.ensures.ok) (HasAll-new_values {X = ℕ} 0 c.new-cards.result 131072 128) in
    let second =
    subst P (sym c.in_ok-add-2.ensures.ok) (HasAll-with_cover (clear_cards 536870912 4096) _ 131072 131200 first)
    in
    subst P (sym c.in_ok-add-3.ensures.ok) (HasAll-with_cover (clear_cards 134217728 1048576) _ 131072 131200 second)
