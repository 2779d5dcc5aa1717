use Rattle.std.proofs.Common.{◌≡◌, ◌+◌, ◌*◌, ◌/◌, ap, sym, ◌∙◌, arith}
use Rattle.clr_cards.specs.Cards.{is_card_set}
use Rattle.clr_reloc.proofs.RestingWords.{word_rests}
use Rattle.clr_reloc.proofs.resting.resting_words.Goals as goal

pub first_naming-requires-clause-words : goal.first_naming-requires-clause-words
first_naming-requires-clause-words c = λ j l.
    let both = c.min.ensures in
    let most = c.min-most.ensures in
    c.requires.words j (omega (arith, l, both, most))

pub first_naming-requires-clause-segment : goal.first_naming-requires-clause-segment
first_naming-requires-clause-segment c = λ j l.
    let both = c.min.ensures in
    let most = c.min-most.ensures in
    c.requires.segment j (omega (arith, l, both, most))

pub returns-clause-rest : goal.returns-clause-rest
returns-clause-rest c = λ j l.
    let h = c.args.heap.now in
    let low = c.lowest_met-low.result in
    let met = c.first_naming.ensures.most in
    let both = c.min.ensures in
    let most = c.min-most.ensures in
    let left = c.saturating_sub-plain.ensures in
    let object = c.args.object.now in
    let a = object.found.place + c.args.offset in
    let to = object.to + c.args.offset in
    let same : (to + 8 * j) / 2048 ≡ to / 2048 = omega (arith, l, met, both, most) in
    word_rests h c.args.pins.now.entries c.args.work.now.g c.args.work.now.planned
    (is_card_set c.args.cards.now) object.age low (a + 8 * j) (to + 8 * j) c.requires.age
    c.is_set.result c.lowest_met-low.ensures.part c.lowest_met-low.ensures.young
    (λ on. ap (is_card_set c.args.cards.now) same ∙ sym c.is_set.ensures ∙ on)
    (c.next_saved.ensures.plain (a + 8 * j) (omega arith) (omega (arith, l, met, both, most, left)))
    (c.first_naming.ensures.before j l)
