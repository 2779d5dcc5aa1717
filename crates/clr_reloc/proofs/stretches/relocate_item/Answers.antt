use Rattle.std.proofs.Common.{◌≡◌, ◌≤◌, ◌-◌, ◌/◌, ◌∙◌, ℕ, ap, length, subst, sym}
use Rattle.clr_types.specs.Bits.{unmarked}
use Rattle.clr_types.specs.Types.{mt_of}
use Rattle.clr_types.specs.declared.item.Item.{Item}
use Rattle.clr_heap.specs.View.{word_of}
use Rattle.clr_pinq.specs.Queue.{logical}
use Rattle.clr_reloc.proofs.KnownKinds.{known_item, known_object, known_run}
use Rattle.clr_reloc.proofs.OneItem.{item_is, item_named, mt_has}
use Rattle.clr_reloc.proofs.stretches.relocate_item.Goals as goal

pub logical_word_at-mt-requires-clause-word : goal.logical_word_at-mt-requires-clause-word
logical_word_at-mt-requires-clause-word c =
    let (view, now, vs, i, r, q, skip) = c.requires.can in
    mt_has c.args.work.now view now c.args.heap.now c.args.pins.now vs c.args.met.now.stretch r i c.args.item.place c.args.item.to
    c.args.cards.now q

pub of_mt-requires-clause-known : goal.of_mt-requires-clause-known
of_mt-requires-clause-known c =
    let (view, now, vs, i, r, q, skip) = c.requires.can in
    let named = item_named c.args.work.now view now c.args.heap.now c.args.pins.now vs c.args.met.now.stretch r i
    c.args.item.place c.args.item.to c.args.cards.now q in
    let word = c.unmarked.ensures ∙ ap unmarked c.logical_word_at-mt.ensures in
    subst (λ (w : ℕ). (w - mt_of 0) / 64 ≤ length c.args.work.now.types.now) (sym word) named.known

pub of_mt-requires-clause-word : goal.of_mt-requires-clause-word
of_mt-requires-clause-word c =
    let (view, now, vs, i, r, q, skip) = c.requires.can in
    let named = item_named c.args.work.now view now c.args.heap.now c.args.pins.now vs c.args.met.now.stretch r i
    c.args.item.place c.args.item.to c.args.cards.now q in
    let word = c.unmarked.ensures ∙ ap unmarked c.logical_word_at-mt.ensures in
    subst (λ (w : ℕ). w ≡ mt_of ((w - mt_of 0) / 64)) (sym word) named.mt

pub relocate_known-requires-clause-item : goal.relocate_known-requires-clause-item
relocate_known-requires-clause-item c =
    let number = c.of_mt.ensures ∙ ap (λ (w : ℕ). (w - mt_of 0) / 64) c.unmarked.ensures in
    known_item c.args.work.now.types.now (logical c.args.pins.now.entries (word_of c.args.heap.now)) c.args.item.place
    c.logical_word_at-mt.result c.in-Some.size c.of_mt.result.0 c.args.met.now.kind c.requires.kind
    c.logical_word_at-mt.ensures (sym c.in-Some.is ∙ c.size_with.ensures) number

pub relocate_known-requires-clause-object : goal.relocate_known-requires-clause-object
relocate_known-requires-clause-object c =
    let number = c.of_mt.ensures ∙ ap (λ (w : ℕ). (w - mt_of 0) / 64) c.unmarked.ensures in
    known_object c.args.work.now.types.now (logical c.args.pins.now.entries (word_of c.args.heap.now)) c.args.item.place
    c.logical_word_at-mt.result c.in-Some.size c.of_mt.result.0 c.args.met.now.kind c.requires.kind
    c.logical_word_at-mt.ensures (sym c.in-Some.is ∙ c.size_with.ensures) number

pub relocate_known-requires-clause-run : goal.relocate_known-requires-clause-run
relocate_known-requires-clause-run c =
    let number = c.of_mt.ensures ∙ ap (λ (w : ℕ). (w - mt_of 0) / 64) c.unmarked.ensures in
    known_run c.args.work.now.types.now (logical c.args.pins.now.entries (word_of c.args.heap.now)) c.args.item.place
    c.logical_word_at-mt.result c.in-Some.size c.of_mt.result.0 c.args.met.now.kind c.requires.kind
    c.logical_word_at-mt.ensures (sym c.in-Some.is ∙ c.size_with.ensures) number

pub returns-in-Some-clause-gone : goal.returns-in-Some-clause-gone
returns-in-Some-clause-gone c view now vs i r q skip =
    let number = c.of_mt.ensures ∙ ap (λ (w : ℕ). (w - mt_of 0) / 64) c.unmarked.ensures in
    let found = known_item c.args.work.now.types.now (logical c.args.pins.now.entries (word_of c.args.heap.now))
    c.args.item.place c.logical_word_at-mt.result c.in-Some.size c.of_mt.result.0 c.args.met.now.kind c.requires.kind
    c.logical_word_at-mt.ensures (sym c.in-Some.is ∙ c.size_with.ensures) number in
    let is = item_is c.args.work.now view now c.args.heap.now c.args.pins.now vs c.args.met.now.stretch r i
    c.args.item.place c.args.item.to c.args.cards.now q in
    (ap (λ (x : Item). x.size) (found ∙ is), c.relocate_known.ensures.gone view now vs i r q)
