use Rattle.std.proofs.Common.{◌≤◌, ◌∙◌, ℕ, ap, length, subst, sym}
use Rattle.std.proofs.lemmas.Bool.{eqb-true}
use Rattle.clr_types.specs.declared.item.Item.{Item}
use Rattle.clr_types.specs.Types.{form_at}
use Rattle.clr_heap.specs.View.{word_of}
use Rattle.clr_heap.proofs.ObjectKinds.{item-number}
use Rattle.clr_mark.proofs.Following.{none_left}
use Rattle.clr_mark.proofs.References.{no_references}
use Rattle.clr_pinq.specs.Queue.{logical}
use Rattle.clr_reloc.specs.References.{references_of}
use Rattle.clr_reloc.proofs.OneItem.{bare_stays, item_is}
use Rattle.clr_reloc.proofs.OneItem.{fits_len, found_ahead, found_done, found_is, found_placed, found_stays}
use Rattle.clr_reloc.proofs.OneItem.{item_named, len_has, len_segment, segment_inside}
use Rattle.clr_reloc.proofs.OneObject.{beside_refl}
use Rattle.clr_reloc.proofs.stretches.relocate_read.Goals as goal

pub logical_item-found-requires-clause-names : goal.logical_item-found-requires-clause-names
logical_item-found-requires-clause-names c =
    let (view, now, vs, i, r, q, skip) = c.requires.can in
    item_named c.args.work.now view now c.args.heap.now c.args.pins.now vs c.args.met.now.stretch r i c.args.item.place
    c.args.item.to
    c.args.cards.now q

pub logical_item-found-requires-clause-len : goal.logical_item-found-requires-clause-len
logical_item-found-requires-clause-len c =
    let (view, now, vs, i, r, q, skip) = c.requires.can in
    len_has c.args.work.now view now c.args.heap.now c.args.pins.now vs c.args.met.now.stretch r i c.args.item.place
    c.args.item.to
    c.args.cards.now q

pub logical_item-found-requires-clause-segment : goal.logical_item-found-requires-clause-segment
logical_item-found-requires-clause-segment c =
    let (view, now, vs, i, r, q, skip) = c.requires.can in
    len_segment c.args.work.now view now c.args.heap.now c.args.pins.now vs c.args.met.now.stretch r i c.args.item.place
    c.args.item.to
    c.args.cards.now q c.args.met.now.segment c.requires.segment

pub logical_item-found-requires-clause-room : goal.logical_item-found-requires-clause-room
logical_item-found-requires-clause-room c =
    let (view, now, vs, i, r, q, skip) = c.requires.can in
    fits_len c.args.work.now view now c.args.heap.now c.args.pins.now vs c.args.met.now.stretch r i c.args.item.place
    c.args.item.to
    c.args.cards.now q

pub series-requires : goal.series-requires
series-requires c =
    let (view, now, vs, i, r, q, skip) = c.requires.can in
    let named = item_named c.args.work.now view now c.args.heap.now c.args.pins.now vs c.args.met.now.stretch r i
    c.args.item.place c.args.item.to c.args.cards.now q in
    let number = ap (λ (x : Item). x.type_id.0) c.logical_item-found.ensures
    ∙ item-number c.args.work.now.types.now (logical c.args.pins.now.entries (word_of c.args.heap.now)) c.args.item.place in
    subst (λ (n : ℕ). n ≤ length c.args.work.now.types.now) (sym number) named.known

pub kind_behind-met-requires-clause-number : goal.kind_behind-met-requires-clause-number
kind_behind-met-requires-clause-number c =
    let (view, now, vs, i, r, q, skip) = c.requires.can in
    let named = item_named c.args.work.now view now c.args.heap.now c.args.pins.now vs c.args.met.now.stretch r i
    c.args.item.place c.args.item.to c.args.cards.now q in
    let number = ap (λ (x : Item). x.type_id.0) c.logical_item-found.ensures
    ∙ item-number c.args.work.now.types.now (logical c.args.pins.now.entries (word_of c.args.heap.now)) c.args.item.place in
    subst (λ (n : ℕ). n ≤ length c.args.work.now.types.now) (sym number) named.known

pub returns-then-is_empty-clause-gone : goal.returns-then-is_empty-clause-gone
returns-then-is_empty-clause-gone c view now vs i r q skip =
    let rows = c.args.work.now.types.now in
    let found = c.logical_item-found.result in
    let same = c.logical_item-found.ensures ∙ item_is c.args.work.now view now c.args.heap.now c.args.pins.now vs
    c.args.met.now.stretch r i c.args.item.place c.args.item.to c.args.cards.now q in
    let series = sym c.series.ensures ∙ none_left c.series.result.now
    (eqb-true (length c.series.result.now) 0 (sym c.is_empty.ensures ∙ c.if-is_empty.true)) in
    let none = no_references (form_at rows found.type_id.0) found.len series in (
      ap (λ (x : Item). x.size) same,
      bare_stays c.args.work.now view now c.args.heap.now c.args.pins.now vs c.args.met.now.stretch r i c.args.item.place
          c.args.item.to c.args.cards.now q (ap (references_of rows) (sym same) ∙ none),
    )

pub returns-then-is_empty-clause-beside : goal.returns-then-is_empty-clause-beside
returns-then-is_empty-clause-beside c =
    beside_refl c.args.cards.now c.args.pins.now

pub kind_behind-met-requires-clause-item : goal.kind_behind-met-requires-clause-item
kind_behind-met-requires-clause-item c = (
  logical c.args.pins.now.entries (word_of c.args.heap.now),
  c.args.item.place,
  c.logical_item-found.ensures,
  c.requires.word,
)

pub is_left-requires : goal.is_left-requires
is_left-requires c =
    let (view, now, vs, i, r, q, skip) = c.requires.can in
    segment_inside c.args.work.now view now c.args.heap.now c.args.pins.now vs c.args.met.now.stretch r i c.args.item.place
    c.args.item.to
    c.args.cards.now q c.args.met.now.segment c.requires.segment

pub relocate_object-requires-clause-can : goal.relocate_object-requires-clause-can
relocate_object-requires-clause-can c =
    let (view, now, vs, i, r, q, skip) = c.requires.can in (
      view,
      now,
      vs,
      r,
      found_ahead c.args.work.now view now c.args.heap.now c.args.pins.now vs c.args.met.now.stretch r i c.args.item.place
          c.args.item.to
          c.args.cards.now q c.args.met.now.segment c.requires.segment c.logical_item-found.result
          c.logical_item-found.ensures
          c.args.mt c.requires.word c.is_left.result c.is_left.ensures
          c.args.met.now.near
          c.planned_gen-age.result c.if-is_left.true c.args.item.carded skip,
    )

pub relocate_object-requires-clause-placed : goal.relocate_object-requires-clause-placed
relocate_object-requires-clause-placed c =
    let (view, now, vs, i, r, q, skip) = c.requires.can in
    found_placed c.args.work.now view now c.args.heap.now c.args.pins.now vs c.args.met.now.stretch r i c.args.item.place
    c.args.item.to
    c.args.cards.now q c.args.met.now.segment c.requires.segment c.logical_item-found.result
    c.logical_item-found.ensures
    c.args.mt c.requires.word c.is_left.result c.is_left.ensures c.args.met.now.near
    c.planned_gen-age.result c.planned_gen-age.ensures c.args.item.carded

pub returns-then-is_left-clause-gone : goal.returns-then-is_left-clause-gone
returns-then-is_left-clause-gone c view now vs i r q skip =
    let done = c.relocate_object in (
      ap (λ (x : Item). x.size) (found_is c.args.work.now view now c.args.heap.now c.args.pins.now vs
          c.args.met.now.stretch r i c.args.item.place c.args.item.to
          c.args.cards.now q c.args.met.now.segment c.requires.segment c.logical_item-found.result
          c.logical_item-found.ensures
          c.args.mt c.requires.word c.is_left.result c.is_left.ensures),
      found_done c.args.work.now view now c.args.heap.now c.args.pins.now vs c.args.met.now.stretch r i c.args.item.place
          c.args.item.to
          c.args.cards.now q c.args.met.now.segment c.requires.segment c.logical_item-found.result
          c.logical_item-found.ensures
          c.args.mt c.requires.word c.is_left.result c.is_left.ensures
          done.new.heap done.new.pins done.new.cards done.new.last
          (done.ensures.gone view now vs r (found_ahead c.args.work.now view now c.args.heap.now c.args.pins.now vs
          c.args.met.now.stretch r i c.args.item.place c.args.item.to
          c.args.cards.now q c.args.met.now.segment c.requires.segment c.logical_item-found.result
          c.logical_item-found.ensures
          c.args.mt c.requires.word c.is_left.result c.is_left.ensures
          c.args.met.now.near c.planned_gen-age.result c.if-is_left.true c.args.item.carded skip)),
    )

pub returns-clause-gone : goal.returns-clause-gone
returns-clause-gone c view now vs i r q skip = (
  ap (λ (x : Item). x.size) (found_is c.args.work.now view now c.args.heap.now c.args.pins.now vs
      c.args.met.now.stretch r i c.args.item.place c.args.item.to
      c.args.cards.now q c.args.met.now.segment c.requires.segment c.logical_item-found.result
      c.logical_item-found.ensures
      c.args.mt c.requires.word c.is_left.result c.is_left.ensures),
  found_stays c.args.work.now view now c.args.heap.now c.args.pins.now vs c.args.met.now.stretch r i c.args.item.place
      c.args.item.to
      c.args.cards.now q c.args.met.now.segment c.requires.segment c.logical_item-found.result
      c.logical_item-found.ensures
      c.args.mt c.requires.word c.is_left.result c.is_left.ensures c.if-is_left.false,
)

pub returns-clause-beside : goal.returns-clause-beside
returns-clause-beside c =
    beside_refl c.args.cards.now c.args.pins.now
