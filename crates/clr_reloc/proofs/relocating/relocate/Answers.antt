use Rattle.std.proofs.Common.{ap, sym, ◌∙◌, subst, arith}
use Rattle.clr_cards.specs.Cards.{is_card_set}
use Rattle.clr_generations.specs.Tables.{AreCardsOf}
use Rattle.clr_heap.specs.View.{frame, HeapView}
use Rattle.clr_reloc.specs.Relocated.{rebounded}
use Rattle.clr_reloc.proofs.Final.{ahead_outside, begins, law_after, over_none, relocated_all}
use Rattle.clr_reloc.proofs.OldCards.{can_scan_part}
use Rattle.clr_reloc.proofs.Seen.{plan_now}
use Rattle.clr_reloc.proofs.relocating.relocate.Goals as goal

pub clear_unless_partial-requires : goal.clear_unless_partial-requires
clear_unless_partial-requires c =
    let (view, vs, entry, can) = c.requires.can in
    subst (λ (h : HeapView). AreCardsOf (frame h) c.args.cards.now) (sym can.plan.overlaid.shape.others) can.cards_of

pub relocate_plugs-requires-clause-can : goal.relocate_plugs-requires-clause-can
relocate_plugs-requires-clause-can c =
    let (view, vs, entry, can) = c.requires.can in (
      view,
      vs,
      (
        begins c.args.types.now view c.args.heap.now c.args.bricks.now c.args.pins.now.entries c.args.g vs
            c.args.planned.now.start1 c.args.planned.now.start0 c.requires.least can.plan can.followed can.old_parts
            c.count.ensures.lawful,
        λ x low high. absurd (omega (arith, high)),
      ),
      c.clear_unless_partial.ensures.spans ∙ can.cards_of,
    )

pub relocate_plugs-requires-clause-kind : goal.relocate_plugs-requires-clause-kind
relocate_plugs-requires-clause-kind c = c.none.ensures c.args.types.now

pub relocate_outside-requires-clause-can : goal.relocate_outside-requires-clause-can
relocate_outside-requires-clause-can c =
    let (view, vs, entry, can) = c.requires.can in
    let rows = c.args.types.now in
    let spans = c.clear_unless_partial.ensures.spans ∙ can.cards_of in
    let r = begins rows view c.args.heap.now c.args.bricks.now c.args.pins.now.entries c.args.g vs
    c.args.planned.now.start1 c.args.planned.now.start0 c.requires.least can.plan can.followed can.old_parts
    c.count.ensures.lawful in
    let (next, q, gone, carded) = c.relocate_plugs.ensures.gone view vs (r, λ x low high. absurd (omega (arith, high)))
    spans in (
      view,
      next,
      vs,
      q,
      c.relocate_plugs.ensures.beside.cards ∙ spans,
      ahead_outside rows view c.args.heap.now c.args.bricks.now c.args.pins.now.entries c.args.g vs
          c.args.planned.now.start1 c.args.planned.now.start0 c.requires.least can.plan can.followed can.old_parts
          c.count.ensures.lawful next gone,
      over_none rows view c.args.heap.now c.args.bricks.now c.args.pins.now.entries c.args.g vs
          c.args.planned.now.start1 c.args.planned.now.start0 c.requires.least can.plan can.followed can.old_parts
          c.count.ensures.lawful,
      λ young. can_scan_part rows view c.args.heap.now c.args.bricks.now c.args.pins.now.entries c.args.g vs
          c.args.planned.now c.requires.least young can.plan can.old_parts can.named c.args.cards.now can.card_law
          (is_card_set c.relocate_plugs.new.cards)
          (λ i on. c.relocate_plugs.ensures.beside.set i
          (ap (λ cs. is_card_set cs i) (c.clear_unless_partial.ensures.same young) ∙ on)) entry can.remembered
          c.relocate_plugs.new.cards (c.relocate_plugs.ensures.beside.cards ∙ spans) can.bricks_of,
    )

pub returns-clause-relocated : goal.returns-clause-relocated
returns-clause-relocated c view vs entry can =
    let rows = c.args.types.now in
    let spans = c.clear_unless_partial.ensures.spans ∙ can.cards_of in
    let h = c.args.heap.now in
    let es = c.args.pins.now.entries in
    let r = begins rows view h c.args.bricks.now es c.args.g vs c.args.planned.now.start1 c.args.planned.now.start0
    c.requires.least can.plan can.followed can.old_parts c.count.ensures.lawful in
    let (next, q, gone, carded) = c.relocate_plugs.ensures.gone view vs (r, λ x low high. absurd (omega (arith, high)))
    spans in
    let (mid, s, out, set) = c.relocate_outside.ensures.gone view next vs q
    (c.relocate_plugs.ensures.beside.cards ∙ spans)
    (ahead_outside rows view h c.args.bricks.now es c.args.g vs c.args.planned.now.start1 c.args.planned.now.start0
    c.requires.least can.plan can.followed can.old_parts c.count.ensures.lawful next gone)
    (over_none rows view h c.args.bricks.now es c.args.g vs c.args.planned.now.start1 c.args.planned.now.start0
    c.requires.least can.plan can.followed can.old_parts c.count.ensures.lawful)
    (λ young. can_scan_part rows view c.args.heap.now c.args.bricks.now c.args.pins.now.entries c.args.g vs
    c.args.planned.now c.requires.least young can.plan can.old_parts can.named c.args.cards.now can.card_law
    (is_card_set c.relocate_plugs.new.cards)
    (λ i on. c.relocate_plugs.ensures.beside.set i
    (ap (λ cs. is_card_set cs i) (c.clear_unless_partial.ensures.same young) ∙ on)) entry can.remembered
    c.relocate_plugs.new.cards (c.relocate_plugs.ensures.beside.cards ∙ spans) can.bricks_of) in (
      mid,
      relocated_all rows view h c.args.bricks.now es c.args.g vs c.args.planned.now.start1 c.args.planned.now.start0
          c.requires.least can.plan can.followed can.old_parts c.count.ensures.lawful next mid gone out s.0.underway,
      plan_now rows view mid c.relocate_outside.new.heap c.args.bricks.now c.relocate_outside.new.pins.entries c.args.g
          vs
          c.args.planned.now.start1 c.args.planned.now.start0 s.0,
    )

pub returns-clause-card_law : goal.returns-clause-card_law
returns-clause-card_law c view vs entry can =
    let rows = c.args.types.now in
    let spans = c.clear_unless_partial.ensures.spans ∙ can.cards_of in
    let h = c.args.heap.now in
    let es = c.args.pins.now.entries in
    let r = begins rows view h c.args.bricks.now es c.args.g vs c.args.planned.now.start1 c.args.planned.now.start0
    c.requires.least can.plan can.followed can.old_parts c.count.ensures.lawful in
    let (next, q, gone, carded) = c.relocate_plugs.ensures.gone view vs (r, λ x low high. absurd (omega (arith, high)))
    spans in
    let (mid, s, out, set) = c.relocate_outside.ensures.gone view next vs q
    (c.relocate_plugs.ensures.beside.cards ∙ spans)
    (ahead_outside rows view h c.args.bricks.now es c.args.g vs c.args.planned.now.start1 c.args.planned.now.start0
    c.requires.least can.plan can.followed can.old_parts c.count.ensures.lawful next gone)
    (over_none rows view h c.args.bricks.now es c.args.g vs c.args.planned.now.start1 c.args.planned.now.start0
    c.requires.least can.plan can.followed can.old_parts c.count.ensures.lawful)
    (λ young. can_scan_part rows view c.args.heap.now c.args.bricks.now c.args.pins.now.entries c.args.g vs
    c.args.planned.now c.requires.least young can.plan can.old_parts can.named c.args.cards.now can.card_law
    (is_card_set c.relocate_plugs.new.cards)
    (λ i on. c.relocate_plugs.ensures.beside.set i
    (ap (λ cs. is_card_set cs i) (c.clear_unless_partial.ensures.same young) ∙ on)) entry can.remembered
    c.relocate_plugs.new.cards (c.relocate_plugs.ensures.beside.cards ∙ spans) can.bricks_of) in
    law_after rows view h c.args.bricks.now es c.args.g vs c.args.planned.now.start1 c.args.planned.now.start0
    c.requires.least can.plan can.followed can.old_parts c.count.ensures.lawful
    (rebounded (frame view) c.args.planned.now)
    (is_card_set c.relocate_plugs.new.cards) (is_card_set c.relocate_outside.new.cards)
    c.relocate_outside.ensures.beside.set carded set

pub returns-clause-cards : goal.returns-clause-cards
returns-clause-cards c =
    c.relocate_outside.ensures.beside.cards ∙ c.relocate_plugs.ensures.beside.cards
    ∙ c.clear_unless_partial.ensures.spans

pub returns-clause-count : goal.returns-clause-count
returns-clause-count c = c.relocate_outside.ensures.beside.count ∙ c.relocate_plugs.ensures.beside.count

pub returns-clause-spare : goal.returns-clause-spare
returns-clause-spare c = c.relocate_outside.ensures.beside.spare ∙ c.relocate_plugs.ensures.beside.spare
