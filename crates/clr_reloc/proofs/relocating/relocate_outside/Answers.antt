use Rattle.std.proofs.Common.{◌≡◌, ◌+◌, ◌<◌, ◌/◌, ◌∙◌, ap, sym, subst, subst₂, arith}
use Rattle.std.proofs.Common.{length}
use Rattle.clr_types.specs.Segments.{first_place}
use Rattle.clr_cards.specs.Cards.{is_card_set}
use Rattle.clr_heap.specs.View.{first_of, frame, HeapView}
use Rattle.clr_reloc.specs.Outside.{AreCardedOutside, HaveGoneOutside, outside_end}
use Rattle.clr_reloc.specs.Relocated.{rebounded}
use Rattle.clr_reloc.specs.Relocating.{AreCarded, GoesDown, HasGone, HaveCardsDown, IsAhead, Tracks}
use Rattle.clr_covers.proofs.Spans.{share_cover-spans}
use Rattle.clr_heap.proofs.Framing.{below_top_at}
use Rattle.clr_reloc.specs.Scanning.{AreEntriesSound, AreInRow, AreQuietWhereClear, border_of, entry_before}
use Rattle.clr_reloc.specs.Scanning.{HaveEntries}
use Rattle.clr_reloc.proofs.ClearCards.{quiet_on}
use Rattle.clr_reloc.proofs.Outer.{carded_outside_more, none_outside, outside_cards, outside_high, outside_stays}
use Rattle.clr_reloc.proofs.OneObject.{beside_refl, beside_trans}
use Rattle.clr_reloc.proofs.Outer.{outside_track}
use Rattle.clr_reloc.proofs.Outer.{segment_ahead, segments_more}
use Rattle.clr_reloc.proofs.relocating.relocate_outside.Goals as goal

pub loop-k-init : goal.loop-k-init
loop-k-init c = record {
  gone = λ view now vs r of ahead over scan. (
    now,
    r,
    none_outside c.args.work.now.types.now view now c.args.work.now.g vs,
    λ t l. absurd (omega (arith, l)),
  );
  beside = beside_refl c.args.cards.now c.args.pins.now;
  kind = c.requires.kind;
}

pub info-first-requires : goal.info-first-requires
info-first-requires c =
    let (view, now, vs, r, of, ahead, over, scan) = c.requires.can in
    let (next, q, gone, carded) = c.loop-k.invariant.gone view now vs r of ahead over scan in
    let count = c.segments-count.ensures.count in
    let start = ap (λ (h : HeapView). length h.segments) r.0.shape.others in
    let here = ap (λ (h : HeapView). length h.segments) q.0.shape.others in
    let test = c.loop-k-test.true in
    omega (arith, count, start, here, test)

pub relocate_segment-requires-clause-can : goal.relocate_segment-requires-clause-can
relocate_segment-requires-clause-can c =
    let (view, now, vs, r, of, ahead, over, scan) = c.requires.can in
    let (next, q, gone, carded) = c.loop-k.invariant.gone view now vs r of ahead over scan in
    let rows = c.args.work.now.types.now in
    let k = c.loop-k.k in
    let plan = r.0.begun.plan in
    let l : k < length view.segments =
    let count = c.segments-count.ensures.count in
    let start = ap (λ (h : HeapView). length h.segments) r.0.shape.others in
    let test = c.loop-k-test.true in
    omega (arith, count, start, test)
    in
    let first : c.info-first.result.base + 4096 ≡ first_of view k =
    ap first_place c.info-first.ensures.value ∙ ap (λ (h : HeapView). first_of h k) q.0.shape.others in
    let end : c.end_outside-end.result ≡ outside_end view c.args.work.now.g k =
    c.end_outside-end.ensures ∙ ap (λ (h : HeapView). outside_end h c.args.work.now.g k) q.0.shape.others in
    let track = outside_track rows view c.args.work.now.g vs plan.overlaid.heap plan.held plan.no_contexts
    plan.overlaid.moves
    plan.overlaid.starts over k l in
    let near = segment_ahead rows view c.args.work.now.g vs plan.overlaid.heap plan.held plan.no_contexts
    plan.overlaid.moves
    plan.overlaid.starts over now next k l ahead gone in
    let stays = outside_stays rows view c.args.work.now.g vs plan.overlaid.heap plan.held plan.no_contexts
    plan.overlaid.moves
    plan.overlaid.starts over k l in
    let border : c.border_brick-border.result ≡ border_of view c.args.work.now.g k =
    c.border_brick-border.ensures ∙ ap (λ (h : HeapView). border_of h c.args.work.now.g k) q.0.shape.others in (
      view,
      next,
      vs,
      track.0,
      q,
      subst₂ (λ x y. Tracks rows view track.0 x y) (sym first) (sym end) track.1,
      subst₂ (λ x y. IsAhead view next c.args.work.now.g vs x y) (sym first) (sym end) near,
      subst₂ (λ x y. GoesDown vs x y 0) (sym first) (sym end) stays,
      λ young. subst₂ (λ x y. AreEntriesSound rows view (entry_before c.args.work.now.bricks.now
          c.args.work.now.planned.below
          c.args.work.now.planned.first c.border_brick-border.result) x y) (sym first) (sym end)
          (subst (λ n. AreEntriesSound rows view (entry_before c.args.work.now.bricks.now c.args.work.now.planned.below
          c.args.work.now.planned.first n) (first_of view k) (outside_end view c.args.work.now.g k)) (sym border)
          ((scan young).sound k l)),
      λ young. subst₂ (λ x y. AreQuietWhereClear rows view c.args.work.now.g vs (rebounded (frame view)
          c.args.work.now.planned)
          (is_card_set c.loop-k.cards) x y) (sym first) (sym end)
          (quiet_on rows view c.args.work.now.g vs (rebounded (frame view) c.args.work.now.planned) (is_card_set
          c.args.cards.now)
          (is_card_set c.loop-k.cards) (first_of view k) (outside_end view c.args.work.now.g k)
          c.loop-k.invariant.beside.set
          ((scan young).quiet k l)),
    )

pub relocate_segment-requires-clause-cards : goal.relocate_segment-requires-clause-cards
relocate_segment-requires-clause-cards c =
    let (view, now, vs, r, of, ahead, over, scan) = c.requires.can in
    let (next, q, gone, carded) = c.loop-k.invariant.gone view now vs r of ahead over scan in
    let rows = c.args.work.now.types.now in
    let k = c.loop-k.k in
    let plan = r.0.begun.plan in
    let l : k < length view.segments =
    let count = c.segments-count.ensures.count in
    let start = ap (λ (h : HeapView). length h.segments) r.0.shape.others in
    let test = c.loop-k-test.true in
    omega (arith, count, start, test)
    in
    let first : c.info-first.result.base + 4096 ≡ first_of view k =
    ap first_place c.info-first.ensures.value ∙ ap (λ (h : HeapView). first_of h k) q.0.shape.others in
    let end : c.end_outside-end.result ≡ outside_end view c.args.work.now.g k =
    c.end_outside-end.ensures ∙ ap (λ (h : HeapView). outside_end h c.args.work.now.g k) q.0.shape.others in
    subst₂ (λ x y. HaveCardsDown c.loop-k.cards x y 0) (sym first) (sym end)
    (outside_cards rows view c.args.work.now.g vs plan.overlaid.heap plan.held plan.no_contexts plan.overlaid.moves
    plan.overlaid.starts over k l c.loop-k.cards (c.loop-k.invariant.beside.cards ∙ of))

pub loop-k-preserved : goal.loop-k-preserved
loop-k-preserved c =
    let inv = c.loop-k.invariant in
    let rows = c.args.work.now.types.now in
    let k = c.loop-k.k in
    record {
      gone = λ view now vs r of ahead over scan.
          let (next, q, gone, carded) = inv.gone view now vs r of ahead over scan in
          let plan = r.0.begun.plan in
          let l : k < length view.segments =
          let count = c.segments-count.ensures.count in
          let start = ap (λ (h : HeapView). length h.segments) r.0.shape.others in
          let test = c.loop-k-test.true in
          omega (arith, count, start, test)
          in
          let first : c.info-first.result.base + 4096 ≡ first_of view k =
          ap first_place c.info-first.ensures.value ∙ ap (λ (h : HeapView). first_of h k) q.0.shape.others in
          let end : c.end_outside-end.result ≡ outside_end view c.args.work.now.g k =
          c.end_outside-end.ensures ∙ ap (λ (h : HeapView). outside_end h c.args.work.now.g k) q.0.shape.others in
          let track = outside_track rows view c.args.work.now.g vs plan.overlaid.heap plan.held plan.no_contexts
          plan.overlaid.moves plan.overlaid.starts over k l in
          let near = segment_ahead rows view c.args.work.now.g vs plan.overlaid.heap plan.held plan.no_contexts
          plan.overlaid.moves plan.overlaid.starts over now next k l ahead gone in
          let stays = outside_stays rows view c.args.work.now.g vs plan.overlaid.heap plan.held plan.no_contexts
          plan.overlaid.moves plan.overlaid.starts over k l in
          let layout = rebounded (frame view) c.args.work.now.planned in
          let border : c.border_brick-border.result ≡ border_of view c.args.work.now.g k =
          c.border_brick-border.ensures ∙ ap (λ (h : HeapView). border_of h c.args.work.now.g k) q.0.shape.others in
          let is_set = is_card_set c.relocate_segment.new.cards in
          let after = c.relocate_segment.ensures.gone view next vs track.0 q
          (subst₂ (λ x y. Tracks rows view track.0 x y) (sym first) (sym end) track.1)
          (subst₂ (λ x y. IsAhead view next c.args.work.now.g vs x y) (sym first) (sym end) near)
          (subst₂ (λ x y. GoesDown vs x y 0) (sym first) (sym end) stays)
          (λ young. subst₂ (λ x y. AreEntriesSound rows view (entry_before c.args.work.now.bricks.now
          c.args.work.now.planned.below
          c.args.work.now.planned.first c.border_brick-border.result) x y) (sym first) (sym end)
          (subst (λ n. AreEntriesSound rows view (entry_before c.args.work.now.bricks.now c.args.work.now.planned.below
          c.args.work.now.planned.first n) (first_of view k) (outside_end view c.args.work.now.g k)) (sym border)
          ((scan young).sound k l)))
          (λ young. subst₂ (λ x y. AreQuietWhereClear rows view c.args.work.now.g vs layout
          (is_card_set c.loop-k.cards) x y) (sym first) (sym end)
          (quiet_on rows view c.args.work.now.g vs layout (is_card_set c.args.cards.now)
          (is_card_set c.loop-k.cards) (first_of view k) (outside_end view c.args.work.now.g k) inv.beside.set
          ((scan young).quiet k l))) in (
            after.next,
            after.relocating,
            segments_more rows view c.args.work.now.g vs plan.overlaid.heap plan.held plan.no_contexts
                plan.overlaid.moves
                plan.overlaid.starts over now next k l ahead gone after.next
                (subst₂ (λ x y. HasGone rows view next after.next c.args.work.now.g vs x y) first end after.gone),
            carded_outside_more rows view c.args.work.now.g vs layout (is_card_set c.loop-k.cards) is_set k
                c.relocate_segment.ensures.beside.set carded
                (subst₂ (λ x y. AreCarded rows view c.args.work.now.g vs layout is_set x y) first end after.carded),
          );
      beside = beside_trans c.args.cards.now c.loop-k.cards c.relocate_segment.new.cards c.args.pins.now c.loop-k.pins
          c.relocate_segment.new.pins inv.beside c.relocate_segment.ensures.beside;
      kind = c.relocate_segment.ensures.kind;
    }

pub returns-clause-gone : goal.returns-clause-gone
returns-clause-gone c view now vs r of ahead over scan =
    let (next, q, gone, carded) = c.loop-k.invariant.gone view now vs r of ahead over scan in
    let count = c.segments-count.ensures.count in
    let start = ap (λ (h : HeapView). length h.segments) r.0.shape.others in
    let test = c.loop-k-test.false in
    let far = c.loop-k.auto.k-end in
    let all : c.loop-k.k ≡ length view.segments = omega (arith, count, start, test, far) in (
      next,
      q,
      subst (HaveGoneOutside c.args.work.now.types.now view now next c.args.work.now.g vs) all gone,
      subst (AreCardedOutside c.args.work.now.types.now view c.args.work.now.g vs (rebounded (frame view)
          c.args.work.now.planned)
          (is_card_set c.loop-k.cards)) all carded,
    )

pub relocate_segment-requires-clause-small : goal.relocate_segment-requires-clause-small
relocate_segment-requires-clause-small c =
    let (view, now, vs, r, of, ahead, over, scan) = c.requires.can in
    let (next, q, gone, carded) = c.loop-k.invariant.gone view now vs r of ahead over scan in
    let rows = c.args.work.now.types.now in
    let k = c.loop-k.k in
    let plan = r.0.begun.plan in
    let l : k < length view.segments =
    let count = c.segments-count.ensures.count in
    let start = ap (λ (h : HeapView). length h.segments) r.0.shape.others in
    let test = c.loop-k-test.true in
    omega (arith, count, start, test)
    in
    let end : c.end_outside-end.result ≡ outside_end view c.args.work.now.g k =
    c.end_outside-end.ensures ∙ ap (λ (h : HeapView). outside_end h c.args.work.now.g k) q.0.shape.others in
    let high = outside_high rows view c.args.work.now.g vs plan.overlaid.heap plan.held plan.no_contexts
    plan.overlaid.moves
    plan.overlaid.starts over k l in
    let room = below_top_at view k plan.overlaid.heap l in
    let top = plan.overlaid.heap.top_small in
    omega (arith, end, high, room, top)

pub relocate_segment-requires-clause-row : goal.relocate_segment-requires-clause-row
relocate_segment-requires-clause-row c young =
    let (view, now, vs, r, of, ahead, over, scan) = c.requires.can in
    let (next, q, gone, carded) = c.loop-k.invariant.gone view now vs r of ahead over scan in
    let k = c.loop-k.k in
    let l : k < length view.segments =
    let count = c.segments-count.ensures.count in
    let start = ap (λ (h : HeapView). length h.segments) r.0.shape.others in
    let test = c.loop-k-test.true in
    omega (arith, count, start, test)
    in
    let first : c.info-first.result.base + 4096 ≡ first_of view k =
    ap first_place c.info-first.ensures.value ∙ ap (λ (h : HeapView). first_of h k) q.0.shape.others in
    let end : c.end_outside-end.result ≡ outside_end view c.args.work.now.g k =
    c.end_outside-end.ensures ∙ ap (λ (h : HeapView). outside_end h c.args.work.now.g k) q.0.shape.others in
    subst₂ (λ x y. AreInRow c.loop-k.cards x y) (sym first) (sym end)
    (λ a b la ha lb hb. share_cover-spans c.loop-k.cards c.args.cards.now (a / 2048) (b / 2048)
    c.loop-k.invariant.beside.cards ∙ (scan young).row k l a b la ha lb hb)

pub relocate_segment-requires-clause-entries : goal.relocate_segment-requires-clause-entries
relocate_segment-requires-clause-entries c young =
    let (view, now, vs, r, of, ahead, over, scan) = c.requires.can in
    let (next, q, gone, carded) = c.loop-k.invariant.gone view now vs r of ahead over scan in
    let k = c.loop-k.k in
    let l : k < length view.segments =
    let count = c.segments-count.ensures.count in
    let start = ap (λ (h : HeapView). length h.segments) r.0.shape.others in
    let test = c.loop-k-test.true in
    omega (arith, count, start, test)
    in
    let first : c.info-first.result.base + 4096 ≡ first_of view k =
    ap first_place c.info-first.ensures.value ∙ ap (λ (h : HeapView). first_of h k) q.0.shape.others in
    let end : c.end_outside-end.result ≡ outside_end view c.args.work.now.g k =
    c.end_outside-end.ensures ∙ ap (λ (h : HeapView). outside_end h c.args.work.now.g k) q.0.shape.others in
    subst₂ (λ x y. HaveEntries c.args.work.now.bricks.now x y) (sym first) (sym end) ((scan young).entries k l)

pub returns-clause-kind : goal.returns-clause-kind
returns-clause-kind c = c.loop-k.invariant.kind

pub returns-clause-beside : goal.returns-clause-beside
returns-clause-beside c = c.loop-k.invariant.beside
