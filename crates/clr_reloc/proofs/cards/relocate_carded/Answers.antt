use Rattle.std.proofs.Common.{◌≡◌, ◌-◌, ◌/◌, ◌∙◌, true, arith}
use Rattle.clr_cards.specs.Cards.{is_card_set}
use Rattle.clr_covers.proofs.Spans.{is_covered-spans, share_cover-spans}
use Rattle.clr_heap.specs.View.{frame}
use Rattle.clr_reloc.specs.Relocated.{rebounded}
use Rattle.clr_reloc.specs.Relocating.{GoesDown, HaveCardsDown}
use Rattle.clr_reloc.specs.Scanning.{entry_before}
use Rattle.clr_reloc.specs.Relocations.{CanSkip}
use Rattle.clr_reloc.proofs.ClearCards.{all_passed, begin_at, entry_stands, quiet_on, sub_ahead}
use Rattle.clr_reloc.proofs.ManyItems.{relocated_both, relocated_none}
use Rattle.clr_reloc.proofs.OneObject.{beside_refl, beside_trans}
use Rattle.clr_reloc.proofs.cards.relocate_carded.Goals as goal

pub loop-lo-init : goal.loop-lo-init
loop-lo-init c =
    record {
      low = omega arith;
      gone = λ view now vs is r track ahead goes sound quiet. (
        (is, track),
        relocated_none c.args.work.now view now vs c.args.heap.now c.args.pins.now c.args.cards.now
            c.args.met.now.stretch c.args.first r,
      );
      beside = beside_refl c.args.cards.now c.args.pins.now;
      kind = c.requires.kind;
    }

pub next_run-requires : goal.next_run-requires
next_run-requires c less =
    let low = c.loop-lo.invariant.low in
    share_cover-spans c.loop-lo.cards c.args.cards.now (c.loop-lo.cursor / 2048) ((c.args.end - 1) / 2048)
    c.loop-lo.invariant.beside.cards
    ∙ c.requires.row c.loop-lo.cursor (c.args.end - 1) low less (omega (arith, low, less)) (omega (arith, less))

pub relocate_items-cursor-requires-clause-can : goal.relocate_items-cursor-requires-clause-can
relocate_items-cursor-requires-clause-can c =
    let (view, now, vs, is, r, track, ahead, goes, sound, quiet) = c.requires.can in
    let inv = c.loop-lo.invariant in
    let rows = c.args.work.now.types.now in
    let layout = rebounded (frame view) c.args.work.now.planned in
    let heap = r.0.begun.plan.overlaid.heap in
    let held = r.0.begun.plan.held in
    let ((rest, left), done) = inv.gone view now vs is r track ahead goes sound quiet in
    let under = c.in-Some.ensures.some.2 in
    let some = c.in-Some.ensures.some.1 in
    let entry = entry_before c.args.work.now.bricks.now c.args.work.now.planned.below c.args.work.now.planned.first
    c.args.border in
    let b = begin_at rows view now done.next c.args.work.now.g vs layout heap held (is_card_set c.args.cards.now)
    (is_card_set c.loop-lo.cards) inv.beside.set c.args.first c.args.end c.loop-lo.cursor inv.low quiet ahead goes rest
    left done.gone done.carded c.in-Some.lo c.nearest-from.result (omega (arith, under, some)) c.in-Some.ensures.some.3
    (entry_stands rows view entry c.args.first c.args.end c.in-Some.lo c.nearest-from.result c.loop-lo.cursor
    (omega (arith, under, some)) sound c.nearest-from.ensures) in
    let above = b.above in
    let low = inv.low in
    let near = sub_ahead view now done.next c.args.work.now.g vs rows c.args.first c.args.end c.nearest-from.result
    (omega (arith, above, low)) ahead b.has_gone in
    let stays : GoesDown vs c.nearest-from.result c.args.end 0 = λ x lo_x hi_x. goes x
    (omega (arith, above, low, lo_x)) hi_x in
    let have : HaveCardsDown c.loop-lo.cards c.nearest-from.result c.args.end 0 = λ x from to.
    is_covered-spans c.loop-lo.cards c.args.cards.now ((x - 0) / 2048) inv.beside.cards
    ∙ c.requires.cards x (omega (arith, above, low, from)) to in
    let skip : true ≡ true → CanSkip c.args.work.now view vs c.loop-lo.cards c.nearest-from.result c.args.end = λ on.
    record {
      quiet = λ i offset left a b m off. quiet_on rows view c.args.work.now.g vs layout (is_card_set c.args.cards.now)
          (is_card_set c.loop-lo.cards) c.args.first c.args.end inv.beside.set quiet i offset left
          (omega (arith, above, low, a)) b m off;
      row = λ a b from_a to_a from_b to_b. share_cover-spans c.loop-lo.cards c.args.cards.now (a / 2048) (b / 2048)
          inv.beside.cards
          ∙ c.requires.row a b (omega (arith, above, low, from_a)) to_a (omega (arith, above, low, from_b)) to_b;
      stays = stays;
    } in
    (view, done.next, vs, b.items, c.args.end, done.relocating, b.tracks, near, stays, have, under, skip)

pub loop-lo-preserved : goal.loop-lo-preserved
loop-lo-preserved c =
    let inv = c.loop-lo.invariant in
    let items = c.relocate_items-cursor in
    record {
      low = (
          let (view, now, vs, is, r, track, ahead, goes, sound, quiet) = c.requires.can in
          let rows = c.args.work.now.types.now in
          let layout = rebounded (frame view) c.args.work.now.planned in
          let heap = r.0.begun.plan.overlaid.heap in
          let held = r.0.begun.plan.held in
          let ((rest, left), done) = inv.gone view now vs is r track ahead goes sound quiet in
          let under = c.in-Some.ensures.some.2 in
          let some = c.in-Some.ensures.some.1 in
          let entry = entry_before c.args.work.now.bricks.now c.args.work.now.planned.below
          c.args.work.now.planned.first
          c.args.border in
          let b = begin_at rows view now done.next c.args.work.now.g vs layout heap held (is_card_set c.args.cards.now)
          (is_card_set c.loop-lo.cards) inv.beside.set c.args.first c.args.end c.loop-lo.cursor inv.low quiet ahead
          goes rest
          left done.gone done.carded c.in-Some.lo c.nearest-from.result (omega (arith, under, some))
          c.in-Some.ensures.some.3
          (entry_stands rows view entry c.args.first c.args.end c.in-Some.lo c.nearest-from.result c.loop-lo.cursor
          (omega (arith, under, some)) sound c.nearest-from.ensures) in
          let above = b.above in
          let low = inv.low in
          let from = items.ensures.from in
          omega (arith, above, low, from));
      gone = λ view now vs is r track ahead goes sound quiet.
          let rows = c.args.work.now.types.now in
          let layout = rebounded (frame view) c.args.work.now.planned in
          let heap = r.0.begun.plan.overlaid.heap in
          let held = r.0.begun.plan.held in
          let ((rest, left), done) = inv.gone view now vs is r track ahead goes sound quiet in
          let under = c.in-Some.ensures.some.2 in
          let some = c.in-Some.ensures.some.1 in
          let entry = entry_before c.args.work.now.bricks.now c.args.work.now.planned.below
          c.args.work.now.planned.first
          c.args.border in
          let b = begin_at rows view now done.next c.args.work.now.g vs layout heap held (is_card_set c.args.cards.now)
          (is_card_set c.loop-lo.cards) inv.beside.set c.args.first c.args.end c.loop-lo.cursor inv.low quiet ahead
          goes rest
          left done.gone done.carded c.in-Some.lo c.nearest-from.result (omega (arith, under, some))
          c.in-Some.ensures.some.3
          (entry_stands rows view entry c.args.first c.args.end c.in-Some.lo c.nearest-from.result c.loop-lo.cursor
          (omega (arith, under, some)) sound c.nearest-from.ensures) in
          let above = b.above in
          let low = inv.low in
          let near = sub_ahead view now done.next c.args.work.now.g vs rows c.args.first c.args.end
          c.nearest-from.result
          (omega (arith, above, low)) ahead b.has_gone in
          let stays : GoesDown vs c.nearest-from.result c.args.end 0 = λ x lo_x hi_x. goes x
          (omega (arith, above, low, lo_x)) hi_x in
          let have : HaveCardsDown c.loop-lo.cards c.nearest-from.result c.args.end 0 = λ x from to.
          is_covered-spans c.loop-lo.cards c.args.cards.now ((x - 0) / 2048) inv.beside.cards
          ∙ c.requires.cards x (omega (arith, above, low, from)) to in
          let skip : true ≡ true → CanSkip c.args.work.now view vs c.loop-lo.cards c.nearest-from.result c.args.end = λ on.
          record {
            quiet = λ i offset left a b m off. quiet_on rows view c.args.work.now.g vs layout (is_card_set c.args.cards.now)
                (is_card_set c.loop-lo.cards) c.args.first c.args.end inv.beside.set quiet i offset left
                (omega (arith, above, low, a)) b m off;
            row = λ a b from_a to_a from_b to_b. share_cover-spans c.loop-lo.cards c.args.cards.now (a / 2048) (b / 2048)
                inv.beside.cards
                ∙ c.requires.row a b (omega (arith, above, low, from_a)) to_a (omega (arith, above, low, from_b)) to_b;
            stays = stays;
          } in
          let (more, after) = items.ensures.gone view done.next vs b.items c.args.end done.relocating b.tracks near
          stays
          have under skip in (
            more,
            relocated_both c.args.work.now view now vs c.args.heap.now c.loop-lo.heap items.new.heap c.args.pins.now
                c.loop-lo.pins items.new.pins c.args.cards.now c.loop-lo.cards items.new.cards c.loop-lo.met.stretch
                items.new.met.stretch c.args.first c.nearest-from.result items.result heap held
                (omega (arith, above, low)) items.ensures.from inv.beside items.ensures.beside
                (record {
                  next = done.next;
                  relocating = done.relocating;
                  gone = b.has_gone;
                  telling = done.telling;
                  carded = b.are_carded;
                }) after,
          );
      beside = beside_trans c.args.cards.now c.loop-lo.cards items.new.cards c.args.pins.now c.loop-lo.pins
          items.new.pins inv.beside items.ensures.beside;
      kind = items.ensures.kind;
    }

pub returns-clause-gone : goal.returns-clause-gone
returns-clause-gone c view now vs is r track ahead goes sound quiet =
    let rows = c.args.work.now.types.now in
    let inv = c.loop-lo.invariant in
    let layout = rebounded (frame view) c.args.work.now.planned in
    let ((rest, left), done) = inv.gone view now vs is r track ahead goes sound quiet in
    let (all, set) = all_passed rows view now done.next c.args.work.now.g vs layout r.0.begun.plan.overlaid.heap
    r.0.begun.plan.held (is_card_set c.args.cards.now) (is_card_set c.loop-lo.cards) inv.beside.set c.args.first
    c.args.end c.loop-lo.cursor inv.low quiet ahead goes rest left done.gone done.carded c.in_default.ensures.none in
    record { next = done.next; relocating = done.relocating; gone = all; telling = done.telling; carded = set }

pub returns-clause-kind : goal.returns-clause-kind
returns-clause-kind c = c.loop-lo.invariant.kind

pub returns-clause-beside : goal.returns-clause-beside
returns-clause-beside c =
    c.loop-lo.invariant.beside
