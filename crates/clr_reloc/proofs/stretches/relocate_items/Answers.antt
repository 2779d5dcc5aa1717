use Rattle.std.proofs.Common.{◌≡◌, ◌+◌, ap, sym, subst, arith}
use Rattle.clr_view.proofs.Listed.{listed-low}
use Rattle.clr_view.proofs.Standing.{standing}
use Rattle.clr_reloc.specs.Relocating.{Tracks}
use Rattle.clr_reloc.specs.Relocations.{AreRelocated}
use Rattle.clr_reloc.proofs.ManyItems.{below_end, item_ahead, relocated_both, relocated_none, skip_item, track_first}
use Rattle.clr_reloc.proofs.ManyItems.{track_has}
use Rattle.clr_reloc.proofs.OneObject.{beside_refl, beside_trans}
use Rattle.clr_reloc.proofs.stretches.relocate_items.Goals as goal

pub loop-place-init : goal.loop-place-init
loop-place-init c =
    record {
      low = omega arith;
      gone = λ view now vs is end r track ahead goes cards within skip. (
        (is, track),
        relocated_none c.args.work.now view now vs c.args.heap.now c.args.pins.now c.args.cards.now
            c.args.met.now.stretch c.args.range.from r,
      );
      beside = beside_refl c.args.cards.now c.args.pins.now;
      kind = c.requires.kind;
    }

pub overflow_sub-item : goal.overflow_sub-item
overflow_sub-item c =
    let (view, now, vs, is, end, r, track, ahead, goes, cards, within, skip) = c.requires.can in
    let low = c.loop-place.invariant.low in
    let down = goes c.loop-place.place low (below_end c.loop-place.place c.args.range.hi end c.loop-place-test.true within) in
    omega (arith, down)

pub segment_near-met-requires : goal.segment_near-met-requires
segment_near-met-requires c =
    let (view, now, vs, is, end, r, track, ahead, goes, cards, within, skip) = c.requires.can in
    let inv = c.loop-place.invariant in
    let ((rest, left), done) = inv.gone view now vs is end r track ahead goes cards within skip in
    let below = below_end c.loop-place.place c.args.range.hi end c.loop-place-test.true within in
    let heap = r.0.begun.plan.overlaid.heap in
    let held = r.0.begun.plan.held in
    track_has c.args.work.now.types.now view c.loop-place.heap heap held done.relocating.0.shape rest
    c.loop-place.place end
    left below

pub relocate_item-place-requires-clause-can : goal.relocate_item-place-requires-clause-can
relocate_item-place-requires-clause-can c =
    let (view, now, vs, is, end, r, track, ahead, goes, cards, within, skip) = c.requires.can in
    let inv = c.loop-place.invariant in
    let ((rest, left), done) = inv.gone view now vs is end r track ahead goes cards within skip in
    let below = below_end c.loop-place.place c.args.range.hi end c.loop-place-test.true within in
    let heap = r.0.begun.plan.overlaid.heap in
    let held = r.0.begun.plan.held in
    let rows = c.args.work.now.types.now in
    let t = track_first rows view rest c.loop-place.place end left below in (
      view,
      done.next,
      vs,
      t.item,
      done.relocating,
      item_ahead rows view now done.next c.args.work.now.g vs heap held c.args.range.from c.loop-place.place end c.args.range.down
          c.loop-place.cards inv.low below ahead goes done.gone t c.args.cards.now cards inv.beside.cards,
      skip_item c.args.work.now view vs c.args.cards.now c.loop-place.cards heap held c.args.range.from
          c.loop-place.place end inv.low t inv.beside.set inv.beside.cards c.args.range.carded skip,
    )

pub overflow_add-place : goal.overflow_add-place
overflow_add-place c =
    let (view, now, vs, is, end, r, track, ahead, goes, cards, within, skip) = c.requires.can in
    let inv = c.loop-place.invariant in
    let ((rest, left), done) = inv.gone view now vs is end r track ahead goes cards within skip in
    let below = below_end c.loop-place.place c.args.range.hi end c.loop-place-test.true within in
    let heap = r.0.begun.plan.overlaid.heap in
    let held = r.0.begun.plan.held in
    let rows = c.args.work.now.types.now in
    let t = track_first rows view rest c.loop-place.place end left below in
    let there = item_ahead rows view now done.next c.args.work.now.g vs heap held c.args.range.from c.loop-place.place end
    c.args.range.down c.loop-place.cards inv.low below ahead goes done.gone t c.args.cards.now cards inv.beside.cards in
    let (size, more) = c.relocate_item-place.ensures.gone view done.next vs t.item done.relocating there
    (skip_item c.args.work.now view vs c.args.cards.now c.loop-place.cards heap held c.args.range.from
    c.loop-place.place end inv.low t inv.beside.set inv.beside.cards c.args.range.carded skip) in
    let low = listed-low rows view t.item heap held t.listed in
    let at = t.at in
    omega (arith, size, low, at)

pub loop-place-smaller : goal.loop-place-smaller
loop-place-smaller c =
    let (view, now, vs, is, end, r, track, ahead, goes, cards, within, skip) = c.requires.can in
    let inv = c.loop-place.invariant in
    let ((rest, left), done) = inv.gone view now vs is end r track ahead goes cards within skip in
    let below = below_end c.loop-place.place c.args.range.hi end c.loop-place-test.true within in
    let heap = r.0.begun.plan.overlaid.heap in
    let held = r.0.begun.plan.held in
    let rows = c.args.work.now.types.now in
    let t = track_first rows view rest c.loop-place.place end left below in
    let there = item_ahead rows view now done.next c.args.work.now.g vs heap held c.args.range.from c.loop-place.place end
    c.args.range.down c.loop-place.cards inv.low below ahead goes done.gone t c.args.cards.now cards inv.beside.cards in
    let (size, more) = c.relocate_item-place.ensures.gone view done.next vs t.item done.relocating there
    (skip_item c.args.work.now view vs c.args.cards.now c.loop-place.cards heap held c.args.range.from
    c.loop-place.place end inv.low t inv.beside.set inv.beside.cards c.args.range.carded skip) in
    let up = (standing rows view heap held t.item t.listed).least in
    let test = c.loop-place-test.true in
    omega (arith, size, up, test)

pub loop-place-preserved : goal.loop-place-preserved
loop-place-preserved c =
    let inv = c.loop-place.invariant in
    let item = c.relocate_item-place in
    record {
      low = let low = inv.low in omega (arith, low);
      gone = λ view now vs is end r track ahead goes cards within skip.
          let ((rest, left), done) = inv.gone view now vs is end r track ahead goes cards within skip in
          let below = below_end c.loop-place.place c.args.range.hi end c.loop-place-test.true within in
          let heap = r.0.begun.plan.overlaid.heap in
          let held = r.0.begun.plan.held in
          let rows = c.args.work.now.types.now in
          let t = track_first rows view rest c.loop-place.place end left below in
          let there = item_ahead rows view now done.next c.args.work.now.g vs heap held c.args.range.from c.loop-place.place
          end
          c.args.range.down c.loop-place.cards inv.low below ahead goes done.gone t c.args.cards.now cards inv.beside.cards in
          let (size, more) = c.relocate_item-place.ensures.gone view done.next vs t.item done.relocating there
          (skip_item c.args.work.now view vs c.args.cards.now c.loop-place.cards heap held c.args.range.from
          c.loop-place.place end inv.low t inv.beside.set inv.beside.cards c.args.range.carded skip) in
          let to = c.loop-place.place + t.item.size in
          let ends : c.loop-place.place + item.result ≡ to = ap (λ n. c.loop-place.place + n) size in (
            (t.rest, subst (λ p. Tracks rows view t.rest p end) (sym ends) t.track),
            subst (AreRelocated c.args.work.now view now vs c.args.heap.now item.new.heap c.args.pins.now item.new.pins
                item.new.cards item.new.met.stretch c.args.range.from) (sym ends)
                (relocated_both c.args.work.now view now vs c.args.heap.now c.loop-place.heap item.new.heap
                c.args.pins.now c.loop-place.pins item.new.pins c.args.cards.now c.loop-place.cards item.new.cards
                c.loop-place.met.stretch item.new.met.stretch c.args.range.from c.loop-place.place to heap held inv.low
                (omega arith) inv.beside item.ensures.beside done more),
          );
      beside = beside_trans c.args.cards.now c.loop-place.cards item.new.cards c.args.pins.now c.loop-place.pins
          item.new.pins inv.beside item.ensures.beside;
      kind = item.ensures.kind;
    }

pub returns-clause-gone : goal.returns-clause-gone
returns-clause-gone c =
    c.loop-place.invariant.gone

pub returns-clause-kind : goal.returns-clause-kind
returns-clause-kind c =
    c.loop-place.invariant.kind

pub returns-clause-beside : goal.returns-clause-beside
returns-clause-beside c =
    c.loop-place.invariant.beside
