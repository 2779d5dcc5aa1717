use Rattle.std.proofs.Common.{◌≡◌, ◌+◌, ◌-◌, ◌<◌, ◌≤◌, ◌^◌, ◌∙◌, [], ◌∷◌, ◌++◌, ap, ap₂, sym, subst, subst₂, ◌/◌}
use Rattle.std.proofs.Common.{arith, refl, true, length, inr}
use Rattle.clr_cards.specs.Cards.{is_card_set}
use Rattle.clr_covers.specs.Covers.{is_covered}
use Rattle.clr_types.specs.Segments.{reserved_end}
use Rattle.clr_heap.specs.View.{frame, segment_at}
use Rattle.clr_model.specs.Compaction.{Move}
use Rattle.clr_moves.specs.Moves.{move_at, plug_stop}
use Rattle.clr_reloc.specs.Outside.{AreCardedPlugs, HaveGonePlugs}
use Rattle.clr_reloc.specs.Relocated.{rebounded}
use Rattle.clr_reloc.specs.Relocating.{AreCarded, HasGone, HaveCardsDown}
use Rattle.clr_reloc.proofs.OneObject.{beside_refl, beside_trans}
use Rattle.clr_reloc.proofs.PlugItems.{plug_track}
use Rattle.clr_reloc.proofs.Plugs.{all_met, at_cut, carded_more, cut_more, few_plugs, no_plugs_gone, none_more}
use Rattle.clr_reloc.proofs.Plugs.{one_more}
use Rattle.clr_reloc.proofs.Plugs.{plug_ahead, plug_cards, plug_down, plug_high, plugs_more, stretch_can}
use Rattle.clr_reloc.proofs.Telling.{gives_on, rest_above, stop_within}
use Rattle.clr_reloc.proofs.relocating.relocate_plugs.Goals as goal

pub loop-passed-init : goal.loop-passed-init
loop-passed-init c = record {
  gone = λ view vs r of. (
    view,
    [],
    vs,
    r,
    refl,
    refl,
    c.new-moves.ensures vs r.0.told,
    no_plugs_gone c.args.work.now.types.now view c.args.work.now.g vs,
    λ k l. absurd (omega (arith, l)),
  );
  beside = beside_refl c.args.cards.now c.args.pins.now;
  kind = c.requires.kind;
}

pub next-requires : goal.next-requires
next-requires c =
    let (view, vs, r, of) = c.requires.can in
    let (next, done, rest, q, cut, count, gives, gone, carded) = c.loop-passed.invariant.gone view vs r of in
    (rest, gives)

pub returns-in-None-clause-gone : goal.returns-in-None-clause-gone
returns-in-None-clause-gone c view vs r of =
    let (next, done, rest, q, cut, count, gives, gone, carded) = c.loop-passed.invariant.gone view vs r of in
    let none : rest ≡ [] = c.in-None.ensures rest gives in
    let all : c.loop-passed.passed ≡ length vs = sym count ∙ all_met vs done (subst (λ ws. vs ≡ done ++ ws) none cut)
    in (
      next,
      q,
      subst (HaveGonePlugs c.args.work.now.types.now view next c.args.work.now.g vs) all gone,
      subst (AreCardedPlugs c.args.work.now.types.now view c.args.work.now.g vs (rebounded (frame view)
          c.args.work.now.planned)
          (is_card_set c.loop-passed.cards)) all carded,
    )

pub overflow_sub-down : goal.overflow_sub-down
overflow_sub-down c =
    let (view, vs, r, of) = c.requires.can in
    let (next, done, rest, q, cut, count, gives, gone, carded) = c.loop-passed.invariant.gone view vs r of in
    let over = r.0.begun.plan.overlaid in
    let given = c.in-Some.ensures rest gives in
    let found = at_cut vs done c.in-Some.plug given.rest (cut ∙ ap (λ ws. done ++ ws) given.first) in
    let n = length done in
    let lower = subst (λ (v : Move). v.to ≤ v.start) found.0 (over.line.lower n found.1) in
    let at = c.start.ensures in
    let to = c.to.ensures in
    omega (arith, lower, at, to)

pub overflow_add-end : goal.overflow_add-end
overflow_add-end c =
    let (view, vs, r, of) = c.requires.can in
    let (next, done, rest, q, cut, count, gives, gone, carded) = c.loop-passed.invariant.gone view vs r of in
    let over = r.0.begun.plan.overlaid in
    let given = c.in-Some.ensures rest gives in
    let found = at_cut vs done c.in-Some.plug given.rest (cut ∙ ap (λ ws. done ++ ws) given.first) in
    let n = length done in
    let high = subst (λ (v : Move). plug_stop v ≤ 2 ^ 62) found.0
    (plug_high view c.args.work.now.g vs over.heap over.moves n found.1) in
    let at = c.start-start.ensures in
    let size = c.size.ensures in
    omega (arith, high, at, size)

pub relocate_stretch-requires-clause-can : goal.relocate_stretch-requires-clause-can
relocate_stretch-requires-clause-can c =
    let (view, vs, r, of) = c.requires.can in
    let (next, done, rest, q, cut, count, gives, gone, carded) = c.loop-passed.invariant.gone view vs r of in
    let over = r.0.begun.plan.overlaid in
    let given = c.in-Some.ensures rest gives in
    let found = at_cut vs done c.in-Some.plug given.rest (cut ∙ ap (λ ws. done ++ ws) given.first) in
    let n = length done in
    let rows = c.args.work.now.types.now in
    let track = plug_track rows view r.0.begun.before r.0.begun.bricks r.0.begun.entries c.args.work.now.g vs
    c.args.work.now.planned.start1
    c.args.work.now.planned.start0 r.0.begun.plan c.requires.least n found.1 in
    let (t, a, d) = stretch_can rows view next c.args.work.now.g vs n c.in-Some.plug found.0 over.line track.0 track.1
    (plug_ahead rows view next c.args.work.now.g vs over.line over.heap r.0.begun.plan.held n found.1
    (subst (HaveGonePlugs rows view next c.args.work.now.g vs) (sym count) gone))
    (plug_down rows view next c.args.work.now.g vs over.line over.heap r.0.begun.plan.held n found.1
    (subst (HaveGonePlugs rows view next c.args.work.now.g vs) (sym count) gone))
    c.start-start.result c.size.result c.start.result c.to.result c.start-start.ensures c.size.ensures c.start.ensures
    c.to.ensures in
    (view, next, vs, track.0, q, t, a, d)

pub relocate_stretch-requires-clause-cards : goal.relocate_stretch-requires-clause-cards
relocate_stretch-requires-clause-cards c x low high =
    let (view, vs, r, of) = c.requires.can in
    let (next, done, rest, q, cut, count, gives, gone, carded) = c.loop-passed.invariant.gone view vs r of in
    let over = r.0.begun.plan.overlaid in
    let given = c.in-Some.ensures rest gives in
    let found = at_cut vs done c.in-Some.plug given.rest (cut ∙ ap (λ ws. done ++ ws) given.first) in
    let n = length done in
    let have = subst (λ (v : Move). HaveCardsDown c.loop-passed.cards v.start (plug_stop v) (v.start - v.to)) found.0
    (plug_cards view c.args.work.now.g vs over.heap over.moves n found.1 c.loop-passed.cards
    (c.loop-passed.invariant.beside.cards ∙ of)) in
    let at = c.start-start.ensures in
    let size = c.size.ensures in
    subst (λ d. is_covered c.loop-passed.cards ((x - d) / 2048) ≡ true)
    (sym (ap₂ (λ s t. s - t) c.start.ensures c.to.ensures))
    (have x (omega (arith, low, at)) (omega (arith, high, at, size)))

pub loop-passed-preserved : goal.loop-passed-preserved
loop-passed-preserved c =
    let inv = c.loop-passed.invariant in
    let rows = c.args.work.now.types.now in
    record {
      gone = λ view vs r of.
          let (next, done, rest, q, cut, count, gives, gone, carded) = c.loop-passed.invariant.gone view vs r of in
          let over = r.0.begun.plan.overlaid in
          let given = c.in-Some.ensures rest gives in
          let found = at_cut vs done c.in-Some.plug given.rest
          (cut ∙ ap (λ ws. done ++ ws) given.first) in
          let n = length done in
          let track = plug_track rows view r.0.begun.before r.0.begun.bricks r.0.begun.entries c.args.work.now.g vs
          c.args.work.now.planned.start1 c.args.work.now.planned.start0 r.0.begun.plan c.requires.least n found.1 in
          let here = subst (HaveGonePlugs rows view next c.args.work.now.g vs) (sym count) gone in
          let (t, a, d) = stretch_can rows view next c.args.work.now.g vs n c.in-Some.plug found.0 over.line track.0
          track.1
          (plug_ahead rows view next c.args.work.now.g vs over.line over.heap r.0.begun.plan.held n found.1 here)
          (plug_down rows view next c.args.work.now.g vs over.line over.heap r.0.begun.plan.held n found.1 here)
          c.start-start.result c.size.result c.start.result c.to.result c.start-start.ensures c.size.ensures
          c.start.ensures c.to.ensures in
          let after = c.relocate_stretch.ensures.gone view next vs track.0 q t a d in
          let layout = rebounded (frame view) c.args.work.now.planned in
          let is_set = is_card_set c.relocate_stretch.new.cards in
          let v : c.start-start.result ≡ (move_at vs n).start =
          c.start-start.ensures ∙ ap (λ (w : Move). w.start) (sym found.0) in
          let e : c.start-start.result + c.size.result ≡ plug_stop (move_at vs n) =
          ap₂ (λ x y. x + y) c.start-start.ensures c.size.ensures ∙ ap plug_stop (sym found.0) in
          let more : n + 1 ≡ c.loop-passed.passed + 1 = ap (λ m. m + 1) count in (
            after.next,
            done ++ c.in-Some.plug ∷ [],
            given.rest,
            after.relocating,
            cut_more vs done c.in-Some.plug given.rest (cut ∙ ap (λ ws. done ++ ws) given.first),
            one_more done c.in-Some.plug ∙ more,
            gives_on rows view next after.next c.loop-passed.heap c.relocate_stretch.new.heap c.args.work.now.bricks.now
                c.loop-passed.pins.entries c.relocate_stretch.new.pins.entries c.args.work.now.g vs
                c.args.work.now.planned.start1
                c.args.work.now.planned.start0 q.0 after.relocating.0 c.relocate_stretch.ensures.beside.saved
                after.telling c.next.new.self given.rest
                (plug_stop (move_at vs n))
                (λ b z low. after.gone.others b z (inr (subst (λ x. x ≤ b + 8) (sym e) low)))
                given.gives
                (rest_above vs over.line done c.in-Some.plug given.rest (cut ∙ ap (λ ws. done ++ ws) given.first))
                (stop_within view c.args.work.now.g vs over.heap over.moves c.loop-passed.heap q.0.shape
                c.next.new.self.segment n
                found.1
                given.gives.within (subst (λ (w : Move). w.start < reserved_end (segment_at c.loop-passed.heap
                c.next.new.self.segment)) (sym found.0) given.within)),
            subst (HaveGonePlugs rows view after.next c.args.work.now.g vs) more
                (plugs_more rows view next c.args.work.now.g vs over.line over.heap r.0.begun.plan.held n found.1 here
                after.next
                (subst₂ (λ x y. HasGone rows view next after.next c.args.work.now.g vs x y) v e after.gone)),
            subst (AreCardedPlugs rows view c.args.work.now.g vs layout is_set) more
                (carded_more rows view c.args.work.now.g vs layout (is_card_set c.loop-passed.cards) is_set n
                c.relocate_stretch.ensures.beside.set
                (subst (AreCardedPlugs rows view c.args.work.now.g vs layout (is_card_set c.loop-passed.cards)) (sym
                count) carded)
                (subst₂ (λ x y. AreCarded rows view c.args.work.now.g vs layout is_set x y) v e after.carded)),
          );
      beside = beside_trans c.args.cards.now c.loop-passed.cards c.relocate_stretch.new.cards c.args.pins.now
          c.loop-passed.pins c.relocate_stretch.new.pins inv.beside c.relocate_stretch.ensures.beside;
      kind = c.relocate_stretch.ensures.kind;
    }

pub returns-clause-gone : goal.returns-clause-gone
returns-clause-gone c view vs r of =
    let (next, done, rest, q, cut, count, gives, gone, carded) = c.loop-passed.invariant.gone view vs r of in
    let over = r.0.begun.plan.overlaid in
    let few = few_plugs vs over.line (λ k l. (
      (over.moves.each k l).least,
      plug_high view c.args.work.now.g vs over.heap over.moves
          k l,
    )) in
    let most = none_more vs done rest cut in
    let end = c.loop-passed-test.false in
    absurd (omega (arith, few, most, count, end))

pub returns-in-None-clause-kind : goal.returns-in-None-clause-kind
returns-in-None-clause-kind c = c.loop-passed.invariant.kind

pub returns-in-None-clause-beside : goal.returns-in-None-clause-beside
returns-in-None-clause-beside c = c.loop-passed.invariant.beside

pub returns-clause-kind : goal.returns-clause-kind
returns-clause-kind c = c.loop-passed.invariant.kind

pub returns-clause-beside : goal.returns-clause-beside
returns-clause-beside c = c.loop-passed.invariant.beside
