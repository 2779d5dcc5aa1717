use Rattle.std.proofs.Common.{◌++◌, ◌∷◌, [], ℕ, List, append-nil, append_assoc, ap, refl, sym, ◌∙◌, arith}
use Rattle.clr_view.proofs.Listed.{listed-known, listed-small}
use Rattle.clr_heap.specs.View.{frame}
use Rattle.clr_generations.proofs.BarrierLaw.{generation-most}
use Rattle.clr_reloc.specs.Relocated.{rebounded}
use Rattle.clr_reloc.proofs.ObjectLoops.{passed_all, passed_more, passed_none, slot_at, slot_card, slot_fits, slot_next}
use Rattle.clr_reloc.proofs.objects.relocate_slots.Goals as goal

pub slots-offset-items-requires-clause-known : goal.slots-offset-items-requires-clause-known
slots-offset-items-requires-clause-known c =
    let (view, now, vs, r, ahead) = c.requires.can in
    listed-known c.args.work.now.types.now view c.args.object.now.found r.0.begun.plan.overlaid.heap r.0.begun.plan.held
    ahead.left.listed

pub slots-offset-items-requires-clause-size : goal.slots-offset-items-requires-clause-size
slots-offset-items-requires-clause-size c =
    let (view, now, vs, r, ahead) = c.requires.can in
    listed-small c.args.work.now.types.now view c.args.object.now.found r.0.begun.plan.overlaid.heap r.0.begun.plan.held
    ahead.left.listed

pub loop-offset-init : goal.loop-offset-init
loop-offset-init c =
    record {
      walked = refl;
      passed = passed_none c.args.work.now c.args.object.now c.args.heap.now c.args.pins.now c.args.cards.now
          c.args.last.now;
    }

pub relocate_slot-requires-clause-fits : goal.relocate_slot-requires-clause-fits
relocate_slot-requires-clause-fits c =
    let walked = ap (λ (rest : List ℕ). c.loop-offset.yielded ++ rest) (sym c.in-Some.ensures.steps)
    ∙ c.loop-offset.invariant.walked ∙ c.into_iter-offset-iterator.ensures.into_iter_gives
    ∙ c.slots-offset-items.ensures in
    let (view, now, vs, r, ahead) = c.requires.can in
    (slot_fits c.args.work.now c.args.object.now c.args.heap.now c.args.pins.now c.args.cards.now c.args.last.now
    c.loop-offset.heap c.loop-offset.pins c.loop-offset.cards c.loop-offset.last c.loop-offset.yielded
    c.in-Some.offset c.next.new.self walked c.loop-offset.invariant.passed view now vs r ahead).0

pub relocate_slot-requires-clause-goes : goal.relocate_slot-requires-clause-goes
relocate_slot-requires-clause-goes c =
    let walked = ap (λ (rest : List ℕ). c.loop-offset.yielded ++ rest) (sym c.in-Some.ensures.steps)
    ∙ c.loop-offset.invariant.walked ∙ c.into_iter-offset-iterator.ensures.into_iter_gives
    ∙ c.slots-offset-items.ensures in
    let (view, now, vs, r, ahead) = c.requires.can in
    (slot_fits c.args.work.now c.args.object.now c.args.heap.now c.args.pins.now c.args.cards.now c.args.last.now
    c.loop-offset.heap c.loop-offset.pins c.loop-offset.cards c.loop-offset.last c.loop-offset.yielded
    c.in-Some.offset c.next.new.self walked c.loop-offset.invariant.passed view now vs r ahead).1

pub relocate_slot-requires-clause-age : goal.relocate_slot-requires-clause-age
relocate_slot-requires-clause-age c =
    let most = generation-most (rebounded (frame c.args.heap.now) c.args.work.now.planned) c.args.object.now.to in
    let age = c.requires.placed.age in
    omega (arith, most, age)

pub relocate_slot-requires-clause-can : goal.relocate_slot-requires-clause-can
relocate_slot-requires-clause-can c =
    let walked = ap (λ (rest : List ℕ). c.loop-offset.yielded ++ rest) (sym c.in-Some.ensures.steps)
    ∙ c.loop-offset.invariant.walked ∙ c.into_iter-offset-iterator.ensures.into_iter_gives
    ∙ c.slots-offset-items.ensures in
    let (view, now, vs, r, ahead) = c.requires.can in
    let (next, q, here) = slot_next c.args.work.now c.args.object.now c.args.heap.now c.args.pins.now c.args.cards.now
    c.args.last.now
    c.loop-offset.heap c.loop-offset.pins c.loop-offset.cards c.loop-offset.last c.loop-offset.yielded
    c.in-Some.offset c.next.new.self walked c.loop-offset.invariant.passed view now vs r ahead in
    (view, next, vs, q, here)

pub relocate_slot-requires-clause-segment : goal.relocate_slot-requires-clause-segment
relocate_slot-requires-clause-segment c =
    let walked = ap (λ (rest : List ℕ). c.loop-offset.yielded ++ rest) (sym c.in-Some.ensures.steps)
    ∙ c.loop-offset.invariant.walked ∙ c.into_iter-offset-iterator.ensures.into_iter_gives
    ∙ c.slots-offset-items.ensures in
    let (view, now, vs, r, ahead) = c.requires.can in
    slot_at c.args.work.now c.args.object.now c.args.heap.now c.args.pins.now c.args.cards.now c.args.last.now
    c.loop-offset.heap c.loop-offset.pins c.loop-offset.cards c.loop-offset.last c.loop-offset.yielded
    c.in-Some.offset c.next.new.self walked c.loop-offset.invariant.passed view now vs r ahead
    c.requires.placed

pub relocate_slot-requires-clause-card : goal.relocate_slot-requires-clause-card
relocate_slot-requires-clause-card c =
    let walked = ap (λ (rest : List ℕ). c.loop-offset.yielded ++ rest) (sym c.in-Some.ensures.steps)
    ∙ c.loop-offset.invariant.walked ∙ c.into_iter-offset-iterator.ensures.into_iter_gives
    ∙ c.slots-offset-items.ensures in
    let (view, now, vs, r, ahead) = c.requires.can in
    slot_card c.args.work.now c.args.object.now c.args.heap.now c.args.pins.now c.args.cards.now c.args.last.now
    c.loop-offset.heap c.loop-offset.pins c.loop-offset.cards c.loop-offset.last c.loop-offset.yielded
    c.in-Some.offset c.next.new.self walked c.loop-offset.invariant.passed view now vs r ahead
    c.requires.placed

pub loop-offset-preserved : goal.loop-offset-preserved
loop-offset-preserved c =
    let walked = ap (λ (rest : List ℕ). c.loop-offset.yielded ++ rest) (sym c.in-Some.ensures.steps)
    ∙ c.loop-offset.invariant.walked ∙ c.into_iter-offset-iterator.ensures.into_iter_gives
    ∙ c.slots-offset-items.ensures in
    let slot = c.relocate_slot in
    record {
      walked = append_assoc c.loop-offset.yielded (c.in-Some.offset ∷ []) c.next.new.self ∙ ap (λ (rest : List ℕ).
          c.loop-offset.yielded ++ rest) (sym c.in-Some.ensures.steps) ∙ c.loop-offset.invariant.walked;
      passed = passed_more c.args.work.now c.args.object.now c.args.heap.now c.args.pins.now c.args.cards.now
          c.args.last.now c.loop-offset.heap c.loop-offset.pins c.loop-offset.cards c.loop-offset.last
          c.loop-offset.yielded c.in-Some.offset c.next.new.self walked c.loop-offset.invariant.passed
          c.requires.placed.age slot.new.heap slot.new.pins slot.new.cards slot.new.last slot.ensures.gone
          slot.ensures.beside;
    }

pub returns-clause-gone : goal.returns-clause-gone
returns-clause-gone c =
    let all = sym (append-nil c.loop-offset.yielded) ∙ ap (λ (rest : List ℕ). c.loop-offset.yielded ++ rest) (sym
    c.in-None.ensures.steps.0) ∙ c.loop-offset.invariant.walked ∙ c.into_iter-offset-iterator.ensures.into_iter_gives
    ∙ c.slots-offset-items.ensures in
    passed_all c.args.work.now c.args.object.now c.args.heap.now c.args.pins.now c.args.cards.now c.args.last.now
    c.loop-offset.heap c.loop-offset.pins c.loop-offset.cards c.loop-offset.last c.loop-offset.yielded
    c.loop-offset.invariant.passed all

pub returns-clause-beside : goal.returns-clause-beside
returns-clause-beside c =
    c.loop-offset.invariant.passed.beside
