use Rattle.std.proofs.Common.{◌++◌, ◌∷◌, [], ℕ, List, append-nil, append_assoc, ap, refl, sym, ◌∙◌, subst}
use Rattle.clr_types.specs.Rising.{IsIn}
use Rattle.clr_types.specs.declared.item.Item.{Item}
use Rattle.clr_heap.proofs.Rewrite.{shaped_heap}
use Rattle.clr_view.proofs.Listed.{listed-known, listed-small}
use Rattle.clr_evacuate.specs.Forwarding.{IsForwarded, IsOffsetOf}
use Rattle.clr_evacuate.proofs.Loops.{next_can, next_done, next_listed, none_done}
use Rattle.clr_evacuate.proofs.Stages.{forwarded_cards}
use Rattle.clr_evacuate.proofs.slots.forward_references.Goals as goal

pub slots-offset-items-requires-clause-known : goal.slots-offset-items-requires-clause-known
slots-offset-items-requires-clause-known c =
    listed-known c.args.types.now c.args.heap.now c.args.found.now c.requires.heap c.requires.held c.requires.listed

pub slots-offset-items-requires-clause-size : goal.slots-offset-items-requires-clause-size
slots-offset-items-requires-clause-size c =
    listed-small c.args.types.now c.args.heap.now c.args.found.now c.requires.heap c.requires.held c.requires.listed

pub loop-offset-init : goal.loop-offset-init
loop-offset-init c = record {
  walked = refl;
  done = none_done c.args.types.now c.args.heap.now c.args.found.now c.args.cards.now c.requires.heap c.requires.held
      c.requires.listed c.requires.object;
}

pub forward_slot-requires : goal.forward_slot-requires
forward_slot-requires c =
    let rows = c.args.types.now in
    let h = c.args.heap.now in
    let i = c.args.found.now in
    let f = c.loop-offset.invariant.done in
    let walked = ap (λ (rest : List ℕ). c.loop-offset.yielded ++ rest) (sym c.in-Some.ensures.steps) ∙
    c.loop-offset.invariant.walked ∙ c.into_iter-offset-iterator.ensures.into_iter_gives ∙
    c.slots-offset-items.ensures in
    record {
      heap = shaped_heap h c.loop-offset.heap f.shape c.requires.heap;
      held = f.held;
      listed = subst (λ (is : List Item). IsIn i is) (sym f.items) c.requires.listed;
      object = c.requires.object;
      reference = next_listed rows h i c.args.cards.now c.requires.heap c.requires.held c.requires.listed
          c.requires.object c.loop-offset.heap c.loop-offset.cards c.loop-offset.yielded c.in-Some.offset
          c.next.new.self walked f;
      named = next_can rows h i c.args.cards.now c.requires.heap c.requires.held c.requires.listed c.requires.object
          c.loop-offset.heap c.loop-offset.cards c.loop-offset.yielded c.in-Some.offset c.next.new.self walked f
          c.requires.named;
      cards = forwarded_cards rows h c.loop-offset.heap c.args.cards.now c.loop-offset.cards
          (λ a. IsOffsetOf i.place c.loop-offset.yielded a) c.requires.heap c.requires.held f c.requires.cards;
    }

pub loop-offset-preserved : goal.loop-offset-preserved
loop-offset-preserved c =
    let rows = c.args.types.now in
    let h = c.args.heap.now in
    let i = c.args.found.now in
    let f = c.loop-offset.invariant.done in
    let walked = ap (λ (rest : List ℕ). c.loop-offset.yielded ++ rest) (sym c.in-Some.ensures.steps) ∙
    c.loop-offset.invariant.walked ∙ c.into_iter-offset-iterator.ensures.into_iter_gives ∙
    c.slots-offset-items.ensures in
    record {
      walked = append_assoc c.loop-offset.yielded (c.in-Some.offset ∷ []) c.next.new.self ∙ ap (λ (rest : List ℕ).
          c.loop-offset.yielded ++ rest) (sym c.in-Some.ensures.steps) ∙ c.loop-offset.invariant.walked;
      done = next_done rows h i c.args.cards.now c.requires.heap c.requires.held c.requires.listed c.requires.object
          c.loop-offset.heap c.loop-offset.cards c.loop-offset.yielded c.in-Some.offset c.next.new.self walked f
          c.forward_slot.new.heap c.forward_slot.new.cards c.forward_slot.ensures;
    }

pub returns : goal.returns
returns c =
    let all = sym (append-nil c.loop-offset.yielded) ∙ ap (λ (rest : List ℕ). c.loop-offset.yielded ++ rest) (sym
    c.in-None.ensures.steps.0) ∙ c.loop-offset.invariant.walked ∙ c.into_iter-offset-iterator.ensures.into_iter_gives
    ∙ c.slots-offset-items.ensures in
    subst (λ (os : List ℕ). IsForwarded c.args.types.now c.args.heap.now c.loop-offset.heap c.args.cards.now
    c.loop-offset.cards (λ a. IsOffsetOf c.args.found.now.place os a)) all c.loop-offset.invariant.done
