use Rattle.std.proofs.Common.{◌+◌, ap, refl, sym, ◌∙◌, subst, arith}
use Rattle.clr_types.specs.Segments.{ephemeral, stands_in}
use Rattle.clr_heap.specs.View.{frame}
use Rattle.clr_view.proofs.SlotReads.{slot-low}
use Rattle.clr_evacuate.specs.Forwarding.{CanForward}
use Rattle.clr_evacuate.proofs.Cells.{reference_at}
use Rattle.clr_evacuate.proofs.OneReference.{forwarded_one, null_forwarded, reference_has, same_forwarded}
use Rattle.clr_evacuate.proofs.OneReference.{slot_is}
use Rattle.clr_evacuate.proofs.slots.forward_slot.Goals as goal

pub overflow_add-found : goal.overflow_add-found
overflow_add-found c =
    let rows = c.args.types.now in
    let h = c.args.heap.now in
    let i = c.args.found.now in
    let slot = slot_is rows h c.requires.heap c.requires.held i c.args.offset c.requires.listed c.requires.reference in
    let low = slot-low rows h i (reference_at c.args.offset) c.requires.heap c.requires.held c.requires.listed slot in
    omega (arith, low)

pub word-named-requires : goal.word-named-requires
word-named-requires c =
    reference_has c.args.types.now c.args.heap.now c.requires.heap c.requires.held c.args.found.now c.args.offset
    c.requires.listed c.requires.reference

pub forward-target-requires : goal.forward-target-requires
forward-target-requires c = record {
  heap = c.requires.heap;
  held = c.requires.held;
  can = subst (CanForward c.args.types.now c.args.heap.now) (sym c.word-named.ensures.value) c.requires.named;
}

pub set_reference-requires : goal.set_reference-requires
set_reference-requires c =
    let slot = slot_is c.args.types.now c.args.heap.now c.requires.heap c.requires.held c.args.found.now c.args.offset
    c.requires.listed c.requires.reference in
    record {
      held = c.requires.held;
      listed = c.requires.listed;
      slot = slot;
      reference = refl;
      cards = c.requires.cards;
    }

pub returns-then-named-eq0 : goal.returns-then-named-eq0
returns-then-named-eq0 c =
    null_forwarded c.args.types.now c.args.heap.now c.requires.held c.args.cards.now
    (c.args.found.now.place + c.args.offset) (sym c.word-named.ensures.value ∙ c.if-named-eq0.true)

pub returns-then-not-is_ephemeral : goal.returns-then-not-is_ephemeral
returns-then-not-is_ephemeral c =
    let h = c.args.heap.now in
    let is = c.word-named.ensures.value in
    let same = c.if-target-named.true in
    same_forwarded c.args.types.now h c.requires.held c.args.cards.now (c.args.found.now.place + c.args.offset)
    (λ go leads. sym is ∙ sym same ∙ c.forward-target.ensures go leads ∙ ap go is)
    (ap (stands_in (ephemeral (frame h))) (sym is ∙ sym same) ∙ sym c.is_ephemeral.ensures
    ∙ c.if-not-is_ephemeral.true)

pub returns : goal.returns
returns c =
    forwarded_one c.args.types.now c.args.heap.now c.requires.heap c.requires.held c.args.found.now c.args.offset
    c.requires.listed c.requires.reference c.set_reference.new.heap c.args.cards.now c.set_reference.new.cards
    c.forward-target.result c.requires.object
    (λ go leads. c.forward-target.ensures go leads ∙ ap go c.word-named.ensures.value)
    c.set_reference.ensures.stored c.set_reference.ensures.words c.set_reference.ensures.clean
    c.set_reference.ensures.card c.set_reference.ensures.spans
