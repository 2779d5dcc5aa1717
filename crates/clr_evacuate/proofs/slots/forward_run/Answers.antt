use Rattle.std.proofs.Common.{◌≡◌, ℕ, ◌+◌, ◌-◌, ◌*◌, List, ap, sym, ◌∙◌, subst, arith}
use Rattle.clr_types.specs.Descriptors.{offsets_from}
use Rattle.clr_types.specs.Rising.{IsIn}
use Rattle.clr_types.specs.declared.item.Item.{Item}
use Rattle.clr_heap.proofs.Rewrite.{shaped_heap}
use Rattle.clr_mark.proofs.RunReferences.{run_more}
use Rattle.clr_view.proofs.SlotReads.{slot-low}
use Rattle.clr_evacuate.specs.Forwarding.{IsForwarded, IsOffsetOf}
use Rattle.clr_evacuate.proofs.Cells.{reference_at}
use Rattle.clr_evacuate.proofs.Loops.{next_can, next_done, next_listed, none_done, run_around}
use Rattle.clr_evacuate.proofs.OneReference.{slot_is}
use Rattle.clr_evacuate.proofs.Stages.{forwarded_cards}
use Rattle.clr_evacuate.proofs.slots.forward_run.Goals as goal

pub loop-i-init : goal.loop-i-init
loop-i-init c =
    none_done c.args.types.now c.args.heap.now c.args.found.now c.args.cards.now c.requires.heap c.requires.held
    c.requires.listed c.requires.object

pub overflow_mul-i : goal.overflow_mul-i
overflow_mul-i c =
    let rows = c.args.types.now in
    let h = c.args.heap.now in
    let i = c.args.found.now in
    let first = c.args.run.offset in
    let done = offsets_from first c.loop-i.i in
    let offset = first + 8 * c.loop-i.i in
    let rest = offsets_from (offset + 8) (c.args.run.count - c.loop-i.i - 1) in
    let walked = run_around first c.args.run.count c.loop-i.i c.loop-i-test.true ∙ sym c.requires.run in
    let f = c.loop-i.invariant in
    let reference = next_listed rows h i c.args.cards.now c.requires.heap c.requires.held c.requires.listed
    c.requires.object c.loop-i.heap c.loop-i.cards done offset rest walked f in
    let slot = slot_is rows h c.requires.heap c.requires.held i offset c.requires.listed reference in
    let low = slot-low rows h i (reference_at offset) c.requires.heap c.requires.held c.requires.listed slot in
    omega (arith, low)

pub overflow_add-run : goal.overflow_add-run
overflow_add-run c =
    let rows = c.args.types.now in
    let h = c.args.heap.now in
    let i = c.args.found.now in
    let first = c.args.run.offset in
    let done = offsets_from first c.loop-i.i in
    let offset = first + 8 * c.loop-i.i in
    let rest = offsets_from (offset + 8) (c.args.run.count - c.loop-i.i - 1) in
    let walked = run_around first c.args.run.count c.loop-i.i c.loop-i-test.true ∙ sym c.requires.run in
    let f = c.loop-i.invariant in
    let reference = next_listed rows h i c.args.cards.now c.requires.heap c.requires.held c.requires.listed
    c.requires.object c.loop-i.heap c.loop-i.cards done offset rest walked f in
    let slot = slot_is rows h c.requires.heap c.requires.held i offset c.requires.listed reference in
    let low = slot-low rows h i (reference_at offset) c.requires.heap c.requires.held c.requires.listed slot in
    omega (arith, low)

pub forward_slot-requires : goal.forward_slot-requires
forward_slot-requires c =
    let rows = c.args.types.now in
    let h = c.args.heap.now in
    let i = c.args.found.now in
    let first = c.args.run.offset in
    let done = offsets_from first c.loop-i.i in
    let offset = first + 8 * c.loop-i.i in
    let rest = offsets_from (offset + 8) (c.args.run.count - c.loop-i.i - 1) in
    let walked = run_around first c.args.run.count c.loop-i.i c.loop-i-test.true ∙ sym c.requires.run in
    let f = c.loop-i.invariant in
    record {
      heap = shaped_heap h c.loop-i.heap f.shape c.requires.heap;
      held = f.held;
      listed = subst (λ (is : List Item). IsIn i is) (sym f.items) c.requires.listed;
      object = c.requires.object;
      reference = next_listed rows h i c.args.cards.now c.requires.heap c.requires.held c.requires.listed
          c.requires.object c.loop-i.heap c.loop-i.cards done offset rest walked f;
      named = next_can rows h i c.args.cards.now c.requires.heap c.requires.held c.requires.listed c.requires.object
          c.loop-i.heap c.loop-i.cards done offset rest walked f c.requires.named;
      cards = forwarded_cards rows h c.loop-i.heap c.args.cards.now c.loop-i.cards (λ a. IsOffsetOf i.place done a)
          c.requires.heap c.requires.held f c.requires.cards;
    }

pub loop-i-preserved : goal.loop-i-preserved
loop-i-preserved c =
    let rows = c.args.types.now in
    let h = c.args.heap.now in
    let i = c.args.found.now in
    let first = c.args.run.offset in
    let done = offsets_from first c.loop-i.i in
    let offset = first + 8 * c.loop-i.i in
    let rest = offsets_from (offset + 8) (c.args.run.count - c.loop-i.i - 1) in
    let walked = run_around first c.args.run.count c.loop-i.i c.loop-i-test.true ∙ sym c.requires.run in
    let f = c.loop-i.invariant in
    let new = c.forward_slot.new.heap in
    let after = c.forward_slot.new.cards in
    subst (λ (os : List ℕ). IsForwarded rows h new c.args.cards.now after (λ a. IsOffsetOf i.place os a))
    (sym (run_more first c.loop-i.i))
    (next_done rows h i c.args.cards.now c.requires.heap c.requires.held c.requires.listed c.requires.object
    c.loop-i.heap c.loop-i.cards done offset rest walked f new after c.forward_slot.ensures)

pub returns : goal.returns
returns c =
    let off = c.loop-i-test.false in
    let within = c.loop-i.auto.i-end in
    let whole : c.loop-i.i ≡ c.args.run.count = omega (arith, off, within) in
    subst (λ (os : List ℕ). IsForwarded c.args.types.now c.args.heap.now c.loop-i.heap c.args.cards.now c.loop-i.cards
    (λ a. IsOffsetOf c.args.found.now.place os a)) (ap (offsets_from c.args.run.offset) whole ∙ sym c.requires.run)
    c.loop-i.invariant
