-- The object, and then the slot.
use Rattle.std.proofs.Common.{refl, sym, ◌∙◌, ap}
use Rattle.clr_format.specs.NameTests.{is_reference_slot}
use Rattle.clr_sos.proofs.PlacedItems.{none_found, stands_found}
use Rattle.clr_load.proofs.StepWords.{both_pass, one_fails, two_fails}
use Rattle.clr_load.proofs.steps.bad_store.Goals as goal

pub returns-in_default-clause-word : goal.returns-in_default-clause-word
returns-in_default-clause-word c q earlier =
    sym (one_fails q _ _ (none_found c.args.seen.now.types.now c.args.seen.now.heap.now c.requires.heap
    c.requires.held.walkable
    c.args.object (sym c.object_at.ensures.object ∙ c.in_default.is)))

pub returns-then-is_reference_slot-clause-word : goal.returns-then-is_reference_slot-clause-word
returns-then-is_reference_slot-clause-word c q earlier =
    let there = sym c.object_at.ensures.object ∙ c.in-Some.is in
    sym (both_pass q _ _
    (stands_found c.args.seen.now.types.now c.args.seen.now.heap.now c.requires.heap c.requires.held.walkable
    c.args.object
    c.in-Some.item there)
    (ap (λ o. is_reference_slot c.args.seen.now.types.now o c.args.slot) there
    ∙ sym (c.is_reference_slot.ensures c.in-Some.item refl) ∙ c.if-is_reference_slot.true))

pub returns-else-is_reference_slot-clause-word : goal.returns-else-is_reference_slot-clause-word
returns-else-is_reference_slot-clause-word c q earlier =
    let there = sym c.object_at.ensures.object ∙ c.in-Some.is in
    sym (two_fails q _ _
    (stands_found c.args.seen.now.types.now c.args.seen.now.heap.now c.requires.heap c.requires.held.walkable
    c.args.object
    c.in-Some.item there)
    (ap (λ o. is_reference_slot c.args.seen.now.types.now o c.args.slot) there
    ∙ sym (c.is_reference_slot.ensures c.in-Some.item refl) ∙ c.if-is_reference_slot.false))
