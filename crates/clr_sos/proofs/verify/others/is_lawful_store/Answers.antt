-- The object, and then its slot.
use Rattle.std.proofs.Common.{refl, sym, ◌∙◌, ap}
use Rattle.clr_sos.specs.Steps.{is_reference_slot}
use Rattle.clr_sos.proofs.PlacedItems.{there_found}
use Rattle.clr_sos.proofs.verify.others.is_lawful_store.Goals as goal

pub is_reference_slot-requires-clause-known : goal.is_reference_slot-requires-clause-known
is_reference_slot-requires-clause-known c =
    let view = c.args.state.now.view in
    (there_found view.types.now view.heap.now c.requires.heap c.requires.walkable c.args.object c.in-Some.item
    (sym c.object_at.ensures ∙ c.in-Some.is)).known

pub is_reference_slot-requires-clause-small : goal.is_reference_slot-requires-clause-small
is_reference_slot-requires-clause-small c =
    let view = c.args.state.now.view in
    (there_found view.types.now view.heap.now c.requires.heap c.requires.walkable c.args.object c.in-Some.item
    (sym c.object_at.ensures ∙ c.in-Some.is)).small

pub returns-in-Some : goal.returns-in-Some
returns-in-Some c = λ earlier.
    let view = c.args.state.now.view in
    let found = sym c.object_at.ensures ∙ c.in-Some.is in
    let is =
    c.is_reference_slot.ensures c.in-Some.item refl
    ∙ sym (ap (λ o. is_reference_slot view.types.now o c.args.slot) found) in (
      λ e. (
        (there_found view.types.now view.heap.now c.requires.heap c.requires.walkable c.args.object c.in-Some.item
            found).stands,
        sym is ∙ e,
      ),
      λ p. is ∙ p.1,
    )
