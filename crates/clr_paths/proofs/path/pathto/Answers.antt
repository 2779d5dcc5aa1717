-- The objects that were found by their places have their text.
use Rattle.std.proofs.Common.{◌∙◌, inl, inr, refl, sym}
use Rattle.std.proofs.lemmas.Result.{err_from_is_err_and}
use Rattle.clr_sos.proofs.ObjectsByPlace.{found-not_none, none-in_machine, some-in_machine, stands-there}
use Rattle.clr_paths.proofs.path.pathto.Goals as goal

pub text_of-requires-clause-from : goal.text_of-requires-clause-from
text_of-requires-clause-from c =
    stands-there c.args.view.now.types.now c.args.view.now.heap.now c.requires.lawful.heap c.requires.lawful.held
    c.args.a c.in-Some.field-0 (sym c.in-Some.is ∙ c.object_at.ensures)

pub text_of-requires-clause-to : goal.text_of-requires-clause-to
text_of-requires-clause-to c =
    stands-there c.args.view.now.types.now c.args.view.now.heap.now c.requires.lawful.heap c.requires.lawful.held
    c.args.b c.in-Some-object_at.field-0 (sym c.in-Some-object_at.is ∙ c.object_at-2.ensures)

pub returns-in_default-clause-no_object : goal.returns-in_default-clause-no_object
returns-in_default-clause-no_object c = λ m shown. (
  λ same. inl (none-in_machine c.args.view.now.types.now c.args.view.now.heap.now c.requires.lawful.heap
      c.requires.lawful.held c.args.a m shown.objects (sym c.in_default.is ∙ c.object_at.ensures)),
  λ none. refl,
)

pub returns-in_default-object_at-clause-no_object : goal.returns-in_default-object_at-clause-no_object
returns-in_default-object_at-clause-no_object c = λ m shown. (
  λ same. inr (none-in_machine c.args.view.now.types.now c.args.view.now.heap.now c.requires.lawful.heap
      c.requires.lawful.held c.args.b m shown.objects (sym c.in_default-object_at.is ∙ c.object_at-2.ensures)),
  λ none. refl,
)

pub returns-in_err-text-clause-no_object : goal.returns-in_err-text-clause-no_object
returns-in_err-text-clause-no_object c = λ m shown.
    let first = some-in_machine c.args.view.now.types.now c.args.view.now.heap.now c.requires.lawful.heap
    c.requires.lawful.held c.args.a m shown.objects c.in-Some.field-0 (sym c.in-Some.is ∙ c.object_at.ensures) in
    let second = some-in_machine c.args.view.now.types.now c.args.view.now.heap.now c.requires.lawful.heap
    c.requires.lawful.held c.args.b m shown.objects c.in-Some-object_at.field-0
    (sym c.in-Some-object_at.is ∙ c.object_at-2.ensures) in
    let fault = err_from_is_err_and c.from_residual.result c.from_residual.ensures.1 in (
      λ same. let r = fault.1 in let e = fault.2 in cc,
      λ none. elim none [
        | inl one ↦ absurd (found-not_none _ _ first one)
        | inr other ↦ absurd (found-not_none _ _ second other)
      ],
    )

pub returns-clause-no_object : goal.returns-clause-no_object
returns-clause-no_object c = λ m shown.
    let first = some-in_machine c.args.view.now.types.now c.args.view.now.heap.now c.requires.lawful.heap
    c.requires.lawful.held c.args.a m shown.objects c.in-Some.field-0 (sym c.in-Some.is ∙ c.object_at.ensures) in
    let second = some-in_machine c.args.view.now.types.now c.args.view.now.heap.now c.requires.lawful.heap
    c.requires.lawful.held c.args.b m shown.objects c.in-Some-object_at.field-0
    (sym c.in-Some-object_at.is ∙ c.object_at-2.ensures) in (
      λ same. absurd cc,
      λ none. elim none [
        | inl one ↦ absurd (found-not_none _ _ first one)
        | inr other ↦ absurd (found-not_none _ _ second other)
      ],
    )
