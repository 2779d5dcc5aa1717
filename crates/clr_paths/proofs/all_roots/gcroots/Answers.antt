-- The object that was found by its place has its text.
use Rattle.std.proofs.Common.{◌∙◌, refl, sym}
use Rattle.std.proofs.lemmas.Result.{err_from_is_err_and}
use Rattle.clr_sos.proofs.ObjectsByPlace.{found-not_none, none-in_machine, some-in_machine, stands-there}
use Rattle.clr_paths.proofs.all_roots.gcroots.Goals as goal

pub text_of-requires-clause-stands : goal.text_of-requires-clause-stands
text_of-requires-clause-stands c =
    stands-there c.args.view.now.types.now c.args.view.now.heap.now c.requires.lawful.heap c.requires.lawful.held
    c.args.a c.in-Some.field-0 (sym c.in-Some.is ∙ c.object_at.ensures)

pub returns-in_default-clause-no_object : goal.returns-in_default-clause-no_object
returns-in_default-clause-no_object c = λ m shown. (
  λ same. none-in_machine c.args.view.now.types.now c.args.view.now.heap.now c.requires.lawful.heap
      c.requires.lawful.held c.args.a m shown.objects (sym c.in_default.is ∙ c.object_at.ensures),
  λ none. refl,
)

pub returns-in_err-text-clause-no_object : goal.returns-in_err-text-clause-no_object
returns-in_err-text-clause-no_object c = λ m shown.
    let some = some-in_machine c.args.view.now.types.now c.args.view.now.heap.now c.requires.lawful.heap
    c.requires.lawful.held c.args.a m shown.objects c.in-Some.field-0 (sym c.in-Some.is ∙ c.object_at.ensures) in
    let fault = err_from_is_err_and c.from_residual.result c.from_residual.ensures.1 in (
      λ same. let r = fault.1 in let e = fault.2 in cc,
      λ none. absurd (found-not_none _ _ some none),
    )

pub returns-clause-no_object : goal.returns-clause-no_object
returns-clause-no_object c = λ m shown.
    let some = some-in_machine c.args.view.now.types.now c.args.view.now.heap.now c.requires.lawful.heap
    c.requires.lawful.held c.args.a m shown.objects c.in-Some.field-0 (sym c.in-Some.is ∙ c.object_at.ensures) in
    (λ same. absurd cc, λ none. absurd (found-not_none _ _ some none))
