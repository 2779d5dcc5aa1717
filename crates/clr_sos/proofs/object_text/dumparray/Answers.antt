-- The object that was found by its place has the text of its slots.
use Rattle.std.proofs.Common.{◌∙◌, refl, sym}
use Rattle.std.proofs.lemmas.Result.{err_from_is_err_and}
use Rattle.clr_sos.proofs.ObjectsByPlace.{found-not_none, none-in_machine, object-with_place, some-in_machine}
use Rattle.clr_sos.proofs.ObjectTexts.{array_text-shows, memory-not_object, text-not_object}
use Rattle.clr_sos.proofs.object_text.dumparray.Goals as goal

pub returns-in_default-clause-no_object : goal.returns-in_default-clause-no_object
returns-in_default-clause-no_object c = λ m shows. (
  λ same. none-in_machine c.args.view.now.types.now c.args.view.now.heap.now c.lawful.ensures c.requires.held c.args.a m
      shows.objects (sym c.in_default.is ∙ c.object_at.ensures),
  λ none. refl,
)

pub array_text-requires-clause-listed : goal.array_text-requires-clause-listed
array_text-requires-clause-listed c =
    (object-with_place c.args.view.now.types.now c.args.view.now.heap.now c.lawful.ensures c.requires.held c.args.a
    c.in-Some.item (sym c.in-Some.is ∙ c.object_at.ensures)).listed

pub returns-in_err-text-clause-no_object : goal.returns-in_err-text-clause-no_object
returns-in_err-text-clause-no_object c = λ m shows.
    let some = some-in_machine c.args.view.now.types.now c.args.view.now.heap.now c.lawful.ensures c.requires.held
    c.args.a m shows.objects c.in-Some.item (sym c.in-Some.is ∙ c.object_at.ensures) in
    let fault = err_from_is_err_and c.from_residual.result c.from_residual.ensures.1 in (
      λ same. absurd (memory-not_object c.from_residual.result fault.0 fault.1 fault.2 same),
      λ none. absurd (found-not_none _ _ some none),
    )

pub returns-clause-text : goal.returns-clause-text
returns-clause-text c = λ m shows.
    let is = object-with_place c.args.view.now.types.now c.args.view.now.heap.now c.lawful.ensures c.requires.held
    c.args.a c.in-Some.item (sym c.in-Some.is ∙ c.object_at.ensures) in
    c.in_ok-text.ensures
    ∙ array_text-shows m c.args.view.now.types.now c.args.view.now.heap.now shows.types shows.objects shows.layout
    c.args.start c.args.length c.args.a c.in-Some.item c.lawful.ensures c.requires.held is

pub returns-clause-no_object : goal.returns-clause-no_object
returns-clause-no_object c = λ m shows.
    let some = some-in_machine c.args.view.now.types.now c.args.view.now.heap.now c.lawful.ensures c.requires.held
    c.args.a m shows.objects c.in-Some.item (sym c.in-Some.is ∙ c.object_at.ensures) in
    (λ same. absurd (text-not_object _ same), λ none. absurd (found-not_none _ _ some none))
