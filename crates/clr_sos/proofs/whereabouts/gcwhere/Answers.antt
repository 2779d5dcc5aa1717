-- The object that was found by its place stands in the segment of its first word.
use Rattle.std.proofs.Common.{◌∙◌, ℕ, ap, refl, sym, subst, length, ◌<◌}
use Rattle.clr_types.specs.declared.segment.SegInfo.{SegInfo}
use Rattle.clr_heap.specs.View.{segment_at}
use Rattle.clr_model.specs.Sos.{kind_number}
use Rattle.clr_sos.proofs.ObjectsByPlace.{found-not_none, none-in_machine, object-with_place, some-in_machine}
use Rattle.clr_sos.proofs.PlaceSegments.{object-has_word, object-in_range, where-shows}
use Rattle.clr_sos.proofs.whereabouts.gcwhere.Goals as goal

pub returns-in_err-item-clause-none : goal.returns-in_err-item-clause-none
returns-in_err-item-clause-none c = λ m shows. (
  λ same. none-in_machine c.args.view.now.types.now c.args.view.now.heap.now c.lawful.ensures c.requires.held c.args.a m
      shows.objects c.in_err-item.ensures,
  λ none. c.from_residual.ensures,
)

pub segment_of-k-requires : goal.segment_of-k-requires
segment_of-k-requires c =
    object-has_word c.args.view.now.types.now c.args.view.now.heap.now c.lawful.ensures c.requires.held c.args.a
    c.in_ok-item.item (object-with_place c.args.view.now.types.now c.args.view.now.heap.now c.lawful.ensures
    c.requires.held c.args.a c.in_ok-item.item c.in_ok-item.ensures)

pub info-segment-requires : goal.info-segment-requires
info-segment-requires c =
    let range = object-in_range c.args.view.now.types.now c.args.view.now.heap.now c.lawful.ensures c.requires.held
    c.args.a c.in_ok-item.item (object-with_place c.args.view.now.types.now c.args.view.now.heap.now c.lawful.ensures
    c.requires.held c.args.a c.in_ok-item.item c.in_ok-item.ensures) in
    subst (λ (k : ℕ). k < length c.args.view.now.heap.now.segments) (sym c.segment_of-k.ensures) range

pub returns-clause-place : goal.returns-clause-place
returns-clause-place c = λ m shows.
    let is = object-with_place c.args.view.now.types.now c.args.view.now.heap.now c.lawful.ensures c.requires.held
    c.args.a c.in_ok-item.item c.in_ok-item.ensures in
    let segment = c.info-segment.ensures.value
    ∙ ap (λ (k : ℕ). segment_at c.args.view.now.heap.now k) c.segment_of-k.ensures in
    let kind = c.number_of_kind.ensures ∙ ap (λ (s : SegInfo). kind_number s.kind) segment in
    (λ j. record {
      generation = c.gen_of.ensures j;
      kind = kind j;
      base = (segment j).base;
      size = c.in_ok-item.item.size;
    })
    ∙ where-shows c.args.view.now.types.now c.args.view.now.heap.now c.lawful.ensures c.requires.held c.args.a
    c.in_ok-item.item is m shows.types shows.objects shows.layout

pub returns-clause-none : goal.returns-clause-none
returns-clause-none c = λ m shows.
    let some = some-in_machine c.args.view.now.types.now c.args.view.now.heap.now c.lawful.ensures c.requires.held
    c.args.a m shows.objects c.in_ok-item.item c.in_ok-item.ensures in
    (λ same. absurd (found-not_none _ _ refl same), λ none. absurd (found-not_none _ _ some none))
