-- Reference by reference.
use Rattle.std.proofs.Common.{ℕ, ◌+◌, ◌<◌, List, [], ◌∷◌, ◌++◌, map, Some, refl, sym, ◌∙◌, ap, arith}
use Rattle.std.proofs.Common.{append-nil, append_assoc}
use Rattle.clr_types.specs.Descriptors.{reference_offsets}
use Rattle.clr_types.specs.Types.{form_at}
use Rattle.clr_format.specs.HeapFields.{word_named}
use Rattle.clr_format.specs.NameTests.{first_failed, reference_test}
use Rattle.clr_load.proofs.FoundItems.{known_there}
use Rattle.clr_load.proofs.NameSteps.{none_failed}
use Rattle.clr_load.proofs.ReferenceSteps.{failed_at, in_middle, passed_more, reference_fails}
use Rattle.clr_load.proofs.ReferenceSteps.{reference_passes, slot_facts}
use Rattle.clr_load.proofs.references.item_fault.Goals as goal

pub slots-offset-items-requires-clause-known : goal.slots-offset-items-requires-clause-known
slots-offset-items-requires-clause-known c =
    (known_there c.args.scan.now c.args.item.place c.args.item c.requires.there).known

pub slots-offset-items-requires-clause-size : goal.slots-offset-items-requires-clause-size
slots-offset-items-requires-clause-size c =
    let k = known_there c.args.scan.now c.args.item.place c.args.item c.requires.there in
    let size = k.size in
    let inside = k.inside in
    let low = c.requires.place.low in
    let high = c.requires.scan.high in
    omega (arith, size, inside, low, high)

pub loop-offset-init : goal.loop-offset-init
loop-offset-init c = record { walked = refl; passed = λ items starts. none_failed }

pub overflow_add-a : goal.overflow_add-a
overflow_add-a c =
    let walked =
    ap (λ rest. c.loop-offset.yielded ++ rest) (sym c.in-Some.ensures.steps) ∙ c.loop-offset.invariant.walked
    ∙ c.into_iter-offset-iterator.ensures.into_iter_gives ∙ c.slots-offset-items.ensures in
    let slot =
    slot_facts c.args.scan.now c.args.item c.in-Some.offset c.requires.scan c.requires.place c.requires.there
    (in_middle c.loop-offset.yielded c.in-Some.offset c.next.new.self
    (reference_offsets (form_at c.args.scan.now.types.now c.args.item.type_id.0) c.args.item.len) walked) in
    let high : c.args.item.place + c.in-Some.offset < 4611686018427387904 = slot.high in omega (arith, high)

pub present-requires-clause-high : goal.present-requires-clause-high
present-requires-clause-high c =
    let walked =
    ap (λ rest. c.loop-offset.yielded ++ rest) (sym c.in-Some.ensures.steps) ∙ c.loop-offset.invariant.walked
    ∙ c.into_iter-offset-iterator.ensures.into_iter_gives ∙ c.slots-offset-items.ensures in
    let slot =
    slot_facts c.args.scan.now c.args.item c.in-Some.offset c.requires.scan c.requires.place c.requires.there
    (in_middle c.loop-offset.yielded c.in-Some.offset c.next.new.self
    (reference_offsets (form_at c.args.scan.now.types.now c.args.item.type_id.0) c.args.item.len) walked) in
    slot.high

pub present-requires-clause-there : goal.present-requires-clause-there
present-requires-clause-there c =
    let walked =
    ap (λ rest. c.loop-offset.yielded ++ rest) (sym c.in-Some.ensures.steps) ∙ c.loop-offset.invariant.walked
    ∙ c.into_iter-offset-iterator.ensures.into_iter_gives ∙ c.slots-offset-items.ensures in
    let slot =
    slot_facts c.args.scan.now c.args.item c.in-Some.offset c.requires.scan c.requires.place c.requires.there
    (in_middle c.loop-offset.yielded c.in-Some.offset c.next.new.self
    (reference_offsets (form_at c.args.scan.now.types.now c.args.item.type_id.0) c.args.item.len) walked) in
    slot.there

pub offset_of-requires-clause-high : goal.offset_of-requires-clause-high
offset_of-requires-clause-high c =
    let walked =
    ap (λ rest. c.loop-offset.yielded ++ rest) (sym c.in-Some.ensures.steps) ∙ c.loop-offset.invariant.walked
    ∙ c.into_iter-offset-iterator.ensures.into_iter_gives ∙ c.slots-offset-items.ensures in
    let slot =
    slot_facts c.args.scan.now c.args.item c.in-Some.offset c.requires.scan c.requires.place c.requires.there
    (in_middle c.loop-offset.yielded c.in-Some.offset c.next.new.self
    (reference_offsets (form_at c.args.scan.now.types.now c.args.item.type_id.0) c.args.item.len) walked) in
    slot.high

pub returns-then-not-is_name : goal.returns-then-not-is_name
returns-then-not-is_name c items starts =
    let A : ℕ → ℕ = λ offset. c.args.item.place + offset in
    let N = word_named c.args.scan.now.bytes.now c.args.scan.now.info c.args.scan.now.at in
    let all =
    ap (λ rest. c.loop-offset.yielded ++ rest) (sym c.in-Some.ensures.steps) ∙ c.loop-offset.invariant.walked
    ∙ c.into_iter-offset-iterator.ensures.into_iter_gives ∙ c.slots-offset-items.ensures in
    let bad = sym (c.is_name.ensures items starts) ∙ c.if-not-is_name.true in
    ap Some c.offset_of.ensures
    ∙ sym (sym (ap (λ (xs : List ℕ). first_failed (map (reference_test items) (map N (map A xs)))) all)
    ∙ failed_at (reference_test items) N A c.loop-offset.yielded c.in-Some.offset c.next.new.self _
    (c.loop-offset.invariant.passed items starts)
    (reference_fails c.args.scan.now items (c.args.item.place + c.in-Some.offset) c.present.result c.present.ensures
    bad))

pub loop-offset-preserved : goal.loop-offset-preserved
loop-offset-preserved c = record {
  walked =
      append_assoc c.loop-offset.yielded (c.in-Some.offset ∷ []) c.next.new.self
      ∙ ap (λ rest. c.loop-offset.yielded ++ rest) (sym c.in-Some.ensures.steps) ∙ c.loop-offset.invariant.walked;
  passed = λ items starts.
      let good = sym (c.is_name.ensures items starts) ∙ c.if-not-is_name.false in
      passed_more (reference_test items)
      (word_named c.args.scan.now.bytes.now c.args.scan.now.info c.args.scan.now.at)
      (λ offset. c.args.item.place + offset) c.loop-offset.yielded c.in-Some.offset
      (c.loop-offset.invariant.passed items starts)
      (reference_passes c.args.scan.now items (c.args.item.place + c.in-Some.offset) c.present.result c.present.ensures
      good);
}

pub returns : goal.returns
returns c items starts =
    let A : ℕ → ℕ = λ offset. c.args.item.place + offset in
    let N = word_named c.args.scan.now.bytes.now c.args.scan.now.info c.args.scan.now.at in
    let all =
    sym (append-nil c.loop-offset.yielded) ∙ ap (λ rest. c.loop-offset.yielded ++ rest) (sym c.in-None.ensures.steps.0)
    ∙ c.loop-offset.invariant.walked ∙ c.into_iter-offset-iterator.ensures.into_iter_gives
    ∙ c.slots-offset-items.ensures in
    sym (sym (ap (λ (xs : List ℕ). first_failed (map (reference_test items) (map N (map A xs)))) all)
    ∙ c.loop-offset.invariant.passed items starts)
