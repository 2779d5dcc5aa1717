-- Both passes, and then what they found.
use Rattle.std.proofs.Common.{subst, sym, ◌∙◌}
use Rattle.std.proofs.lemmas.Result.{err_from_is_err_and}
use Rattle.clr_heap.specs.View.{IsHeap}
use Rattle.clr_load.proofs.LoadedImages.{fields_fail, tests_fail, tests_pass, whole_fails}
use Rattle.clr_load.proofs.ReadImages.{parts_found}
use Rattle.clr_load.proofs.SoundImages.{all_pass, image_sound}
use Rattle.clr_load.proofs.loading.load.Goals as goal

pub returns-in_err-kept-clause-loaded : goal.returns-in_err-kept-clause-loaded
returns-in_err-kept-clause-loaded c =
    let e = err_from_is_err_and c.from_residual.result c.from_residual.ensures.1 in
    rw (e.1, e.2) (fields_fail c.args.bytes.now c.in_err-kept.field-0.0 c.in_err-kept.ensures)

pub returns-in_err-whole-clause-loaded : goal.returns-in_err-whole-clause-loaded
returns-in_err-whole-clause-loaded c =
    let e = err_from_is_err_and c.from_residual-in_err-whole.result c.from_residual-in_err-whole.ensures.1 in
    let k = c.in_ok-kept.ensures in
    rw (e.1, e.2)
    (whole_fails c.args.bytes.now k.0 k.1 k.2 c.in_err-whole.field-0.0 (c.in_err-whole.ensures k.0 k.1 k.2 k.3))

pub whole_fault-requires : goal.whole_fault-requires
whole_fault-requires c =
    let k = c.in_ok-kept.ensures in (c.args.bytes.now, k.0, c.in_ok-whole.ensures k.0 k.1 k.2 k.3)

pub returns-in-Some-clause-loaded : goal.returns-in-Some-clause-loaded
returns-in-Some-clause-loaded c =
    let k = c.in_ok-kept.ensures in
    tests_fail c.args.bytes.now k.0 k.1 k.2 c.in-Some.o
    (sym (c.whole_fault.ensures c.args.bytes.now k.0 (c.in_ok-whole.ensures k.0 k.1 k.2 k.3)) ∙ c.in-Some.is)

pub restore-requires : goal.restore-requires
restore-requires c =
    let k = c.in_ok-kept.ensures in (c.args.bytes.now, k.0, c.in_ok-whole.ensures k.0 k.1 k.2 k.3)

pub returns-clause-loaded : goal.returns-clause-loaded
returns-clause-loaded c =
    let k = c.in_ok-kept.ensures in
    let whole = c.in_ok-whole.ensures k.0 k.1 k.2 k.3 in (
      k.0,
      tests_pass c.args.bytes.now k.0 k.1 k.2
          (sym (c.whole_fault.ensures c.args.bytes.now k.0 whole) ∙ c.in_default.is),
      c.in-Ok.ensures c.args.bytes.now k.0 whole,
    )

pub returns-clause-sound : goal.returns-clause-sound
returns-clause-sound c =
    let k = c.in_ok-kept.ensures in
    let whole = c.in_ok-whole.ensures k.0 k.1 k.2 k.3 in
    let shows = c.in-Ok.ensures c.args.bytes.now k.0 whole in
    image_sound c.args.bytes.now k.0 k.1 k.2 c.in-Ok.image shows
    (subst IsHeap (whole.heap ∙ sym shows.heap) whole.lawful)
    (all_pass k.0 (sym (c.whole_fault.ensures c.args.bytes.now k.0 whole) ∙ c.in_default.is))

pub returns-clause-version : goal.returns-clause-version
returns-clause-version c =
    let k = c.in_ok-kept.ensures in
    let whole = c.in_ok-whole.ensures k.0 k.1 k.2 k.3 in
    (c.in-Ok.ensures c.args.bytes.now k.0 whole).first ∙ (parts_found c.args.bytes.now k.0 k.1 k.2).first
