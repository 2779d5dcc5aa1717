-- Place by place.
use Rattle.std.proofs.Common.{◌+◌, ◌*◌, sym, ◌∙◌}
use Rattle.clr_format.specs.NameTests.{final_tests}
use Rattle.clr_load.specs.SeenItems.{items_seen}
use Rattle.clr_load.proofs.NameSteps.{all_pass, here_fails, here_passes, same_start}
use Rattle.clr_load.proofs.StepWords.{first_fails, first_passes}
use Rattle.clr_load.proofs.finals.finals_fault.Goals as goal

pub returns-then-not-is_final_object : goal.returns-then-not-is_final_object
returns-then-not-is_final_object c =
    let i = c.loop-i.i in
    let tests = final_tests c.args.seen.now.types.now (items_seen c.args.seen.now) in
    sym (sym (same_start 8 tests c.args.o c.args.places.now) ∙ sym c.loop-i.invariant
    ∙ here_fails 8 tests c.args.o c.args.places.now 0 i (c.args.o + 8 * i) c.loop-i-test.true
    (first_fails (c.args.o + 8 * i) _ (sym c.is_final_object.ensures ∙ c.if-not-is_final_object.true)))

pub loop-i-preserved : goal.loop-i-preserved
loop-i-preserved c =
    let i = c.loop-i.i in
    let tests = final_tests c.args.seen.now.types.now (items_seen c.args.seen.now) in
    sym (here_passes 8 tests c.args.o c.args.places.now 0 i c.loop-i-test.true
    (first_passes (c.args.o + 8 * i) _ (sym c.is_final_object.ensures ∙ c.if-not-is_final_object.false)))
    ∙ c.loop-i.invariant

pub returns : goal.returns
returns c =
    let tests = final_tests c.args.seen.now.types.now (items_seen c.args.seen.now) in
    sym (sym (same_start 8 tests c.args.o c.args.places.now) ∙ sym c.loop-i.invariant
    ∙ all_pass 8 tests c.args.o c.args.places.now 0 c.loop-i.i c.loop-i-test.false)
