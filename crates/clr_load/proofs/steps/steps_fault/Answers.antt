-- Thread by thread.
use Rattle.std.proofs.Common.{ℕ, ◌+◌, ◌*◌, ◌<◌, ◌≤◌, List, [], length, map}
use Rattle.std.proofs.Common.{sym, ◌∙◌, ap, arith}
use Rattle.clr_heap.proofs.Framing.{all_at}
use Rattle.clr_format.specs.NameTests.{first_failed, step_tests, test_from, with_earlier}
use Rattle.clr_sos.specs.declared.step.Step.{Step}
use Rattle.clr_sos.specs.declared.step.Step.TheVariants.{Idle}
use Rattle.clr_load.specs.SeenItems.{items_seen}
use Rattle.clr_load.specs.StepTests.{IsKnownStep}
use Rattle.clr_load.proofs.NameSteps.{all_pass, here_fails, here_passes, same_start}
use Rattle.clr_sos.proofs.EarlierSteps.{as_many, thread_at}
use Rattle.clr_load.proofs.steps.steps_fault.Goals as goal

nobody : List ℕ × Step
nobody = ([], Idle)

pub bad_word-requires-clause-known : goal.bad_word-requires-clause-known
bad_word-requires-clause-known c =
    all_at (IsKnownStep c.args.seen.now.types.now) c.args.steps.now c.loop-i.i Idle c.requires.known c.loop-i-test.true

pub returns-in-Some : goal.returns-in-Some
returns-in-Some c =
    let tests = step_tests c.args.seen.now.types.now (items_seen c.args.seen.now) c.args.seen.now.heap.now in
    let i = c.loop-i.i in
    let less : c.loop-i.i < length (with_earlier [] c.args.steps.now) =
    let n = as_many [] c.args.steps.now in let l = c.loop-i-test.true in omega arith in
    sym (sym (same_start 40 tests c.args.o (with_earlier [] c.args.steps.now)) ∙ sym c.loop-i.invariant
    ∙ here_fails 40 tests c.args.o (with_earlier [] c.args.steps.now) nobody i (c.args.o + 40 * i + c.in-Some.d) less
    (ap (λ (t : List ℕ × Step). first_failed (map (test_from (c.args.o + 40 * c.loop-i.i)) (tests t)))
    (thread_at c.args.steps.now i nobody Idle c.loop-i-test.true)
    ∙ sym (c.in-Some.ensures.word (c.args.o + 40 * i))))

pub loop-i-preserved : goal.loop-i-preserved
loop-i-preserved c =
    let tests = step_tests c.args.seen.now.types.now (items_seen c.args.seen.now) c.args.seen.now.heap.now in
    let i = c.loop-i.i in
    let less : c.loop-i.i < length (with_earlier [] c.args.steps.now) =
    let n = as_many [] c.args.steps.now in let l = c.loop-i-test.true in omega arith in
    sym (here_passes 40 tests c.args.o (with_earlier [] c.args.steps.now) nobody i less
    (ap (λ (t : List ℕ × Step). first_failed (map (test_from (c.args.o + 40 * c.loop-i.i)) (tests t)))
    (thread_at c.args.steps.now i nobody Idle c.loop-i-test.true)
    ∙ sym (c.in_default.ensures.word (c.args.o + 40 * i))))
    ∙ c.loop-i.invariant

pub returns : goal.returns
returns c =
    let tests = step_tests c.args.seen.now.types.now (items_seen c.args.seen.now) c.args.seen.now.heap.now in
    let most : length (with_earlier [] c.args.steps.now) ≤ c.loop-i.i =
    let n = as_many [] c.args.steps.now in let l = c.loop-i-test.false in omega arith in
    sym (sym (same_start 40 tests c.args.o (with_earlier [] c.args.steps.now)) ∙ sym c.loop-i.invariant
    ∙ all_pass 40 tests c.args.o (with_earlier [] c.args.steps.now) nobody c.loop-i.i most)
