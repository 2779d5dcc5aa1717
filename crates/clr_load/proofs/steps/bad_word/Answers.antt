-- By what is begun.
use Rattle.std.proofs.Common.{◌+◌, map, sym, ◌∙◌, ap}
use Rattle.clr_format.specs.NameTests.{first_failed, step_tests, test_from}
use Rattle.clr_sos.specs.declared.step.Step.{Step}
use Rattle.clr_load.specs.SeenItems.{items_seen}
use Rattle.clr_load.specs.StepTests.{fronts_among}
use Rattle.clr_load.proofs.NameSteps.{failed_one, none_failed, passed_one}
use Rattle.clr_load.proofs.steps.bad_word.Goals as goal

pub returns-in-Idle-clause-word : goal.returns-in-Idle-clause-word
returns-in-Idle-clause-word c q =
    sym (ap (λ (s : Step). first_failed (map (test_from q) (step_tests c.args.seen.now.types.now
    (items_seen c.args.seen.now) c.args.seen.now.heap.now (fronts_among c.args.earlier.now, s)))) c.in-Idle.is
    ∙ none_failed)

pub returns-in-Store-clause-word : goal.returns-in-Store-clause-word
returns-in-Store-clause-word c q =
    c.bad_store.ensures.word q (fronts_among c.args.earlier.now)
    ∙ sym (ap (λ (s : Step). first_failed (map (test_from q) (step_tests c.args.seen.now.types.now
    (items_seen c.args.seen.now) c.args.seen.now.heap.now (fronts_among c.args.earlier.now, s)))) c.in-Store.is)

pub returns-then-is_own_front-clause-word : goal.returns-then-is_own_front-clause-word
returns-then-is_own_front-clause-word c q =
    sym (ap (λ (s : Step). first_failed (map (test_from q) (step_tests c.args.seen.now.types.now
    (items_seen c.args.seen.now) c.args.seen.now.heap.now (fronts_among c.args.earlier.now, s)))) c.in-Begun.is
    ∙ passed_one (q + 32) _ (sym c.is_own_front.ensures ∙ c.if-is_own_front.true))

pub returns-else-is_own_front-clause-word : goal.returns-else-is_own_front-clause-word
returns-else-is_own_front-clause-word c q =
    sym (ap (λ (s : Step). first_failed (map (test_from q) (step_tests c.args.seen.now.types.now
    (items_seen c.args.seen.now) c.args.seen.now.heap.now (fronts_among c.args.earlier.now, s)))) c.in-Begun.is
    ∙ failed_one (q + 32) _ (sym c.is_own_front.ensures ∙ c.if-is_own_front.false))
