-- What a command answers: what its own function does, with the options that the arguments say.
use Rattle.std.proofs.Common.{◌∙◌, ap, inl, inr, Some}
use Rattle.clr_args.specs.declared.command_line.CommandLine.TheVariants.{Inspect, Migrate}
use Rattle.clr_run.proofs.Openings.{not_too_much}
use Rattle.clr_run.proofs.SaidRuns.{failed_read, image_options, lawful_with, no_look, no_open, no_other, no_read}
use Rattle.clr_run.proofs.SaidRuns.{not_none, open_budgets, opens_image, run_options, said_open, soak_options}
use Rattle.clr_run.proofs.Statuses.{no_usage, read_too_long, status_left, status_shown, too_long}
use Rattle.clr_run.proofs.command.run.Goals as goal

-- ---- a script that is read

pub returns-in-Run-clause-headline : goal.returns-in-Run-clause-headline
returns-in-Run-clause-headline g c = λ options says e.
    rw (run_options options _ _ (c.in-Some.is ∙ ap Some c.in-Run.is)
    (c.in-Ok.ensures.run options says))
    (c.run_source.ensures.headline e)

pub returns-in-Run-clause-done : goal.returns-in-Run-clause-done
returns-in-Run-clause-done g c = λ options says e.
    rw (run_options options _ _ (c.in-Some.is ∙ ap Some c.in-Run.is)
    (c.in-Ok.ensures.run options says))
    (c.run_source.ensures.done e)

pub returns-in-Run-clause-too_much : goal.returns-in-Run-clause-too_much
returns-in-Run-clause-too_much g c = λ options says e.
    rw (run_options options _ _ (c.in-Some.is ∙ ap Some c.in-Run.is)
    (c.in-Ok.ensures.run options says))
    (c.run_source.ensures.too_much e)

pub returns-in-Run-clause-read_before : goal.returns-in-Run-clause-read_before
returns-in-Run-clause-read_before g c = λ options says e.
    rw (run_options options _ _ (c.in-Some.is ∙ ap Some c.in-Run.is)
    (c.in-Ok.ensures.run options says))
    (c.run_source.ensures.read_before e)

pub returns-in-Run-clause-write_before : goal.returns-in-Run-clause-write_before
returns-in-Run-clause-write_before g c = λ options says e.
    rw (run_options options _ _ (c.in-Some.is ∙ ap Some c.in-Run.is)
    (c.in-Ok.ensures.run options says))
    (c.run_source.ensures.write_before e)

pub returns-in-Run-clause-complete : goal.returns-in-Run-clause-complete
returns-in-Run-clause-complete g c = λ options says short some unread unwritten.
    status_left c.run_source.result c.run_source.ensures.usage
    (λ e. unread (c.run_source.ensures.read_fault e))
    (λ e. unwritten (c.run_source.ensures.write_fault e))
    (λ e. let long = c.run_source.ensures.too_much e in too_long _ _ long.0 long.1 _ long.2.read long.3 some short)
    c.run_source.ensures.image

pub returns-in-Run-clause-inspect : goal.returns-in-Run-clause-inspect
returns-in-Run-clause-inspect g c = λ says.
    no_other _ _ _ Inspect c.in-Some.is c.in-Run.is (c.in-Ok.ensures.inspect says) (λ e. cc)

pub returns-in-Run-clause-migrate : goal.returns-in-Run-clause-migrate
returns-in-Run-clause-migrate g c = λ says.
    no_other _ _ _ Migrate c.in-Some.is c.in-Run.is (c.in-Ok.ensures.migrate says) (λ e. cc)

pub returns-in-Run-clause-read_fault : goal.returns-in-Run-clause-read_fault
returns-in-Run-clause-read_fault g c = λ e. inl (c.run_source.ensures.read_fault e)

pub returns-in-Run-clause-open_complete : goal.returns-in-Run-clause-open_complete
returns-in-Run-clause-open_complete g c = λ opens short short_script some some_script fault unread unwritten.
    no_open _ _ _ _ c.in-Some.is c.in-Run.is c.in-Ok.ensures.opens (λ budgets e. cc) opens

pub returns-in-Run-clause-open_unread : goal.returns-in-Run-clause-open_unread
returns-in-Run-clause-open_unread g c = λ opens e.
    no_open _ _ _ _ c.in-Some.is c.in-Run.is c.in-Ok.ensures.opens (λ budgets e. cc) opens

-- ---- a generated script

pub returns-in-Soak-clause-soak : goal.returns-in-Soak-clause-soak
returns-in-Soak-clause-soak g c = λ options seed count says e.
    let said = soak_options options _ _ seed _ count _ (c.in-Some.is ∙ ap Some c.in-Soak.is)
    (c.in-Ok.ensures.soak options seed count says) in
    rw (said.options_are, said.seed_is, said.count_is) (c.soak.ensures.done e)

pub returns-in-Soak-clause-soak_before : goal.returns-in-Soak-clause-soak_before
returns-in-Soak-clause-soak_before g c = λ options seed count says e.
    let said = soak_options options _ _ seed _ count _ (c.in-Some.is ∙ ap Some c.in-Soak.is)
    (c.in-Ok.ensures.soak options seed count says) in
    rw (said.options_are, said.seed_is, said.count_is) (c.soak.ensures.write_before e)

pub returns-in-Soak-clause-inspect : goal.returns-in-Soak-clause-inspect
returns-in-Soak-clause-inspect g c = λ says.
    no_other _ _ _ Inspect c.in-Some.is c.in-Soak.is (c.in-Ok.ensures.inspect says) (λ e. cc)

pub returns-in-Soak-clause-migrate : goal.returns-in-Soak-clause-migrate
returns-in-Soak-clause-migrate g c = λ says.
    no_other _ _ _ Migrate c.in-Some.is c.in-Soak.is (c.in-Ok.ensures.migrate says) (λ e. cc)

pub returns-in-Soak-clause-usage : goal.returns-in-Soak-clause-usage
returns-in-Soak-clause-usage g c = λ remembered. (
  λ e. absurd (no_usage c.soak.result c.soak.ensures.complete e),
  λ nothing. not_none _ _ c.in-Some.is (c.in-Ok.ensures.nothing nothing),
)

pub returns-in-Soak-clause-shown_complete : goal.returns-in-Soak-clause-shown_complete
returns-in-Soak-clause-shown_complete g c = λ looks short some unread unwritten.
    no_look _ _ _ _ c.in-Some.is c.in-Soak.is c.in-Ok.ensures.inspect c.in-Ok.ensures.migrate (λ e. cc) (λ e. cc) looks

pub returns-in-Soak-clause-open_complete : goal.returns-in-Soak-clause-open_complete
returns-in-Soak-clause-open_complete g c = λ opens short short_script some some_script fault unread unwritten.
    no_open _ _ _ _ c.in-Some.is c.in-Soak.is c.in-Ok.ensures.opens (λ budgets e. cc) opens

pub returns-in-Soak-clause-open_unread : goal.returns-in-Soak-clause-open_unread
returns-in-Soak-clause-open_unread g c = λ opens e.
    no_open _ _ _ _ c.in-Some.is c.in-Soak.is c.in-Ok.ensures.opens (λ budgets e. cc) opens

-- ---- an image that is made

pub returns-in-Image-clause-image : goal.returns-in-Image-clause-image
returns-in-Image-clause-image g c = λ options says.
    rw (image_options options _ _ (c.in-Some.is ∙ ap Some c.in-Image.is)
    (c.in-Ok.ensures.image options says))
    c.image_source.ensures.makes

pub returns-in-Image-clause-inspect : goal.returns-in-Image-clause-inspect
returns-in-Image-clause-inspect g c = λ says.
    no_other _ _ _ Inspect c.in-Some.is c.in-Image.is (c.in-Ok.ensures.inspect says) (λ e. cc)

pub returns-in-Image-clause-migrate : goal.returns-in-Image-clause-migrate
returns-in-Image-clause-migrate g c = λ says.
    no_other _ _ _ Migrate c.in-Some.is c.in-Image.is (c.in-Ok.ensures.migrate says) (λ e. cc)

pub returns-in-Image-clause-image_complete : goal.returns-in-Image-clause-image_complete
returns-in-Image-clause-image_complete g c = λ options says short some unread unwritten.
    let made = c.image_source.ensures in
    status_left c.image_source.result made.usage (λ e. unread (made.read_fault e))
    (λ e. unwritten (made.write_fault e)) (λ e. read_too_long _ _ _ (made.makes.too_much e) some short) made.image

pub returns-in-Image-clause-read_fault : goal.returns-in-Image-clause-read_fault
returns-in-Image-clause-read_fault g c = λ e. inl (c.image_source.ensures.read_fault e)

pub returns-in-Image-clause-open_complete : goal.returns-in-Image-clause-open_complete
returns-in-Image-clause-open_complete g c = λ opens short short_script some some_script fault unread unwritten.
    no_open _ _ _ _ c.in-Some.is c.in-Image.is c.in-Ok.ensures.opens (λ budgets e. cc) opens

pub returns-in-Image-clause-open_unread : goal.returns-in-Image-clause-open_unread
returns-in-Image-clause-open_unread g c = λ opens e.
    no_open _ _ _ _ c.in-Some.is c.in-Image.is c.in-Ok.ensures.opens (λ budgets e. cc) opens

-- ---- an image that is looked at

pub returns-in-Inspect-clause-migrate : goal.returns-in-Inspect-clause-migrate
returns-in-Inspect-clause-migrate g c = λ says.
    no_other _ _ _ Migrate c.in-Some.is c.in-Inspect.is (c.in-Ok.ensures.migrate says) (λ e. cc)

pub returns-in-Inspect-clause-shown_complete : goal.returns-in-Inspect-clause-shown_complete
returns-in-Inspect-clause-shown_complete g c = λ says short some unread unwritten.
    let shown = c.inspect_source.ensures in
    status_shown c.inspect_source.result shown.usage (λ e. unread (shown.read_fault e))
    (λ e. unwritten (shown.write_fault e)) (λ e. read_too_long _ _ _ (shown.shows.too_much e) some short)

pub returns-in-Inspect-clause-read_fault : goal.returns-in-Inspect-clause-read_fault
returns-in-Inspect-clause-read_fault g c = λ e. inl (c.inspect_source.ensures.read_fault e)

pub returns-in-Inspect-clause-open_complete : goal.returns-in-Inspect-clause-open_complete
returns-in-Inspect-clause-open_complete g c = λ opens short short_script some some_script fault unread unwritten.
    no_open _ _ _ _ c.in-Some.is c.in-Inspect.is c.in-Ok.ensures.opens (λ budgets e. cc) opens

pub returns-in-Inspect-clause-open_unread : goal.returns-in-Inspect-clause-open_unread
returns-in-Inspect-clause-open_unread g c = λ opens e.
    no_open _ _ _ _ c.in-Some.is c.in-Inspect.is c.in-Ok.ensures.opens (λ budgets e. cc) opens

pub returns-in-Migrate-clause-inspect : goal.returns-in-Migrate-clause-inspect
returns-in-Migrate-clause-inspect g c = λ says.
    no_other _ _ _ Inspect c.in-Some.is c.in-Migrate.is (c.in-Ok.ensures.inspect says) (λ e. cc)

pub returns-in-Migrate-clause-shown_complete : goal.returns-in-Migrate-clause-shown_complete
returns-in-Migrate-clause-shown_complete g c = λ says short some unread unwritten.
    let shown = c.migrate_source.ensures in
    status_shown c.migrate_source.result shown.usage (λ e. unread (shown.read_fault e))
    (λ e. unwritten (shown.write_fault e)) (λ e. read_too_long _ _ _ (shown.shows.too_much e) some short)

pub returns-in-Migrate-clause-read_fault : goal.returns-in-Migrate-clause-read_fault
returns-in-Migrate-clause-read_fault g c = λ e. inl (c.migrate_source.ensures.read_fault e)

pub returns-in-Migrate-clause-open_complete : goal.returns-in-Migrate-clause-open_complete
returns-in-Migrate-clause-open_complete g c = λ opens short short_script some some_script fault unread unwritten.
    no_open _ _ _ _ c.in-Some.is c.in-Migrate.is c.in-Ok.ensures.opens (λ budgets e. cc) opens

pub returns-in-Migrate-clause-open_unread : goal.returns-in-Migrate-clause-open_unread
returns-in-Migrate-clause-open_unread g c = λ opens e.
    no_open _ _ _ _ c.in-Some.is c.in-Migrate.is c.in-Ok.ensures.opens (λ budgets e. cc) opens

-- ---- an image that is opened

pub open_source-requires-clause-lawful : goal.open_source-requires-clause-lawful
open_source-requires-clause-lawful g c =
    let (path, says) = said_open _ _ _ _ c.in-Some.is c.in-Open.is c.in-Ok.ensures.said in
    lawful_with _ _ c.budgets_from.ensures says.1.lawful

pub returns-in-Open-clause-opens : goal.returns-in-Open-clause-opens
returns-in-Open-clause-opens g c = λ budgets path says.
    rw (open_budgets budgets _ _ _ (c.in-Some.is ∙ ap Some c.in-Open.is) c.budgets_from.ensures
    (c.in-Ok.ensures.opens budgets path says))
    c.open_source.ensures.opens

pub returns-in-Open-clause-image_untouched : goal.returns-in-Open-clause-image_untouched
returns-in-Open-clause-image_untouched g c = λ none.
    absurd (none (opens_image _ _ _ _ c.in-Some.is c.in-Open.is c.in-Ok.ensures.said))

pub returns-in-Open-clause-bad_image : goal.returns-in-Open-clause-bad_image
returns-in-Open-clause-bad_image g c = λ e.
    inr (opens_image _ _ _ _ c.in-Some.is c.in-Open.is c.in-Ok.ensures.said)

pub returns-in-Open-clause-read_fault : goal.returns-in-Open-clause-read_fault
returns-in-Open-clause-read_fault g c = λ e. failed_read (c.open_source.ensures.read_fault e)
    (opens_image _ _ _ _ c.in-Some.is c.in-Open.is c.in-Ok.ensures.said)

pub returns-in-Open-clause-open_complete : goal.returns-in-Open-clause-open_complete
returns-in-Open-clause-open_complete g c = λ opens short short_script some some_script fault unread unwritten.
    let opened = c.open_source.ensures in
    status_shown c.open_source.result opened.usage (λ e. no_read (opened.read_fault e) fault unread)
    (λ e. unwritten (opened.write_fault e))
    (not_too_much _ _ _ _ _ _ _ _ _ _ _ opened.opens short short_script some some_script)

pub returns-in-Open-clause-shown_state : goal.returns-in-Open-clause-shown_state
returns-in-Open-clause-shown_state g c = λ looks.
    no_look _ _ _ _ c.in-Some.is c.in-Open.is c.in-Ok.ensures.inspect c.in-Ok.ensures.migrate (λ e. cc) (λ e. cc) looks

pub returns-in-Open-clause-shown_complete : goal.returns-in-Open-clause-shown_complete
returns-in-Open-clause-shown_complete g c = λ looks short some unread unwritten.
    no_look _ _ _ _ c.in-Some.is c.in-Open.is c.in-Ok.ensures.inspect c.in-Ok.ensures.migrate (λ e. cc) (λ e. cc) looks

pub returns-in-Open-clause-inspect : goal.returns-in-Open-clause-inspect
returns-in-Open-clause-inspect g c = λ says.
    no_other _ _ _ Inspect c.in-Some.is c.in-Open.is (c.in-Ok.ensures.inspect says) (λ e. cc)

pub returns-in-Open-clause-migrate : goal.returns-in-Open-clause-migrate
returns-in-Open-clause-migrate g c = λ says.
    no_other _ _ _ Migrate c.in-Some.is c.in-Open.is (c.in-Ok.ensures.migrate says) (λ e. cc)

-- ---- arguments that say nothing

pub returns-in_default-said-clause-complete : goal.returns-in_default-said-clause-complete
returns-in_default-said-clause-complete g c = λ options says short some unread unwritten.
    absurd (c.in_default-said.not-Some _ (c.in-Ok.ensures.run options says).1)

pub returns-in_default-said-clause-soak_complete : goal.returns-in_default-said-clause-soak_complete
returns-in_default-said-clause-soak_complete g c = λ options seed count says.
    absurd (c.in_default-said.not-Some _ (c.in-Ok.ensures.soak options seed count says).1)

pub returns-in_default-said-clause-image_complete : goal.returns-in_default-said-clause-image_complete
returns-in_default-said-clause-image_complete g c = λ options says short some unread unwritten.
    absurd (c.in_default-said.not-Some _ (c.in-Ok.ensures.image options says).1)

pub returns-in_default-said-clause-open_complete : goal.returns-in_default-said-clause-open_complete
returns-in_default-said-clause-open_complete g c =
    λ (budgets, path, says) short short_script some some_script fault unread unwritten.
    absurd (c.in_default-said.not-Some _ (c.in-Ok.ensures.opens budgets path says))
