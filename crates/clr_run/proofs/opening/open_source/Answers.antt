-- What was run of the script, or what is wrong with the image.
use Rattle.std.proofs.Common.{◌∙◌, Err, ap, inl, inr, refl}
use Rattle.clr_run.proofs.Openings.{has_opened, opens_none, opens_ran, opens_refused}
use Rattle.clr_run.proofs.opening.open_source.Goals as goal

pub returns-in-Ok-open-clause-opens : goal.returns-in-Ok-open-clause-opens
returns-in-Ok-open-clause-opens g c =
    let ran = c.run_over.ensures in
    let (parts, is, fits, same) = c.in-Ok-open.ensures.opened in
    let (first, stands) = c.in-Ok-open.ensures.stands in
    opens_ran _ _ _ _ _ _ _ _ _ _ _ first
    (has_opened _ _ _ _ c.in-Ok.bytes.items parts c.in-Ok-open.runtime first c.in-Ok.ensures.whole is fits same stands)
    (λ e. ran.headline e first stands) (λ e. ran.done e first stands) (λ e. ran.read_before e first stands)
    (λ e. ran.write_before e first stands) (λ e. ran.too_much e first stands) ran.image

pub returns-in-Err-clause-opens : goal.returns-in-Err-clause-opens
returns-in-Err-clause-opens g c =
    let read = c.read_image.ensures in
    let is = c.in-Err.is in
    opens_none _ _ _ _ _ _ _ _ c.in-Err.fault (λ e. read.done (is ∙ ap Err e)) (λ e. read.image (is ∙ ap Err e))
    (λ e. read.write_fault (is ∙ ap Err e)) (λ e. read.too_much (is ∙ ap Err e))

pub returns-in-Err-BadImage-clause-opens : goal.returns-in-Err-BadImage-clause-opens
returns-in-Err-BadImage-clause-opens g c =
    let bad = c.in-Err-BadImage.ensures.bad _ (ap Err c.in-Err-BadImage.field-0-is) in
    let told = c.write_fault.ensures in
    opens_refused _ _ _ _ _ _ _ _ _ c.write_fault.result c.in-Ok.bytes.items _ c.in-Ok.ensures.whole
    (inl (c.in-Err-BadImage.offset, bad, refl)) told.written told.part told.complete

pub returns-in-Err-Unfit-clause-opens : goal.returns-in-Err-Unfit-clause-opens
returns-in-Err-Unfit-clause-opens g c =
    let (parts, is, unfit) = c.in-Err-Unfit.ensures.unfit _ (ap Err c.in-Err-Unfit.field-0-is) in
    let told = c.write_unfit.ensures in
    opens_refused _ _ _ _ _ _ _ _ _ c.write_unfit.result c.in-Ok.bytes.items _ c.in-Ok.ensures.whole
    (inr (parts, c.in-Err-Unfit.offset, is, unfit, refl)) told.written told.part told.complete
