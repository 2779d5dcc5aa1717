-- What is written is what was made of all that was read.
use Rattle.std.proofs.Common.{◌≡◌, ◌∙◌, Err, List, ap, subst, ℕ}
use Rattle.clr_image.specs.Texts.{Migrated, Tells}
use Rattle.clr_image_io.proofs.ShownImages.{shows_answer, shows_none}
use Rattle.clr_image_io.proofs.showing.migrate_source.Goals as goal

pub returns-clause-shows : goal.returns-clause-shows
returns-clause-shows g c =
    let told = c.write_answer.ensures in
    let made = c.migrate-made.result in
    shows_answer Migrated _ c.in-Ok.bytes.items made _ _ _ _ c.write_answer.result c.in-Ok.ensures.whole
    (subst (λ (bytes : List ℕ). Tells Migrated bytes made) c.deref.ensures.value c.migrate-made.ensures)
    told.done told.bad_image told.part told.too_much

pub returns-in-Err-clause-shows : goal.returns-in-Err-clause-shows
returns-in-Err-clause-shows g c =
    let read = c.read_image.ensures in
    let is = c.in-Err.is in
    shows_none Migrated _ _ _ _ _ c.in-Err.fault (λ e. read.done (is ∙ ap Err e)) (λ e. read.image (is ∙ ap Err e))
    (λ e. read.write_fault (is ∙ ap Err e)) (λ e. read.too_much (is ∙ ap Err e))
