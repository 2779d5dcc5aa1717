-- What is written is what all that was read says.
use Rattle.std.proofs.Common.{◌≡◌, ◌∙◌, Err, ap}
use Rattle.clr_image.specs.Texts.{Inspected}
use Rattle.clr_image_io.proofs.ShownImages.{shows_none, shows_written}
use Rattle.clr_image_io.proofs.showing.inspect_source.Goals as goal

pub returns-clause-shows : goal.returns-clause-shows
returns-clause-shows g c =
    let told = c.show_image.ensures in
    shows_written Inspected _ c.in-Ok.bytes.items _ _ _ _ c.show_image.result c.in-Ok.ensures.whole
    told.done told.bad_image told.part told.too_much

pub returns-in-Err-clause-shows : goal.returns-in-Err-clause-shows
returns-in-Err-clause-shows g c =
    let read = c.read_image.ensures in
    let is = c.in-Err.is in
    shows_none Inspected _ _ _ _ _ c.in-Err.fault (λ e. read.done (is ∙ ap Err e)) (λ e. read.image (is ∙ ap Err e))
    (λ e. read.write_fault (is ∙ ap Err e)) (λ e. read.too_much (is ∙ ap Err e))
