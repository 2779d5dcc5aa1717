-- Where a write failed, bytes from the text's front were written.
use Rattle.std.proofs.Common.{inl, length}
use Rattle.clr_image_io.proofs.ShownImages.{front_taken}
use Rattle.clr_image_io.proofs.showing.show_image.Goals as goal

pub returns-in-Cut-clause-part : goal.returns-in-Cut-clause-part
returns-in-Cut-clause-part g c _ =
    let (parts, is, text, says, cut) = c.in-Cut.ensures.written in (
      text,
      inl (parts, is, says),
      length cut.out,
      front_taken _ _ cut.out cut.rest text cut.whole cut.appended,
    )
