use Rattle.std.proofs.Common.{subst, sym}
use Rattle.clr_save.specs.SavedImages.{IsImageOf}
use Rattle.clr_save.proofs.SavedImages.{image-lawful}
use Rattle.clr_save.proofs.Snapshots.{image-saved}
use Rattle.clr_save.proofs.writing.save.Goals as goal

pub returns-clause-image : goal.returns-clause-image
returns-clause-image c m shows =
    image-saved c.args.snapshot.now m _ _ c.image_len.ensures.heap shows c.in_ok-out.ensures.items
    c.in_ok-put_image.ensures

pub returns-clause-lawful : goal.returns-clause-lawful
returns-clause-lawful c m shows sound =
    let fit = c.image_len.ensures in
    subst (IsImageOf m) (sym (returns-clause-image c m shows))
    (image-lawful c.args.snapshot.now m fit.heap shows sound fit.entries fit.ready)
