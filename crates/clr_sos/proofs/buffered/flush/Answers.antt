-- A part of what the buffer held was written.
use Rattle.std.proofs.lemmas.Result.{err_from_is_err_and}
use Rattle.clr_sos.proofs.BufferedTexts.{cut_part}
use Rattle.clr_sos.proofs.buffered.flush.Goals as goal

pub returns-in_err-write_all-clause-cut : goal.returns-in_err-write_all-clause-cut
returns-in_err-write_all-clause-cut g c =
    let p = err_from_is_err_and c.from_residual.result c.from_residual.ensures.1 in
    let part = c.in_err-write_all.ensures.part in
    rw p.1 (cut_part _ _ _ _ _ c.as_slice.result.now part.0 c.as_slice.ensures.value part.1
    c.in_err-write_all.ensures.cause)
