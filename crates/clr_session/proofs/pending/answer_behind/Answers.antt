-- The reply stands behind what was there.
use Rattle.std.proofs.Common.{arith, refl}
use Rattle.clr_script.proofs.Digits.{front_written}
use Rattle.clr_session.proofs.pending.answer_behind.Goals as goal

pub returns-clause-answered : goal.returns-clause-answered
returns-clause-answered c some =
    let done = c.answer_into-read.ensures in (
      _,
      done.answered some,
      front_written c.args.buffer.now c.answer_into-read.new.into _ c.args.at _ c.answer_into-read.result.1
          (omega arith) done.within refl,
    )
