-- The line stands behind what was there.
use Rattle.std.proofs.Common.{arith}
use Rattle.clr_script.proofs.Digits.{front_written}
use Rattle.clr_session.proofs.pending.reply_behind.Goals as goal

pub returns-clause-text : goal.returns-clause-text
returns-clause-text c = front_written c.args.buffer.now c.put_reply_line-count.new.into _ c.args.at _
    c.put_reply_line-count.result
    (omega arith) c.put_reply_line-count.ensures.within c.put_reply_line-count.ensures.text
