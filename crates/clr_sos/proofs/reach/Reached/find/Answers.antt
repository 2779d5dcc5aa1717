-- No entry has the place.
use Rattle.std.proofs.Common.{arith}
use Rattle.clr_sos.proofs.ReachedAll.{unlisted}
use Rattle.clr_sos.proofs.reach.Reached.find.Goals as goal

pub returns-clause-none : goal.returns-clause-none
returns-clause-none c =
    let past = c.loop-i-test.false in
    unlisted c.args.self.now.entries.items c.args.place (λ j l. c.loop-i.invariant j (omega (arith, past, l)))
