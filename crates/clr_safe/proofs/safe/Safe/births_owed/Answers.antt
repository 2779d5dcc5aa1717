-- Where all threads rest, nothing is begun.
use Rattle.std.proofs.Common.{ap, sym}
use Rattle.clr_safe.specs.Threads.{births_owed}
use Rattle.clr_safe.proofs.Quiet.{quiet-exact}
use Rattle.clr_safe.proofs.safe.Safe.births_owed.Goals as goal

pub returns-then-self-clause-count : goal.returns-then-self-clause-count
returns-then-self-clause-count c =
    let none = (quiet-exact c.args.self.now c.self.inside.begun c.self.inside.holder c.self.inside.quiet c.self.view_is
    c.self.invariant.all c.self.invariant.quiet).0 c.if-self.true in
    ap births_owed (sym none)
