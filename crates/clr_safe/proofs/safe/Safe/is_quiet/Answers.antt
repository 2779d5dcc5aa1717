use Rattle.clr_safe.proofs.Quiet.{quiet-exact}
use Rattle.clr_safe.proofs.safe.Safe.is_quiet.Goals as goal

pub returns : goal.returns
returns c = quiet-exact c.args.self.now c.self.inside.begun c.self.inside.holder c.self.inside.quiet c.self.view_is
    c.self.invariant.all c.self.invariant.quiet
