-- A range behind all others leaves them apart.
use Rattle.std.proofs.Common.{subst, sym}
use Rattle.clr_load.specs.Starts.{AreApart, AreBelow}
use Rattle.clr_load.proofs.StartRanges.{apart_push}
use Rattle.clr_load.proofs.starts.Starts.add.Goals as goal

pub invariant_of-self-2 : goal.invariant_of-self-2
invariant_of-self-2 c =
    subst AreApart (sym c.in_ok-push.ensures.items)
    (apart_push c.self.inside.ranges.items c.args.range c.self.invariant
    (subst (AreBelow c.args.range.first) (sym c.self.view_is) c.requires))
