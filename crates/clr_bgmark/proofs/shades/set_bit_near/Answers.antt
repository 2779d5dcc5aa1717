use Rattle.std.proofs.Common.{sym}
use Rattle.clr_bgmark.specs.Shades.{with_set}
use Rattle.clr_bgmark.proofs.Lookups.{none_changed}
use Rattle.clr_bgmark.proofs.shades.set_bit_near.Goals as goal

pub returns-in-None : goal.returns-in-None
returns-in-None c =
    sym (none_changed (with_set c.args.bit c.args.a) c.args.shades.now.items c.args.a c.in-None.ensures.none)
