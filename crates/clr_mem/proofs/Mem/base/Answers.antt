use Rattle.clr_mem.proofs.Inside.{bounds}
use Rattle.clr_mem.proofs.Mem.base.Goals as goal

pub returns-clause-fits : goal.returns-clause-fits
returns-clause-fits c =
    let m = c.self.inside in
    let b = bounds m.base m.bytes m.far _ c.self.view_is c.self.invariant.stored in
    b.fits
