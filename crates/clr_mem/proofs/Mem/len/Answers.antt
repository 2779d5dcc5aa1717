use Rattle.clr_mem.proofs.Inside.{bounds, counts}
use Rattle.clr_mem.proofs.Mem.len.Goals as goal

pub returns-clause-value : goal.returns-clause-value
returns-clause-value c =
    let m = c.self.inside in
    counts m.base m.len m.bytes m.far _ c.self.view_is c.self.invariant

pub returns-clause-fits : goal.returns-clause-fits
returns-clause-fits c =
    let m = c.self.inside in
    let b = bounds m.base m.bytes m.far _ c.self.view_is c.self.invariant.stored in
    b.fits
