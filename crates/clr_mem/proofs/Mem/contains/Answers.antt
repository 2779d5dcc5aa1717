use Rattle.std.proofs.Common.{ℕ, ap, sym, arith, ◌∙◌}
use Rattle.clr_mem.specs.Words.{end_of, is_between}
use Rattle.clr_mem.proofs.Between.{between-wraps}
use Rattle.clr_mem.proofs.Inside.{bounds, counts}
use Rattle.clr_mem.proofs.Mem.contains.Goals as goal

pub returns : goal.returns
returns c =
    let m = c.self.inside in
    let b = bounds m.base m.bytes m.far _ c.self.view_is c.self.invariant.stored in
    let size = counts m.base m.len m.bytes m.far _ c.self.view_is c.self.invariant in
    let first = b.first in
    let fits = b.fits in
    let last = end_of c.args.self.now in
    between-wraps m.base last c.args.a m.len (omega (arith, first, fits)) fits c.ranges.a.fits
    (omega (arith, first, size))
    ∙ ap (λ (low : ℕ). is_between low last c.args.a) (sym first)
