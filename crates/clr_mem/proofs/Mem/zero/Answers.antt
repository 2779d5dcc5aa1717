use Rattle.std.proofs.Common.{◌-◌, ◌/◌, ℕ, ap, sym, ◌∙◌, arith, length}
use Rattle.clr_mem.specs.Words.{Memory, overwrite, zeros}
use Rattle.clr_mem.proofs.Callers.{length-cleared}
use Rattle.clr_mem.proofs.Inside.{bounds, plain, plain-after, write_zeros}
use Rattle.clr_mem.proofs.Mem.zero.Goals as goal

pub clear-requires-in-None : goal.clear-requires-in-None
clear-requires-in-None c =
    let m = c.self.inside in
    let b = bounds m.base m.bytes m.far _ c.self.view_is c.self.invariant.stored in
    let p = plain m.base m.bytes m.far _ c.in-None.is c.self.view_is c.self.invariant.stored in
    let first = b.first in
    let aligned = b.aligned in
    let size = p.size in
    let above = c.requires.above in
    let below = c.requires.below in
    omega (arith, first, size, above, below)

pub returns-in-None-clause-value : goal.returns-in-None-clause-value
returns-in-None-clause-value c =
    let m = c.self.inside in
    let b = bounds m.base m.bytes m.far _ c.self.view_is c.self.invariant.stored in
    let p = plain m.base m.bytes m.far _ c.in-None.is c.self.view_is c.self.invariant.stored in
    let first = b.first in
    let aligned = b.aligned in
    let size = p.size in
    let start = c.requires.start in
    let above = c.requires.above in
    let below = c.requires.below in
    let words = c.args.self.now.words in
    let after = c.clear-in-None.new.self in
    plain-after m.base m.bytes m.far _ c.in-None.is c.self.view_is after _
    (write_zeros (c.args.a - m.base) m.bytes words p c.args.len (omega (arith, first, aligned, start, above))
    c.requires.whole (omega (arith, first, size, above, below)) after c.clear-in-None.ensures.items
    ∙ ap (λ (q : ℕ). overwrite words ((c.args.a - q) / 8) (zeros (c.args.len / 8))) (sym first))

pub returns-in-None-clause-size : goal.returns-in-None-clause-size
returns-in-None-clause-size c =
    let m = c.self.inside in
    let b = bounds m.base m.bytes m.far _ c.self.view_is c.self.invariant.stored in
    let first = b.first in
    let aligned = b.aligned in
    ap (λ (n : Memory). length n.words) (returns-in-None-clause-value c)
    ∙ length-cleared c.args.self.now c.args.a c.args.len c.requires.above c.requires.below
    (omega (arith, first, aligned)) c.requires.start c.requires.whole

pub returns-in-None-clause-fits : goal.returns-in-None-clause-fits
returns-in-None-clause-fits c =
    let m = c.self.inside in
    let b = bounds m.base m.bytes m.far _ c.self.view_is c.self.invariant.stored in
    let fits = b.fits in
    let below = c.requires.below in
    omega (arith, fits, below)
