use Rattle.std.proofs.Common.{◌-◌, ◌/◌, ℕ, ap, sym, ◌∙◌, arith, length}
use Rattle.clr_mem.specs.Words.{Memory, overwrite, part}
use Rattle.clr_mem.proofs.Callers.{length-moved}
use Rattle.clr_mem.proofs.Inside.{bounds, plain, plain-after, write_copy}
use Rattle.clr_mem.proofs.Mem.slide.Goals as goal

pub slide-requires-in-None-clause-from_in : goal.slide-requires-in-None-clause-from_in
slide-requires-in-None-clause-from_in c =
    let m = c.self.inside in
    let b = bounds m.base m.bytes m.far _ c.self.view_is c.self.invariant.stored in
    let p = plain m.base m.bytes m.far _ c.in-None.is c.self.view_is c.self.invariant.stored in
    let first = b.first in
    let aligned = b.aligned in
    let size = p.size in
    let above = c.requires.from_in.above in
    let below = c.requires.from_in.below in
    omega (arith, first, size, above, below)

pub returns-in-None-clause-value : goal.returns-in-None-clause-value
returns-in-None-clause-value c =
    let m = c.self.inside in
    let b = bounds m.base m.bytes m.far _ c.self.view_is c.self.invariant.stored in
    let p = plain m.base m.bytes m.far _ c.in-None.is c.self.view_is c.self.invariant.stored in
    let first = b.first in
    let aligned = b.aligned in
    let size = p.size in
    let from_in = c.requires.from_in in
    let to_in = c.requires.to_in in
    let words = c.args.self.now.words in
    let after = c.slide-in-None.new.self in
    plain-after m.base m.bytes m.far _ c.in-None.is c.self.view_is after _
    (write_copy (c.args.to - m.base) m.bytes words p (c.args.from - m.base) c.args.len m.bytes words p
    (let start = from_in.start in let above = from_in.above in omega (arith, first, aligned, start, above))
    (let above = from_in.above in let below = from_in.below in omega (arith, first, size, above, below))
    (let start = to_in.start in let above = to_in.above in omega (arith, first, aligned, start, above))
    to_in.whole
    (let above = to_in.above in let below = to_in.below in omega (arith, first, size, above, below))
    after c.slide-in-None.ensures.items
    ∙ ap (λ (q : ℕ). overwrite words ((c.args.to - q) / 8) (part words ((c.args.from - q) / 8) (c.args.len / 8)))
    (sym first))

pub returns-in-None-clause-size : goal.returns-in-None-clause-size
returns-in-None-clause-size c =
    let m = c.self.inside in
    let b = bounds m.base m.bytes m.far _ c.self.view_is c.self.invariant.stored in
    let first = b.first in
    let aligned = b.aligned in
    let to_in = c.requires.to_in in
    let from_in = c.requires.from_in in
    ap (λ (n : Memory). length n.words) (returns-in-None-clause-value c)
    ∙ length-moved c.args.self.now c.args.self.now c.args.to c.args.from c.args.len to_in.above to_in.below
    from_in.above from_in.below (omega (arith, first, aligned)) (omega (arith, first, aligned)) to_in.start
    from_in.start to_in.whole

pub returns-in-None-clause-fits : goal.returns-in-None-clause-fits
returns-in-None-clause-fits c =
    let m = c.self.inside in
    let b = bounds m.base m.bytes m.far _ c.self.view_is c.self.invariant.stored in
    let fits = b.fits in
    let below = c.requires.from_in.below in
    omega (arith, fits, below)
