use Rattle.std.proofs.Common.{◌-◌, ◌/◌, ℕ, set, ap, sym, ◌∙◌, arith, length}
use Rattle.clr_mem.specs.Words.{Memory}
use Rattle.clr_mem.proofs.Callers.{length-with_word}
use Rattle.clr_mem.proofs.Inside.{bounds, has_bytes, plain, plain-after, write_word}
use Rattle.clr_mem.proofs.Mem.set_word.Goals as goal

pub returns-then-has-clause-value : goal.returns-then-has-clause-value
returns-then-has-clause-value c =
    let m = c.self.inside in
    let b = bounds m.base m.bytes m.far _ c.self.view_is c.self.invariant.stored in
    let none =
    has_bytes m.base (c.args.a - m.base) m.bytes m.far (c.has.ensures c.if-has.true) c.self.invariant.stored in
    let p = plain m.base m.bytes m.far _ none c.self.view_is c.self.invariant.stored in
    let first = b.first in
    let aligned = b.aligned in
    let start = c.requires.start in
    let above = c.requires.above in
    let below = c.requires.below in
    let size = p.size in
    let words = c.args.self.now.words in
    let after = c.set_word.new.self in
    plain-after m.base m.bytes m.far _ none c.self.view_is after _
    (write_word (c.args.a - m.base) m.bytes words p c.args.v c.ranges.v.fits
    (omega (arith, first, aligned, start, above)) (omega (arith, first, size, above, below)) after
    c.set_word.ensures.items
    ∙ ap (λ (q : ℕ). set words ((c.args.a - q) / 8) c.args.v) (sym first))

pub returns-then-has-clause-size : goal.returns-then-has-clause-size
returns-then-has-clause-size c =
    ap (λ (n : Memory). length n.words) (returns-then-has-clause-value c)
    ∙ length-with_word c.args.self.now c.args.a c.args.v

pub returns-else-has-clause-fits : goal.returns-else-has-clause-fits
returns-else-has-clause-fits c =
    let m = c.self.inside in
    let b = bounds m.base m.bytes m.far _ c.self.view_is c.self.invariant.stored in
    let fits = b.fits in
    let below = c.requires.below in
    omega (arith, fits, below)
