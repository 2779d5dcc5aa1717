use Rattle.std.proofs.Common.{◌≡◌, ◌-◌, ◌/◌, ◌%◌, ℕ, get_or, set, ap, ap₂, sym, ◌∙◌, arith, length}
use Rattle.clr_mem.specs.Words.{Memory, with_byte}
use Rattle.clr_mem.proofs.Callers.{length-with_word}
use Rattle.clr_mem.proofs.Inside.{bounds, has_bytes, plain, plain-after, write_byte}
use Rattle.clr_mem.proofs.Mem.set_byte.Goals as goal

pub returns-then-has-clause-value : goal.returns-then-has-clause-value
returns-then-has-clause-value c =
    let m = c.self.inside in
    let b = bounds m.base m.bytes m.far _ c.self.view_is c.self.invariant.stored in
    let none =
    has_bytes m.base (c.args.a - m.base) m.bytes m.far (c.has.ensures c.if-has.true) c.self.invariant.stored in
    let p = plain m.base m.bytes m.far _ none c.self.view_is c.self.invariant.stored in
    let first = b.first in
    let aligned = b.aligned in
    let above = c.requires.above in
    let words = c.args.self.now.words in
    let after = c.set_byte.new.self in
    let digit : (c.args.a - m.base) % 8 ≡ c.args.a % 8 = omega (arith, first, aligned, above) in
    plain-after m.base m.bytes m.far _ none c.self.view_is after _
    (write_byte (c.args.a - m.base) m.bytes words p c.args.v c.set_byte.ensures.fits (c.has.ensures c.if-has.true)
    after c.set_byte.ensures.items
    ∙ ap₂ (λ (q k : ℕ). set words ((c.args.a - q) / 8) (with_byte (get_or words ((c.args.a - q) / 8) 0) k c.args.v))
    (sym first) digit)

pub returns-then-has-clause-size : goal.returns-then-has-clause-size
returns-then-has-clause-size c =
    ap (λ (n : Memory). length n.words) (returns-then-has-clause-value c)
    ∙ length-with_word c.args.self.now c.args.a _

pub returns-else-has-clause-fits : goal.returns-else-has-clause-fits
returns-else-has-clause-fits c =
    let m = c.self.inside in
    let b = bounds m.base m.bytes m.far _ c.self.view_is c.self.invariant.stored in
    let fits = b.fits in
    let below = c.requires.below in
    omega (arith, fits, below)
