use Rattle.std.proofs.Common.{◌≡◌, ◌-◌, ◌/◌, ◌%◌, ℕ, get_or, ap₂, sym, ◌∙◌, arith}
use Rattle.clr_mem.specs.Words.{byte_of}
use Rattle.clr_mem.proofs.Inside.{bounds, has_bytes, plain, read_byte}
use Rattle.clr_mem.proofs.Mem.byte.Goals as goal

pub returns-then-has-clause-value : goal.returns-then-has-clause-value
returns-then-has-clause-value c =
    let m = c.self.inside in
    let b = bounds m.base m.bytes m.far _ c.self.view_is c.self.invariant.stored in
    let none =
    has_bytes m.base (c.args.a - m.base) m.bytes m.far (c.has.ensures c.if-has.true) c.self.invariant.stored in
    let p = plain m.base m.bytes m.far _ none c.self.view_is c.self.invariant.stored in
    let first = b.first in
    let aligned = b.aligned in
    let above = c.requires.above in
    let words = c.args.self.now.words in
    let digit : (c.args.a - m.base) % 8 ≡ c.args.a % 8 = omega (arith, first, aligned, above) in
    c.byte.ensures.value
    ∙ read_byte (c.args.a - m.base) m.bytes words p c.byte.ensures.fits (c.has.ensures c.if-has.true)
    ∙ ap₂ (λ (q k : ℕ). byte_of (get_or words ((c.args.a - q) / 8) 0) k) (sym first) digit

pub returns-else-has-clause-fits : goal.returns-else-has-clause-fits
returns-else-has-clause-fits c =
    let m = c.self.inside in
    let b = bounds m.base m.bytes m.far _ c.self.view_is c.self.invariant.stored in
    let fits = b.fits in
    let below = c.requires.below in
    omega (arith, fits, below)
