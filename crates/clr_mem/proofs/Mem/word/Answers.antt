use Rattle.std.proofs.Common.{◌-◌, ◌∙◌, arith}
use Rattle.clr_mem.proofs.Inside.{bounds, has_bytes, plain, read_word_at}
use Rattle.clr_mem.proofs.Mem.word.Goals as goal

pub returns-then-has-clause-value : goal.returns-then-has-clause-value
returns-then-has-clause-value c =
    let m = c.self.inside in
    let b = bounds m.base m.bytes m.far _ c.self.view_is c.self.invariant.stored in
    let none =
    has_bytes m.base (c.args.a - m.base) m.bytes m.far (c.has.ensures c.if-has.true) c.self.invariant.stored in
    let p = plain m.base m.bytes m.far _ none c.self.view_is c.self.invariant.stored in
    let first = b.first in
    let aligned = b.aligned in
    let start = c.requires.start in
    let above = c.requires.above in
    c.word.ensures
    ∙ read_word_at m.base c.args.a m.bytes c.args.self.now p first aligned above start _
    (omega (arith, first, aligned, start, above))

pub returns-else-has-clause-fits : goal.returns-else-has-clause-fits
returns-else-has-clause-fits c =
    let m = c.self.inside in
    let b = bounds m.base m.bytes m.far _ c.self.view_is c.self.invariant.stored in
    let fits = b.fits in
    let below = c.requires.below in
    omega (arith, fits, below)
