use Rattle.std.proofs.Common.{◌-◌, ◌/◌, ℕ, ap, ap₂, sym, ◌∙◌, arith, length}
use Rattle.clr_mem.specs.Words.{Memory, overwrite, part}
use Rattle.clr_mem.proofs.Callers.{length-moved}
use Rattle.clr_mem.proofs.Inside.{bounds, not_some, plain, plain-after, write_copy}
use Rattle.clr_mem.proofs.Mem.carry.Goals as goal

pub carry_words-requires-clause-from_end : goal.carry_words-requires-clause-from_end
carry_words-requires-clause-from_end c =
    let o = c.other.inside in
    let d = bounds o.base o.bytes o.far _ c.other.view_is c.other.invariant.stored in
    d.fits

pub returns-then-is_some-clause-from_fits : goal.returns-then-is_some-clause-from_fits
returns-then-is_some-clause-from_fits c =
    let o = c.other.inside in
    let d = bounds o.base o.bytes o.far _ c.other.view_is c.other.invariant.stored in
    let fits = d.fits in
    let below = c.requires.from_in.below in
    omega (arith, fits, below)

pub carry_words-requires-then-is_some-2-clause-to_end : goal.carry_words-requires-then-is_some-2-clause-to_end
carry_words-requires-then-is_some-2-clause-to_end c =
    let m = c.self.inside in
    let b = bounds m.base m.bytes m.far _ c.self.view_is c.self.invariant.stored in
    b.fits

pub returns-then-is_some-2-clause-to_fits : goal.returns-then-is_some-2-clause-to_fits
returns-then-is_some-2-clause-to_fits c =
    let m = c.self.inside in
    let b = bounds m.base m.bytes m.far _ c.self.view_is c.self.invariant.stored in
    let fits = b.fits in
    let below = c.requires.to_in.below in
    omega (arith, fits, below)

pub carry-requires-clause-to_in : goal.carry-requires-clause-to_in
carry-requires-clause-to_in c =
    let m = c.self.inside in
    let b = bounds m.base m.bytes m.far _ c.self.view_is c.self.invariant.stored in
    let none = not_some m.far (sym c.is_some.ensures ∙ c.if-is_some.false) in
    let p = plain m.base m.bytes m.far _ none c.self.view_is c.self.invariant.stored in
    let first = b.first in
    let size = p.size in
    let above = c.requires.to_in.above in
    let below = c.requires.to_in.below in
    omega (arith, first, size, above, below)

pub carry-requires-clause-from_in : goal.carry-requires-clause-from_in
carry-requires-clause-from_in c =
    let o = c.other.inside in
    let d = bounds o.base o.bytes o.far _ c.other.view_is c.other.invariant.stored in
    let no_pages = not_some o.far (sym c.is_some-2.ensures ∙ c.if-is_some-2.false) in
    let q = plain o.base o.bytes o.far _ no_pages c.other.view_is c.other.invariant.stored in
    let home = d.first in
    let count = q.size in
    let above = c.requires.from_in.above in
    let below = c.requires.from_in.below in
    omega (arith, home, count, above, below)

pub returns-clause-value : goal.returns-clause-value
returns-clause-value c =
    let m = c.self.inside in
    let b = bounds m.base m.bytes m.far _ c.self.view_is c.self.invariant.stored in
    let none = not_some m.far (sym c.is_some.ensures ∙ c.if-is_some.false) in
    let p = plain m.base m.bytes m.far _ none c.self.view_is c.self.invariant.stored in
    let first = b.first in
    let size = p.size in
    let o = c.other.inside in
    let d = bounds o.base o.bytes o.far _ c.other.view_is c.other.invariant.stored in
    let no_pages = not_some o.far (sym c.is_some-2.ensures ∙ c.if-is_some-2.false) in
    let q = plain o.base o.bytes o.far _ no_pages c.other.view_is c.other.invariant.stored in
    let home = d.first in
    let count = q.size in
    let aligned = b.aligned in
    let there = d.aligned in
    let from_in = c.requires.from_in in
    let to_in = c.requires.to_in in
    let words = c.args.self.now.words in
    let others = c.args.other.now.words in
    let after = c.carry.new.self in
    plain-after m.base m.bytes m.far _ none c.self.view_is after _
    (write_copy (c.args.to - m.base) m.bytes words p (c.args.from - o.base) c.args.len o.bytes others q
    (let start = from_in.start in let above = from_in.above in omega (arith, home, there, start, above))
    (let above = from_in.above in let below = from_in.below in omega (arith, home, count, above, below))
    (let start = to_in.start in let above = to_in.above in omega (arith, first, aligned, start, above))
    to_in.whole
    (let above = to_in.above in let below = to_in.below in omega (arith, first, size, above, below))
    after c.carry.ensures.items
    ∙ ap₂ (λ (i j : ℕ).
    overwrite words ((c.args.to - i) / 8) (part others ((c.args.from - j) / 8) (c.args.len / 8)))
    (sym first) (sym home))

pub returns-clause-size : goal.returns-clause-size
returns-clause-size c =
    let m = c.self.inside in
    let b = bounds m.base m.bytes m.far _ c.self.view_is c.self.invariant.stored in
    let o = c.other.inside in
    let d = bounds o.base o.bytes o.far _ c.other.view_is c.other.invariant.stored in
    let first = b.first in
    let aligned = b.aligned in
    let home = d.first in
    let there = d.aligned in
    let to_in = c.requires.to_in in
    let from_in = c.requires.from_in in
    ap (λ (n : Memory). length n.words) (returns-clause-value c)
    ∙ length-moved c.args.self.now c.args.other.now c.args.to c.args.from c.args.len to_in.above to_in.below
    from_in.above from_in.below (omega (arith, first, aligned)) (omega (arith, home, there)) to_in.start
    from_in.start to_in.whole

pub returns-clause-to_fits : goal.returns-clause-to_fits
returns-clause-to_fits c =
    let m = c.self.inside in
    let b = bounds m.base m.bytes m.far _ c.self.view_is c.self.invariant.stored in
    let fits = b.fits in
    let below = c.requires.to_in.below in
    omega (arith, fits, below)

pub returns-clause-from_fits : goal.returns-clause-from_fits
returns-clause-from_fits c =
    let o = c.other.inside in
    let d = bounds o.base o.bytes o.far _ c.other.view_is c.other.invariant.stored in
    let fits = d.fits in
    let below = c.requires.from_in.below in
    omega (arith, fits, below)
