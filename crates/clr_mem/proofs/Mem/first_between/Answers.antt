use Rattle.std.proofs.Common.{◌≡◌, ◌+◌, ◌-◌, ◌*◌, ◌/◌, List, ℕ, get_or, ap, sym, ◌∙◌, arith}
use Rattle.clr_mem.specs.Words.{is_between}
use Rattle.clr_mem.proofs.Inside.{bounds, paged, plain, read_word_at}
use Rattle.clr_mem.proofs.Mem.first_between.Goals as goal

pub first_between-requires-in-None-clause-inside : goal.first_between-requires-in-None-clause-inside
first_between-requires-in-None-clause-inside c =
    let m = c.self.inside in
    let b = bounds m.base m.bytes m.far _ c.self.view_is c.self.invariant.stored in
    let p = plain m.base m.bytes m.far _ c.in-None.is c.self.view_is c.self.invariant.stored in
    let first = b.first in
    let aligned = b.aligned in
    let size = p.size in
    let within = c.requires.words.below in
    let above = c.requires.words.above in
    omega (arith, first, size, within, above)

pub returns-in-Some-clause-before : goal.returns-in-Some-clause-before
returns-in-Some-clause-before c = λ j l.
    let m = c.self.inside in
    let b = bounds m.base m.bytes m.far _ c.self.view_is c.self.invariant.stored in
    let first = b.first in
    let aligned = b.aligned in
    let above = c.requires.words.above in
    let start = c.requires.words.start in
    let words = c.args.self.now.words in
    let place : (c.args.a + 8 * j - c.args.self.now.base) / 8 ≡ (c.args.a - m.base) / 8 + j =
    omega (arith, first, aligned, above, start) in
    ap (is_between c.args.low c.args.high)
    (ap (λ (i : ℕ). get_or words i 0) place
    ∙ ap (λ (ws : List ℕ). get_or ws ((c.args.a - m.base) / 8 + j) 0)
    (sym (c.deref.ensures ∙ paged m.base m.bytes m.far _ c.in-Some.pages c.in-Some.is c.self.view_is)))
    ∙ c.first_between.ensures.before j l

pub returns-in-None-clause-before : goal.returns-in-None-clause-before
returns-in-None-clause-before c = λ j l.
    let m = c.self.inside in
    let b = bounds m.base m.bytes m.far _ c.self.view_is c.self.invariant.stored in
    let p = plain m.base m.bytes m.far _ c.in-None.is c.self.view_is c.self.invariant.stored in
    let first = b.first in
    let aligned = b.aligned in
    let above = c.requires.words.above in
    let start = c.requires.words.start in
    ap (is_between c.args.low c.args.high)
    (sym (read_word_at m.base (c.args.a + 8 * j) m.bytes c.args.self.now p first aligned (omega (arith, above))
    (omega (arith, start)) (c.args.a - m.base + 8 * j) (omega (arith, first, above))))
    ∙ c.first_between-in-None.ensures.before j l

pub returns-in-None-clause-found : goal.returns-in-None-clause-found
returns-in-None-clause-found c = λ l.
    let m = c.self.inside in
    let b = bounds m.base m.bytes m.far _ c.self.view_is c.self.invariant.stored in
    let p = plain m.base m.bytes m.far _ c.in-None.is c.self.view_is c.self.invariant.stored in
    let first = b.first in
    let aligned = b.aligned in
    let above = c.requires.words.above in
    let start = c.requires.words.start in
    let j = c.first_between-in-None.result in
    ap (is_between c.args.low c.args.high)
    (sym (read_word_at m.base (c.args.a + 8 * j) m.bytes c.args.self.now p first aligned (omega (arith, above))
    (omega (arith, start)) (c.args.a - m.base + 8 * j) (omega (arith, first, above))))
    ∙ c.first_between-in-None.ensures.found l
