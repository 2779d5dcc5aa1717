-- Nothing is found up to word i.
use Rattle.std.proofs.Common.{◌≡◌, ℕ, suc, ◌+◌, ◌-◌, ◌*◌, Option, sym, ◌∙◌, ap}
use Rattle.std.proofs.Common.{arith}
use Rattle.clr_sos.specs.CheckedCells.{first_in_words, or_else}
use Rattle.clr_load.specs.Scans.{words_in}
use Rattle.clr_load.proofs.MemoryWords.{next_word, no_words, words_skipped}
use Rattle.clr_load.proofs.cells.dirty_byte.Goals as goal

pub loop-i-init : goal.loop-i-init
loop-i-init c =
    let words = words_in c.args.scan.now in
    let k = c.min-skipped.result in
    let few = c.min-skipped.ensures in
    let sub = c.saturating_sub.ensures in
    let count : k + (c.args.n - k) ≡ c.args.n = omega (arith, few) in
    sym (words_skipped k (c.args.n - k) c.args.from c.args.a words
    (λ i l. c.requires.there.are i (omega (arith, few)))
    (λ some. omega (arith, few, sub)))
    ∙ ap (λ (m : ℕ). first_in_words m c.args.from words c.args.a) count

pub present-requires-clause-there : goal.present-requires-clause-there
present-requires-clause-there c = c.requires.there.are c.loop-i.i c.loop-i-test.true

pub returns-in-Some-clause-is : goal.returns-in-Some-clause-is
returns-in-Some-clause-is c =
    let words = words_in c.args.scan.now in
    let i = c.loop-i.i in
    let left : c.args.n - i ≡ suc (c.args.n - (i + 1)) = omega arith in
    ap (λ (o : Option ℕ). or_else o (first_in_words (c.args.n - (i + 1)) c.args.from words (c.args.a + 8 * i + 8)))
    (sym c.in-Some.is ∙ c.dirty_in.ensures.is)
    ∙ sym (next_word (c.args.n - (i + 1)) c.args.from (c.args.a + 8 * i) c.present.result words c.present.ensures)
    ∙ ap (λ (m : ℕ). first_in_words m c.args.from words (c.args.a + 8 * i)) (sym left) ∙ c.loop-i.invariant

pub loop-i-preserved : goal.loop-i-preserved
loop-i-preserved c =
    let words = words_in c.args.scan.now in
    let i = c.loop-i.i in
    let left : c.args.n - i ≡ suc (c.args.n - (i + 1)) = omega arith in
    let at : c.args.a + 8 * (i + 1) ≡ c.args.a + 8 * i + 8 = omega arith in
    ap (first_in_words (c.args.n - (i + 1)) c.args.from words) at
    ∙ ap (λ (o : Option ℕ). or_else o (first_in_words (c.args.n - (i + 1)) c.args.from words (c.args.a + 8 * i + 8)))
    (sym c.in_default.is ∙ c.dirty_in.ensures.is)
    ∙ sym (next_word (c.args.n - (i + 1)) c.args.from (c.args.a + 8 * i) c.present.result words c.present.ensures)
    ∙ ap (λ (m : ℕ). first_in_words m c.args.from words (c.args.a + 8 * i)) (sym left) ∙ c.loop-i.invariant

pub returns-clause-is : goal.returns-clause-is
returns-clause-is c =
    let words = words_in c.args.scan.now in
    let i = c.loop-i.i in
    let none : c.args.n - i ≡ 0 = omega arith in
    sym (no_words c.args.from (c.args.a + 8 * i) words)
    ∙ ap (λ (m : ℕ). first_in_words m c.args.from words (c.args.a + 8 * i)) (sym none) ∙ c.loop-i.invariant
