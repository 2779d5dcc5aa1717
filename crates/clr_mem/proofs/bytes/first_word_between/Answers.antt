use Rattle.std.proofs.Common.{◌*◌, drop, ap, sym, ◌∙◌, arith}
use Rattle.clr_mem.specs.Words.{is_between, spelled}
use Rattle.clr_mem.proofs.Between.{before-both, word-behind, word-front}
use Rattle.clr_mem.proofs.bytes.first_word_between.Goals as goal

pub returns-then-met-lt8-clause-before : goal.returns-then-met-lt8-clause-before
returns-then-met-lt8-clause-before c = λ j l.
    let few = c.if-met-lt8.true in
    ap (is_between c.args.low c.args.high)
    (sym (word-front c.args.bytes.now c.in-Some.eight.now j c.in-Some.ensures.cases.0 (omega (arith, l, few))))
    ∙ c.next_between-met.ensures.before j l

pub returns-then-met-lt8-clause-found : goal.returns-then-met-lt8-clause-found
returns-then-met-lt8-clause-found c = λ _.
    let few = c.if-met-lt8.true in
    ap (is_between c.args.low c.args.high)
    (sym (word-front c.args.bytes.now c.in-Some.eight.now c.next_between-met.result c.in-Some.ensures.cases.0 few))
    ∙ c.next_between-met.ensures.found (omega arith)

pub returns-clause-before : goal.returns-clause-before
returns-clause-before c =
    let met = c.if-met-lt8.false in
    before-both c.args.low c.args.high (λ j. spelled (drop (8 * j) c.args.bytes.now))
    (λ j. spelled (drop (8 * j) c.in-Some.rest.now)) 8 c.first_by_eights.result
    (λ j _. word-behind c.args.bytes.now c.in-Some.rest.now 8 j c.in-Some.ensures.cases.1)
    (λ j l.
    ap (is_between c.args.low c.args.high)
    (sym (word-front c.args.bytes.now c.in-Some.eight.now j c.in-Some.ensures.cases.0 l))
    ∙ c.next_between-met.ensures.before j (omega (arith, l, met)))
    c.first_by_eights.ensures.before

pub returns-clause-found : goal.returns-clause-found
returns-clause-found c = λ l.
    let left = c.in-Some.ensures.cases.2 in
    ap (is_between c.args.low c.args.high)
    (sym (word-behind c.args.bytes.now c.in-Some.rest.now 8 c.first_by_eights.result c.in-Some.ensures.cases.1))
    ∙ c.first_by_eights.ensures.found (omega (arith, l, left))
