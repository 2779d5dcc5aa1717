use Rattle.std.proofs.Common.{get_or, ap, sym, ◌∙◌, arith}
use Rattle.clr_mem.specs.Words.{is_between}
use Rattle.clr_mem.proofs.Between.{before-both, number-behind, number-front}
use Rattle.clr_mem.proofs.pages.first_number_between.Goals as goal

pub returns-then-met-lt8-clause-before : goal.returns-then-met-lt8-clause-before
returns-then-met-lt8-clause-before c = λ j l.
    let few = c.if-met-lt8.true in
    ap (is_between c.args.low c.args.high)
    (sym (number-front c.args.words.now c.in-Some.eight.now j c.in-Some.ensures.cases.0 (omega (arith, l, few))))
    ∙ c.next_number_between-met.ensures.before j l

pub returns-then-met-lt8-clause-found : goal.returns-then-met-lt8-clause-found
returns-then-met-lt8-clause-found c = λ _.
    let few = c.if-met-lt8.true in
    ap (is_between c.args.low c.args.high)
    (sym (number-front c.args.words.now c.in-Some.eight.now c.next_number_between-met.result
    c.in-Some.ensures.cases.0 few))
    ∙ c.next_number_between-met.ensures.found (omega arith)

pub returns-clause-before : goal.returns-clause-before
returns-clause-before c =
    let met = c.if-met-lt8.false in
    before-both c.args.low c.args.high (λ j. get_or c.args.words.now j 0) (λ j. get_or c.in-Some.rest.now j 0) 8
    c.first_number_by_eights.result
    (λ j _. number-behind c.args.words.now c.in-Some.rest.now 8 j c.in-Some.ensures.cases.1)
    (λ j l.
    ap (is_between c.args.low c.args.high)
    (sym (number-front c.args.words.now c.in-Some.eight.now j c.in-Some.ensures.cases.0 l))
    ∙ c.next_number_between-met.ensures.before j (omega (arith, l, met)))
    c.first_number_by_eights.ensures.before

pub returns-clause-found : goal.returns-clause-found
returns-clause-found c = λ l.
    let left = c.in-Some.ensures.cases.2 in
    ap (is_between c.args.low c.args.high)
    (sym (number-behind c.args.words.now c.in-Some.rest.now 8 c.first_number_by_eights.result
    c.in-Some.ensures.cases.1))
    ∙ c.first_number_by_eights.ensures.found (omega (arith, l, left))
