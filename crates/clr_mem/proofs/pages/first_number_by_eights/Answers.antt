use Rattle.std.proofs.Common.{◌-◌, ◌*◌, take, drop, get_or, length, length-drop, ap, sym, ◌∙◌, arith}
use Rattle.clr_mem.specs.Words.{is_between}
use Rattle.clr_mem.proofs.Between.{before-both, number-behind, rest-whole}
use Rattle.clr_mem.proofs.pages.first_number_by_eights.Goals as goal

pub returns-clause-most : goal.returns-clause-most
returns-clause-most c =
    let n = 8 * c.passed_eights-passed.result in
    let long = ap length (rest-whole c.args.words.now n) in
    let size = length-drop n c.args.words.now in
    let passed = c.passed_eights-passed.ensures.most in
    let met = c.next_number_between.ensures.most in
    omega (arith, long, size, passed, met)

pub returns-clause-before : goal.returns-clause-before
returns-clause-before c =
    let xs = c.args.words.now in
    let n = 8 * c.passed_eights-passed.result in
    let rest = take (length xs - n) (drop n xs) in
    before-both c.args.low c.args.high (λ j. get_or xs j 0) (λ j. get_or rest j 0) n c.next_number_between.result
    (λ j _. number-behind xs rest n j (rest-whole xs n)) c.passed_eights-passed.ensures.before
    c.next_number_between.ensures.before

pub returns-clause-found : goal.returns-clause-found
returns-clause-found c = λ l.
    let xs = c.args.words.now in
    let n = 8 * c.passed_eights-passed.result in
    let rest = take (length xs - n) (drop n xs) in
    let is = rest-whole xs n in
    let long = ap length is in
    let size = length-drop n xs in
    ap (is_between c.args.low c.args.high) (sym (number-behind xs rest n c.next_number_between.result is))
    ∙ c.next_number_between.ensures.found (omega (arith, l, long, size))
