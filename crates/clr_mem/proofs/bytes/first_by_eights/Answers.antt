use Rattle.std.proofs.Common.{◌≡◌, ℕ, ◌-◌, ◌*◌, take, drop, length, length-drop, ap, sym, ◌∙◌, arith}
use Rattle.clr_mem.specs.Words.{is_between, spelled}
use Rattle.clr_mem.proofs.Between.{before-both, rest-whole, word-behind}
use Rattle.clr_mem.proofs.bytes.first_by_eights.Goals as goal

pub returns-clause-most : goal.returns-clause-most
returns-clause-most c =
    let xs = c.args.bytes.now in
    let n = c.passed_eights-passed.result in
    let long = ap length (rest-whole xs (64 * n)) in
    let size = length-drop (64 * n) xs in
    let passed = c.passed_eights-passed.ensures.most in
    let met = c.next_between.ensures.most in
    omega (arith, long, size, passed, met)

pub returns-clause-before : goal.returns-clause-before
returns-clause-before c =
    let xs = c.args.bytes.now in
    let n = c.passed_eights-passed.result in
    let rest = take (length xs - 64 * n) (drop (64 * n) xs) in
    let is : rest ≡ drop (8 * (8 * n)) xs = rest-whole xs (64 * n) ∙ ap (λ (i : ℕ). drop i xs) (omega arith) in
    before-both c.args.low c.args.high (λ j. spelled (drop (8 * j) xs)) (λ j. spelled (drop (8 * j) rest)) (8 * n)
    c.next_between.result (λ j _. word-behind xs rest (8 * n) j is) c.passed_eights-passed.ensures.before
    c.next_between.ensures.before

pub returns-clause-found : goal.returns-clause-found
returns-clause-found c = λ l.
    let xs = c.args.bytes.now in
    let n = c.passed_eights-passed.result in
    let rest = take (length xs - 64 * n) (drop (64 * n) xs) in
    let is : rest ≡ drop (8 * (8 * n)) xs = rest-whole xs (64 * n) ∙ ap (λ (i : ℕ). drop i xs) (omega arith) in
    let long = ap length is in
    let size = length-drop (8 * (8 * n)) xs in
    ap (is_between c.args.low c.args.high) (sym (word-behind xs rest (8 * n) c.next_between.result is))
    ∙ c.next_between.ensures.found (omega (arith, l, long, size))
