use Rattle.std.proofs.Common.{◌≡◌, ℕ, ◌+◌, ◌-◌, List, take, drop, ap, ◌∙◌, arith, sym}
use Rattle.std.proofs.lemmas.List.{drop_all}
use Rattle.clr_mem.specs.Words.{spelled}
use Rattle.clr_mem.proofs.Spelling.{spelled-take}
use Rattle.clr_mem.proofs.bytes.load_word.Goals as goal

pub returns-then-at-len : goal.returns-then-at-len
unfolding spelled
returns-then-at-len c =
    let n = c.args.at + 8 - c.args.at in
    let read : c.read_u64.result ≡ spelled (take n (drop c.args.at c.deref.result.now)) = c.read_u64.ensures in
    read
    ∙ spelled-take n (drop c.args.at c.deref.result.now) (omega arith)
    ∙ ap (λ (xs : List ℕ). spelled (drop c.args.at xs)) c.deref.ensures.value

pub returns-else-at-len : goal.returns-else-at-len
unfolding spelled
returns-else-at-len c =
    let none = drop_all c.args.at c.args.bytes.now.items (omega arith) in
    sym (ap spelled none)
