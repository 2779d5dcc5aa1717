use Rattle.std.proofs.Common.{◌≡◌, ◌+◌, ◌-◌, ◌<◌, ℕ, ℤ, List, pos, get_or, ap, subst, sym, ◌∙◌, arith}
use Rattle.clr_covers.specs.Covers.{CoverView, value_at}
use Rattle.clr_bricks.specs.Bricks.{entry_at, IsRoot}
use Rattle.clr_bricks.proofs.bricks.Bricks.next_root.Goals as goal

pub returns-clause-none : goal.returns-clause-none
returns-clause-none c = λ i low high root.
    let met = c.values-entries.ensures in
    let count = met.count in
    let within = c.first_root.ensures.within in
    let under : i < c.args.past = omega arith in
    let same = met.values (pos 0) i low under
    ∙ ap (λ (cs : List (CoverView ℤ)). value_at (pos 0) cs i) c.self.view_is in
    c.first_root.ensures.none (i - c.args.from) (omega arith) (subst IsRoot (sym same) root)

pub returns-clause-found : goal.returns-clause-found
returns-clause-found c = λ under.
    let met = c.values-entries.ensures in
    let count = met.count in
    let i = c.args.from + c.first_root.result in
    let same : get_or c.values-entries.result.now (i - c.args.from) (pos 0) ≡ entry_at c.args.self.now i =
    met.values (pos 0) i (omega arith) under
    ∙ ap (λ (cs : List (CoverView ℤ)). value_at (pos 0) cs i) c.self.view_is in
    let at : i - c.args.from ≡ c.first_root.result = omega arith in
    subst IsRoot same (subst (λ (k : ℕ). IsRoot (get_or c.values-entries.result.now k (pos 0))) (sym at)
    (c.first_root.ensures.found (omega arith)))
