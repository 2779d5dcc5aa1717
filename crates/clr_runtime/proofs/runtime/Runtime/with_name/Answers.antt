-- The number of the type is that of its name.
use Rattle.std.proofs.Common.{ℕ, ◌+◌, ◌<◌, List, length, Some, arith, subst, sym}
use Rattle.clr_runtime.specs.Births.{IsDefined}
use Rattle.clr_runtime.proofs.RecentNames.{is_defined-named, is_name-any}
use Rattle.clr_runtime.proofs.runtime.Runtime.with_name.Goals as goal

pub returns-then-t-count-clause-known : goal.returns-then-t-count-clause-known
returns-then-t-count-clause-known c =
    let rows = c.self.inside.parts.types in
    let t = c.args.t in
    let below = c.if-t-count.true in
    let count = c.count.ensures.value in
    let known : t.0 < length rows + 1 = omega (arith, below, count) in
    rw (← c.self.view_is)
    (subst (λ (name : List ℕ). IsDefined rows name (Some t)) (sym c.name.ensures)
    (is_defined-named rows t c.count.ensures.distinct c.if-t-ne0.true known))
