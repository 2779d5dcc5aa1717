use Rattle.std.proofs.Common.{◌≡◌, ◌∙◌, ℕ, Bool, sym, rules}
use denote.Enum.Bare.{same_true}
use Rattle.clr_types.specs.contracts.handle.Kind.{the_type}
use Rattle.clr_handles.proofs.ClearedRows.{at-nulled, counts-nulled}
use Rattle.clr_handles.proofs.clearing.clear_row.Goals as goal

pub returns-then-not-is_kept-clause-cleared : goal.returns-then-not-is_kept-clause-cleared
returns-then-not-is_kept-clause-cleared g c =
    let post = λ (place : ℕ) (answer : Bool). goal.F-post g c.args.kept.now place answer in
    let same : c.in-Some.handle.kind ≡ c.args.kind =
    same_true the_type (search rules) _ _ (sym c.eq.ensures ∙ c.if-eq.true) in
    at-nulled c.args.kind post c.args.low c.args.rows.now c.set.new.self c.args.h c.in-Some.handle c.nulled.result
    c.is_kept.result (sym c.get.ensures.value ∙ c.in-Some.is) same c.is_kept.ensures c.if-not-is_kept.true
    c.nulled.ensures c.set.ensures

pub returns-then-not-is_kept-clause-counts : goal.returns-then-not-is_kept-clause-counts
returns-then-not-is_kept-clause-counts g c =
    counts-nulled c.args.rows.now c.set.new.self c.args.h c.in-Some.handle c.nulled.result
    (sym c.get.ensures.value ∙ c.in-Some.is) c.nulled.ensures c.set.ensures
