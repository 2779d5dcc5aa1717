use Rattle.std.proofs.Common.{◌≤◌, ℕ, ap, subst, sym, ◌∙◌, rules, w16, FitsSigned}
use Rattle.clr_bricks.specs.Bricks.{back_entry, hop}
use Rattle.clr_bricks.proofs.LeadBack.{back-by-bits, hop-within}
use Rattle.clr_bricks.proofs.leading.leads_back.Goals as goal

pub returns : goal.returns
returns c = λ same.
    let fits : FitsSigned w16 c.args.entry = search rules in
    let within = hop-within c.args.far c.requires in
    let P : ℕ → Type 0 = λ n. (1 ≤ n) × (n ≤ 32767) in
    let bounds = subst P (sym c.hop.ensures) within in
    back-by-bits c.args.entry c.hop.result fits bounds.0 bounds.1 same ∙ ap back_entry c.hop.ensures
