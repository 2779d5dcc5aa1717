use Rattle.std.proofs.Common.{◌≡◌, ◌+◌, ℤ, pos, ap, sym, ◌∙◌, arith, w16, FitsSigned, to_z, of_z, rules, true}
use Rattle.std.specs.Prelude.{int_lt}
use Rattle.std.proofs.lemmas.Bool.{lt-ltb}
use Rattle.std.proofs.lemmas.Int.{to_z-of_z}
use Rattle.clr_bricks.specs.Bricks.{IsRoot}
use Rattle.clr_bricks.proofs.Following.{root_above}
use Rattle.clr_bricks.proofs.search.is_root.Goals as goal

-- what names an offset is above 0
above_0 : (z : ℤ) → IsRoot z → int_lt (pos 0) z ≡ true
above_0 z root = ap (λ (y : ℤ). int_lt (pos 0) y) root.1 ∙ lt-ltb 0 (root.0 + 1) (omega arith)

pub returns : goal.returns
returns c =
    let z = c.args.entry in
    let fits : FitsSigned w16 z = search rules in
    let same : int_lt (pos 0) (to_z w16 (of_z w16 z)) ≡ int_lt (pos 0) z =
    ap (λ (y : ℤ). int_lt (pos 0) y) (to_z-of_z w16 z fits) in
    (λ high. root_above z (sym same ∙ high), λ root. same ∙ above_0 z root)
