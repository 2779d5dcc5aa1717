use Rattle.std.proofs.Common.{◌≡◌, ℤ, pos, ap, inl, refl, sym, ◌∙◌, subst, true, w16, FitsSigned, rules}
use Rattle.std.specs.Prelude.{int_lt}
use Rattle.std.proofs.lemmas.Int.{to_z-of_z}
use Rattle.clr_bricks.specs.Bricks.{IsRoot}
use Rattle.clr_bricks.proofs.Following.{root_above}
use Rattle.clr_compact.proofs.entering.first_open.Goals as goal

pub returns-then-names_offset : goal.returns-then-names_offset
returns-then-names_offset c =
    let z = c.entry.result in
    let fits : FitsSigned w16 z = search rules in
    let above : int_lt (pos 0) z ≡ true = ap (λ (y : ℤ). int_lt (pos 0) y) (sym (to_z-of_z w16 z fits))
    ∙ sym c.names_offset.ensures ∙ c.if-names_offset.true in
    inl (subst IsRoot c.entry.ensures (root_above z above), refl)
