use Rattle.std.proofs.Common.{◌<◌, ℕ, pos, inl, inr, get_or, length, subst, sym, arith, true, false, w16, ◌≡◌}
use Rattle.std.proofs.Common.{FitsSigned, rules}
use Rattle.std.proofs.lemmas.Bool.{cases_lt}
use Rattle.std.proofs.lemmas.Int.{to_z-of_z}
use Rattle.clr_bricks.specs.Bricks.{IsRoot}
use Rattle.clr_bricks.proofs.search.first_root.Goals as goal

pub loop-at-preserved : goal.loop-at-preserved
loop-at-preserved c =
    let i = c.loop-at.invariant in
    let test : c.loop-at.at < length c.args.entries.now = search rules in
    let z = get_or c.args.entries.now c.loop-at.at (pos 0) in
    let fits : FitsSigned w16 z = search rules in
    record {
      within = omega arith;
      none = λ j under root. elim (cases_lt j c.loop-at.at) [
        | inl below ↦ i.none j below root
        | inr up ↦
            let at : j ≡ c.loop-at.at = omega arith in
            let here : IsRoot z =
            subst (λ (k : ℕ). IsRoot (get_or c.args.entries.now k (pos 0))) at root in
            let high : c.is_root.result ≡ true = c.is_root.ensures.1 (subst IsRoot (sym (to_z-of_z w16 z fits)) here) in
            let passed : c.is_root.result ≡ false = c.if-not-is_root.true in
            absurd (cc)
      ];
    }
