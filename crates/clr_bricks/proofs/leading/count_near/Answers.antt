use Rattle.std.proofs.Common.{◌≡◌, ◌+◌, ◌<◌, ℕ, pos, inl, inr, get_or, subst, sym, ◌∙◌, arith, w16}
use Rattle.std.proofs.Common.{FitsSigned, rules}
use Rattle.std.proofs.lemmas.Bool.{cases_lt}
use Rattle.std.proofs.lemmas.Int.{to_z-of_z}
use Rattle.clr_bricks.specs.Bricks.{back_entry, hop}
use Rattle.clr_bricks.proofs.leading.count_near.Goals as goal

pub loop-at-preserved : goal.loop-at-preserved
loop-at-preserved c =
    let i = c.loop-at.invariant in
    let test : c.loop-at.at < c.args.most = search rules in
    let z = get_or c.args.entries.now c.loop-at.at (pos 0) in
    let fits : FitsSigned w16 z = search rules in
    record {
      within = omega arith;
      led = λ j under. elim (cases_lt j c.loop-at.at) [
        | inl below ↦ i.led j below
        | inr up ↦
            let at : c.loop-at.at ≡ j = omega arith in
            let here : z ≡ back_entry (hop (c.loop-at.at + 1)) =
            sym (to_z-of_z w16 z fits) ∙ c.leads_near.ensures c.if-leads_near.true in
            subst (λ (k : ℕ). get_or c.args.entries.now k (pos 0) ≡ back_entry (hop (k + 1))) at here
      ];
    }
