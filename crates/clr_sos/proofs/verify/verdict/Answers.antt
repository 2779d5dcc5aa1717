-- Where no reference is bad all else decides.
use Rattle.std.proofs.Common.{refl, sym, ◌∙◌}
use Rattle.std.proofs.lemmas.Bool.{true≢false}
use Rattle.clr_sos.proofs.StateVerdicts.{good_lawful, lawful_good}
use Rattle.clr_sos.proofs.verify.verdict.Goals as goal

pub returns-then-are_all_good-clause-lawful : goal.returns-then-are_all_good-clause-lawful
returns-then-are_all_good-clause-lawful c = (
  λ e. good_lawful c.args.state.now c.args.names c.requires.judged c.in_default.is c.are_lawful_others-others.result
      c.are_lawful_others-others.ensures (sym c.are_all_good.ensures ∙ c.if-are_all_good.true),
  λ lawful. refl,
)

pub returns-else-are_all_good-clause-lawful : goal.returns-else-are_all_good-clause-lawful
returns-else-are_all_good-clause-lawful c = (
  λ e. absurd cc,
  λ lawful.
      let good =
      lawful_good c.args.state.now c.args.names c.requires.judged c.in_default.is c.are_lawful_others-others.result
      c.are_lawful_others-others.ensures lawful in
      absurd (true≢false (sym good ∙ sym c.are_all_good.ensures ∙ c.if-are_all_good.false)),
)
