-- Budgets within their bounds.
use Rattle.std.specs.Prelude.{◌≤◌}
use Rattle.clr_model.specs.Machine.{Options}
use Rattle.clr_args.specs.declared.budgets.Budgets.{Budgets}

-- each budget is within the bounds of a machine's options
pub record AreLawfulBudgets (budgets : Budgets) : Type 0 where
  pub b0 : budgets.b0 ≤ 1073741824
  pub b1 : budgets.b1 ≤ 1073741824
  pub b2 : budgets.b2 ≤ 1073741824
  pub bl : budgets.bl ≤ 1073741824
  pub compact : budgets.compact ≤ 100

-- the budgets among a machine's options
abbrev pub budgets_of : Options → Budgets
budgets_of options = record {
  b0 = options.b0;
  b1 = options.b1;
  b2 = options.b2;
  bl = options.bl;
  compact = options.compact;
}
