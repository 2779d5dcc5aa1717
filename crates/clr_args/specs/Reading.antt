-- The numbers that are read from what the parser found.
use Rattle.std.specs.Prelude.{◌≡◌, ℕ, ◌^◌, List, Option, Some, None, if◌then◌else◌, ◌&&◌, nat_lt, codes}
use Rattle.std.specs.Str.Parse.{digits_value}
use Rattle.clap.specs.Walk.{Row, Text, first_of}
use Rattle.clr_nums.specs.Numbers.{is_decimal_form}
use Rattle.clr_model.specs.Machine.{Options}
use Rattle.clr_model.specs.Run.{defaults}
use Rattle.clr_args.specs.Budgets.{budgets_of}
use Rattle.clr_args.specs.declared.budgets.Budgets.{Budgets}

-- the number that a text is, where it fits a `u64`
abbrev pub number_in : Text → Option ℕ
number_in text =
    if is_decimal_form text && nat_lt (digits_value 10 text) (2 ^ 64) then Some (digits_value 10 text) else None

-- the same of a text that may be left out
abbrev pub number_or : ℕ → Option Text → Option ℕ
number_or default None = Some default
number_or default (Some text) = number_in text

-- each budget is the number of its text, or its default
pub record AreBudgetsRead (rows : List Row) (budgets : Budgets) : Type 0 where
  pub b0 : number_or defaults.b0 (first_of (codes "b0") rows) ≡ Some budgets.b0
  pub b1 : number_or defaults.b1 (first_of (codes "b1") rows) ≡ Some budgets.b1
  pub b2 : number_or defaults.b2 (first_of (codes "b2") rows) ≡ Some budgets.b2
  pub bl : number_or defaults.bl (first_of (codes "bl") rows) ≡ Some budgets.bl
  pub compact : number_or defaults.compact (first_of (codes "compact") rows) ≡ Some budgets.compact

-- each option is the number of its text, or its default
pub record AreRead (rows : List Row) (options : Options) : Type 0 where
  pub limit : number_or defaults.limit (first_of (codes "limit") rows) ≡ Some options.limit
  pub segment : number_or defaults.segment (first_of (codes "segment") rows) ≡ Some options.segment
  pub budgets : AreBudgetsRead rows (budgets_of options)
  pub large : number_or defaults.large (first_of (codes "large") rows) ≡ Some options.large
