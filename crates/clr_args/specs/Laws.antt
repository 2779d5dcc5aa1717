-- Laws on what arguments say.
use Rattle.std.specs.Prelude.{◌≡◌, ℕ, List, Option}
use Rattle.clr_model.specs.Lawful.{AreLawfulOptions}
use Rattle.clr_model.specs.Machine.{Options}
use Rattle.clr_args.specs.Budgets.{AreLawfulBudgets}
use Rattle.clr_args.specs.CommandLines.{IsSaid}
use Rattle.clr_args.specs.Grammar.{SaysImage, SaysOpen, SaysRun, SaysSoak, Text}
use Rattle.clr_args.specs.declared.budgets.Budgets.{Budgets}
use Rattle.clr_args.specs.declared.command_line.CommandLine.{CommandLine}

-- arguments say at most one command, with one set of options and numbers and one path, and no arguments say one and
-- none
pub record OneThingLaw : Type 0 where
  pub command : (arguments : List Text) (a b : Option CommandLine) → IsSaid arguments a → IsSaid arguments b → a ≡ b
  pub path : (arguments : List Text) (a b : Budgets) (one other : Text) → SaysOpen arguments a one
      → SaysOpen arguments b other → one ≡ other

-- what is said is lawful
pub record LawfulLaw (arguments : List Text) (options : Options) : Type 0 where
  pub run : SaysRun arguments options → AreLawfulOptions options
  pub soak : (seed count : ℕ) → SaysSoak arguments options seed count → AreLawfulOptions options
  pub image : SaysImage arguments options → AreLawfulOptions options
  pub budgets : (budgets : Budgets) (path : Text) → SaysOpen arguments budgets path → AreLawfulBudgets budgets
