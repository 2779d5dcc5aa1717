-- What an answer on a command line says.
use Rattle.std.specs.Prelude.{◌≡◌, ◌<◌, ◌≤◌, ◌^◌, ℕ, List, Option, None, Some, codes, option_and_then}
use Rattle.clap.specs.Walk.{Row, first_of}
use Rattle.clr_model.specs.Lawful.{AreLawfulOptions}
use Rattle.clr_model.specs.Machine.{Options}
use Rattle.clr_options.specs.Options.{options_of}
use Rattle.clr_options.specs.declared.options.Options as code
use Rattle.clr_args.specs.Budgets.{AreLawfulBudgets}
use Rattle.clr_args.specs.Reading.{AreBudgetsRead, AreRead, number_in}
use Rattle.clr_args.specs.Grammar.{SaysImage, SaysInspect, SaysMigrate, SaysNothing, SaysOpen, SaysRun, SaysSoak, Text}
use Rattle.clr_args.specs.declared.budgets.Budgets.{Budgets}
use Rattle.clr_args.specs.declared.command_line.CommandLine.{CommandLine}
use Rattle.clr_args.specs.declared.command_line.CommandLine.TheVariants.{Image, Inspect, Migrate, Open, Run, Soak}

-- the arguments say this command, or none
abbrev pub IsSaid : List Text → Option CommandLine → Type 0
IsSaid arguments (Some (Run chosen)) = SaysRun arguments (options_of chosen)
IsSaid arguments (Some (Soak chosen seed count)) = SaysSoak arguments (options_of chosen) seed count
IsSaid arguments (Some (Image chosen)) = SaysImage arguments (options_of chosen)
IsSaid arguments (Some Inspect) = SaysInspect arguments
IsSaid arguments (Some Migrate) = SaysMigrate arguments
IsSaid arguments (Some (Open budgets)) = (path : Text) × SaysOpen arguments budgets path
IsSaid arguments None = SaysNothing arguments

-- the arguments say `open` with this path, or don't say `open`
abbrev pub IsPathSaid : List Text → Option Text → Type 0
IsPathSaid arguments (Some path) = (budgets : Budgets) × SaysOpen arguments budgets path
IsPathSaid arguments None = (budgets : Budgets) (path : Text) → SaysOpen arguments budgets path → ⊥

-- ---- what is read of the rows behind a command's name

-- the rows are of these options
pub record AreOptionsRead (rows : List Row) (chosen : code.Options) : Type 0 where
  pub read : AreRead rows (options_of chosen)
  pub lawful : AreLawfulOptions (options_of chosen)

pub record AreSoakNumbers (rows : List Row) (seed count : ℕ) : Type 0 where
  pub seed_is : option_and_then number_in (first_of (codes "SEED") rows) ≡ Some seed
  pub seed_fits : seed < 2 ^ 32
  pub count_is : option_and_then number_in (first_of (codes "N") rows) ≡ Some count
  pub some : 1 ≤ count
  pub not_too_many : count ≤ 1000000

-- the rows are of a command with options, which is this one, or of no such command
abbrev pub IsReadWith : (code.Options → CommandLine) → List Row → Option CommandLine → Type 0
IsReadWith make rows (Some line) = (chosen : code.Options) × (line ≡ make chosen) × AreOptionsRead rows chosen
IsReadWith make rows None = (options : Options) → AreRead rows options → AreLawfulOptions options → ⊥

abbrev pub IsSoakRead : List Row → Option CommandLine → Type 0
IsSoakRead rows (Some line) = (chosen : code.Options) × (seed : ℕ) × (count : ℕ) × (line ≡ Soak chosen seed count)
    × AreOptionsRead rows chosen × AreSoakNumbers rows seed count
IsSoakRead rows None = (options : Options) (seed count : ℕ) → AreRead rows options → AreLawfulOptions options
    → AreSoakNumbers rows seed count → ⊥

-- the rows are of `open` with these budgets, or of no `open`
abbrev pub IsOpenRead : List Row → Option CommandLine → Type 0
IsOpenRead rows (Some line) =
    (budgets : Budgets) × (line ≡ Open budgets) × AreBudgetsRead rows budgets × AreLawfulBudgets budgets
IsOpenRead rows None = (budgets : Budgets) → AreBudgetsRead rows budgets → AreLawfulBudgets budgets → ⊥

-- ---- what is answered

-- the answer is a command with options, which have these options
abbrev pub HasOptions : (code.Options → CommandLine) → Options → Option CommandLine → Type 0
HasOptions make options line = (chosen : code.Options) × (line ≡ Some (make chosen)) × (options_of chosen ≡ options)
