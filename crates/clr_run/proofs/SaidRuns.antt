-- What arguments say, from the command that they were read as.
use Rattle.std.proofs.Common.{◌≡◌, ◌≢◌, ◌∙◌, ◌⊎◌, ℕ, List, Option, Some, None, sym, ap, inl, inr, subst}
use Rattle.clr_model.specs.Machine.{Options}
use Rattle.clr_options.specs.Options.{options_of}
use Rattle.clr_options.specs.declared.options.Options as code
use Rattle.clr_args.specs.Budgets as said
use Rattle.clr_args.specs.CommandLines.{IsSaid}
use Rattle.clr_args.specs.Grammar.{SaysInspect, SaysMigrate, SaysOpen, Text}
use Rattle.clr_args.specs.declared.budgets.Budgets.{Budgets}
use Rattle.clr_args.specs.declared.command_line.CommandLine.{CommandLine}
use Rattle.clr_args.specs.declared.command_line.CommandLine.TheVariants.{Image, Inspect, Migrate, Open, Run}
use Rattle.clr_args.specs.declared.command_line.CommandLine.TheVariants.{Soak}
use Rattle.clr_open.specs.Fit.{AreLawfulBudgets, budgets_of}
use Rattle.clr_open.specs.declared.budgets.Budgets as opening
use Rattle.clr_opened.specs.Opened as machine
use Rattle.clr_run.specs.Images.{LooksAtImage, OpensImage}
use Rattle.clr_run.specs.Opens.{budgets_with}

-- a command that runs a script, with these options
abbrev pub IsRunWith : Options → Option CommandLine → Type 0
IsRunWith options line = (chosen : code.Options) × (line ≡ Some (Run chosen)) × (options_of chosen ≡ options)

-- one that runs a generated script
abbrev pub IsSoakWith : Options → ℕ → ℕ → Option CommandLine → Type 0
IsSoakWith options seed count line =
    (chosen : code.Options) × (line ≡ Some (Soak chosen seed count)) × (options_of chosen ≡ options)

same_run : (a b : code.Options) → Some (Run a) ≡ Some (Run b) → a ≡ b
same_run a b e = cc

-- a script runs with the options that the arguments say
pub run_options : (options : Options) (line : Option CommandLine) (chosen : code.Options)
    → line ≡ Some (Run chosen) → IsRunWith options line → options ≡ options_of chosen
run_options options line chosen is (other, says, options_are) =
    sym (ap options_of (same_run chosen other (sym is ∙ says)) ∙ options_are)

-- a command that makes an image, with these options
abbrev pub IsImageWith : Options → Option CommandLine → Type 0
IsImageWith options line = (chosen : code.Options) × (line ≡ Some (Image chosen)) × (options_of chosen ≡ options)

same_image : (a b : code.Options) → Some (Image a) ≡ Some (Image b) → a ≡ b
same_image a b e = cc

-- and so does one whose image is made
pub image_options : (options : Options) (line : Option CommandLine) (chosen : code.Options)
    → line ≡ Some (Image chosen) → IsImageWith options line → options ≡ options_of chosen
image_options options line chosen is (other, says, options_are) =
    sym (ap options_of (same_image chosen other (sym is ∙ says)) ∙ options_are)

pub record IsSaidSoak (options : Options) (chosen : code.Options)
    (seed other_seed count other_count : ℕ) : Type 0 where
  pub options_are : options ≡ options_of chosen
  pub seed_is : seed ≡ other_seed
  pub count_is : count ≡ other_count

same_soak : (a b : code.Options) (seed count other_seed other_count : ℕ)
    → Some (Soak a seed count) ≡ Some (Soak b other_seed other_count) → a ≡ b
same_soak a b seed count other_seed other_count e = cc

same_seed : (a b : code.Options) (seed count other_seed other_count : ℕ)
    → Some (Soak a seed count) ≡ Some (Soak b other_seed other_count) → seed ≡ other_seed
same_seed a b seed count other_seed other_count e = cc

same_count : (a b : code.Options) (seed count other_seed other_count : ℕ)
    → Some (Soak a seed count) ≡ Some (Soak b other_seed other_count) → count ≡ other_count
same_count a b seed count other_seed other_count e = cc

-- and so does a generated script, with its seed and its count of lines
pub soak_options : (options : Options) (line : Option CommandLine) (chosen : code.Options)
    (seed other_seed count other_count : ℕ) → line ≡ Some (Soak chosen other_seed other_count)
    → IsSoakWith options seed count line → IsSaidSoak options chosen seed other_seed count other_count
soak_options options line chosen seed other_seed count other_count is (other, says, options_are) =
    let same : Some (Soak other seed count) ≡ Some (Soak chosen other_seed other_count) = sym says ∙ is in
    record {
      options_are = sym (ap options_of (sym (same_soak other chosen seed count other_seed other_count same))
          ∙ options_are);
      seed_is = same_seed other chosen seed count other_seed other_count same;
      count_is = same_count other chosen seed count other_seed other_count same;
    }

-- the arguments say one command
pub no_other : {A : Type 0} (line : Option CommandLine) (command one other : CommandLine) → line ≡ Some command
    → command ≡ one → line ≡ Some other → one ≢ other → A
no_other line command one other is here said differ = absurd (differ (same command one other here (sym is ∙ said)))
  where
    same : (command one other : CommandLine) → command ≡ one → Some command ≡ Some other → one ≡ other
    same command one other here e = cc

-- arguments that say a command don't say none
pub not_none : {A : Type 0} (line : Option CommandLine) (command : CommandLine) → line ≡ Some command → line ≡ None → A
not_none line command here none = absurd (clash command (sym here ∙ none))
  where
    clash : (command : CommandLine) → Some command ≡ None → ⊥
    clash command e = cc

-- arguments that look at an image say no other command
pub no_look : {A : Type 0} (arguments : List (List ℕ)) (line : Option CommandLine) (command one : CommandLine)
    → line ≡ Some command → command ≡ one → (SaysInspect arguments → line ≡ Some Inspect)
    → (SaysMigrate arguments → line ≡ Some Migrate) → one ≢ Inspect → one ≢ Migrate → LooksAtImage arguments → A
no_look arguments line command one here is inspects migrates a b (inl says) =
    no_other line command one Inspect here is (inspects says) a
no_look arguments line command one here is inspects migrates a b (inr says) =
    no_other line command one Migrate here is (migrates says) b

-- ---- an image that is opened

same_open : (a b : Budgets) → Some (Open a) ≡ Some (Open b) → a ≡ b
same_open a b e = cc

-- a run goes on from an image with the budgets that the arguments say
pub open_budgets : (budgets read : Budgets) (line : Option CommandLine) (made : opening.Budgets)
    → line ≡ Some (Open read) → budgets_of made ≡ budgets_with read → line ≡ Some (Open budgets)
    → budgets_with budgets ≡ budgets_of made
open_budgets budgets read line made is made_is says =
    sym (made_is ∙ ap budgets_with (same_open read budgets (sym is ∙ says)))

-- what is said of budgets is lawful of those with which a run goes on
pub lawful_with : (budgets : Budgets) (made : machine.Budgets) → made ≡ budgets_with budgets
    → said.AreLawfulBudgets budgets → AreLawfulBudgets made
lawful_with budgets made same lawful = subst (λ (b : machine.Budgets). AreLawfulBudgets b) (sym same) (record {
  b0 = lawful.b0;
  b1 = lawful.b1;
  b2 = lawful.b2;
  bl = lawful.bl;
  compact = lawful.compact;
})

-- arguments that are read as `open` say it
pub said_open : (arguments : List Text) (line : Option CommandLine) (command : CommandLine) (budgets : Budgets)
    → line ≡ Some command → command ≡ Open budgets → IsSaid arguments line
    → (path : Text) × SaysOpen arguments budgets path
said_open arguments line command budgets here is says = subst (λ (l : Option CommandLine). IsSaid arguments l)
    (here ∙ ap Some is) says

pub opens_image : (arguments : List Text) (line : Option CommandLine) (command : CommandLine) (budgets : Budgets)
    → line ≡ Some command → command ≡ Open budgets → IsSaid arguments line → OpensImage arguments
opens_image arguments line command budgets here is says =
    let (path, opens) = said_open arguments line command budgets here is says in
    (budgets, path, opens)

-- arguments that say another command open no image
pub no_open : {A : Type 0} (arguments : List Text) (line : Option CommandLine) (command one : CommandLine)
    → line ≡ Some command → command ≡ one
    → ((budgets : Budgets) (path : Text) → SaysOpen arguments budgets path → line ≡ Some (Open budgets))
    → ((budgets : Budgets) → one ≢ Open budgets) → OpensImage arguments → A
no_open arguments line command one here is opens other (budgets, path, says) =
    no_other line command one (Open budgets) here is (opens budgets path says) (other budgets)

-- a read that failed was one of the script, or of the image
pub failed_read {ℓ κ} : {A D E : Type 0} {B : Type ℓ} {C : Type κ} → (A × B × C) ⊎ D → E → D ⊎ (E × A)
failed_read (inl (image, unread, unwritten)) opens = inr (opens, image)
failed_read (inr script) opens = inl script

-- no read failed, of either source
pub no_read {ℓ κ} : {A D E : Type 0} {B : Type ℓ} {C : Type κ} → (A × B × C) ⊎ D → (A → ⊥) → (D → ⊥) → E
no_read (inl (image, unread, unwritten)) no_image no_script = absurd (no_image image)
no_read (inr script) no_image no_script = absurd (no_script script)
