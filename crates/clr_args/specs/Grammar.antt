-- What the arguments of a command line say.
use Rattle.std.specs.Prelude.{◌≡◌, ◌==◌, ◌&&◌, ◌^◌, ◌<◌, ◌≤◌, ◌++◌, ◌⊎◌, ℕ, Bool, true, false, List, [], ◌∷◌}
use Rattle.std.specs.Prelude.{Option, None, Some, codes, decimal, if◌then◌else◌, is_some, map, slice_get}
use Rattle.std.specs.List.{list_all, list_any}
use Rattle.std.specs.Str.{bytes_eq, chars}
use Rattle.clr_model.specs.Machine.{Options}
use Rattle.clr_model.specs.Lawful.{AreLawfulOptions}
use Rattle.clr_model.specs.Run.{defaults}
use Rattle.clr_args.specs.Budgets.{AreLawfulBudgets}
use Rattle.clr_args.specs.declared.budgets.Budgets.{Budgets}

abbrev pub Text : Type 0
Text = List ℕ

-- a name with the number that is said for it
abbrev pub Said : Type 0
Said = Text × ℕ

abbrev pub is_among : Text → List Text → Bool
is_among name names = list_any (λ other. bytes_eq other name) names

-- ---- how it is spelled

-- a number behind a command's name: that of an option, in an argument of its own or in that of the option's name, or
-- that of a place
pub data Part : Type 0 where
  spaced : (option : Text) (number : ℕ) → Part
  joined : (option : Text) (number : ℕ) → Part
  placed : (place : Text) (number : ℕ) → Part

-- what stands behind a command's name: parts, and where an argument `--` follows, the numbers of places behind it
pub record Line : Type 0 where
  pub parts : List Part
  pub behind : Option (List Said)

abbrev pub dashed : Text → Text
dashed name = codes "--" ++ name

abbrev pub spelled_part : Part → List Text
spelled_part (spaced option number) = dashed option ∷ decimal number ∷ []
spelled_part (joined option number) = (dashed option ++ (codes "=" ++ decimal number)) ∷ []
spelled_part (placed place number) = decimal number ∷ []

abbrev pub spelled_behind : Option (List Said) → List Text
spelled_behind None = []
spelled_behind (Some numbers) = codes "--" ∷ map (λ said. decimal said.1) numbers

abbrev pub spelled_parts : List Part → List Text
spelled_parts [] = []
spelled_parts (part ∷ parts) = spelled_part part ++ spelled_parts parts

-- the arguments of a line
abbrev pub spelled : Line → List Text
spelled line = spelled_parts line.parts ++ spelled_behind line.behind

-- ---- what it says

abbrev pub said_by_part : Part → Said
said_by_part (spaced option number) = (option, number)
said_by_part (joined option number) = (option, number)
said_by_part (placed place number) = (place, number)

abbrev pub said_behind : Option (List Said) → List Said
said_behind None = []
said_behind (Some numbers) = numbers

-- the numbers that a line says, in order
abbrev pub said : Line → List Said
said line = map said_by_part line.parts ++ said_behind line.behind

abbrev pub is_option_part : List Text → Part → Bool
is_option_part names (spaced option number) = is_among option names
is_option_part names (joined option number) = is_among option names
is_option_part names (placed place number) = true

abbrev pub place_of_part : Part → List Text
place_of_part (placed place number) = place ∷ []
place_of_part _ = []

abbrev pub places_of_parts : List Part → List Text
places_of_parts [] = []
places_of_parts (part ∷ parts) = place_of_part part ++ places_of_parts parts

-- the places that a line has numbers for, in order
abbrev pub places_of : Line → List Text
places_of line = places_of_parts line.parts ++ map (λ said. said.0) (said_behind line.behind)

-- each name is said once: it is none of those before it
abbrev pub IsSaidOnce : List Text → List Said → Type 0
IsSaidOnce before [] = Unit {0}
IsSaidOnce before (first ∷ rest) = (is_among first.0 before ≡ false) × IsSaidOnce (first.0 ∷ before) rest

-- each number fits a `u64`
abbrev pub AreSmall : List Said → Type 0
AreSmall [] = Unit {0}
AreSmall (first ∷ rest) = (first.1 < 2 ^ 64) × AreSmall rest

-- the options for what an image doesn't say
abbrev pub budget_names : List Text
budget_names = codes "b0" ∷ codes "b1" ∷ codes "b2" ∷ codes "bl" ∷ codes "compact" ∷ []

-- the options of a command that begins with an empty heap
abbrev pub option_names : List Text
option_names = codes "limit" ∷ codes "segment" ∷ (budget_names ++ codes "large" ∷ [])

abbrev pub soak_places : List Text
soak_places = codes "SEED" ∷ codes "N" ∷ []

-- the line of a command with these options and places: all of the places, in order, and options, each at most once
pub record IsLine (names wanted : List Text) (line : Line) : Type 0 where
  pub options : list_all (is_option_part names) line.parts ≡ true
  pub places : places_of line ≡ wanted
  pub once : IsSaidOnce [] (said line)
  pub small : AreSmall (said line)

-- the number said for the name, or else this one
abbrev pub number_of : Text → ℕ → List Said → ℕ
number_of name default [] = default
number_of name default (first ∷ rest) = if bytes_eq first.0 name then first.1 else number_of name default rest

-- the options with what a line says, and the defaults for the others
abbrev pub options_said : List Said → Options
options_said said = record {
  limit = number_of (codes "limit") defaults.limit said;
  segment = number_of (codes "segment") defaults.segment said;
  b0 = number_of (codes "b0") defaults.b0 said;
  b1 = number_of (codes "b1") defaults.b1 said;
  b2 = number_of (codes "b2") defaults.b2 said;
  bl = number_of (codes "bl") defaults.bl said;
  compact = number_of (codes "compact") defaults.compact said;
  large = number_of (codes "large") defaults.large said;
}

-- the budgets with what a line says, and the defaults for the others
abbrev pub budgets_said : List Said → Budgets
budgets_said said = record {
  b0 = number_of (codes "b0") defaults.b0 said;
  b1 = number_of (codes "b1") defaults.b1 said;
  b2 = number_of (codes "b2") defaults.b2 said;
  bl = number_of (codes "bl") defaults.bl said;
  compact = number_of (codes "compact") defaults.compact said;
}

-- the arguments are the command's name and this line, which says these options
pub record Says (name : Text) (places arguments : List Text) (options : Options) (line : Line) : Type 0 where
  pub arguments_are : arguments ≡ name ∷ spelled line
  pub is_line : IsLine option_names places line
  pub options_are : options ≡ options_said (said line)
  pub lawful : AreLawfulOptions options

-- ---- a line with a path

-- the place of the path
abbrev pub open_places : List Text
open_places = codes "IMAGE" ∷ []

-- a path, with the options that follow it, or with an argument `--` before it
pub data Ending : Type 0 where
  bare : (path : Text) (after : Line) → Ending
  guarded : (path : Text) → Ending

-- what stands behind `open`: options, then a path, with what follows it or stands before it
pub record OpenLine : Type 0 where
  pub before : List Part
  pub ending : Ending

abbrev pub spelled_ending : Ending → List Text
spelled_ending (bare path after) = path ∷ spelled after
spelled_ending (guarded path) = codes "--" ∷ path ∷ []

-- the arguments of a line of `open`
abbrev pub spelled_open : OpenLine → List Text
spelled_open line = spelled_parts line.before ++ spelled_ending line.ending

abbrev pub path_of : Ending → Text
path_of (bare path after) = path
path_of (guarded path) = path

-- what follows the path
abbrev pub behind_path : Ending → Line
behind_path (bare path after) = after
behind_path (guarded path) = record { parts = []; behind = None }

-- a line of `open` without its path
abbrev pub options_in : OpenLine → Line
options_in line = record {
  parts = line.before ++ (behind_path line.ending).parts;
  behind = (behind_path line.ending).behind;
}

-- a word that begins with `-`, behind which a character stands
abbrev pub is_dashed : Text → Bool
is_dashed [] = false
is_dashed (x ∷ rest) = (x == 45) && is_some (slice_get (chars rest) 0)

-- any word may be a path behind `--`; else a word that begins with `-` may be one only where it is `-` alone
abbrev pub MayBePath : Ending → Type 0
MayBePath (bare path after) = is_dashed path ≡ false
MayBePath (guarded path) = Unit {0}

-- the arguments are `open` and this line, which says these budgets and this path
pub record Opens (arguments : List Text) (budgets : Budgets) (path : Text) (line : OpenLine) : Type 0 where
  pub arguments_are : arguments ≡ codes "open" ∷ spelled_open line
  pub is_line : IsLine budget_names [] (options_in line)
  pub is_path : MayBePath line.ending
  pub path_is : path ≡ path_of line.ending
  pub budgets_are : budgets ≡ budgets_said (said (options_in line))
  pub lawful : AreLawfulBudgets budgets

-- ---- the commands

-- these arguments run a script, with these options
abbrev pub SaysRun : List Text → Options → Type 0
SaysRun arguments options = (line : Line) × Says (codes "run") [] arguments options line

-- these arguments run the generated script of this seed and of so many lines, with these options
abbrev pub SaysSoak : List Text → Options → ℕ → ℕ → Type 0
SaysSoak arguments options seed count = (line : Line) × Says (codes "soak") soak_places arguments options line
    × (number_of (codes "SEED") 0 (said line) ≡ seed) × (seed < 2 ^ 32)
    × (number_of (codes "N") 0 (said line) ≡ count) × (1 ≤ count) × (count ≤ 1000000)

-- these arguments run a script with these options, and save the heap that it leaves
abbrev pub SaysImage : List Text → Options → Type 0
SaysImage arguments options = (line : Line) × Says (codes "image") [] arguments options line

-- the arguments are the command's name alone, or with one argument `--` behind it
abbrev pub SaysAlone : Text → List Text → Type 0
SaysAlone name arguments = (arguments ≡ name ∷ []) ⊎ (arguments ≡ name ∷ codes "--" ∷ [])

-- these arguments show what an image holds
abbrev pub SaysInspect : List Text → Type 0
SaysInspect arguments = SaysAlone (codes "inspect") arguments

-- these arguments write an image in the newest form
abbrev pub SaysMigrate : List Text → Type 0
SaysMigrate arguments = SaysAlone (codes "migrate") arguments

-- these arguments run a script from the state on that the image at this path says, with these budgets
abbrev pub SaysOpen : List Text → Budgets → Text → Type 0
SaysOpen arguments budgets path = (line : OpenLine) × Opens arguments budgets path line

-- these arguments say no command
pub record SaysNothing (arguments : List Text) : Type 0 where
  pub no_run : (options : Options) → SaysRun arguments options → ⊥
  pub no_soak : (options : Options) (seed count : ℕ) → SaysSoak arguments options seed count → ⊥
  pub no_image : (options : Options) → SaysImage arguments options → ⊥
  pub no_inspect : SaysInspect arguments → ⊥
  pub no_migrate : SaysMigrate arguments → ⊥
  pub no_open : (budgets : Budgets) (path : Text) → SaysOpen arguments budgets path → ⊥
