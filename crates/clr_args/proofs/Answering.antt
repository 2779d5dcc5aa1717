-- What is read of the parser's matches is what the arguments say, and arguments say one thing.
use Rattle.std.specs.Prelude.{◌≡◌, ◌≢◌, ◌||◌, ℕ, Bool, true, false, List, [], ◌∷◌, Option, Some, None, codes}
use Rattle.std.specs.Prelude.{option_and_then, option_map, unwrap_or}
use Rattle.std.specs.Str.{bytes_eq}
use Rattle.std.proofs.Common.{refl, sym, ap, ◌∙◌, subst, true≢false, inl, inr}
use Rattle.clap.specs.Walk.{Row, first_of}
use Rattle.clap.specs.Simple.{subcommand_of}
use Rattle.clap.specs.Faults.{fault_of}
use Rattle.clr_model.specs.Machine.{Options}
use Rattle.clr_model.specs.Run.{defaults}
use Rattle.clr_options.specs.Options.{options_of}
use Rattle.clr_options.specs.declared.options.Options as code
use Rattle.clr_args.specs.Budgets.{AreLawfulBudgets, budgets_of}
use Rattle.clr_args.specs.CommandLines.{AreOptionsRead, AreSoakNumbers, HasOptions, IsOpenRead, IsPathSaid, IsReadWith}
use Rattle.clr_args.specs.CommandLines.{IsSaid, IsSoakRead}
use Rattle.clr_args.specs.Grammar.{IsLine, Line, Says, SaysAlone, SaysImage, SaysInspect, SaysMigrate, SaysNothing}
use Rattle.clr_args.specs.Grammar.{SaysOpen, SaysRun, SaysSoak, Text, is_among, number_of, option_names, options_in}
use Rattle.clr_args.specs.Grammar.{said, soak_places}
use Rattle.clr_args.specs.Parser.{program}
use Rattle.clr_args.specs.Reading.{AreBudgetsRead, AreRead, number_in, number_or}
use Rattle.clr_args.specs.declared.budgets.Budgets.{Budgets}
use Rattle.clr_args.specs.declared.command_line.CommandLine.{CommandLine}
use Rattle.clr_args.specs.declared.command_line.CommandLine.TheVariants.{Image, Inspect, Migrate, Open, Run, Soak}
use Rattle.clr_args.proofs.Pass.{Items}
use Rattle.clr_args.proofs.Rules.{rows_at}
use Rattle.clr_args.proofs.Levels.{is_in, line_taken}
use Rattle.clr_args.proofs.Commands.{Command, GivesCommand, Verb, images, inspects, migrates, name_of, named, parsed}
use Rattle.clr_args.proofs.Commands.{opens, parsed_at, parsed_by, parser_gives, runs, soaks, taken, verb_of}
use Rattle.clr_args.proofs.Lines.{alone_said_by, dashes_taken, nothing_taken, options_said_by, soak_said_by}
use Rattle.clr_args.proofs.Meaning.{are_read, budgets_are_read, options_found, place_is_in, read_said, soak_found}
use Rattle.clr_args.proofs.Opens.{open_budgets_found, open_found, open_path_found, open_said_by, texts_found}
use Rattle.clr_args.proofs.Spelled.{texts_of}
use Rattle.clr_args.proofs.Taken.{text_by}

-- ---- what the arguments that are parsed are

mapped : (v : Verb) (o : Option Items) (found : Command) → option_map (λ items. (v, items)) o ≡ Some found
    → (v ≡ found.0) × (o ≡ Some found.1)
mapped v None found e = absurd cc
mapped v (Some items) found e = (
  ap (λ (c : Option Command). (unwrap_or c found).0) e,
  ap (λ (c : Option Command). Some (unwrap_or c found).1) e,
)

abbrev IsCommand : List Text → Command → Type 0
IsCommand arguments found =
    (rest : List Text) × (arguments ≡ name_of found.0 ∷ rest) × (taken found.0 rest ≡ Some found.1)

parsed_parts : (arguments : List Text) (found : Command) → parsed arguments ≡ Some found → IsCommand arguments found
parsed_parts [] found e = absurd cc
parsed_parts (argument ∷ rest) found e = go (verb_of argument) refl e
  where
    go : (o : Option Verb) → verb_of argument ≡ o → parsed_by o rest ≡ Some found → IsCommand (argument ∷ rest) found
    go None is e = absurd cc
    go (Some v) is e = let parts = mapped v (taken v rest) found e in (
      rest,
      ap (λ (w : Text). w ∷ rest) (named argument v is ∙ ap name_of parts.0),
      ap (λ (u : Verb). taken u rest) (sym parts.0) ∙ parts.1,
    )

-- ---- what is said is found

gives : (arguments : List Text) (found : Command) → parsed arguments ≡ Some found → (fault_of program arguments ≡ [])
    × (subcommand_of program arguments ≡ Some (name_of found.0, rows_at found.1))
gives arguments found e =
    subst (GivesCommand (fault_of program arguments) (subcommand_of program arguments)) e (parser_gives arguments)

same_items : (arguments : List Text) (a b : Command) → parsed arguments ≡ Some a → parsed arguments ≡ Some b → a ≡ b
same_items arguments a b first second = ap (λ (o : Option Command). unwrap_or o a) (sym first ∙ second)

-- these options as code has them
abbrev pub chosen_with : Options → code.Options
chosen_with options = record {
  limit = options.limit;
  segment = options.segment;
  b0 = options.b0;
  b1 = options.b1;
  b2 = options.b2;
  bl = options.bl;
  compact = options.compact;
  large = options.large;
}

there_is : (items : Items) (name : Text) → is_in name items ≡ true
    → option_and_then number_in (first_of name (rows_at items)) ≡ number_or 0 (first_of name (rows_at items))
there_is [] name e = absurd (true≢false (sym e))
there_is (x ∷ xs) name e = go (bytes_eq x.0 name) e (there_is xs name)
  where
    go : (same : Bool) → (same || is_in name xs) ≡ true → (is_in name xs ≡ true
        → option_and_then number_in (first_of name (rows_at xs)) ≡ number_or 0 (first_of name (rows_at xs)))
        → option_and_then number_in (text_by same x name xs) ≡ number_or 0 (text_by same x name xs)
    go true e rest = refl
    go false e rest = rest e

place_found : (line : Line) (name : Text) → IsLine option_names soak_places line → is_among name soak_places ≡ true
    → option_and_then number_in (first_of name (rows_at (texts_of (said line)))) ≡ Some (number_of name 0 (said line))
place_found line name is among =
    there_is (texts_of (said line)) name
    (place_is_in line.parts line.behind name (ap (is_among name) is.places ∙ among))
    ∙ read_said (said line) name 0 is.small

chosen_read : (name : Text) (places arguments : List Text) (options : Options) (line : Line)
    → Says name places arguments options line → AreOptionsRead (rows_at (texts_of (said line))) (chosen_with options)
chosen_read name places arguments options line says = record {
  read = subst (AreRead (rows_at (texts_of (said line)))) (sym says.options_are)
      (are_read (said line) says.is_line.small);
  lawful = says.lawful;
}

-- the texts of a command with options, and its options
abbrev OptionsAt : Verb → List Text → Options → Type 0
OptionsAt v arguments options = (items : Items) × (parsed arguments ≡ Some (v, items))
    × AreOptionsRead (rows_at items) (chosen_with options)

run_is_found : (arguments : List Text) (options : Options) → SaysRun arguments options
    → OptionsAt runs arguments options
run_is_found arguments options (line, says) = (
  texts_of (said line),
  parsed_at runs arguments _ says.arguments_are
      ∙ ap (option_map (λ items. (runs, items))) (options_found line says.is_line),
  chosen_read (codes "run") [] arguments options line says,
)

image_is_found : (arguments : List Text) (options : Options) → SaysImage arguments options
    → OptionsAt images arguments options
image_is_found arguments options (line, says) = (
  texts_of (said line),
  parsed_at images arguments _ says.arguments_are
      ∙ ap (option_map (λ items. (images, items))) (options_found line says.is_line),
  chosen_read (codes "image") [] arguments options line says,
)

soak_is_found : (arguments : List Text) (options : Options) (seed count : ℕ) → SaysSoak arguments options seed count
    → (items : Items) × (parsed arguments ≡ Some (soaks, items))
    × AreOptionsRead (rows_at items) (chosen_with options)
    × AreSoakNumbers (rows_at items) seed count
soak_is_found arguments options seed count (line, says, seed_is, seed_fits, count_is, some, not_too_many) = (
  texts_of (said line),
  parsed_at soaks arguments _ says.arguments_are
      ∙ ap (option_map (λ items. (soaks, items))) (soak_found line says.is_line),
  chosen_read (codes "soak") soak_places arguments options line says,
  record {
    seed_is = place_found line (codes "SEED") says.is_line refl ∙ ap (λ (n : ℕ). Some n) seed_is;
    seed_fits = seed_fits;
    count_is = place_found line (codes "N") says.is_line refl ∙ ap (λ (n : ℕ). Some n) count_is;
    some = some;
    not_too_many = not_too_many;
  },
)

open_is_found : (arguments : List Text) (budgets : Budgets) (path : Text) → SaysOpen arguments budgets path
    → (items : Items) × (parsed arguments ≡ Some (opens, items)) × AreBudgetsRead (rows_at items) budgets
    × AreLawfulBudgets budgets × (first_of (codes "IMAGE") (rows_at items) ≡ Some path)
open_is_found arguments budgets path (line, says) =
    let numbers = said (options_in line) in (
      texts_found line.before line.ending,
      parsed_at opens arguments _ says.arguments_are
          ∙ ap (option_map (λ items. (opens, items))) (open_found line says.is_line says.is_path),
      open_budgets_found line budgets says.is_line
          (subst (AreBudgetsRead (rows_at (texts_of numbers))) (sym says.budgets_are)
          (budgets_are_read numbers says.is_line.small)),
      says.lawful,
      open_path_found line says.is_line ∙ ap (λ (p : Text). Some p) (sym says.path_is),
    )

alone_is_found : (v : Verb) → ((rest : List Text) → taken v rest ≡ line_taken [] [] rest) → (arguments : List Text)
    → SaysAlone (name_of v) arguments → parsed arguments ≡ Some (v, [])
alone_is_found v like arguments (inl is) =
    parsed_at v arguments [] is ∙ ap (option_map (λ items. (v, items))) (like [] ∙ nothing_taken)
alone_is_found v like arguments (inr is) =
    parsed_at v arguments (codes "--" ∷ []) is
    ∙ ap (option_map (λ items. (v, items))) (like (codes "--" ∷ []) ∙ dashes_taken)

-- ---- where nothing is said

-- the arguments say this command, with some options and numbers
abbrev SaysVerb : Verb → List Text → Type 0
SaysVerb runs arguments = (options : Options) × SaysRun arguments options
SaysVerb soaks arguments = (options : Options) × (seed : ℕ) × (count : ℕ) × SaysSoak arguments options seed count
SaysVerb images arguments = (options : Options) × SaysImage arguments options
SaysVerb inspects arguments = SaysInspect arguments
SaysVerb migrates arguments = SaysMigrate arguments
SaysVerb opens arguments = (budgets : Budgets) × (path : Text) × SaysOpen arguments budgets path

verb_is_found : (v : Verb) (arguments : List Text) → SaysVerb v arguments
    → (items : Items) × (parsed arguments ≡ Some (v, items))
verb_is_found runs arguments (options, says) = let found = run_is_found arguments options says in (found.0, found.1)
verb_is_found soaks arguments (options, seed, count, says) =
    let found = soak_is_found arguments options seed count says in (found.0, found.1)
verb_is_found images arguments (options, says) = let found = image_is_found arguments options says in (found.0, found.1)
verb_is_found inspects arguments says = ([], alone_is_found inspects (λ rest. refl) arguments says)
verb_is_found migrates arguments says = ([], alone_is_found migrates (λ rest. refl) arguments says)
verb_is_found opens arguments (budgets, path, says) =
    let found = open_is_found arguments budgets path says in (found.0, found.1)

says_nothing : (arguments : List Text) → ((v : Verb) → SaysVerb v arguments → ⊥) → SaysNothing arguments
says_nothing arguments none = record {
  no_run = λ options says. none runs (options, says);
  no_soak = λ options seed count says. none soaks (options, seed, count, says);
  no_image = λ options says. none images (options, says);
  no_inspect = none inspects;
  no_migrate = none migrates;
  no_open = λ budgets path says. none opens (budgets, path, says);
}

-- no arguments say another command than the one that is found
none_said : (arguments : List Text) (v : Verb) (items : Items) → parsed arguments ≡ Some (v, items)
    → (SaysVerb v arguments → ⊥) → SaysNothing arguments
none_said arguments v items is none = says_nothing arguments (λ u says.
    let found = verb_is_found u arguments says in
    none (subst (λ (w : Verb). SaysVerb w arguments)
    (ap (λ (c : Command). c.0) (same_items arguments (u, found.0) (v, items) found.1 is)) says))

pub nothing_by_fault : (arguments : List Text) → fault_of program arguments ≢ [] → SaysNothing arguments
nothing_by_fault arguments faults = says_nothing arguments (λ v says.
    let found = verb_is_found v arguments says in faults (gives arguments (v, found.0) found.1).0)

-- ---- what is answered

-- what is read of the rows that were found
abbrev pub IsVerbRead : Verb → List Row → Option CommandLine → Type 0
IsVerbRead runs rows line = IsReadWith Run rows line
IsVerbRead soaks rows line = IsSoakRead rows line
IsVerbRead images rows line = IsReadWith Image rows line
IsVerbRead inspects rows line = line ≡ Some Inspect
IsVerbRead migrates rows line = line ≡ Some Migrate
IsVerbRead opens rows line = IsOpenRead rows line

verb_answer : (arguments rest : List Text) (v : Verb) (items : Items) → arguments ≡ name_of v ∷ rest
    → taken v rest ≡ Some items → parsed arguments ≡ Some (v, items)
    → (line : Option CommandLine) → IsVerbRead v (rows_at items) line → IsSaid arguments line
verb_answer arguments rest runs items are takes is (Some line) (chosen, line_is, are_read) =
    subst (λ (l : CommandLine). IsSaid arguments (Some l)) (sym line_is)
    (options_said_by (codes "run") arguments rest items (options_of chosen) are takes are_read.read are_read.lawful)
verb_answer arguments rest runs items are takes is None read = none_said arguments runs items is (λ (options, says).
    let found = run_is_found arguments options says in
    let same = same_items arguments (runs, found.0) (runs, items) found.1 is in
    read options (subst (λ (c : Command). AreRead (rows_at c.1) options) same found.2.read) found.2.lawful)
verb_answer arguments rest soaks items are takes is (Some line) (chosen, seed, count, line_is, are_read, numbers) =
    subst (λ (l : CommandLine). IsSaid arguments (Some l)) (sym line_is)
    (soak_said_by arguments rest items (options_of chosen) seed count are takes are_read.read are_read.lawful numbers)
verb_answer arguments rest soaks items are takes is None read =
    none_said arguments soaks items is (λ (options, seed, count, says).
    let found = soak_is_found arguments options seed count says in
    let same = same_items arguments (soaks, found.0) (soaks, items) found.1 is in
    read options seed count (subst (λ (c : Command). AreRead (rows_at c.1) options) same found.2.read) found.2.lawful
    (subst (λ (c : Command). AreSoakNumbers (rows_at c.1) seed count) same found.3))
verb_answer arguments rest images items are takes is (Some line) (chosen, line_is, are_read) =
    subst (λ (l : CommandLine). IsSaid arguments (Some l)) (sym line_is)
    (options_said_by (codes "image") arguments rest items (options_of chosen) are takes are_read.read are_read.lawful)
verb_answer arguments rest images items are takes is None read = none_said arguments images items is (λ (options, says).
    let found = image_is_found arguments options says in
    let same = same_items arguments (images, found.0) (images, items) found.1 is in
    read options (subst (λ (c : Command). AreRead (rows_at c.1) options) same found.2.read) found.2.lawful)
verb_answer arguments rest inspects items are takes is line line_is =
    subst (IsSaid arguments) (sym line_is) (alone_said_by (codes "inspect") arguments rest items are takes)
verb_answer arguments rest migrates items are takes is line line_is =
    subst (IsSaid arguments) (sym line_is) (alone_said_by (codes "migrate") arguments rest items are takes)
verb_answer arguments rest opens items are takes is (Some line) (budgets, line_is, read, lawful) =
    subst (λ (l : CommandLine). IsSaid arguments (Some l)) (sym line_is)
    (open_said_by arguments rest items budgets are takes read lawful)
verb_answer arguments rest opens items are takes is None read =
    none_said arguments opens items is (λ (budgets, path, says).
    let found = open_is_found arguments budgets path says in
    let same = same_items arguments (opens, found.0) (opens, items) found.1 is in
    read budgets (subst (λ (c : Command). AreBudgetsRead (rows_at c.1) budgets) same found.2) found.3)

pub said_by_matches : (arguments : List Text) (found : Option (Text × List Row)) → fault_of program arguments ≡ []
    → found ≡ subcommand_of program arguments
    → (line : Option CommandLine)
    → ((v : Verb) (rows : List Row) → found ≡ Some (name_of v, rows) → IsVerbRead v rows line) → IsSaid arguments line
said_by_matches arguments found none is line reads = go (parsed arguments) refl
  where
    go : (o : Option Command) → parsed arguments ≡ o → IsSaid arguments line
    go None e = absurd
        (subst (GivesCommand (fault_of program arguments) (subcommand_of program arguments)) e
        (parser_gives arguments) none)
    go (Some command) e =
        let parts = parsed_parts arguments command e in
        verb_answer arguments parts.0 command.0 command.1 parts.1 parts.2 e line
        (reads command.0 (rows_at command.1) (is ∙ (gives arguments command e).1))

-- what is read of each command's rows
pub each_read : (found : Option (Text × List Row)) (line : Option CommandLine)
    → ((rows : List Row) → found ≡ Some (codes "run", rows) → IsReadWith Run rows line)
    → ((rows : List Row) → found ≡ Some (codes "soak", rows) → IsSoakRead rows line)
    → ((rows : List Row) → found ≡ Some (codes "image", rows) → IsReadWith Image rows line)
    → ((rows : List Row) → found ≡ Some (codes "inspect", rows) → line ≡ Some Inspect)
    → ((rows : List Row) → found ≡ Some (codes "migrate", rows) → line ≡ Some Migrate)
    → ((rows : List Row) → found ≡ Some (codes "open", rows) → IsOpenRead rows line)
    → (v : Verb) (rows : List Row) → found ≡ Some (name_of v, rows) → IsVerbRead v rows line
each_read found line run soak image inspect migrate opened runs = run
each_read found line run soak image inspect migrate opened soaks = soak
each_read found line run soak image inspect migrate opened images = image
each_read found line run soak image inspect migrate opened inspects = inspect
each_read found line run soak image inspect migrate opened migrates = migrate
each_read found line run soak image inspect migrate opened opens = opened

-- ---- arguments say one thing

number_at : Text → ℕ → List Row → ℕ
number_at name default rows = unwrap_or (number_or default (first_of name rows)) 0

number_is : (o : Option ℕ) (n : ℕ) → o ≡ Some n → n ≡ unwrap_or o 0
number_is o n e = ap (λ (x : Option ℕ). unwrap_or x 0) (sym e)

-- the budgets that rows say
budgets_at : List Row → Budgets
budgets_at rows = record {
  b0 = number_at (codes "b0") defaults.b0 rows;
  b1 = number_at (codes "b1") defaults.b1 rows;
  b2 = number_at (codes "b2") defaults.b2 rows;
  bl = number_at (codes "bl") defaults.bl rows;
  compact = number_at (codes "compact") defaults.compact rows;
}

budgets_are : (rows : List Row) (budgets : Budgets) → AreBudgetsRead rows budgets → budgets ≡ budgets_at rows
unfolding budgets_at number_at
budgets_are rows budgets read =
    let b0 = number_is _ budgets.b0 read.b0 in
    let b1 = number_is _ budgets.b1 read.b1 in
    let b2 = number_is _ budgets.b2 read.b2 in
    let bl = number_is _ budgets.bl read.bl in
    let compact = number_is _ budgets.compact read.compact in
    λ i. record {
      b0 = b0 i;
      b1 = b1 i;
      b2 = b2 i;
      bl = bl i;
      compact = compact i;
    }

-- the options that rows say
chosen_at : List Row → code.Options
chosen_at rows = record {
  limit = number_at (codes "limit") defaults.limit rows;
  segment = number_at (codes "segment") defaults.segment rows;
  b0 = (budgets_at rows).b0;
  b1 = (budgets_at rows).b1;
  b2 = (budgets_at rows).b2;
  bl = (budgets_at rows).bl;
  compact = (budgets_at rows).compact;
  large = number_at (codes "large") defaults.large rows;
}

chosen_are : (rows : List Row) (chosen : code.Options) → AreOptionsRead rows chosen → chosen ≡ chosen_at rows
unfolding chosen_at number_at
chosen_are rows chosen are =
    let limit = number_is _ chosen.limit are.read.limit in
    let segment = number_is _ chosen.segment are.read.segment in
    let budgets = budgets_are rows (budgets_of (options_of chosen)) are.read.budgets in
    let large = number_is _ chosen.large are.read.large in
    λ i. record {
      limit = limit i;
      segment = segment i;
      b0 = (budgets i).b0;
      b1 = (budgets i).b1;
      b2 = (budgets i).b2;
      bl = (budgets i).bl;
      compact = (budgets i).compact;
      large = large i;
    }

place_at : Text → List Row → ℕ
place_at name rows = unwrap_or (option_and_then number_in (first_of name rows)) 0

-- the command line that is found
line_of : Verb → List Row → CommandLine
line_of runs rows = Run (chosen_at rows)
line_of soaks rows = Soak (chosen_at rows) (place_at (codes "SEED") rows) (place_at (codes "N") rows)
line_of images rows = Image (chosen_at rows)
line_of inspects rows = Inspect
line_of migrates rows = Migrate
line_of opens rows = Open (budgets_at rows)

soak_is : (rows : List Row) (chosen : code.Options) (seed count : ℕ) → AreOptionsRead rows chosen
    → AreSoakNumbers rows seed count → Soak chosen seed count ≡ line_of soaks rows
unfolding line_of place_at
soak_is rows chosen seed count are numbers =
    let same = chosen_are rows chosen are in
    let seeds = ap (λ (o : Option ℕ). unwrap_or o 0) (sym numbers.seed_is) in
    let counts = ap (λ (o : Option ℕ). unwrap_or o 0) (sym numbers.count_is) in
    λ i. Soak (same i) (seeds i) (counts i)

-- what is said is what is found
said_is : (arguments : List Text) (line : CommandLine) → IsSaid arguments (Some line)
    → (v : Verb) × (items : Items) × (parsed arguments ≡ Some (v, items)) × (line ≡ line_of v (rows_at items))
unfolding line_of
said_is arguments (Run chosen) says =
    let found = run_is_found arguments (options_of chosen) says in
    (runs, found.0, found.1, ap (λ (o : code.Options). Run o) (chosen_are (rows_at found.0) chosen found.2))
said_is arguments (Soak chosen seed count) says =
    let found = soak_is_found arguments (options_of chosen) seed count says in
    (soaks, found.0, found.1, soak_is (rows_at found.0) chosen seed count found.2 found.3)
said_is arguments (Image chosen) says =
    let found = image_is_found arguments (options_of chosen) says in
    (images, found.0, found.1, ap (λ (o : code.Options). Image o) (chosen_are (rows_at found.0) chosen found.2))
said_is arguments Inspect says = (inspects, [], alone_is_found inspects (λ rest. refl) arguments says, refl)
said_is arguments Migrate says = (migrates, [], alone_is_found migrates (λ rest. refl) arguments says, refl)
said_is arguments (Open budgets) (path, says) =
    let found = open_is_found arguments budgets path says in
    (opens, found.0, found.1, ap (λ (b : Budgets). Open b) (budgets_are (rows_at found.0) budgets found.2))

said_once : (arguments : List Text) (a b : CommandLine) → IsSaid arguments (Some a) → IsSaid arguments (Some b) → a ≡ b
said_once arguments a b first second =
    let one = said_is arguments a first in
    let two = said_is arguments b second in
    one.3
    ∙ (ap (λ (c : Command). line_of c.0 (rows_at c.1)) (same_items arguments (one.0, one.1) (two.0, two.1) one.2 two.2)
    ∙ sym two.3)

said_or_nothing : (arguments : List Text) (line : CommandLine) → IsSaid arguments (Some line)
    → SaysNothing arguments → ⊥
said_or_nothing arguments (Run chosen) says nothing = nothing.no_run (options_of chosen) says
said_or_nothing arguments (Soak chosen seed count) says nothing =
    nothing.no_soak (options_of chosen) seed count says
said_or_nothing arguments (Image chosen) says nothing = nothing.no_image (options_of chosen) says
said_or_nothing arguments Inspect says nothing = nothing.no_inspect says
said_or_nothing arguments Migrate says nothing = nothing.no_migrate says
said_or_nothing arguments (Open budgets) (path, says) nothing = nothing.no_open budgets path says

pub one_thing : (arguments : List Text) (a b : Option CommandLine) → IsSaid arguments a → IsSaid arguments b → a ≡ b
one_thing arguments (Some a) (Some b) first second =
    ap (λ (l : CommandLine). Some l) (said_once arguments a b first second)
one_thing arguments (Some a) None first second = absurd (said_or_nothing arguments a first second)
one_thing arguments None (Some b) first second = absurd (said_or_nothing arguments b second first)
one_thing arguments None None first second = refl

-- ---- so what is said is answered

pub run_answered : (arguments : List Text) (options : Options) → SaysRun arguments options → (line : Option CommandLine)
    → IsSaid arguments line → HasOptions Run options line
run_answered arguments options says line is =
    (chosen_with options, one_thing arguments line (Some (Run (chosen_with options))) is says, refl)

pub soak_answered : (arguments : List Text) (options : Options) (seed count : ℕ) → SaysSoak arguments options seed count
    → (line : Option CommandLine) → IsSaid arguments line
    → HasOptions (λ chosen. Soak chosen seed count) options line
soak_answered arguments options seed count says line is =
    (chosen_with options, one_thing arguments line (Some (Soak (chosen_with options) seed count)) is says, refl)

pub image_answered : (arguments : List Text) (options : Options) → SaysImage arguments options
    → (line : Option CommandLine)
    → IsSaid arguments line → HasOptions Image options line
image_answered arguments options says line is =
    (chosen_with options, one_thing arguments line (Some (Image (chosen_with options))) is says, refl)

-- ---- the path

pub one_path : (arguments : List Text) (a b : Budgets) (one other : Text) → SaysOpen arguments a one
    → SaysOpen arguments b other → one ≡ other
one_path arguments a b one other first second =
    let found = open_is_found arguments a one first in
    let again = open_is_found arguments b other second in
    let same = same_items arguments (opens, found.0) (opens, again.0) found.1 again.1 in
    ap (λ (o : Option Text). unwrap_or o [])
    (sym found.4 ∙ (ap (λ (c : Command). first_of (codes "IMAGE") (rows_at c.1)) same ∙ again.4))

-- where `open` is said, the text that is found for the place is the path
pub path_by_matches : (arguments : List Text) (found : Option (Text × List Row))
    → found ≡ subcommand_of program arguments
    → (line : Option CommandLine) (budgets : Budgets) → IsSaid arguments line → line ≡ Some (Open budgets)
    → (path : Option Text)
    → ((name : Text) (rows : List Row) → found ≡ Some (name, rows) → path ≡ first_of (codes "IMAGE") rows)
    → IsPathSaid arguments path
path_by_matches arguments found is line budgets answer opened path read =
    let says = subst (IsSaid arguments) opened answer in
    let at = open_is_found arguments budgets says.0 says.1 in
    subst (IsPathSaid arguments)
    (sym (read (codes "open") (rows_at at.0) (is ∙ (gives arguments (opens, at.0) at.1).1) ∙ at.4)) (budgets, says.1)

-- an answer that is none or another command isn't `open`
pub none_opened : (line : Option CommandLine) → line ≡ None → (budgets : Budgets) → line ≡ Some (Open budgets) → ⊥
none_opened line none budgets opened = let e : None ≡ Some (Open budgets) = sym none ∙ opened in absurd cc

pub other_opened : (line : Option CommandLine) (other : CommandLine) → line ≡ Some other
    → ((budgets : Budgets) → other ≡ Open budgets → ⊥) → (budgets : Budgets) → line ≡ Some (Open budgets) → ⊥
other_opened line other is apart budgets opened =
    apart budgets (ap (λ (l : Option CommandLine). unwrap_or l other) (sym is ∙ opened))

-- where another command is said or none, there is no path
pub no_path : (arguments : List Text) (line : Option CommandLine) → IsSaid arguments line
    → ((budgets : Budgets) → line ≡ Some (Open budgets) → ⊥) → IsPathSaid arguments None
no_path arguments line is other budgets path says =
    other budgets (one_thing arguments line (Some (Open budgets)) is (path, says))

pub path_is : (arguments : List Text) (found : Option Text) → IsPathSaid arguments found
    → (budgets : Budgets) (path : Text) → SaysOpen arguments budgets path → found ≡ Some path
path_is arguments (Some other) (others, said) budgets path says =
    ap (λ (p : Text). Some p) (one_path arguments others budgets other path said says)
path_is arguments None none budgets path says = absurd (none budgets path says)
