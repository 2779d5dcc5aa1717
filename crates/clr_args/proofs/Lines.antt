-- The arguments that the pass takes are those of a line that says what is read of the texts.
use Rattle.std.specs.Prelude.{◌≡◌, ◌++◌, ◌&&◌, ◌||◌, ℕ, Bool, true, false, List, [], ◌∷◌, Option, Some, None}
use Rattle.std.specs.Prelude.{codes, if◌then◌else◌, map, option_and_then, slice_get, unwrap_or}
use Rattle.std.specs.List.{list_all}
use Rattle.std.specs.Str.{bytes_eq}
use Rattle.std.proofs.Common.{refl, sym, ap, ap₂, ◌∙◌, subst, true≢false, ◌⊎◌, inl, inr}
use Rattle.std.proofs.lemmas.Bool.{and_parts}
use Rattle.std.proofs.lemmas.Slice.Eq.{bytes_eq-Decides}
use Rattle.clap.specs.Walk.{first_of}
use Rattle.clr_model.specs.Lawful.{AreLawfulOptions}
use Rattle.clr_model.specs.Machine.{Options}
use Rattle.clr_model.specs.Run.{defaults}
use Rattle.clr_args.specs.Budgets.{budgets_of}
use Rattle.clr_args.specs.CommandLines.{AreSoakNumbers}
use Rattle.clr_args.specs.Grammar.{IsLine, Line, Part, Said, Says, SaysAlone, SaysSoak, Text, is_among, is_option_part}
use Rattle.clr_args.specs.Grammar.{budget_names, joined, number_of, option_names, placed, places_of, said, soak_places}
use Rattle.clr_args.specs.Grammar.{spaced, spelled}
use Rattle.clr_args.specs.Reading.{AreBudgetsRead, AreRead, number_in, number_or}
use Rattle.clr_args.specs.declared.budgets.Budgets.{Budgets}
use Rattle.clr_args.proofs.Pass.{Items, Kind, behind, dashes, flag, joint, kind_of, other, pass, ready, turn, whole}
use Rattle.clr_args.proofs.Looks.{Looks, looks}
use Rattle.clr_args.proofs.Rules.{rows_at}
use Rattle.clr_args.proofs.Levels.{complete, is_in, line_taken}
use Rattle.clr_args.proofs.Meaning.{are_said, read_said}
use Rattle.clr_args.proofs.Spelled.{IsNumber, arguments_spell, texts_of}
use Rattle.clr_args.proofs.Taken.{EachName, IsNumberAt, all_texts, of_each, option_number, place_number, taken_once}

pub completed : (places : List Text) (o : Option Items) (items : Items)
    → option_and_then (complete places) o ≡ Some items
    → (o ≡ Some items) × (list_all (λ place. is_in place items) places ≡ true)
completed places None items e = absurd cc
completed places (Some found) items e = go (list_all (λ place. is_in place found) places) refl e
  where
    go : (all : Bool) → list_all (λ place. is_in place found) places ≡ all
        → (if all then Some found else None) ≡ Some items
        → (Some found ≡ Some items) × (list_all (λ place. is_in place items) places ≡ true)
    go true all e = (
      e,
      subst (λ (xs : Items). list_all (λ place. is_in place xs) places ≡ true)
          (ap (λ (o : Option Items). unwrap_or o []) e) all,
    )
    go false all e = absurd cc

-- ---- the line of a run

-- the texts of budgets that are read are numbers
pub budget_numbers : (items : Items) (budgets : Budgets) → AreBudgetsRead (rows_at items) budgets
    → EachName (IsNumberAt items) budget_names
budget_numbers items budgets read =
    let at = λ (name : Text). first_of name (rows_at items) in (
      λ text is. option_number defaults.b0 budgets.b0 (at (codes "b0")) text read.b0 is,
      (
        λ text is. option_number defaults.b1 budgets.b1 (at (codes "b1")) text read.b1 is,
        (
          λ text is. option_number defaults.b2 budgets.b2 (at (codes "b2")) text read.b2 is,
          (
            λ text is. option_number defaults.bl budgets.bl (at (codes "bl")) text read.bl is,
            (
              λ text is. option_number defaults.compact budgets.compact (at (codes "compact")) text read.compact is,
              tt,
            ),
          ),
        ),
      ),
    )

each_more : (P : Text → Type 0) (names more : List Text) → EachName P names → EachName P more
    → EachName P (names ++ more)
each_more P [] more each next = next
each_more P (name ∷ names) more each next = (each.0, each_more P names more each.1 next)

run_numbers : (items : Items) (options : Options) → AreRead (rows_at items) options
    → EachName (IsNumberAt items) option_names
run_numbers items options read =
    let at = λ (name : Text). first_of name (rows_at items) in (
      λ text is. option_number defaults.limit options.limit (at (codes "limit")) text read.limit is,
      (
        λ text is. option_number defaults.segment options.segment (at (codes "segment")) text read.segment is,
        each_more (IsNumberAt items) budget_names (codes "large" ∷ [])
            (budget_numbers items (budgets_of options) read.budgets)
            (λ text is. option_number defaults.large options.large (at (codes "large")) text read.large is, tt),
      ),
    )

pub no_more : (xs left : List Text) → xs ++ left ≡ [] → xs ≡ []
no_more [] left e = refl
no_more (x ∷ xs) left e = absurd cc

options_line : (rest : List Text) (items : Items) (options : Options) → line_taken option_names [] rest ≡ Some items
    → AreRead (rows_at items) options
    → (line : Line) × (rest ≡ spelled line) × IsLine option_names [] line × (texts_of (said line) ≡ items)
options_line rest items options taken read =
    let passed = (completed [] (pass option_names ready [] [] rest) items taken).0 in
    let once = taken_once option_names option_names (λ name e. e) rest [] [] items refl passed in
    let numbers =
    all_texts (λ name text. IsNumber text) option_names [] items once
    (λ name. of_each (IsNumberAt items) option_names name (run_numbers items options read)) in
    let found = arguments_spell option_names rest [] [] items numbers passed in (
      found.0,
      found.1,
      record {
        options = found.2;
        places = no_more (places_of found.0) found.3.left found.3.places_are;
        once = found.3.once;
        small = found.3.small;
      },
      found.3.texts,
    )

-- the arguments of a command with options alone
pub options_said_by : (name : Text) (arguments rest : List Text) (items : Items) (options : Options)
    → arguments ≡ name ∷ rest
    → line_taken option_names [] rest ≡ Some items → AreRead (rows_at items) options
    → AreLawfulOptions options → (line : Line) × Says name [] arguments options line
options_said_by name arguments rest items options are taken read lawful =
    let found = options_line rest items options taken read in (
      found.0,
      record {
        arguments_are = are ∙ ap (λ (ws : List Text). name ∷ ws) found.1;
        is_line = found.2;
        options_are =
            are_said (said found.0) options found.2.small
            (subst (λ (xs : Items). AreRead (rows_at xs) options) (sym found.3) read);
        lawful = lawful;
      },
    )

-- ---- the line of a generated script

abbrev soak_names : List Text
soak_names = option_names ++ soak_places

pub among_more : (names more : List Text) (name : Text) → is_among name names ≡ true
    → is_among name (names ++ more) ≡ true
among_more [] more name e = absurd (true≢false (sym e))
among_more (n ∷ ns) more name e = go (bytes_eq n name) e (among_more ns more name)
  where
    go : (same : Bool) → (same || is_among name ns) ≡ true
        → (is_among name ns ≡ true → is_among name (ns ++ more) ≡ true) → (same || is_among name (ns ++ more)) ≡ true
    go true e rest = refl
    go false e rest = rest e

soak_numbers : (items : Items) (options : Options) (seed count : ℕ) → AreRead (rows_at items) options
    → AreSoakNumbers (rows_at items) seed count
    → EachName (IsNumberAt items) soak_names
soak_numbers items options seed count read soak =
    each_more (IsNumberAt items) option_names soak_places (run_numbers items options read) (
      λ text is. place_number seed (first_of (codes "SEED") (rows_at items)) text soak.seed_is is,
      (λ text is. place_number count (first_of (codes "N") (rows_at items)) text soak.count_is is, tt),
    )

-- a name that is said is that of an option or of a place
option_named : (option name : Text) (line : Line) → is_among option option_names ≡ true
    → (bytes_eq option name || is_in name (texts_of (said line))) ≡ true
    → (is_in name (texts_of (said line)) ≡ true → (is_among name option_names || is_among name (places_of line)) ≡ true)
    → (is_among name option_names || is_among name (places_of line)) ≡ true
option_named option name line known e rest = go (bytes_eq option name) refl e
  where
    go : (same : Bool) → bytes_eq option name ≡ same → (same || is_in name (texts_of (said line))) ≡ true
        → (is_among name option_names || is_among name (places_of line)) ≡ true
    go true is e =
        ap (λ b. b || is_among name (places_of line))
        (subst (λ (n : Text). is_among n option_names ≡ true) ((bytes_eq-Decides option name).0 is) known)
    go false isnt e = rest e

named_parts : (parts : List Part) (more : Option (List Said)) (name : Text)
    → list_all (is_option_part option_names) parts ≡ true
    → is_in name (texts_of (said (record { parts = parts; behind = more }))) ≡ true
    → (is_among name option_names || is_among name (places_of (record { parts = parts; behind = more }))) ≡ true
named_parts [] None name right e = absurd (true≢false (sym e))
named_parts [] (Some numbers) name right e = later (is_among name option_names) (go numbers e)
  where
    go : (numbers : List Said) → is_in name (texts_of numbers) ≡ true
        → is_among name (map (λ (s : Said). s.0) numbers) ≡ true
    go [] e = e
    go (x ∷ xs) e = by (bytes_eq x.0 name) e (go xs)
      where
        by : (same : Bool) → (same || is_in name (texts_of xs)) ≡ true
            → (is_in name (texts_of xs) ≡ true → is_among name (map (λ (s : Said). s.0) xs) ≡ true)
            → (same || is_among name (map (λ (s : Said). s.0) xs)) ≡ true
        by true e rest = refl
        by false e rest = rest e

    later : (b : Bool) → is_among name (map (λ (s : Said). s.0) numbers) ≡ true
        → (b || is_among name (map (λ (s : Said). s.0) numbers)) ≡ true
    later true e = refl
    later false e = e
named_parts (spaced option n ∷ parts) more name right e =
    option_named option name (record { parts = parts; behind = more })
    (and_parts (is_among option option_names) _ right).0 e
    (named_parts parts more name (and_parts (is_among option option_names) _ right).1)
named_parts (joined option n ∷ parts) more name right e =
    option_named option name (record { parts = parts; behind = more })
    (and_parts (is_among option option_names) _ right).0 e
    (named_parts parts more name (and_parts (is_among option option_names) _ right).1)
named_parts (placed place n ∷ parts) more name right e =
    go (bytes_eq place name) (is_among name option_names) e (named_parts parts more name right)
  where
    go : (same known : Bool) → (same || is_in name (texts_of (said (record { parts = parts; behind = more })))) ≡ true
        → (is_in name (texts_of (said (record { parts = parts; behind = more }))) ≡ true
        → (known || is_among name (places_of (record { parts = parts; behind = more }))) ≡ true)
        → (known || (same || is_among name (places_of (record { parts = parts; behind = more })))) ≡ true
    go true true e rest = refl
    go true false e rest = refl
    go false known e rest = rest e

-- so all places of a generated script have numbers, where its last has one
all_placed : (xs left : List Text) → xs ++ left ≡ soak_places → is_among (codes "N") xs ≡ true → xs ≡ soak_places
all_placed [] left e among = absurd (true≢false (sym among))
all_placed (x ∷ []) left e among =
    absurd (true≢false (sym (ap (λ (ps : List Text). bytes_eq (first ps) (codes "N") || false) (sym e) ∙ among)))
  where
    first : List Text → Text
    first [] = []
    first (p ∷ ps) = p
all_placed (x ∷ y ∷ []) left e among = ap₂ (λ (a b : Text). a ∷ b ∷ []) (ap (at 0) e) (ap (at 1) e)
  where
    at : ℕ → List Text → Text
    at n ps = unwrap_or (slice_get ps n) []
all_placed (x ∷ y ∷ z ∷ zs) left e among = absurd cc

soak_line : (rest : List Text) (items : Items) (options : Options) (seed count : ℕ)
    → line_taken option_names soak_places rest ≡ Some items → AreRead (rows_at items) options
    → AreSoakNumbers (rows_at items) seed count
    → (line : Line) × (rest ≡ spelled line) × IsLine option_names soak_places line × (texts_of (said line) ≡ items)
soak_line rest items options seed count taken read soak =
    let done = completed soak_places (pass option_names ready soak_places [] rest) items taken in
    let once =
    taken_once option_names soak_names (among_more option_names soak_places) rest soak_places [] items refl done.0 in
    let numbers =
    all_texts (λ name text. IsNumber text) soak_names [] items once
    (λ name. of_each (IsNumberAt items) soak_names name (soak_numbers items options seed count read soak)) in
    let found = arguments_spell option_names rest soak_places [] items numbers done.0 in
    let last =
    (and_parts (is_in (codes "N") items) true
    (and_parts (is_in (codes "SEED") items) (is_in (codes "N") items && true) done.1).1).0 in
    let named =
    named_parts found.0.parts found.0.behind (codes "N") found.2
    (subst (λ (xs : Items). is_in (codes "N") xs ≡ true) (sym found.3.texts) last) in (
      found.0,
      found.1,
      record {
        options = found.2;
        places = all_placed (places_of found.0) found.3.left found.3.places_are named;
        once = found.3.once;
        small = found.3.small;
      },
      found.3.texts,
    )

given_or : (o : Option Text) (n : ℕ) → option_and_then number_in o ≡ Some n → number_or 0 o ≡ Some n
given_or None n e = absurd cc
given_or (Some text) n e = e

place_said : (line : Line) (items : Items) (places : List Text) (name : Text) (n : ℕ) → IsLine option_names places line
    → texts_of (said line) ≡ items
    → option_and_then number_in (first_of name (rows_at items)) ≡ Some n → number_of name 0 (said line) ≡ n
place_said line items places name n is texts e =
    ap (λ (o : Option ℕ). unwrap_or o 0) (sym (read_said (said line) name 0 is.small)
    ∙ (ap (λ (xs : Items). number_or 0 (first_of name (rows_at xs))) texts
    ∙ given_or (first_of name (rows_at items)) n e))

pub soak_said_by : (arguments rest : List Text) (items : Items) (options : Options) (seed count : ℕ)
    → arguments ≡ codes "soak" ∷ rest
    → line_taken option_names soak_places rest ≡ Some items
    → AreRead (rows_at items) options → AreLawfulOptions options → AreSoakNumbers (rows_at items) seed count
    → SaysSoak arguments options seed count
soak_said_by arguments rest items options seed count are taken read lawful soak =
    let found = soak_line rest items options seed count taken read soak in (
      found.0,
      record {
        arguments_are = are ∙ ap (λ (ws : List Text). codes "soak" ∷ ws) found.1;
        is_line = found.2;
        options_are =
            are_said (said found.0) options found.2.small
            (subst (λ (xs : Items). AreRead (rows_at xs) options) (sym found.3) read);
        lawful = lawful;
      },
      place_said found.0 items soak_places (codes "SEED") seed found.2 found.3 soak.seed_is,
      soak.seed_fits,
      place_said found.0 items soak_places (codes "N") count found.2 found.3 soak.count_is,
      soak.some,
      soak.not_too_many,
    )

-- ---- the line of a command with nothing

-- behind an argument `--` nothing may stand
nothing_behind : (rest : List Text) (items : Items) → pass [] behind [] [] rest ≡ Some items → rest ≡ []
unfolding pass
nothing_behind [] items e = refl
nothing_behind (argument ∷ rest) items e = absurd cc

dashes_alone : (argument : Text) (rest : List Text) (items : Items) (k : Kind) → Looks k argument
    → turn [] ready k [] argument [] (λ stage ps known. pass [] stage ps known rest) ≡ Some items
    → argument ∷ rest ≡ codes "--" ∷ []
dashes_alone argument rest items dashes look e =
    ap₂ (λ (w : Text) (ws : List Text). w ∷ ws) look (nothing_behind rest items e)
dashes_alone argument rest items (whole name) look e = absurd cc
dashes_alone argument rest items (joint name text) look e = absurd cc
dashes_alone argument rest items flag look e = absurd cc
dashes_alone argument rest items other look e = absurd cc

nothing_or_dashes : (rest : List Text) (items : Items) → pass [] ready [] [] rest ≡ Some items
    → (rest ≡ []) ⊎ (rest ≡ codes "--" ∷ [])
unfolding pass
nothing_or_dashes [] items e = inl refl
nothing_or_dashes (argument ∷ rest) items e =
    inr (dashes_alone argument rest items (kind_of argument) (looks argument) e)

pub alone_said_by : (name : Text) (arguments rest : List Text) (items : Items) → arguments ≡ name ∷ rest
    → line_taken [] [] rest ≡ Some items → SaysAlone name arguments
alone_said_by name arguments rest items are taken =
    go (nothing_or_dashes rest items (completed [] (pass [] ready [] [] rest) items taken).0)
  where
    go : (rest ≡ []) ⊎ (rest ≡ codes "--" ∷ []) → SaysAlone name arguments
    go (inl none) = inl (are ∙ ap (λ (ws : List Text). name ∷ ws) none)
    go (inr one) = inr (are ∙ ap (λ (ws : List Text). name ∷ ws) one)

-- what is said is taken
pub nothing_taken : line_taken [] [] [] ≡ Some []
unfolding pass
nothing_taken = refl

pub dashes_taken : line_taken [] [] (codes "--" ∷ []) ≡ Some []
unfolding pass
dashes_taken = refl
