-- What clap finds of all the arguments, as the pass says.
use Rattle.std.specs.Prelude.{◌≡◌, ◌≢◌, ◌++◌, ◌||◌, Bool, true, false, List, [], ◌∷◌, Option, Some, None, codes}
use Rattle.std.specs.Prelude.{fold, find, if◌then◌else◌, is_some, map, option_map, unwrap_or}
use Rattle.std.specs.Str.{bytes_eq}
use Rattle.std.proofs.Common.{refl, sym, ap, ◌∙◌, subst}
use Rattle.std.proofs.lemmas.List.{append-nil, append_assoc}
use Rattle.std.proofs.lemmas.Slice.Eq.{bytes_eq-Decides}
use Rattle.clap.specs.Walk.{Names, Row, Rule, Text, Walk, answers_to, finished, idle, nothing_held, rows_after}
use Rattle.clap.specs.Walk.{settled, subcommand_met, walked}
use Rattle.clap.specs.Simple.{App, Shape, entered, subcommand_of}
use Rattle.clap.specs.Kinds.{Kinds, or_else}
use Rattle.clap.specs.Faults.{check_fault, defaults_fault, entered_fault, fault_of, level_fault, settle_fault}
use Rattle.clap.specs.Faults.{turn_fault, walk_fault}
use Rattle.clap.specs.declared.error.kind.ErrorKind.TheVariants as kind
use Rattle.clr_args.specs.Grammar.{budget_names, open_places, option_names, soak_places}
use Rattle.clr_args.specs.Parser.{program}
use Rattle.clr_args.proofs.Pass.{Items, Kind, dashes, flag, joint, kind_of, other, whole}
use Rattle.clr_args.proofs.Turns.{fault_by, leaf, level, turn_is, walk_by, walk_from, walked_is}
use Rattle.clr_args.proofs.Rules.{first_faults, rows_at, some_kind}
use Rattle.clr_args.proofs.Levels.{Gives, alone_gives, line_taken, open_gives, open_rules, options_give, run_rules}
use Rattle.clr_args.proofs.Levels.{soak_gives, soak_rules}

-- ---- the commands

-- which command
pub data Verb : Type 0 where
  runs : Verb
  soaks : Verb
  images : Verb
  inspects : Verb
  migrates : Verb
  opens : Verb

abbrev pub verbs : List Verb
verbs = runs ∷ soaks ∷ images ∷ inspects ∷ migrates ∷ opens ∷ []

abbrev pub name_of : Verb → Text
name_of runs = codes "run"
name_of soaks = codes "soak"
name_of images = codes "image"
name_of inspects = codes "inspect"
name_of migrates = codes "migrate"
name_of opens = codes "open"

-- the texts of the arguments behind its name
abbrev pub taken : Verb → List Text → Option Items
taken runs arguments = line_taken option_names [] arguments
taken soaks arguments = line_taken option_names soak_places arguments
taken images arguments = line_taken option_names [] arguments
taken inspects arguments = line_taken [] [] arguments
taken migrates arguments = line_taken [] [] arguments
taken opens arguments = line_taken budget_names open_places arguments

-- the command that an argument names
abbrev pub verb_in : List Verb → Text → Option Verb
verb_in vs argument = find (λ v. bytes_eq (name_of v) argument) vs

abbrev pub verb_of : Text → Option Verb
verb_of argument = verb_in verbs argument

named_in : (vs : List Verb) (argument : Text) (v : Verb) → verb_in vs argument ≡ Some v → argument ≡ name_of v
named_in [] argument v e = absurd cc
named_in (x ∷ xs) argument v e = go (bytes_eq (name_of x) argument) refl e (named_in xs argument v)
  where
    go : (same : Bool) → bytes_eq (name_of x) argument ≡ same → (if same then Some x else verb_in xs argument) ≡ Some v
        → (verb_in xs argument ≡ Some v → argument ≡ name_of v) → argument ≡ name_of v
    go true is e rest =
        sym ((bytes_eq-Decides (name_of x) argument).0 is) ∙ ap (λ (o : Option Verb). name_of (unwrap_or o x)) e
    go false is e rest = rest e

pub named : (argument : Text) (v : Verb) → verb_of argument ≡ Some v → argument ≡ name_of v
named argument v e = named_in verbs argument v e

pub verb_named : (v : Verb) → verb_of (name_of v) ≡ Some v
verb_named runs = refl
verb_named soaks = refl
verb_named images = refl
verb_named inspects = refl
verb_named migrates = refl
verb_named opens = refl

-- ---- all arguments

abbrev pub Command : Type 0
Command = Verb × Items

abbrev pub parsed_by : Option Verb → List Text → Option Command
parsed_by None rest = None
parsed_by (Some v) rest = option_map (λ items. (v, items)) (taken v rest)

-- the command that the arguments name, with its texts
abbrev pub parsed : List Text → Option Command
parsed [] = None
parsed (argument ∷ rest) = parsed_by (verb_of argument) rest

pub parsed_at : (v : Verb) (arguments rest : List Text) → arguments ≡ name_of v ∷ rest
    → parsed arguments ≡ option_map (λ items. (v, items)) (taken v rest)
parsed_at v arguments rest are = ap parsed are ∙ ap (λ o. parsed_by o rest) (verb_named v)

abbrev pub GivesCommand : Kinds → Option (Text × List Row) → Option Command → Type 0
GivesCommand fault found None = fault ≢ []
GivesCommand fault found (Some command) = (fault ≡ []) × (found ≡ Some (name_of command.0, rows_at command.1))

abbrev top : Shape
top = level (codes "clrheap") false []

abbrev names_in : List Verb → Names
names_in vs = map (λ v. (name_of v, [])) vs

abbrev names : Names
names = names_in verbs

abbrev app : App
app = record {
  top = level (codes "clrheap") false [];
  subs =
      leaf (codes "run") run_rules ∷ leaf (codes "soak") soak_rules ∷ leaf (codes "image") run_rules
      ∷ leaf (codes "inspect") [] ∷ leaf (codes "migrate") [] ∷ leaf (codes "open") open_rules ∷ [];
}

abbrev begun : Walk
begun = walk_from false idle 1 nothing_held

-- where a command was met, the walk stands, and all arguments behind go to it
stopped_walk : (w : Walk) (name : Text) (arguments rest : List Text)
    → fold (walked [] names)
    (record w { stopped = Some (name, arguments) }) rest ≡ record w { stopped = Some (name, arguments ++ rest) }
unfolding walked
stopped_walk w name arguments [] = ap (λ ws. record w { stopped = Some (name, ws) }) (sym (append-nil arguments))
stopped_walk w name arguments (x ∷ xs) =
    stopped_walk w name (arguments ++ x ∷ []) xs
    ∙ ap (λ ws. record w { stopped = Some (name, ws) }) (append_assoc arguments (x ∷ []) xs)

no_fault_behind : (w : Walk) (name : Text) (arguments rest : List Text)
    → walk_fault top names (record w { stopped = Some (name, arguments) }) rest ≡ []
unfolding walk_fault walked
no_fault_behind w name arguments [] = refl
no_fault_behind w name arguments (x ∷ xs) = no_fault_behind w name (arguments ++ x ∷ []) xs

nothing_more : (kinds : Kinds) → or_else kinds [] ≡ kinds
nothing_more [] = refl
nothing_more (k ∷ kinds) = refl

-- the fault of all arguments, by that of the first, the walk behind it, and where it ends
abbrev whole_fault : Kinds → Kinds → Walk → Kinds
whole_fault turn rest end =
    or_else (or_else turn rest) (or_else (entered_fault app end.stopped) (or_else (settle_fault [] false end.held)
    (or_else (defaults_fault (settled [] end.held).rows [])
    (check_fault top (finished [] end.held) (is_some (entered app end.stopped))))))

fault_is : (argument : Text) (rest : List Text)
    → fault_of program (argument ∷ rest)
    ≡ whole_fault (turn_fault top names begun argument) (walk_fault top names (walked [] names begun argument) rest)
    (fold (walked [] names) (walked [] names begun argument) rest)
unfolding walk_fault
fault_is argument rest = refl

-- an argument that names a command
module _ (name argument : Text) (rest : List Text) (rules : List Rule)
    (enters : (arguments : List Text) → entered app (Some (name, arguments))
    ≡ Some (name, rows_after rules [] arguments))
    (faults : (arguments : List Text)
    → entered_fault app (Some (name, arguments)) ≡ level_fault (leaf name rules) [] nothing_held arguments false [])
    (turned : turn_fault top names begun argument ≡ [])
    (leads : walked [] names begun argument ≡ record begun { stopped = Some (name, []) }) where
  ends_at : fold (walked [] names) (walked [] names begun argument) rest ≡ record begun { stopped = Some (name, rest) }
  ends_at = ap (λ v. fold (walked [] names) v rest) leads ∙ stopped_walk begun name [] rest

  command_fault : fault_of program (argument ∷ rest) ≡ level_fault (leaf name rules) [] nothing_held rest false []
  unfolding defaults_fault
  command_fault = fault_is argument rest
      ∙ (ap (λ t. whole_fault t (walk_fault top names (walked [] names begun argument) rest)
      (fold (walked [] names) (walked [] names begun argument) rest)) turned
      ∙ (ap (λ v. whole_fault [] (walk_fault top names v rest)
      (fold (walked [] names) (walked [] names begun argument) rest)) leads
      ∙ (ap (λ k. whole_fault [] k (fold (walked [] names) (walked [] names begun argument) rest))
      (no_fault_behind begun name [] rest)
      ∙ (ap (whole_fault [] []) ends_at
      ∙ (ap (λ o. or_else (entered_fault app (Some (name, rest))) (check_fault top [] (is_some o))) (enters rest)
      ∙ (nothing_more (entered_fault app (Some (name, rest))) ∙ faults rest))))))

  command_found : subcommand_of program (argument ∷ rest) ≡ Some (name, rows_after rules [] rest)
  command_found = ap (λ (v : Walk). entered app v.stopped) ends_at ∙ enters rest

  command_gives : (v : Verb) → name ≡ name_of v → (o : Option Items)
      → Gives (level_fault (leaf name rules) [] nothing_held rest false []) (rows_after rules [] rest) o
      → GivesCommand (fault_of program (argument ∷ rest)) (subcommand_of program (argument ∷ rest))
      (option_map (λ items. (v, items)) o)
  command_gives v is None gives = λ e. gives (sym command_fault ∙ e)
  command_gives v is (Some items) gives = (
    command_fault ∙ gives.0,
    command_found
        ∙ (ap (λ r. Some (name, r)) gives.1 ∙ ap (λ (n : Text). Some (n, rows_at items)) is),
  )

-- an argument that names no command
no_command : (argument : Text) (rest : List Text) → subcommand_met names idle argument ≡ None
    → fault_of program (argument ∷ rest) ≢ []
unfolding walk_fault defaults_fault
no_command argument rest unmet = go (kind_of argument) refl rest
  where
    turned_as : (k : Kind) → kind_of argument ≡ k
        → turn_fault top names begun argument ≡ fault_by (codes "clrheap") false [] idle 1 nothing_held argument k
    turned_as k is =
        turn_is (codes "clrheap") false [] names (λ x. refl) idle 1 [] None argument unmet
        ∙ ap (fault_by (codes "clrheap") false [] idle 1 nothing_held argument) is

    off_as : (k : Kind) (rest : List Text) → kind_of argument ≡ k
        → fault_by (codes "clrheap") false [] idle 1 nothing_held argument k ≢ []
        → fault_of program (argument ∷ rest) ≢ []
    off_as k rest is some =
        first_faults (or_else (turn_fault top names begun argument)
        (walk_fault top names (walked [] names begun argument) rest)) _
        (first_faults (turn_fault top names begun argument) _ (λ e. some (sym (turned_as k is) ∙ e)))

    behind_dashes : (rest : List Text) → kind_of argument ≡ dashes → fault_of program (argument ∷ rest) ≢ []
    behind_dashes rest is e =
        go rest (sym (fault_is argument rest
        ∙ (ap (λ t. whole_fault t (walk_fault top names (walked [] names begun argument) rest)
        (fold (walked [] names) (walked [] names begun argument) rest)) (turned_as dashes is)
        ∙ ap (λ v. whole_fault [] (walk_fault top names v rest) (fold (walked [] names) v rest)) leads)) ∙ e)
      where
        no_flag : dashes ≡ flag → ⊥
        no_flag e = absurd cc

        leads : walked [] names begun argument ≡ walk_from true idle 1 nothing_held
        leads = walked_is (codes "clrheap") false [] names (λ x. refl) idle 1 [] None argument unmet
            (λ f. no_flag (sym is ∙ f)) ∙ ap (walk_by [] idle 1 nothing_held argument) is

        go : (rest : List Text)
            → whole_fault [] (walk_fault top names (walk_from true idle 1 nothing_held) rest)
            (fold (walked [] names) (walk_from true idle 1 nothing_held) rest) ≢ []
        go [] = some_kind kind.MissingSubcommand []
        go (x ∷ xs) = some_kind kind.UnknownArgument _

    go : (k : Kind) → kind_of argument ≡ k → (rest : List Text) → fault_of program (argument ∷ rest) ≢ []
    go dashes is rest = behind_dashes rest is
    go (whole name) is rest = off_as (whole name) rest is (some_kind kind.UnknownArgument [])
    go (joint name text) is rest = off_as (joint name text) rest is (some_kind kind.UnknownArgument [])
    go flag is rest = off_as flag rest is (some_kind kind.UnknownArgument [])
    go other is rest = off_as other rest is (some_kind kind.UnknownArgument _)

-- no command answers to an argument that names none
unmet : (vs : List Verb) (argument : Text) → verb_in vs argument ≡ None
    → find (answers_to argument) (names_in vs) ≡ None
unmet [] argument e = refl
unmet (v ∷ vs) argument e = go (bytes_eq (name_of v) argument) e (unmet vs argument)
  where
    go : (same : Bool) → (if same then Some v else verb_in vs argument) ≡ None
        → (verb_in vs argument ≡ None → find (answers_to argument) (names_in vs) ≡ None)
        → (if same || false then Some (name_of v, []) else find (answers_to argument) (names_in vs)) ≡ None
    go true e rest = absurd cc
    go false e rest = rest e

-- the arguments of each command
verb_gives : (v : Verb) (rest : List Text)
    → GivesCommand (fault_of program (name_of v ∷ rest)) (subcommand_of program (name_of v ∷ rest))
    (parsed_by (Some v) rest)
unfolding walked
verb_gives runs rest =
    command_gives (codes "run") (codes "run") rest run_rules (λ arguments. refl) (λ arguments. refl) refl refl runs refl
    (line_taken option_names [] rest) (options_give (codes "run") rest)
verb_gives soaks rest =
    command_gives (codes "soak") (codes "soak") rest soak_rules (λ arguments. refl) (λ arguments. refl)
    refl refl soaks refl
    (line_taken option_names soak_places rest) (soak_gives rest)
verb_gives images rest =
    command_gives (codes "image") (codes "image") rest run_rules (λ arguments. refl) (λ arguments. refl)
    refl refl images refl
    (line_taken option_names [] rest) (options_give (codes "image") rest)
verb_gives inspects rest =
    command_gives (codes "inspect") (codes "inspect") rest [] (λ arguments. refl) (λ arguments. refl)
    refl refl inspects refl
    (line_taken [] [] rest) (alone_gives (codes "inspect") rest)
verb_gives migrates rest =
    command_gives (codes "migrate") (codes "migrate") rest [] (λ arguments. refl) (λ arguments. refl)
    refl refl migrates refl
    (line_taken [] [] rest) (alone_gives (codes "migrate") rest)
verb_gives opens rest =
    command_gives (codes "open") (codes "open") rest open_rules (λ arguments. refl) (λ arguments. refl)
    refl refl opens refl
    (line_taken budget_names open_places rest) (open_gives rest)

pub parser_gives : (arguments : List Text)
    → GivesCommand (fault_of program arguments) (subcommand_of program arguments) (parsed arguments)
unfolding walk_fault defaults_fault
parser_gives [] = some_kind kind.MissingSubcommand []
parser_gives (argument ∷ rest) = go (verb_of argument) refl
  where
    go : (o : Option Verb) → verb_of argument ≡ o
        → GivesCommand (fault_of program (argument ∷ rest)) (subcommand_of program (argument ∷ rest)) (parsed_by o rest)
    go None is = no_command argument rest (ap (option_map (λ (s : Text × List Text). s.0)) (unmet verbs argument is))
    go (Some v) is =
        subst (λ (w : Text). GivesCommand (fault_of program (w ∷ rest)) (subcommand_of program (w ∷ rest))
        (parsed_by (Some v) rest)) (sym (named argument v is)) (verb_gives v rest)
