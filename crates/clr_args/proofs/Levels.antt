-- What clap finds of the arguments behind a command's name, as the pass says.
use Rattle.std.specs.Prelude.{◌≡◌, ◌≢◌, ◌++◌, ◌&&◌, ◌||◌, Bool, true, false, not, List, [], ◌∷◌, Option, Some, None}
use Rattle.std.specs.Prelude.{codes, fold, find, if◌then◌else◌, map, option_and_then}
use Rattle.std.specs.List.{list_all, list_any}
use Rattle.std.proofs.Common.{refl, sym, ap, ap₂, ◌∙◌, true≢false}
use Rattle.std.proofs.lemmas.Slice.Eq.{bytes_eq-Decides}
use Rattle.std.specs.Str.{bytes_eq}
use Rattle.std.specs.Option.{option_map_or}
use Rattle.clap.specs.Facts.{explicit_source}
use Rattle.clap.specs.Walk.{Row, Rule, Text, Walk, arg_by_id}
use Rattle.clap.specs.Walk.{arg_by_long, finished, has_row, idle, nothing_held, settled, with_default}
use Rattle.clap.specs.Walk.{default_rows, is_empty, reading_by, rows_after}
use Rattle.clap.specs.Kinds.{Kinds, or_else}
use Rattle.clap.specs.Takes.{is_given}
use Rattle.clap.specs.Faults.{check_fault, defaults_fault}
use Rattle.clap.specs.Faults.{level_fault, settle_fault, walk_fault, given_default_fault}
use Rattle.clap.specs.declared.error.kind.ErrorKind.TheVariants as kind
use Rattle.clr_args.specs.Grammar.{budget_names, is_among, open_places, option_names, soak_places}
use Rattle.clr_args.proofs.Pass.{Items, pass, ready}
use Rattle.clr_args.proofs.Turns.{held, leaf, walk_from}
use Rattle.clr_args.proofs.Rules.{AreRules, HavePlaces, built_option, built_place, first_faults, row_at, rows_at}
use Rattle.clr_args.proofs.Rules.{some_kind}
use Rattle.clr_args.proofs.Walked.{ComesTo, last, walk_comes}

-- ---- the rules of the commands

abbrev pub run_rules : List Rule
run_rules = map built_option option_names

abbrev pub soak_rules : List Rule
soak_rules = map built_option option_names ++ built_place 1 (codes "SEED") ∷ built_place 2 (codes "N") ∷ []

abbrev pub open_rules : List Rule
open_rules = map built_option budget_names ++ built_place 1 (codes "IMAGE") ∷ []

-- options before rules of which none is found by a name
module _ (after : List Rule) (by_long : (name : Text) → arg_by_long after name ≡ None) where
  long_found : (names : List Text) (name : Text) → is_among name names ≡ true
      → arg_by_long (map built_option names ++ after) name ≡ Some (built_option name)
  long_found [] name e = absurd (true≢false (sym e))
  long_found (n ∷ ns) name e = go (bytes_eq n name) refl e (long_found ns name)
    where
      go : (same : Bool) → bytes_eq n name ≡ same → (same || is_among name ns) ≡ true
          → (is_among name ns ≡ true → arg_by_long (map built_option ns ++ after) name ≡ Some (built_option name))
          → (if same || false then Some (built_option n) else arg_by_long (map built_option ns ++ after) name) ≡ Some
          (built_option name)
      go true is e rest = ap (λ x. Some (built_option x)) ((bytes_eq-Decides n name).0 is)
      go false is e rest = rest e

  long_missing : (names : List Text) (name : Text) → is_among name names ≡ false
      → arg_by_long (map built_option names ++ after) name ≡ None
  long_missing [] name e = by_long name
  long_missing (n ∷ ns) name e = go (bytes_eq n name) e (long_missing ns name)
    where
      go : (same : Bool) → (same || is_among name ns) ≡ false
          → (is_among name ns ≡ false → arg_by_long (map built_option ns ++ after) name ≡ None)
          → (if same || false then Some (built_option n) else arg_by_long (map built_option ns ++ after) name) ≡ None
      go true e rest = absurd (true≢false e)
      go false e rest = rest e

id_found : (after : List Rule) (names : List Text) (name : Text) → is_among name names ≡ true
    → arg_by_id (map built_option names ++ after) name ≡ Some (built_option name)
id_found after [] name e = absurd (true≢false (sym e))
id_found after (n ∷ ns) name e = go (bytes_eq n name) refl e (id_found after ns name)
  where
    go : (same : Bool) → bytes_eq n name ≡ same → (same || is_among name ns) ≡ true
        → (is_among name ns ≡ true → arg_by_id (map built_option ns ++ after) name ≡ Some (built_option name))
        → (if same then Some (built_option n) else arg_by_id (map built_option ns ++ after) name) ≡ Some
        (built_option name)
    go true is e rest = ap (λ x. Some (built_option x)) ((bytes_eq-Decides n name).0 is)
    go false is e rest = rest e

run_are_rules : AreRules option_names run_rules
run_are_rules = record {
  no_short = λ x. refl;
  by_long = long_found [] (λ name. refl) option_names;
  by_id = id_found [] option_names;
  unknown = long_missing [] (λ name. refl) option_names;
}

soak_are_rules : AreRules option_names soak_rules
soak_are_rules = record {
  no_short = λ x. refl;
  by_long = long_found (built_place 1 (codes "SEED") ∷ built_place 2 (codes "N") ∷ []) (λ name. refl) option_names;
  by_id = id_found (built_place 1 (codes "SEED") ∷ built_place 2 (codes "N") ∷ []) option_names;
  unknown = long_missing (built_place 1 (codes "SEED") ∷ built_place 2 (codes "N") ∷ []) (λ name. refl) option_names;
}

open_are_rules : AreRules budget_names open_rules
open_are_rules = record {
  no_short = λ x. refl;
  by_long = long_found (built_place 1 (codes "IMAGE") ∷ []) (λ name. refl) budget_names;
  by_id = id_found (built_place 1 (codes "IMAGE") ∷ []) budget_names;
  unknown = long_missing (built_place 1 (codes "IMAGE") ∷ []) (λ name. refl) budget_names;
}

no_rules : AreRules [] []
no_rules = record {
  no_short = λ x. refl;
  by_long = λ name e. absurd (true≢false (sym e));
  by_id = λ name e. absurd (true≢false (sym e));
  unknown = λ name e. refl;
}

run_places : HavePlaces run_rules 1 []
run_places = refl

soak_have_places : HavePlaces soak_rules 1 soak_places
soak_have_places = (refl, refl, (refl, refl, refl))

open_have_places : HavePlaces open_rules 1 open_places
open_have_places = (refl, refl, refl)

-- ---- one command

abbrev pub is_in : Text → Items → Bool
is_in name items = list_any (λ (x : Text × Text). bytes_eq x.0 name) items

abbrev pub complete : List Text → Items → Option Items
complete places items = if list_all (λ place. is_in place items) places then Some items else None

-- the texts of a command's arguments, where they are taken and each place has one
abbrev pub line_taken : List Text → List Text → List Text → Option Items
line_taken names places arguments = option_and_then (complete places) (pass names ready places [] arguments)

-- what clap says of the arguments, with the rows at the end
abbrev pub Gives : Kinds → List Row → Option Items → Type 0
Gives fault rows None = fault ≢ []
Gives fault rows (Some items) = (fault ≡ []) × (rows ≡ rows_at items)

-- what is given by the arguments
given_is_in : (items : Items) (name : Text) → is_given name (rows_at items) ≡ is_in name items
given_is_in [] name = refl
given_is_in (x ∷ xs) name = go (bytes_eq x.0 name) (given_is_in xs name)
  where
    go : (same : Bool) → is_given name (rows_at xs) ≡ is_in name xs
        → option_map_or (λ (r : Row). explicit_source r.source)
        (if same then Some (row_at x) else find (λ (r : Row). bytes_eq r.id name) (rows_at xs)) false
        ≡ (same || is_in name xs)
    go true rest = refl
    go false rest = rest

-- rules without defaults change no rows and have no fault
abbrev NoDefaults : List Rule → Type 0
NoDefaults [] = Unit {0}
NoDefaults (a ∷ rest) = (a.defaults ≡ []) × NoDefaults rest

rows_stay : (c : List Rule) (rows : List Row) → NoDefaults c → fold with_default rows c ≡ rows
rows_stay [] rows none = refl
rows_stay (a ∷ rest) rows none = ap (λ r. fold with_default r rest)
    (ap (λ d. if has_row a.id rows then rows else default_rows a.id (reading_by a) d rows) none.0
    ∙ go (has_row a.id rows))
    ∙ rows_stay rest rows none.1
  where
    go : (is_there : Bool) → (if is_there then rows else rows) ≡ rows
    go true = refl
    go false = refl

no_default_fault : (c : List Rule) (rows : List Row) → NoDefaults c → defaults_fault rows c ≡ []
unfolding defaults_fault
no_default_fault [] rows none = refl
no_default_fault (a ∷ rest) rows none =
    ap (λ k. or_else k (defaults_fault (with_default rows a) rest))
    (ap (λ d. if has_row a.id rows || is_empty d then [] else given_default_fault a d) none.0 ∙ go (has_row a.id rows))
    ∙ no_default_fault rest (with_default rows a) none.1
  where
    go : (is_there : Bool) → (if is_there || true then [] else given_default_fault a []) ≡ []
    go true = refl
    go false = refl

later_faults : (first next rest : Kinds) → or_else first next ≢ [] → or_else first (or_else next rest) ≢ []
later_faults [] next rest some = first_faults next rest some
later_faults (k ∷ kinds) next rest some = some_kind k kinds

module _ (command : Text) (c : List Rule) (places : List Text) (none : NoDefaults c)
    (wants : (items : Items)
    → list_any (λ (a : Rule). a.required && not (is_given a.id (rows_at items))) c ≡ not
    (list_all (λ place. is_in place items) places)) where
  level_gives : (arguments : List Text) (o : Option Items)
      → ComesTo command c (walk_from false idle 1 (held [] None)) arguments [] o
      → Gives (level_fault (leaf command c) [] nothing_held arguments false []) (rows_after c [] arguments)
      (option_and_then (complete places) o)
  level_gives arguments None comes =
      later_faults (walk_fault (leaf command c) [] (walk_from false idle 1 (held [] None)) arguments)
      (settle_fault c false (last c (walk_from false idle 1 (held [] None)) arguments)) _ comes
  level_gives arguments (Some items) taken = go (list_all (λ place. is_in place items) places) refl
    where
      w : Walk
      w = walk_from false idle 1 (held [] None)

      finished_are : rows_after c [] arguments ≡ rows_at items
      finished_are =
          rows_stay c (settled c (last c (walk_from false idle 1 (held [] None)) arguments)).rows none ∙ taken.rows_are

      checked : level_fault (leaf command c) [] nothing_held arguments false []
          ≡ (if not (list_all (λ place. is_in place items) places) then kind.MissingRequiredArgument ∷ [] else [])
      checked =
          let end = last c (walk_from false idle 1 (held [] None)) arguments in
          ap (λ k. or_else k
          (or_else (settle_fault c false end)
          (or_else (defaults_fault (settled c end).rows c) (check_fault (leaf command c) (finished c end) false))))
          taken.walks
          ∙ (ap (λ k. or_else k
          (or_else (defaults_fault (settled c end).rows c) (check_fault (leaf command c) (finished c end) false)))
          taken.settles
          ∙ (ap (λ k. or_else k (check_fault (leaf command c) (finished c end) false))
          (no_default_fault c (settled c end).rows none)
          ∙ (ap (λ r. check_fault (leaf command c) r false) finished_are
          ∙ ap (λ b. if b then kind.MissingRequiredArgument ∷ [] else []) (wants items))))

      go : (all : Bool) → list_all (λ place. is_in place items) places ≡ all
          → Gives (level_fault (leaf command c) [] nothing_held arguments false []) (rows_after c [] arguments)
          (if all then Some items else None)
      go true all = (checked ∙ ap (λ b. if not b then kind.MissingRequiredArgument ∷ [] else []) all, finished_are)
      go false all =
          λ e. some_kind kind.MissingRequiredArgument []
          (sym (checked ∙ ap (λ b. if not b then kind.MissingRequiredArgument ∷ [] else []) all) ∙ e)

-- a command with options alone
pub options_give : (command : Text) (arguments : List Text)
    → Gives (level_fault (leaf command run_rules) [] nothing_held arguments false [])
    (rows_after run_rules [] arguments)
    (line_taken option_names [] arguments)
options_give command arguments =
    level_gives command run_rules [] (refl, (refl, (refl, (refl, (refl, (refl, (refl, (refl, tt))))))))
    (λ items. refl) arguments
    (pass option_names ready [] [] arguments)
    (walk_comes command run_rules option_names run_are_rules arguments [] run_places)

-- a command with nothing
pub alone_gives : (command : Text) (arguments : List Text)
    → Gives (level_fault (leaf command []) [] nothing_held arguments false []) (rows_after [] [] arguments)
    (line_taken [] [] arguments)
alone_gives command arguments =
    level_gives command [] [] tt (λ items. refl) arguments (pass [] ready [] [] arguments)
    (walk_comes command [] [] no_rules arguments [] refl)

soak_wants : (items : Items)
    → list_any (λ (a : Rule). a.required && not (is_given a.id (rows_at items))) soak_rules ≡ not
    (list_all (λ place. is_in place items) soak_places)
soak_wants items =
    ap₂ (λ a b. not a || (not b || false)) (given_is_in items (codes "SEED")) (given_is_in items (codes "N"))
    ∙ go (is_in (codes "SEED") items) (is_in (codes "N") items)
  where
    go : (a b : Bool) → (not a || (not b || false)) ≡ not (a && (b && true))
    go true true = refl
    go true false = refl
    go false b = refl

pub soak_gives : (arguments : List Text)
    → Gives (level_fault (leaf (codes "soak") soak_rules) [] nothing_held arguments false [])
    (rows_after soak_rules [] arguments) (line_taken option_names soak_places arguments)
soak_gives arguments =
    level_gives (codes "soak") soak_rules soak_places
    (refl, (refl, (refl, (refl, (refl, (refl, (refl, (refl, (refl, (refl, tt)))))))))) soak_wants arguments
    (pass option_names ready soak_places [] arguments)
    (walk_comes (codes "soak") soak_rules option_names soak_are_rules arguments soak_places soak_have_places)

open_wants : (items : Items)
    → list_any (λ (a : Rule). a.required && not (is_given a.id (rows_at items))) open_rules ≡ not
    (list_all (λ place. is_in place items) open_places)
open_wants items =
    ap (λ a. not a || false) (given_is_in items (codes "IMAGE")) ∙ go (is_in (codes "IMAGE") items)
  where
    go : (a : Bool) → (not a || false) ≡ not (a && true)
    go true = refl
    go false = refl

pub open_gives : (arguments : List Text)
    → Gives (level_fault (leaf (codes "open") open_rules) [] nothing_held arguments false [])
    (rows_after open_rules [] arguments) (line_taken budget_names open_places arguments)
open_gives arguments =
    level_gives (codes "open") open_rules open_places
    (refl, (refl, (refl, (refl, (refl, (refl, tt)))))) open_wants arguments
    (pass budget_names ready open_places [] arguments)
    (walk_comes (codes "open") open_rules budget_names open_are_rules arguments open_places open_have_places)
