-- Rules of options and places, once a command is built, and what a use of one does to the rows.
use Rattle.std.specs.Prelude.{◌≡◌, ◌≢◌, ◌++◌, ◌||◌, ◌+◌, ℕ, Bool, true, false, List, [], ◌∷◌, Option, Some, None, map}
use Rattle.std.specs.Prelude.{min, not, ◌&&◌, if◌then◌else◌}
use Rattle.std.specs.Option.{option_map_or}
use Rattle.std.proofs.Common.{refl, sym, ap, ◌∙◌, true≢false}
use Rattle.std.proofs.lemmas.List.{append-nil, map-append}
use Rattle.std.specs.Str.{bytes_eq}
use Rattle.clap.specs.Lexer.{usize_max}
use Rattle.clap.specs.Walk.{Row, Rule, Text, arg_by_id, arg_by_index, arg_by_long, arg_by_short, at_row, has_row}
use Rattle.clap.specs.Walk.{more_values, settled_rows, used_by_id, with_values, without}
use Rattle.clap.specs.Simple.{new_rule}
use Rattle.clap.specs.Kinds.{Kinds, or_else}
use Rattle.clap.specs.Faults.{settle_fault, use_fault}
use Rattle.clap.specs.declared.error.kind.ErrorKind.{ErrorKind}
use Rattle.clap.specs.declared.error.kind.ErrorKind.TheVariants as kind
use Rattle.clap.specs.declared.builder.action.ArgAction.TheVariants.{Set}
use Rattle.clap.specs.declared.builder.value_parser.Reading.TheVariants as reading
use Rattle.clap.specs.declared.builder.value_parser.ValueParser.TheVariants as vp
use Rattle.clap.specs.declared.parser.matches.ValueSource.TheVariants.{CommandLine}
use Rattle.clr_args.specs.Grammar.{is_among}
use Rattle.clr_args.proofs.Pass.{Items}
use Rattle.clr_args.proofs.Turns.{held}

-- a rule that takes one text
abbrev pub built_rule : Option Text → Option ℕ → Bool → Text → Rule
built_rule long index required name = record (new_rule name) {
  long = long;
  index = index;
  required = required;
  action = Some Set;
  range = Some (record { start_inclusive = 1; end_inclusive = 1 });
  parser = Some vp.String;
}

abbrev pub built_option : Text → Rule
built_option name = built_rule (Some name) None false name

abbrev pub built_place : ℕ → Text → Rule
built_place position name = built_rule None (Some position) true name

-- the rules of a command with these options
pub record AreRules (names : List Text) (c : List Rule) : Type 0 where
  pub no_short : (x : ℕ) → arg_by_short c x ≡ None
  pub by_long : (name : Text) → is_among name names ≡ true → arg_by_long c name ≡ Some (built_option name)
  pub by_id : (name : Text) → is_among name names ≡ true → arg_by_id c name ≡ Some (built_option name)
  pub unknown : (name : Text) → is_among name names ≡ false → arg_by_long c name ≡ None

-- from this position on they have these places
abbrev pub HavePlaces : List Rule → ℕ → List Text → Type 0
HavePlaces c position [] = arg_by_index c position ≡ None
HavePlaces c position (place ∷ places) = (arg_by_index c position ≡ Some (built_place position place))
    × (arg_by_id c place ≡ Some (built_place position place)) × HavePlaces c (min (position + 1) usize_max) places

-- ---- rows

abbrev pub row_at : Text × Text → Row
row_at item = record {
  id = item.0;
  values = item.1 ∷ [];
  count = None;
  source = Some CommandLine;
  reading = reading.AsWritten;
}

abbrev pub rows_at : Items → List Row
rows_at = map row_at

at_row_new : (name : Text) (change : Row → List Row) (missing : List Row) (items : Items)
    → has_row name (rows_at items) ≡ false
    → at_row name change missing (rows_at items) ≡ rows_at items ++ missing
at_row_new name change missing [] new = refl
at_row_new name change missing (x ∷ xs) new = go (bytes_eq x.0 name) new (at_row_new name change missing xs)
  where
    go : (same : Bool) → (same || has_row name (rows_at xs)) ≡ false
        → (has_row name (rows_at xs) ≡ false → at_row name change missing (rows_at xs) ≡ rows_at xs ++ missing)
        → (if same then change (row_at x) ++ rows_at xs else row_at x ∷ at_row name change missing (rows_at xs)) ≡
        row_at x ∷ (rows_at xs ++ missing)
    go true e rest = absurd (true≢false e)
    go false e rest = ap (λ rows. row_at x ∷ rows) (rest e)

-- a use of a name that has no row yet
pub rows_more : (name text : Text) (items : Items) → has_row name (rows_at items) ≡ false
    → with_values name reading.AsWritten CommandLine (text ∷ []) (without name (rows_at items)) ≡ rows_at
    (items ++ (name, text) ∷ [])
rows_more name text items new =
    ap (with_values name reading.AsWritten CommandLine (text ∷ []))
    (at_row_new name (λ _. []) [] items new ∙ append-nil (rows_at items))
    ∙ (at_row_new name (more_values CommandLine (text ∷ [])) (row_at (name, text) ∷ []) items new
    ∙ sym (map-append row_at items ((name, text) ∷ [])))

-- which names have rows then
pub has_row_more : (id name text : Text) (items : Items)
    → has_row id (rows_at (items ++ (name, text) ∷ [])) ≡ (bytes_eq name id || has_row id (rows_at items))
has_row_more id name text [] = refl
has_row_more id name text (x ∷ xs) =
    ap (λ b. bytes_eq x.0 id || b) (has_row_more id name text xs) ∙ go (bytes_eq x.0 id) (bytes_eq name id)
  where
    go : (a b : Bool) → (a || (b || has_row id (rows_at xs))) ≡ (b || (a || has_row id (rows_at xs)))
    go true true = refl
    go true false = refl
    go false b = refl

-- ---- faults

pub some_kind : (k : ErrorKind) (kinds : Kinds) → k ∷ kinds ≢ []
some_kind k kinds e = absurd cc

pub first_faults : (first next : Kinds) → first ≢ [] → or_else first next ≢ []
first_faults [] next some = absurd (some refl)
first_faults (k ∷ kinds) next some = some_kind k kinds

-- a use of a name faults where there is a row of it
module _ (long : Option Text) (index : Option ℕ) (required : Bool) (name text : Text) (rows : List Row) where
  abbrev use_by : Bool → Kinds
  use_by is_there = or_else (if is_there && not false then kind.ArgumentConflict ∷ [] else []) []

  pub first_use : has_row name rows ≡ false
      → use_fault false (built_rule long index required name) (text ∷ []) rows ≡ []
  first_use new = ap use_by new

  pub second_use : has_row name rows ≡ true
      → use_fault false (built_rule long index required name) (text ∷ []) rows ≢ []
  second_use there e = some_kind kind.ArgumentConflict [] (sym (ap use_by there) ∙ e)

-- nothing faults yet, and the rows are these once what is pending is used
pub record IsClean (c : List Rule) (rows : List Row) (pending : Option (Text × List Text))
    (items : Items) : Type 0 where
  pub settles : settle_fault c false (held rows pending) ≡ []
  pub rows_are : settled_rows c pending rows ≡ rows_at items

-- the names that have rows are those that were seen
abbrev pub AreSeen : List Text → Items → Type 0
AreSeen seen items = (id : Text) → has_row id (rows_at items) ≡ is_among id seen

pub seen_more : (seen : List Text) (items : Items) (name text : Text) → AreSeen seen items
    → AreSeen (name ∷ seen) (items ++ (name, text) ∷ [])
seen_more seen items name text are id = has_row_more id name text items ∙ ap (λ b. bytes_eq name id || b) (are id)

-- one text is pending, of an option or a place
module _ (long : Option Text) (index : Option ℕ) (required : Bool) (c : List Rule) (name text : Text) (items : Items)
    (found : arg_by_id c name ≡ Some (built_rule long index required name)) where
  abbrev fault_of_use : Option Rule → Kinds
  fault_of_use rule = option_map_or (λ a. use_fault false a (text ∷ []) (rows_at items)) rule []

  pub clean_pending : has_row name (rows_at items) ≡ false
      → IsClean c (rows_at items) (Some (name, text ∷ [])) (items ++ (name, text) ∷ [])
  clean_pending new = record {
    settles = ap fault_of_use found ∙ first_use long index required name text (rows_at items) new;
    rows_are = ap (λ rule. used_by_id rule (text ∷ []) (rows_at items)) found ∙ rows_more name text items new;
  }

  pub unclean_pending : has_row name (rows_at items) ≡ true
      → settle_fault c false (held (rows_at items) (Some (name, text ∷ []))) ≢ []
  unclean_pending there e =
      second_use long index required name text (rows_at items) there (sym (ap fault_of_use found) ∙ e)
