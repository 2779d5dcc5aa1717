-- What the parser finds of the arguments is what they say.
use Rattle.std.specs.Prelude.{◌≡◌, ◌&&◌, ◌||◌, ℕ, Bool, true, false, List, [], ◌∷◌, Option, Some, None, codes, decimal}
use Rattle.std.specs.Prelude.{find, if◌then◌else◌, map, option_and_then, slice_get, unwrap_or}
use Rattle.std.specs.List.{list_all}
use Rattle.std.specs.Str.{bytes_eq}
use Rattle.std.proofs.Common.{refl, sym, ap, ap₂, ◌∙◌}
use Rattle.std.proofs.lemmas.Slice.Eq.{bytes_eq-Decides}
use Rattle.clap.specs.Walk.{Row, first_of}
use Rattle.clr_model.specs.Machine.{Options}
use Rattle.clr_model.specs.Run.{defaults}
use Rattle.clr_args.specs.Grammar.{AreSmall, IsLine, Line, Part, Said, Text, is_among, number_of, option_names}
use Rattle.clr_args.specs.Grammar.{budgets_said, joined, options_said, placed, places_of, said, soak_places, spaced}
use Rattle.clr_args.specs.Grammar.{spelled}
use Rattle.clr_args.specs.Budgets.{budgets_of}
use Rattle.clr_args.specs.Reading.{AreBudgetsRead, AreRead, number_or}
use Rattle.clr_args.specs.declared.budgets.Budgets.{Budgets}
use Rattle.clr_args.proofs.Rules.{row_at, rows_at}
use Rattle.clr_args.proofs.Levels.{complete, is_in, line_taken}
use Rattle.clr_args.proofs.Numbers.{number_decimal}
use Rattle.clr_args.proofs.Spelled.{line_goes, texts_of}

-- ---- the numbers of rows

same_name : (a b : Text) → bytes_eq a b ≡ true → a ≡ b
same_name a b = (bytes_eq-Decides a b).0

-- the number read for a name is the one said for it
pub read_said : (numbers : List Said) (name : Text) (default : ℕ) → AreSmall numbers
    → number_or default (first_of name (rows_at (texts_of numbers))) ≡ Some (number_of name default numbers)
read_said [] name default small = refl
read_said (x ∷ xs) name default small = go (bytes_eq x.0 name) (read_said xs name default small.1)
  where
    go : (same : Bool) → number_or default (first_of name (rows_at (texts_of xs))) ≡ Some (number_of name default xs)
        → number_or default (option_and_then (λ (r : Row). slice_get r.values 0)
        (if same then Some (row_at (x.0, decimal x.1)) else find (λ (r : Row). bytes_eq r.id name)
        (rows_at (texts_of xs))))
        ≡ Some (if same then x.1 else number_of name default xs)
    go true rest = number_decimal x.1 small.0
    go false rest = rest

some_is : (a b : ℕ) → Some a ≡ Some b → a ≡ b
some_is a b e = ap (λ (o : Option ℕ). unwrap_or o 0) e

-- budgets that are read are those said, and the other way round
pub budgets_are_said : (numbers : List Said) (budgets : Budgets) → AreSmall numbers
    → AreBudgetsRead (rows_at (texts_of numbers)) budgets → budgets ≡ budgets_said numbers
budgets_are_said numbers budgets small read =
    let b0 = some_is _ _ (sym read.b0 ∙ read_said numbers (codes "b0") defaults.b0 small) in
    let b1 = some_is _ _ (sym read.b1 ∙ read_said numbers (codes "b1") defaults.b1 small) in
    let b2 = some_is _ _ (sym read.b2 ∙ read_said numbers (codes "b2") defaults.b2 small) in
    let bl = some_is _ _ (sym read.bl ∙ read_said numbers (codes "bl") defaults.bl small) in
    let compact = some_is _ _ (sym read.compact ∙ read_said numbers (codes "compact") defaults.compact small) in
    λ i. record {
      b0 = b0 i;
      b1 = b1 i;
      b2 = b2 i;
      bl = bl i;
      compact = compact i;
    }

pub budgets_are_read : (numbers : List Said) → AreSmall numbers
    → AreBudgetsRead (rows_at (texts_of numbers)) (budgets_said numbers)
budgets_are_read numbers small = record {
  b0 = read_said numbers (codes "b0") defaults.b0 small;
  b1 = read_said numbers (codes "b1") defaults.b1 small;
  b2 = read_said numbers (codes "b2") defaults.b2 small;
  bl = read_said numbers (codes "bl") defaults.bl small;
  compact = read_said numbers (codes "compact") defaults.compact small;
}

-- options that are read are those said, and the other way round
pub are_said : (numbers : List Said) (options : Options) → AreSmall numbers
    → AreRead (rows_at (texts_of numbers)) options → options ≡ options_said numbers
are_said numbers options small read =
    let limit = some_is _ _ (sym read.limit ∙ read_said numbers (codes "limit") defaults.limit small) in
    let segment = some_is _ _ (sym read.segment ∙ read_said numbers (codes "segment") defaults.segment small) in
    let budgets = budgets_are_said numbers (budgets_of options) small read.budgets in
    let large = some_is _ _ (sym read.large ∙ read_said numbers (codes "large") defaults.large small) in
    λ i. record {
      limit = limit i;
      segment = segment i;
      b0 = (budgets i).b0;
      b1 = (budgets i).b1;
      b2 = (budgets i).b2;
      bl = (budgets i).bl;
      compact = (budgets i).compact;
      large = large i;
    }

pub are_read : (numbers : List Said) → AreSmall numbers → AreRead (rows_at (texts_of numbers)) (options_said numbers)
are_read numbers small = record {
  limit = read_said numbers (codes "limit") defaults.limit small;
  segment = read_said numbers (codes "segment") defaults.segment small;
  budgets = budgets_are_read numbers small;
  large = read_said numbers (codes "large") defaults.large small;
}

-- ---- a line that is said is found

-- a name of a place is among the names said
pub place_is_in : (parts : List Part) (more : Option (List Said)) (name : Text)
    → is_among name (places_of (record { parts = parts; behind = more })) ≡ true
    → is_in name (texts_of (said (record { parts = parts; behind = more }))) ≡ true
place_is_in [] None name e = e
place_is_in [] (Some numbers) name e = go numbers e
  where
    go : (numbers : List Said) → is_among name (map (λ (s : Said). s.0) numbers) ≡ true
        → is_in name (texts_of numbers) ≡ true
    go [] e = e
    go (x ∷ xs) e = by (bytes_eq x.0 name) e (go xs)
      where
        by : (same : Bool) → (same || is_among name (map (λ (s : Said). s.0) xs)) ≡ true
            → (is_among name (map (λ (s : Said). s.0) xs) ≡ true → is_in name (texts_of xs) ≡ true)
            → (same || is_in name (texts_of xs)) ≡ true
        by true e rest = refl
        by false e rest = rest e
place_is_in (spaced option n ∷ parts) more name e = later (bytes_eq option name) (place_is_in parts more name e)
  where
    later : (same : Bool) → is_in name (texts_of (said (record { parts = parts; behind = more }))) ≡ true
        → (same || is_in name (texts_of (said (record { parts = parts; behind = more })))) ≡ true
    later true e = refl
    later false e = e
place_is_in (joined option n ∷ parts) more name e = later (bytes_eq option name) (place_is_in parts more name e)
  where
    later : (same : Bool) → is_in name (texts_of (said (record { parts = parts; behind = more }))) ≡ true
        → (same || is_in name (texts_of (said (record { parts = parts; behind = more })))) ≡ true
    later true e = refl
    later false e = e
place_is_in (placed place n ∷ parts) more name e = by (bytes_eq place name) e (place_is_in parts more name)
  where
    by : (same : Bool) → (same || is_among name (places_of (record { parts = parts; behind = more }))) ≡ true
        → (is_among name (places_of (record { parts = parts; behind = more })) ≡ true
        → is_in name (texts_of (said (record { parts = parts; behind = more }))) ≡ true)
        → (same || is_in name (texts_of (said (record { parts = parts; behind = more })))) ≡ true
    by true e rest = refl
    by false e rest = rest e

line_found : (places : List Text) (line : Line) → IsLine option_names places line
    → list_all (λ place. is_in place (texts_of (said line))) places ≡ true
    → line_taken option_names places (spelled line) ≡ Some (texts_of (said line))
line_found places line is all =
    ap (option_and_then (complete places))
    (line_goes option_names refl line places [] is.options is.places is.once is.small)
    ∙ ap (λ b. if b then Some (texts_of (said line)) else None) all

-- options alone
pub options_found : (line : Line) → IsLine option_names [] line
    → line_taken option_names [] (spelled line) ≡ Some (texts_of (said line))
options_found line is = line_found [] line is refl

-- options and the places of a generated script
pub soak_found : (line : Line) → IsLine option_names soak_places line
    → line_taken option_names soak_places (spelled line) ≡ Some (texts_of (said line))
soak_found line is =
    let seed = place_is_in line.parts line.behind (codes "SEED") (ap (is_among (codes "SEED")) is.places) in
    let count = place_is_in line.parts line.behind (codes "N") (ap (is_among (codes "N")) is.places) in
    line_found soak_places line is (ap₂ (λ a b. a && (b && true)) seed count)
