-- The texts that the pass finds have names that may stand there, each once.
use Rattle.std.specs.Prelude.{◌≡◌, ◌||◌, ℕ, Bool, true, false, List, [], ◌∷◌, Option, Some, find}
use Rattle.std.specs.Prelude.{if◌then◌else◌, option_and_then, slice_get, unwrap_or}
use Rattle.std.specs.List.{list_all}
use Rattle.std.specs.Str.{bytes_eq}
use Rattle.std.proofs.Common.{refl, sym, ap, ◌∙◌, subst, true≢false}
use Rattle.std.proofs.lemmas.Bool.{and_parts, or_parts}
use Rattle.std.proofs.lemmas.Slice.Eq.{bytes_eq-Decides}
use Rattle.clap.specs.Walk.{Row, first_of}
use Rattle.clr_args.specs.Grammar.{Text, is_among}
use Rattle.clr_args.specs.Reading.{number_in, number_or}
use Rattle.clr_args.proofs.Pass.{Items, Kind, Stage, at_place, behind, dashes, flag, joint, keep_by, kind_of, other}
use Rattle.clr_args.proofs.Pass.{pass, ready, turn, waits, whole}
use Rattle.clr_args.proofs.Numbers.{number_from}
use Rattle.clr_args.proofs.Rules.{row_at, rows_at}
use Rattle.clr_args.proofs.Spelled.{EachText, IsNumber, keep_parts, known_parts}

-- each name may stand there, and is none of those before it
abbrev pub AreOnce : List Text → List Text → Items → Type 0
AreOnce allowed before [] = Unit {0}
AreOnce allowed before (x ∷ xs) =
    (is_among x.0 allowed ≡ true) × (is_among x.0 before ≡ false) × AreOnce allowed (x.0 ∷ before) xs

abbrev MayWait : List Text → Stage → Type 0
MayWait allowed ready = Unit {0}
MayWait allowed (waits name) = is_among name allowed ≡ true
MayWait allowed behind = Unit {0}

abbrev MayStand : List Text → List Text → Type 0
MayStand allowed places = list_all (λ place. is_among place allowed) places ≡ true

module _ (names allowed : List Text)
    (options : (name : Text) → is_among name names ≡ true → is_among name allowed ≡ true) where
  abbrev Once : List Text → Type 0
  Once arguments = (stage : Stage) (places seen : List Text) (items : Items) → MayWait allowed stage
      → MayStand allowed places
      → pass names stage places seen arguments ≡ Some items → AreOnce allowed seen items

  kept : (name text : Text) (seen : List Text) (o : Option Items) (items : Items) → is_among name allowed ≡ true
      → keep_by (is_among name seen) name text o ≡ Some items
      → ((more : Items) → o ≡ Some more → AreOnce allowed (name ∷ seen) more) → AreOnce allowed seen items
  kept name text seen o items may e next =
      let parts = keep_parts (is_among name seen) name text o items e in
      subst (AreOnce allowed seen) parts.1.2 (may, parts.0, next parts.1.0 parts.1.1)

  at_a_place : (argument : Text) (rest : List Text) (next : Once rest)
      (seen : List Text) (items : Items) (stage : Stage)
      (may_wait : MayWait allowed stage) (places : List Text)
      → MayStand allowed places
      → at_place places argument seen (λ ps known. pass names stage ps known rest) ≡ Some items
      → AreOnce allowed seen items
  at_a_place argument rest next seen items stage may_wait [] may e = absurd cc
  at_a_place argument rest next seen items stage may_wait (place ∷ places) may e =
      let both = and_parts (is_among place allowed) _ may in
      kept place argument seen (pass names stage places (place ∷ seen) rest) items both.0 e
      (λ more is. next stage places (place ∷ seen) more may_wait both.1 is)

  module _ (argument : Text) (rest : List Text) (next : Once rest) (places seen : List Text) (items : Items)
      (may : MayStand allowed places) where
    by_kind : (k : Kind)
        → turn names ready k places argument seen
        (λ stage ps known. pass names stage ps known rest) ≡ Some items → AreOnce allowed seen items
    by_kind dashes e = next behind places seen items tt may e
    by_kind (whole name) e =
        let known =
        known_parts (is_among name names) (pass names (waits name) places seen rest) items e in
        next (waits name) places seen items (options name known.0) may known.1
    by_kind (joint name text) e =
        let known =
        known_parts (is_among name names)
        (keep_by (is_among name seen) name text (pass names ready places (name ∷ seen) rest)) items e in
        kept name text seen (pass names ready places (name ∷ seen) rest) items (options name known.0) known.1
        (λ more is. next ready places (name ∷ seen) more tt may is)
    by_kind flag e = absurd cc
    by_kind other e = at_a_place argument rest next seen items ready tt places may e

    by_kind_waiting : (name : Text) → is_among name allowed ≡ true → (k : Kind)
        → turn names (waits name) k places argument seen
        (λ stage ps known. pass names stage ps known rest) ≡ Some items → AreOnce allowed seen items
    by_kind_waiting name known other e =
        kept name argument seen (pass names ready places (name ∷ seen) rest) items known e
        (λ more is. next ready places (name ∷ seen) more tt may is)
    by_kind_waiting name known dashes e = absurd cc
    by_kind_waiting name known (whole option) e = absurd cc
    by_kind_waiting name known (joint option text) e = absurd cc
    by_kind_waiting name known flag e = absurd cc

  steps : (argument : Text) (rest : List Text) → Once rest → Once (argument ∷ rest)
  unfolding pass
  steps argument rest next ready places seen items may_wait may e =
      by_kind argument rest next places seen items may (kind_of argument) e
  steps argument rest next (waits name) places seen items may_wait may e =
      by_kind_waiting argument rest next places seen items may name may_wait (kind_of argument) e
  steps argument rest next behind places seen items may_wait may e =
      at_a_place argument rest next seen items behind tt places may e

  ends : Once []
  unfolding pass
  ends ready places seen items may_wait may e =
      subst (AreOnce allowed seen) (ap (λ (o : Option Items). unwrap_or o []) e) tt
  ends (waits name) places seen items may_wait may e = absurd cc
  ends behind places seen items may_wait may e =
      subst (AreOnce allowed seen) (ap (λ (o : Option Items). unwrap_or o []) e) tt

  once : (arguments : List Text) → Once arguments
  once [] = ends
  once (argument ∷ rest) = steps argument rest (once rest)

  pub taken_once : (arguments places seen : List Text) (items : Items) → MayStand allowed places
      → pass names ready places seen arguments ≡ Some items → AreOnce allowed seen items
  taken_once arguments places seen items may e = once arguments ready places seen items tt may e

-- ---- so each text is the one that is found by its name

-- a fact of the text that is found by the name
abbrev pub IsAt : (Text → Text → Type 0) → Items → Text → Type 0
IsAt P items name = (text : Text) → first_of name (rows_at items) ≡ Some text → P name text

abbrev pub IsNumberAt : Items → Text → Type 0
IsNumberAt items name = IsAt (λ name text. IsNumber text) items name

-- the first text of a name, by whether the first row has it
abbrev pub text_by : Bool → Text × Text → Text → Items → Option Text
text_by same x name xs =
    option_and_then (λ (r : Row). slice_get r.values 0)
    (if same then Some (row_at x) else find (λ (r : Row). bytes_eq r.id name) (rows_at xs))

fresh : (allowed before : List Text) (xs : Items) (name text : Text) → AreOnce allowed before xs
    → first_of name (rows_at xs) ≡ Some text → is_among name before ≡ false
fresh allowed before [] name text once e = absurd cc
fresh allowed before (x ∷ xs) name text once e =
    go (bytes_eq x.0 name) refl e (fresh allowed (x.0 ∷ before) xs name text once.2)
  where
    go : (same : Bool) → bytes_eq x.0 name ≡ same → text_by same x name xs ≡ Some text
        → (first_of name (rows_at xs) ≡ Some text → is_among name (x.0 ∷ before) ≡ false) → is_among name before ≡ false
    go true is e rest = subst (λ (n : Text). is_among n before ≡ false) ((bytes_eq-Decides x.0 name).0 is) once.1
    go false is e rest = (or_parts (bytes_eq x.0 name) (is_among name before) (rest e)).1

pub all_texts : (P : Text → Text → Type 0) (allowed before : List Text) (items : Items) → AreOnce allowed before items
    → ((name : Text) → is_among name allowed ≡ true → IsAt P items name)
    → EachText P items
all_texts P allowed before [] once found = tt
all_texts P allowed before (x ∷ xs) once found = (
  found x.0 once.0 x.1 (ap (λ b. text_by b x x.0 xs) ((bytes_eq-Decides x.0 x.0).1 refl)),
  all_texts P allowed (x.0 ∷ before) xs once.2 (λ name may text e. found name may text
      (ap (λ b. text_by b x name xs)
      (or_parts (bytes_eq x.0 name) (is_among name before) (fresh allowed (x.0 ∷ before) xs name text once.2 e)).0
      ∙ e)),
)

-- ---- a fact of each name of a list

abbrev pub EachName : (Text → Type 0) → List Text → Type 0
EachName P [] = Unit {0}
EachName P (name ∷ names) = P name × EachName P names

pub of_each : (P : Text → Type 0) (names : List Text) (name : Text) → EachName P names → is_among name names ≡ true
    → P name
of_each P [] name each e = absurd (true≢false (sym e))
of_each P (n ∷ ns) name each e = go (bytes_eq n name) refl e (of_each P ns name each.1)
  where
    go : (same : Bool) → bytes_eq n name ≡ same → (same || is_among name ns) ≡ true → (is_among name ns ≡ true → P name)
        → P name
    go true is e rest = subst P ((bytes_eq-Decides n name).0 is) each.0
    go false is e rest = rest e

pub option_number : (default number : ℕ) (o : Option Text) (text : Text) → number_or default o ≡ Some number
    → o ≡ Some text → IsNumber text
option_number default number o text read is =
    let parts = number_from text number (sym (ap (number_or default) is) ∙ read) in (number, parts.0, parts.1)

pub place_number : (number : ℕ) (o : Option Text) (text : Text) → option_and_then number_in o ≡ Some number
    → o ≡ Some text → IsNumber text
place_number number o text read is =
    let parts = number_from text number (sym (ap (option_and_then number_in) is) ∙ read) in (number, parts.0, parts.1)
