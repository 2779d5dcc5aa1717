-- The pass takes just the arguments that spell a line of `open`, and finds its path and the texts of its options.
use Rattle.std.specs.Prelude.{◌≡◌, ◌++◌, ◌&&◌, ◌||◌, ◌<◌, ◌^◌, ℕ, Bool, true, false, List, [], ◌∷◌, Option, Some}
use Rattle.std.specs.Prelude.{None, codes, decimal, if◌then◌else◌, map, option_and_then, unwrap_or}
use Rattle.std.specs.List.{list_all}
use Rattle.std.specs.Str.{bytes_eq}
use Rattle.std.proofs.Common.{refl, sym, ap, ap₂, ◌∙◌, subst, true≢false}
use Rattle.std.proofs.lemmas.Bool.{and_from, and_parts, or_from, or_parts}
use Rattle.std.proofs.lemmas.Slice.Eq.{bytes_eq-Decides}
use Rattle.clap.specs.Walk.{first_of}
use Rattle.clr_args.specs.Budgets.{AreLawfulBudgets}
use Rattle.clr_args.specs.Grammar.{AreSmall, Ending, IsLine, IsSaidOnce, MayBePath, OpenLine, Part, Said, SaysOpen}
use Rattle.clr_args.specs.Grammar.{Text, bare, behind_path, budget_names, dashed, guarded, is_among, is_option_part}
use Rattle.clr_args.specs.Grammar.{joined, open_places, options_in, path_of, placed, places_of, said, said_by_part}
use Rattle.clr_args.specs.Grammar.{spaced, spelled, spelled_ending, spelled_open, spelled_parts}
use Rattle.clr_args.specs.Reading.{AreBudgetsRead, number_or}
use Rattle.clr_args.specs.declared.budgets.Budgets.{Budgets}
use Rattle.clr_args.proofs.Pass.{Items, Kind, Stage, at_place, behind, dashes, flag, if_known, joint, keep_by, kind_of}
use Rattle.clr_args.proofs.Pass.{other, pass, ready, turn, waits, whole}
use Rattle.clr_args.proofs.Looks.{Looks, kind_joint, kind_number, kind_whole, looks, other_plain, plain_other}
use Rattle.clr_args.proofs.Rules.{rows_at}
use Rattle.clr_args.proofs.Levels.{complete, is_in, line_taken}
use Rattle.clr_args.proofs.Lines.{among_more, budget_numbers, completed, no_more}
use Rattle.clr_args.proofs.Meaning.{budgets_are_said}
use Rattle.clr_args.proofs.Spelled.{AreNumbers, EachText, IsNumber, arguments_spell, keep_parts, keeps, known_parts}
use Rattle.clr_args.proofs.Spelled.{line_goes, texts_of}
use Rattle.clr_args.proofs.Taken.{AreOnce, IsNumberAt, all_texts, of_each, taken_once, text_by}

abbrev pub image : Text
image = codes "IMAGE"

-- ---- names

-- no option has the name of the place
apart : (name : Text) → is_among name budget_names ≡ true → bytes_eq name image ≡ false
apart name known = go (bytes_eq name image) refl
  where
    go : (same : Bool) → bytes_eq name image ≡ same → same ≡ false
    go true is = absurd (true≢false (sym known
        ∙ ap (λ (n : Text). is_among n budget_names) ((bytes_eq-Decides name image).0 is)))
    go false is = refl

-- each number is said for one of these names
abbrev AreNamed : List Text → List Said → Type 0
AreNamed names numbers = list_all (λ (s : Said). is_among s.0 names) numbers ≡ true

-- a line without places says numbers of options alone
options_named : (names : List Text) (parts : List Part) (more : Option (List Said))
    → list_all (is_option_part names) parts ≡ true → places_of (record { parts = parts; behind = more }) ≡ []
    → AreNamed names (said (record { parts = parts; behind = more }))
options_named names [] None right none = refl
options_named names [] (Some []) right none = refl
options_named names [] (Some (x ∷ xs)) right none = absurd cc
options_named names (spaced name n ∷ parts) more right none =
    let both = and_parts (is_among name names) _ right in
    and_from (is_among name names) _ both.0 (options_named names parts more both.1 none)
options_named names (joined name n ∷ parts) more right none =
    let both = and_parts (is_among name names) _ right in
    and_from (is_among name names) _ both.0 (options_named names parts more both.1 none)
options_named names (placed place n ∷ parts) more right none = absurd cc

-- names that are said once behind some names are so behind others, if none of them is among these
once_behind : (names before others : List Text) (numbers : List Said) → AreNamed names numbers
    → ((name : Text) → is_among name names ≡ true → is_among name before ≡ false → is_among name others ≡ false)
    → IsSaidOnce before numbers → IsSaidOnce others numbers
once_behind names before others [] named alike once = tt
once_behind names before others (x ∷ xs) named alike once =
    let both = and_parts (is_among x.0 names) _ named in (
      alike x.0 both.0 once.0,
      once_behind names (x.0 ∷ before) (x.0 ∷ others) xs both.1
          (λ name known new. let apart = or_parts (bytes_eq x.0 name) (is_among name before) new in
          or_from (bytes_eq x.0 name) (is_among name others) apart.0 (alike name known apart.1))
          once.1,
    )

-- names that differ do so in both orders
flip : (a b : Text) → bytes_eq a b ≡ false → bytes_eq b a ≡ false
flip a b apart = go (bytes_eq b a) refl
  where
    go : (same : Bool) → bytes_eq b a ≡ same → same ≡ false
    go true is = absurd (true≢false (sym ((bytes_eq-Decides a b).1 (sym ((bytes_eq-Decides b a).0 is))) ∙ apart))
    go false is = refl

-- ---- a line that is spelled is taken

-- the texts that are found of a line
abbrev pub texts_found : List Part → Ending → Items
texts_found before ending =
    texts_of (map said_by_part before) ++ (image, path_of ending) ∷ texts_of (said (behind_path ending))

abbrev line_of : List Part → Ending → OpenLine
line_of before ending = record { before = before; ending = ending }

abbrev OpenGoes : List Part → Ending → List Text → Type 0
OpenGoes before ending seen =
    pass budget_names ready open_places seen (spelled_parts before ++ spelled_ending ending)
    ≡ Some (texts_found before ending)

-- the path is taken, with what follows it or stands before it
ending_goes : (ending : Ending) (seen : List Text) → is_among image seen ≡ false
    → list_all (is_option_part budget_names) (behind_path ending).parts ≡ true → places_of (behind_path ending) ≡ []
    → IsSaidOnce seen (said (behind_path ending)) → AreSmall (said (behind_path ending)) → MayBePath ending
    → OpenGoes [] ending seen
unfolding pass
ending_goes (bare path after) seen new options places once small plain =
    let next =
    λ (stage : Stage) (ps : List Text) (known : List Text). pass budget_names stage ps known (spelled after) in
    let behind_it = once_behind budget_names seen (image ∷ seen) (said after)
    (options_named budget_names after.parts after.behind options places)
    (λ name known fresh. or_from (bytes_eq image name) (is_among name seen) (flip name image (apart name known)) fresh)
    once in
    ap (λ k. turn budget_names ready k open_places path seen next) (plain_other path plain)
    ∙ keeps image path (pass budget_names ready [] (image ∷ seen) (spelled after)) (texts_of (said after))
    (is_among image seen) new
    (line_goes budget_names refl after [] (image ∷ seen) options places behind_it small)
ending_goes (guarded path) seen new options places once small plain =
    keeps image path (Some []) [] (is_among image seen) new refl

-- the arguments of a line of `open` are taken
open_goes : (before : List Part) (ending : Ending) (seen : List Text) → is_among image seen ≡ false
    → list_all (is_option_part budget_names) (options_in (line_of before ending)).parts ≡ true
    → places_of (options_in (line_of before ending)) ≡ []
    → IsSaidOnce seen (said (options_in (line_of before ending)))
    → AreSmall (said (options_in (line_of before ending)))
    → MayBePath ending → OpenGoes before ending seen
unfolding pass
open_goes [] ending seen new options places once small plain =
    ending_goes ending seen new options places once small plain
open_goes (spaced name n ∷ before) ending seen new options places once small plain =
    let words = spelled_parts before ++ spelled_ending ending in
    let next =
    λ (stage : Stage) (ps : List Text) (known : List Text). pass budget_names stage ps known (decimal n ∷ words) in
    let after = λ (stage : Stage) (ps : List Text) (known : List Text). pass budget_names stage ps known words in
    let both = and_parts (is_among name budget_names) _ options in
    let fresh = or_from (bytes_eq name image) (is_among image seen) (apart name both.0) new in
    ap (λ k. turn budget_names ready k open_places (dashed name) seen next) (kind_whole budget_names refl name both.0)
    ∙ (ap (λ b. if_known b (next (waits name) open_places seen)) both.0
    ∙ (ap (λ k. turn budget_names (waits name) k open_places (decimal n) seen after) (kind_number n small.0)
    ∙ keeps name (decimal n) (pass budget_names ready open_places (name ∷ seen) words) (texts_found before ending)
    (is_among name seen) once.0
    (open_goes before ending (name ∷ seen) fresh both.1 places once.1 small.1 plain)))
open_goes (joined name n ∷ before) ending seen new options places once small plain =
    let words = spelled_parts before ++ spelled_ending ending in
    let next = λ (stage : Stage) (ps : List Text) (known : List Text). pass budget_names stage ps known words in
    let both = and_parts (is_among name budget_names) _ options in
    let fresh = or_from (bytes_eq name image) (is_among image seen) (apart name both.0) new in
    ap (λ k. turn budget_names ready k open_places (dashed name ++ (codes "=" ++ decimal n)) seen next)
    (kind_joint budget_names refl name (decimal n) both.0)
    ∙ (ap (λ b. if_known b (keep_by (is_among name seen) name (decimal n) (next ready open_places (name ∷ seen))))
    both.0
    ∙ keeps name (decimal n) (pass budget_names ready open_places (name ∷ seen) words) (texts_found before ending)
    (is_among name seen) once.0
    (open_goes before ending (name ∷ seen) fresh both.1 places once.1 small.1 plain))
open_goes (placed place n ∷ before) ending seen new options places once small plain = absurd cc

-- ---- what is found by a name

-- the path is found by the place's name
path_found : (before : List Part) (ending : Ending)
    → list_all (is_option_part budget_names) (options_in (line_of before ending)).parts ≡ true
    → places_of (options_in (line_of before ending)) ≡ []
    → first_of image (rows_at (texts_found before ending)) ≡ Some (path_of ending)
path_found [] ending options places = refl
path_found (spaced name n ∷ before) ending options places =
    let both = and_parts (is_among name budget_names) _ options in
    ap (λ b. text_by b (name, decimal n) image (texts_found before ending)) (apart name both.0)
    ∙ path_found before ending both.1 places
path_found (joined name n ∷ before) ending options places =
    let both = and_parts (is_among name budget_names) _ options in
    ap (λ b. text_by b (name, decimal n) image (texts_found before ending)) (apart name both.0)
    ∙ path_found before ending both.1 places
path_found (placed place n ∷ before) ending options places = absurd cc

-- a name that isn't the place's finds what it finds without the path
others_found : (before : List Part) (ending : Ending) (name : Text) → bytes_eq image name ≡ false
    → first_of name (rows_at (texts_found before ending))
    ≡ first_of name (rows_at (texts_of (said (options_in (line_of before ending)))))
others_found [] ending name apart =
    ap (λ b. text_by b (image, path_of ending) name (texts_of (said (behind_path ending)))) apart
others_found (part ∷ before) ending name apart =
    go (bytes_eq (said_by_part part).0 name) (others_found before ending name apart)
  where
    x : Text × Text
    x = ((said_by_part part).0, decimal (said_by_part part).1)

    go : (same : Bool) → first_of name (rows_at (texts_found before ending))
        ≡ first_of name (rows_at (texts_of (said (options_in (line_of before ending)))))
        → text_by same x name (texts_found before ending)
        ≡ text_by same x name (texts_of (said (options_in (line_of before ending))))
    go true rest = refl
    go false rest = rest

-- budgets that are read without the path are read with it
budgets_alike : (before : List Part) (ending : Ending) (budgets : Budgets)
    → ((name : Text) → bytes_eq image name ≡ false → first_of name (rows_at (texts_found before ending))
    ≡ first_of name (rows_at (texts_of (said (options_in (line_of before ending))))))
    → AreBudgetsRead (rows_at (texts_of (said (options_in (line_of before ending))))) budgets
    → AreBudgetsRead (rows_at (texts_found before ending)) budgets
budgets_alike before ending budgets alike read = record {
  b0 = ap (number_or _) (alike (codes "b0") refl) ∙ read.b0;
  b1 = ap (number_or _) (alike (codes "b1") refl) ∙ read.b1;
  b2 = ap (number_or _) (alike (codes "b2") refl) ∙ read.b2;
  bl = ap (number_or _) (alike (codes "bl") refl) ∙ read.bl;
  compact = ap (number_or _) (alike (codes "compact") refl) ∙ read.compact;
}

-- budgets that are read with the path are read without it
budgets_without : (before : List Part) (ending : Ending) (budgets : Budgets)
    → ((name : Text) → bytes_eq image name ≡ false → first_of name (rows_at (texts_found before ending))
    ≡ first_of name (rows_at (texts_of (said (options_in (line_of before ending))))))
    → AreBudgetsRead (rows_at (texts_found before ending)) budgets
    → AreBudgetsRead (rows_at (texts_of (said (options_in (line_of before ending))))) budgets
budgets_without before ending budgets alike read = record {
  b0 = ap (number_or _) (sym (alike (codes "b0") refl)) ∙ read.b0;
  b1 = ap (number_or _) (sym (alike (codes "b1") refl)) ∙ read.b1;
  b2 = ap (number_or _) (sym (alike (codes "b2") refl)) ∙ read.b2;
  bl = ap (number_or _) (sym (alike (codes "bl") refl)) ∙ read.bl;
  compact = ap (number_or _) (sym (alike (codes "compact") refl)) ∙ read.compact;
}

-- the place has a text
place_found : (before : List Part) (ending : Ending) → is_in image (texts_found before ending) ≡ true
place_found [] ending = refl
place_found (part ∷ before) ending = go (bytes_eq (said_by_part part).0 image) (place_found before ending)
  where
    go : (same : Bool) → is_in image (texts_found before ending) ≡ true
        → (same || is_in image (texts_found before ending)) ≡ true
    go true rest = refl
    go false rest = rest

-- the arguments behind `open` are taken, and these texts are found
pub open_found : (line : OpenLine) → IsLine budget_names [] (options_in line) → MayBePath line.ending
    → line_taken budget_names open_places (spelled_open line) ≡ Some (texts_found line.before line.ending)
open_found line is plain =
    ap (option_and_then (complete open_places))
    (open_goes line.before line.ending [] refl is.options is.places is.once is.small plain)
    ∙ go (is_in image (texts_found line.before line.ending)) (place_found line.before line.ending)
  where
    go : (there : Bool) → there ≡ true
        → (if there && true then Some (texts_found line.before line.ending) else None)
        ≡ Some (texts_found line.before line.ending)
    go true e = refl
    go false e = absurd (true≢false (sym e))

-- the text that is found for the place is the path of the line
pub open_path_found : (line : OpenLine) → IsLine budget_names [] (options_in line)
    → first_of image (rows_at (texts_found line.before line.ending)) ≡ Some (path_of line.ending)
open_path_found line is = path_found line.before line.ending is.options is.places

-- budgets that a line of `open` says are read of its texts
pub open_budgets_found : (line : OpenLine) (budgets : Budgets) → IsLine budget_names [] (options_in line)
    → AreBudgetsRead (rows_at (texts_of (said (options_in line)))) budgets
    → AreBudgetsRead (rows_at (texts_found line.before line.ending)) budgets
open_budgets_found line budgets is read =
    budgets_alike line.before line.ending budgets (others_found line.before line.ending) read

-- ---- arguments that are taken spell a line

-- the text of an option is a number
abbrev IsNumbered : Text → Text → Type 0
IsNumbered name text = is_among name budget_names ≡ true → IsNumber text

-- texts of options alone are numbers
are_numbers : (before : List Text) (items : Items) → AreOnce budget_names before items → EachText IsNumbered items
    → AreNumbers items
are_numbers before [] once numbered = tt
are_numbers before (x ∷ xs) once numbered =
    (numbered.0 once.0, are_numbers (x.0 ∷ before) xs once.2 numbered.1)

-- the texts are those of this line of `open`, which says each name once
record IsRead (seen : List Text) (items found : Items) (numbers : List Said) (line : OpenLine) : Type 0 where
  texts : found ≡ items
  once : IsSaidOnce seen numbers
  small : AreSmall numbers
  options : list_all (is_option_part budget_names) (options_in line).parts ≡ true
  places : places_of (options_in line) ≡ []
  plain : MayBePath line.ending

abbrev Spells : Stage → List Text → List Text → Items → Type 0
Spells ready seen arguments items =
    (line : OpenLine) × (arguments ≡ spelled_open line)
    × IsRead seen items (texts_found line.before line.ending) (said (options_in line)) line
Spells (waits name) seen arguments items =
    (number : ℕ) × (line : OpenLine) × (arguments ≡ decimal number ∷ spelled_open line)
    × IsRead seen items ((name, decimal number) ∷ texts_found line.before line.ending)
    ((name, number) ∷ said (options_in line)) line
Spells behind seen arguments items = (path : Text) × (arguments ≡ path ∷ []) × ((image, path) ∷ [] ≡ items)

abbrev MayWait : Stage → Type 0
MayWait ready = Unit {0}
MayWait (waits name) = is_among name budget_names ≡ true
MayWait behind = Unit {0}

abbrev Sound : List Text → Type 0
Sound arguments =
    (stage : Stage) (seen : List Text) (items : Items) → MayWait stage → EachText IsNumbered items
    → is_in image items ≡ true → pass budget_names stage open_places seen arguments ≡ Some items
    → Spells stage seen arguments items

-- where nothing is found, no path is
nothing_there : (items : Items) → Some [] ≡ Some items → is_in image items ≡ true → ⊥
nothing_there items e there =
    true≢false (sym (ap (λ (o : Option Items). is_in image (unwrap_or o [])) e ∙ there))

ends : Sound []
unfolding pass
ends ready seen items may numbered there e = absurd (nothing_there items e there)
ends (waits name) seen items may numbered there e = absurd cc
ends behind seen items may numbered there e = absurd (nothing_there items e there)

-- where the first text is an option's, the path is among the others
later_there : (name text : Text) (items more : Items) → (name, text) ∷ more ≡ items → bytes_eq name image ≡ false
    → is_in image items ≡ true → is_in image more ≡ true
later_there name text items more are apart there =
    ap (λ b. b || is_in image more) (sym apart) ∙ (ap (is_in image) are ∙ there)

-- behind `--` and a path nothing may stand
none_behind : (rest seen : List Text) (more : Items) → pass budget_names behind [] seen rest ≡ Some more
    → (rest ≡ []) × (more ≡ [])
unfolding pass
none_behind [] seen more e = (refl, sym (ap (λ (o : Option Items). unwrap_or o []) e))
none_behind (word ∷ words) seen more e = absurd cc

-- one more name, with its number
more_read : (seen : List Text) (name text : Text) (items more found : Items) (number : ℕ) (numbers : List Said)
    (line : OpenLine)
    → (name, text) ∷ more ≡ items → is_among name seen ≡ false → number < 2 ^ 64 → text ≡ decimal number
    → IsRead (name ∷ seen) more found numbers line
    → IsRead seen items ((name, decimal number) ∷ found) ((name, number) ∷ numbers) line
more_read seen name text items more found number numbers line are new small is read = record {
  texts = ap₂ (λ (t : Text) (rest : Items). (name, t) ∷ rest) (sym is) read.texts ∙ are;
  once = (new, read.once);
  small = (small, read.small);
  options = read.options;
  places = read.places;
  plain = read.plain;
}

-- a line of `open` with one option more at its front, in two arguments
spaced_read : (seen : List Text) (name : Text) (items : Items) (number : ℕ) (line : OpenLine)
    → is_among name budget_names ≡ true
    → IsRead seen items ((name, decimal number) ∷ texts_found line.before line.ending)
    ((name, number) ∷ said (options_in line)) line
    → IsRead seen items (texts_found (spaced name number ∷ line.before) line.ending)
    (said (options_in (line_of (spaced name number ∷ line.before) line.ending)))
    (line_of (spaced name number ∷ line.before) line.ending)
spaced_read seen name items number line known read = record {
  texts = read.texts;
  once = read.once;
  small = read.small;
  options = and_from (is_among name budget_names) _ known read.options;
  places = read.places;
  plain = read.plain;
}

-- a line of `open` with one option more at its front, in one argument
joined_read : (seen : List Text) (name : Text) (items : Items) (number : ℕ) (line : OpenLine)
    → is_among name budget_names ≡ true
    → IsRead seen items ((name, decimal number) ∷ texts_found line.before line.ending)
    ((name, number) ∷ said (options_in line)) line
    → IsRead seen items (texts_found (joined name number ∷ line.before) line.ending)
    (said (options_in (line_of (joined name number ∷ line.before) line.ending)))
    (line_of (joined name number ∷ line.before) line.ending)
joined_read seen name items number line known read = record {
  texts = read.texts;
  once = read.once;
  small = read.small;
  options = and_from (is_among name budget_names) _ known read.options;
  places = read.places;
  plain = read.plain;
}

module _ (argument : Text) (rest : List Text) (next : Sound rest) (seen : List Text) (items : Items)
    (numbered : EachText IsNumbered items) (there : is_in image items ≡ true) where
  from_behind : pass budget_names behind open_places seen (argument ∷ rest) ≡ Some items
      → Spells behind seen (argument ∷ rest) items
  unfolding pass
  from_behind e =
      let parts =
      keep_parts (is_among image seen) image argument (pass budget_names behind [] (image ∷ seen) rest) items e in
      let none = none_behind rest (image ∷ seen) parts.1.0 parts.1.1 in (
        argument,
        ap (λ (ws : List Text). argument ∷ ws) none.0,
        ap (λ (xs : Items). (image, argument) ∷ xs) (sym none.1) ∙ parts.1.2,
      )

  from_waits : (name : Text) → is_among name budget_names ≡ true → (k : Kind)
      → turn budget_names (waits name) k open_places argument seen
      (λ stage ps known. pass budget_names stage ps known rest) ≡ Some items
      → Spells (waits name) seen (argument ∷ rest) items
  from_waits name known other e =
      let parts =
      keep_parts (is_among name seen) name argument (pass budget_names ready open_places (name ∷ seen) rest) items e in
      let all = subst (EachText IsNumbered) (sym parts.1.2) numbered in
      let number = all.0 known in
      let found =
      next ready (name ∷ seen) parts.1.0 tt all.1
      (later_there name argument items parts.1.0 parts.1.2 (apart name known) there) parts.1.1 in (
        number.0,
        found.0,
        ap₂ (λ (w : Text) (ws : List Text). w ∷ ws) number.2 found.1,
        more_read seen name argument items parts.1.0 (texts_found found.0.before found.0.ending) number.0
            (said (options_in found.0)) found.0 parts.1.2 parts.0 number.1 number.2 found.2,
      )
  from_waits name known dashes e = absurd cc
  from_waits name known (whole option) e = absurd cc
  from_waits name known (joint option text) e = absurd cc
  from_waits name known flag e = absurd cc

  -- the path, and the options behind it
  from_path : kind_of argument ≡ other
      → at_place open_places argument seen (λ ps known. pass budget_names ready ps known rest) ≡ Some items
      → Spells ready seen (argument ∷ rest) items
  from_path looks_other e =
      let parts =
      keep_parts (is_among image seen) image argument (pass budget_names ready [] (image ∷ seen) rest) items e in
      let all = subst (EachText IsNumbered) (sym parts.1.2) numbered in
      let once =
      taken_once budget_names budget_names (λ name known. known) rest [] (image ∷ seen) parts.1.0 refl parts.1.1 in
      let found =
      arguments_spell budget_names rest [] (image ∷ seen) parts.1.0
      (are_numbers (image ∷ seen) parts.1.0 once all.1) parts.1.1 in
      let after = found.0 in
      let places = no_more (places_of after) found.3.left found.3.places_are in (
        line_of [] (bare argument after),
        ap (λ (ws : List Text). argument ∷ ws) found.1,
        record {
          texts = ap (λ (xs : Items). (image, argument) ∷ xs) found.3.texts ∙ parts.1.2;
          once = once_behind budget_names (image ∷ seen) seen (said after)
              (options_named budget_names after.parts after.behind found.2 places)
              (λ name known new. (or_parts (bytes_eq image name) (is_among name seen) new).1) found.3.once;
          small = found.3.small;
          options = found.2;
          places = places;
          plain = other_plain argument looks_other;
        },
      )

  from_ready : (k : Kind) → kind_of argument ≡ k → Looks k argument
      → turn budget_names ready k open_places argument seen
      (λ stage ps known. pass budget_names stage ps known rest) ≡ Some items
      → Spells ready seen (argument ∷ rest) items
  from_ready dashes is look e =
      let found = next behind seen items tt numbered there e in (
        line_of [] (guarded found.0),
        ap₂ (λ (w : Text) (ws : List Text). w ∷ ws) look found.1,
        record { texts = found.2; once = tt; small = tt; options = refl; places = refl; plain = tt },
      )
  from_ready (whole name) is look e =
      let known =
      known_parts (is_among name budget_names) (pass budget_names (waits name) open_places seen rest) items e in
      let found = next (waits name) seen items known.0 numbered there known.1 in (
        line_of (spaced name found.0 ∷ found.1.before) found.1.ending,
        ap₂ (λ (w : Text) (ws : List Text). w ∷ ws) look found.2,
        spaced_read seen name items found.0 found.1 known.0 found.3,
      )
  from_ready (joint name text) is look e =
      let known =
      known_parts (is_among name budget_names)
      (keep_by (is_among name seen) name text (pass budget_names ready open_places (name ∷ seen) rest)) items e in
      let parts =
      keep_parts (is_among name seen) name text (pass budget_names ready open_places (name ∷ seen) rest) items known.1
      in
      let all = subst (EachText IsNumbered) (sym parts.1.2) numbered in
      let number = all.0 known.0 in
      let found =
      next ready (name ∷ seen) parts.1.0 tt all.1
      (later_there name text items parts.1.0 parts.1.2 (apart name known.0) there) parts.1.1 in (
        line_of (joined name number.0 ∷ found.0.before) found.0.ending,
        ap₂ (λ (w : Text) (ws : List Text). w ∷ ws)
            (look ∙ ap (λ (t : Text). dashed name ++ (codes "=" ++ t)) number.2) found.1,
        joined_read seen name items number.0 found.0 known.0
            (more_read seen name text items parts.1.0 (texts_found found.0.before found.0.ending) number.0
            (said (options_in found.0)) found.0 parts.1.2 parts.0 number.1 number.2 found.2),
      )
  from_ready flag is look e = absurd cc
  from_ready other is look e = from_path is e

steps : (argument : Text) (rest : List Text) → Sound rest → Sound (argument ∷ rest)
unfolding pass
steps argument rest next ready seen items may numbered there e =
    from_ready argument rest next seen items numbered there (kind_of argument) refl (looks argument) e
steps argument rest next (waits name) seen items may numbered there e =
    from_waits argument rest next seen items numbered there name may (kind_of argument) e
steps argument rest next behind seen items may numbered there e =
    from_behind argument rest next seen items numbered there e

sound : (arguments : List Text) → Sound arguments
sound [] = ends
sound (argument ∷ rest) = steps argument rest (sound rest)

abbrev open_names : List Text
open_names = budget_names ++ open_places

-- arguments that are taken behind `open`, with lawful budgets, say `open`
pub open_said_by : (arguments rest : List Text) (items : Items) (budgets : Budgets) → arguments ≡ codes "open" ∷ rest
    → line_taken budget_names open_places rest ≡ Some items → AreBudgetsRead (rows_at items) budgets
    → AreLawfulBudgets budgets → (path : Text) × SaysOpen arguments budgets path
open_said_by arguments rest items budgets are taken read lawful =
    let done = completed open_places (pass budget_names ready open_places [] rest) items taken in
    let once =
    taken_once budget_names open_names (among_more budget_names open_places) rest open_places [] items refl done.0 in
    let numbered =
    all_texts IsNumbered open_names [] items once
    (λ name known text is option. of_each (IsNumberAt items) budget_names name
    (budget_numbers items budgets read) option text is) in
    let found = sound rest ready [] items tt numbered (and_parts (is_in image items) true done.1).0 done.0 in
    let line = found.0 in (
      path_of line.ending,
      (
        line,
        record {
          arguments_are = are ∙ ap (λ (ws : List Text). codes "open" ∷ ws) found.1;
          is_line = record {
            options = found.2.options;
            places = found.2.places;
            once = found.2.once;
            small = found.2.small;
          };
          is_path = found.2.plain;
          path_is = refl;
          budgets_are =
              budgets_are_said (said (options_in line)) budgets found.2.small
              (budgets_without line.before line.ending budgets (others_found line.before line.ending)
              (subst (λ (xs : Items). AreBudgetsRead (rows_at xs) budgets) (sym found.2.texts) read));
          lawful = lawful;
        },
      ),
    )
