-- The pass takes just the arguments that spell a line, and finds what the line says.
use Rattle.std.specs.Prelude.{◌≡◌, ◌++◌, ◌<◌, ◌^◌, ℕ, Bool, true, false, List, [], ◌∷◌, Option, Some, None, codes}
use Rattle.std.specs.Prelude.{decimal, map, option_map, unwrap_or}
use Rattle.std.specs.List.{list_all}
use Rattle.std.proofs.Common.{refl, sym, ap, ap₂, ◌∙◌, subst}
use Rattle.std.proofs.lemmas.Bool.{and_parts, and_from}
use Rattle.clr_args.specs.Grammar.{AreSmall, IsSaidOnce, Line, Part, Said, Text, dashed, is_among, is_option_part}
use Rattle.clr_args.specs.Grammar.{joined, placed, places_of, said, spaced, spelled}
use Rattle.clr_args.proofs.Pass.{Items, Kind, Stage, at_place, behind, dashes, flag, if_known, joint, keep_by, kind_of}
use Rattle.clr_args.proofs.Pass.{other, pass, ready, turn, waits, whole}
use Rattle.clr_args.proofs.Looks.{Looks, is_name, kind_joint, kind_number, kind_whole, looks}

abbrev pub texts_of : List Said → Items
texts_of = map (λ said. (said.0, decimal said.1))

abbrev pub spelled_numbers : List Said → List Text
spelled_numbers = map (λ said. decimal said.1)

abbrev pub names_of : List Said → List Text
names_of = map (λ said. said.0)

-- ---- a line that is spelled is taken

pub keeps : (name text : Text) (o : Option Items) (more : Items) (is_seen : Bool) → is_seen ≡ false → o ≡ Some more
    → keep_by is_seen name text o ≡ Some ((name, text) ∷ more)
keeps name text o more is_seen new is =
    ap (λ b. keep_by b name text o) new ∙ ap (option_map (λ items. (name, text) ∷ items)) is

module _ (names : List Text) (are_names : list_all is_name names ≡ true) where
  abbrev Goes : Stage → List Text → List Text → List Text → List Said → Type 0
  Goes stage places seen arguments numbers = pass names stage places seen arguments ≡ Some (texts_of numbers)

  numbers_go : (numbers : List Said) (places seen : List Text) → names_of numbers ≡ places → IsSaidOnce seen numbers
      → AreSmall numbers
      → Goes behind places seen (spelled_numbers numbers) numbers
  unfolding pass
  numbers_go [] places seen are once small = refl
  numbers_go (x ∷ xs) places seen are once small =
      subst (λ (ps : List Text). Goes behind ps seen (spelled_numbers (x ∷ xs)) (x ∷ xs)) are
      (keeps x.0 (decimal x.1) (pass names behind (names_of xs) (x.0 ∷ seen) (spelled_numbers xs)) (texts_of xs)
      (is_among x.0 seen) once.0
      (numbers_go xs (names_of xs) (x.0 ∷ seen) refl once.1 small.1))

  parts_go : (parts : List Part) (more : Option (List Said)) (places seen : List Text)
      → list_all (is_option_part names) parts ≡ true
      → places_of (record { parts = parts; behind = more }) ≡ places
      → IsSaidOnce seen (said (record { parts = parts; behind = more }))
      → AreSmall (said (record { parts = parts; behind = more }))
      → Goes ready places seen (spelled (record { parts = parts; behind = more }))
      (said (record { parts = parts; behind = more }))
  unfolding pass
  parts_go [] None places seen options are once small = refl
  parts_go [] (Some numbers) places seen options are once small = numbers_go numbers places seen are once small
  parts_go (spaced name n ∷ parts) more places seen options are once small =
      let line : Line = record { parts = parts; behind = more } in
      let next =
      λ (stage : Stage) (ps : List Text) (known : List Text). pass names stage ps known (decimal n ∷ spelled line)
      in
      let after =
      λ (stage : Stage) (ps : List Text) (known : List Text). pass names stage ps known (spelled line) in
      let named = (and_parts (is_among name names) _ options).0 in
      ap (λ k. turn names ready k places (dashed name) seen next) (kind_whole names are_names name named)
      ∙ (ap (λ b. if_known b (next (waits name) places seen)) named
      ∙ (ap (λ k. turn names (waits name) k places (decimal n) seen after) (kind_number n small.0)
      ∙ keeps name (decimal n) (pass names ready places (name ∷ seen) (spelled line)) (texts_of (said line))
      (is_among name seen) once.0
      (parts_go parts more places (name ∷ seen) (and_parts (is_among name names) _ options).1 are once.1 small.1)))
  parts_go (joined name n ∷ parts) more places seen options are once small =
      let line : Line = record { parts = parts; behind = more } in
      let next =
      λ (stage : Stage) (ps : List Text) (known : List Text). pass names stage ps known (spelled line) in
      let named = (and_parts (is_among name names) _ options).0 in
      ap (λ k. turn names ready k places (dashed name ++ (codes "=" ++ decimal n)) seen next)
      (kind_joint names are_names name (decimal n) named)
      ∙ (ap (λ b. if_known b (keep_by (is_among name seen) name (decimal n) (next ready places (name ∷ seen)))) named
      ∙ keeps name (decimal n) (pass names ready places (name ∷ seen) (spelled line)) (texts_of (said line))
      (is_among name seen) once.0
      (parts_go parts more places (name ∷ seen) (and_parts (is_among name names) _ options).1 are once.1 small.1))
  parts_go (placed place n ∷ parts) more places seen options are once small =
      let line : Line = record { parts = parts; behind = more } in
      let next =
      λ (stage : Stage) (ps : List Text) (known : List Text). pass names stage ps known (spelled line) in
      subst (λ (ps : List Text). Goes ready ps seen (decimal n ∷ spelled line) ((place, n) ∷ said line)) are
      (ap (λ k. turn names ready k (place ∷ places_of line) (decimal n) seen next) (kind_number n small.0)
      ∙ keeps place (decimal n) (pass names ready (places_of line) (place ∷ seen) (spelled line))
      (texts_of (said line)) (is_among place seen) once.0
      (parts_go parts more (places_of line) (place ∷ seen) options refl once.1 small.1))

  pub line_goes : (line : Line) (places seen : List Text) → list_all (is_option_part names) line.parts ≡ true
      → places_of line ≡ places
      → IsSaidOnce seen (said line) → AreSmall (said line) → Goes ready places seen (spelled line) (said line)
  line_goes line places seen options are once small =
      parts_go line.parts line.behind places seen options are once small

-- ---- arguments that are taken spell a line

-- a fact of each name with its text
abbrev pub EachText : (Text → Text → Type 0) → Items → Type 0
EachText P [] = Unit {0}
EachText P (x ∷ xs) = P x.0 x.1 × EachText P xs

abbrev pub IsNumber : Text → Type 0
IsNumber text = (number : ℕ) × (number < 2 ^ 64) × (text ≡ decimal number)

abbrev pub AreNumbers : Items → Type 0
AreNumbers items = EachText (λ name text. IsNumber text) items

pub record IsRead (places seen : List Text) (items : Items) (names : List Text) (numbers : List Said) : Type 0 where
  pub left : List Text
  pub places_are : names ++ left ≡ places
  pub texts : texts_of numbers ≡ items
  pub once : IsSaidOnce seen numbers
  pub small : AreSmall numbers

pub keep_parts : (is_seen : Bool) (name text : Text) (o : Option Items) (items : Items)
    → keep_by is_seen name text o ≡ Some items
    → (is_seen ≡ false) × ((more : Items) × (o ≡ Some more) × ((name, text) ∷ more ≡ items))
keep_parts true name text o items e = absurd cc
keep_parts false name text None items e = absurd cc
keep_parts false name text (Some more) items e = (refl, (more, refl, ap (λ (o : Option Items). unwrap_or o []) e))

pub known_parts : (known : Bool) (o : Option Items) (items : Items) → if_known known o ≡ Some items → (known ≡ true)
    × (o ≡ Some items)
known_parts true o items e = (refl, e)
known_parts false o items e = absurd cc

-- one more name, with its number
more_read : (places seen : List Text) (name text : Text) (items more : Items) (number : ℕ) (names : List Text)
    (numbers : List Said)
    → (name, text) ∷ more ≡ items → is_among name seen ≡ false → number < 2 ^ 64 → text ≡ decimal number
    → IsRead places (name ∷ seen) more names numbers → IsRead places seen items names ((name, number) ∷ numbers)
more_read places seen name text items more number names numbers are new small is read = record {
  left = read.left;
  places_are = read.places_are;
  texts = ap₂ (λ (t : Text) (rest : Items). (name, t) ∷ rest) (sym is) read.texts ∙ are;
  once = (new, read.once);
  small = (small, read.small);
}

place_read : (place : Text) (places seen : List Text) (items : Items) (names : List Text) (numbers : List Said)
    → IsRead places seen items names numbers
    → IsRead (place ∷ places) seen items (place ∷ names) numbers
place_read place places seen items names numbers read = record {
  left = read.left;
  places_are = ap (λ ps. place ∷ ps) read.places_are;
  texts = read.texts;
  once = read.once;
  small = read.small;
}

module _ (names : List Text) where
  abbrev pub IsRight : List Part → Type 0
  IsRight parts = list_all (is_option_part names) parts ≡ true

  abbrev Spells : Stage → List Text → List Text → List Text → Items → Type 0
  Spells ready places seen arguments items =
      (line : Line) × (arguments ≡ spelled line) × IsRight line.parts
      × IsRead places seen items (places_of line) (said line)
  Spells (waits name) places seen arguments items =
      (number : ℕ) × (line : Line) × (arguments ≡ decimal number ∷ spelled line) × IsRight line.parts
      × IsRead places seen items (places_of line) ((name, number) ∷ said line)
  Spells behind places seen arguments items =
      (numbers : List Said) × (arguments ≡ spelled_numbers numbers)
      × IsRead places seen items (names_of numbers) numbers

  abbrev Sound : List Text → Type 0
  Sound arguments =
      (stage : Stage) (places seen : List Text) (items : Items) → AreNumbers items
      → pass names stage places seen arguments ≡ Some items
      → Spells stage places seen arguments items

  ends : Sound []
  unfolding pass
  ends ready places seen items numbers e = (
    record { parts = []; behind = None },
    refl,
    refl,
    record {
      left = places;
      places_are = refl;
      texts = ap (λ (o : Option Items). unwrap_or o []) e;
      once = tt;
      small = tt;
    },
  )
  ends (waits name) places seen items numbers e = absurd cc
  ends behind places seen items numbers e = (
    [],
    refl,
    record {
      left = places;
      places_are = refl;
      texts = ap (λ (o : Option Items). unwrap_or o []) e;
      once = tt;
      small = tt;
    },
  )

  module _ (argument : Text) (rest : List Text) (next : Sound rest) (seen : List Text) (items : Items)
      (numbers : AreNumbers items) where
    from_behind : (places : List Text) → pass names behind places seen (argument ∷ rest) ≡ Some items
        → Spells behind places seen (argument ∷ rest) items
    unfolding pass
    from_behind [] e = absurd cc
    from_behind (place ∷ places) e =
        let parts =
        keep_parts (is_among place seen) place argument (pass names behind places (place ∷ seen) rest) items e in
        let all = subst AreNumbers (sym parts.1.2) numbers in
        let found = next behind places (place ∷ seen) parts.1.0 all.1 parts.1.1 in (
          (place, all.0.0) ∷ found.0,
          ap₂ (λ (w : Text) (ws : List Text). w ∷ ws) all.0.2 found.1,
          place_read place places seen items (names_of found.0) ((place, all.0.0) ∷ found.0)
              (more_read places seen place argument items parts.1.0 all.0.0
              (names_of found.0) found.0 parts.1.2 parts.0 all.0.1 all.0.2 found.2),
        )

    from_waits : (name : Text) (places : List Text) (k : Kind)
        → turn names (waits name) k places argument seen
        (λ stage ps known. pass names stage ps known rest) ≡ Some items
        → Spells (waits name) places seen (argument ∷ rest) items
    from_waits name places other e =
        let parts =
        keep_parts (is_among name seen) name argument (pass names ready places (name ∷ seen) rest) items e in
        let all = subst AreNumbers (sym parts.1.2) numbers in
        let found = next ready places (name ∷ seen) parts.1.0 all.1 parts.1.1 in (
          all.0.0,
          found.0,
          ap₂ (λ (w : Text) (ws : List Text). w ∷ ws) all.0.2 found.1,
          found.2,
          more_read places seen name argument items parts.1.0 all.0.0 (places_of found.0)
              (said found.0) parts.1.2 parts.0 all.0.1 all.0.2 found.3,
        )
    from_waits name places dashes e = absurd cc
    from_waits name places (whole option) e = absurd cc
    from_waits name places (joint option text) e = absurd cc
    from_waits name places flag e = absurd cc

    from_place : (places : List Text)
        → at_place places argument seen (λ ps known. pass names ready ps known rest) ≡ Some items
        → Spells ready places seen (argument ∷ rest) items
    from_place [] e = absurd cc
    from_place (place ∷ places) e =
        let parts =
        keep_parts (is_among place seen) place argument (pass names ready places (place ∷ seen) rest) items e in
        let all = subst AreNumbers (sym parts.1.2) numbers in
        let found = next ready places (place ∷ seen) parts.1.0 all.1 parts.1.1 in (
          record found.0 { parts = placed place all.0.0 ∷ found.0.parts },
          ap₂ (λ (w : Text) (ws : List Text). w ∷ ws) all.0.2 found.1,
          found.2,
          place_read place places seen items (places_of found.0) ((place, all.0.0) ∷ said found.0)
              (more_read places seen place argument items parts.1.0 all.0.0 (places_of found.0)
              (said found.0) parts.1.2 parts.0 all.0.1 all.0.2 found.3),
        )

    from_ready : (places : List Text) (k : Kind) → Looks k argument
        → turn names ready k places argument seen
        (λ stage ps known. pass names stage ps known rest) ≡ Some items
        → Spells ready places seen (argument ∷ rest) items
    from_ready places dashes look e =
        let found = next behind places seen items numbers e in (
          record { parts = []; behind = Some found.0 },
          ap₂ (λ (w : Text) (ws : List Text). w ∷ ws) look found.1,
          refl,
          found.2,
        )
    from_ready places (whole name) look e =
        let known = known_parts (is_among name names) (pass names (waits name) places seen rest) items e in
        let found = next (waits name) places seen items numbers known.1 in (
          record found.1 { parts = spaced name found.0 ∷ found.1.parts },
          ap₂ (λ (w : Text) (ws : List Text). w ∷ ws) look found.2,
          and_from (is_among name names) _ known.0 found.3,
          found.4,
        )
    from_ready places (joint name text) look e =
        let known =
        known_parts (is_among name names)
        (keep_by (is_among name seen) name text (pass names ready places (name ∷ seen) rest)) items e in
        let parts =
        keep_parts (is_among name seen) name text (pass names ready places (name ∷ seen) rest) items known.1 in
        let all = subst AreNumbers (sym parts.1.2) numbers in
        let found = next ready places (name ∷ seen) parts.1.0 all.1 parts.1.1 in (
          record found.0 { parts = joined name all.0.0 ∷ found.0.parts },
          ap₂ (λ (w : Text) (ws : List Text). w ∷ ws)
              (look ∙ ap (λ (t : Text). dashed name ++ (codes "=" ++ t)) all.0.2) found.1,
          and_from (is_among name names) _ known.0 found.2,
          more_read places seen name text items parts.1.0 all.0.0 (places_of found.0)
              (said found.0) parts.1.2 parts.0 all.0.1 all.0.2 found.3,
        )
    from_ready places flag look e = absurd cc
    from_ready places other look e = from_place places e

  steps : (argument : Text) (rest : List Text) → Sound rest → Sound (argument ∷ rest)
  unfolding pass
  steps argument rest next ready places seen items numbers e =
      from_ready argument rest next seen items numbers places (kind_of argument) (looks argument) e
  steps argument rest next (waits name) places seen items numbers e =
      from_waits argument rest next seen items numbers name places (kind_of argument) e
  steps argument rest next behind places seen items numbers e =
      from_behind argument rest next seen items numbers places e

  sound : (arguments : List Text) → Sound arguments
  sound [] = ends
  sound (argument ∷ rest) = steps argument rest (sound rest)

  pub arguments_spell : (arguments places seen : List Text) (items : Items) → AreNumbers items
      → pass names ready places seen arguments ≡ Some items
      → (line : Line) × (arguments ≡ spelled line) × IsRight line.parts
      × IsRead places seen items (places_of line) (said line)
  arguments_spell arguments places seen items numbers e = sound arguments ready places seen items numbers e
