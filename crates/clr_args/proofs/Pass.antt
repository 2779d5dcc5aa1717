-- What a command's parser takes of the arguments behind the command's name, in one pass.
use Rattle.std.specs.Prelude.{ℕ, Bool, List, [], ◌∷◌, Option, Some, None, if◌then◌else◌, option_map, slice_get}
use Rattle.std.specs.Str.{bytes_eq, chars}
use Rattle.clap.specs.Lexer.{long_of, short_of}
use Rattle.clr_args.specs.Grammar.{Text, is_among}

-- what an argument looks like: `--`, an option's name alone or with a text, a flag, or anything else
pub data Kind : Type 0 where
  dashes : Kind
  whole : (name : Text) → Kind
  joint : (name text : Text) → Kind
  flag : Kind
  other : Kind

abbrev pub kind_of_long : Text → Option Text → Kind
kind_of_long name None = whole name
kind_of_long name (Some text) = joint name text

abbrev pub kind_of_first : Option ℕ → Kind
kind_of_first None = other
kind_of_first (Some x) = flag

abbrev pub kind_of_short : Option Text → Kind
kind_of_short None = other
kind_of_short (Some flags) = kind_of_first (slice_get (chars flags) 0)

abbrev pub kind_past : Option (Text × Option Text) → Option Text → Kind
kind_past (Some long) short = kind_of_long long.0 long.1
kind_past None short = kind_of_short short

abbrev pub kind_by : Bool → Option (Text × Option Text) → Option Text → Kind
kind_by is_dashes long short = if is_dashes then dashes else kind_past long short

abbrev pub kind_of : Text → Kind
kind_of argument = kind_by (bytes_eq argument (45 ∷ 45 ∷ [])) (long_of argument) (short_of argument)

-- between two arguments: nothing waits, an option waits for its text, or `--` was met
pub data Stage : Type 0 where
  ready : Stage
  waits : (name : Text) → Stage
  behind : Stage

abbrev pub Items : Type 0
Items = List (Text × Text)

-- a name is kept with its text, once
abbrev pub keep_by : Bool → Text → Text → Option Items → Option Items
keep_by is_seen name text rest = if is_seen then None else option_map (λ items. (name, text) ∷ items) rest

abbrev pub keep : Text → Text → List Text → (List Text → Option Items) → Option Items
keep name text seen next = keep_by (is_among name seen) name text (next (name ∷ seen))

abbrev pub at_place : List Text → Text → List Text → (List Text → List Text → Option Items) → Option Items
at_place [] text seen next = None
at_place (place ∷ places) text seen next = keep place text seen (next places)

abbrev pub Next : Type 0
Next = Stage → List Text → List Text → Option Items

abbrev pub if_known : Bool → Option Items → Option Items
if_known is_known items = if is_known then items else None

abbrev pub turn : List Text → Stage → Kind → List Text → Text → List Text → Next → Option Items
turn names ready dashes places argument seen next = next behind places seen
turn names ready (whole name) places argument seen next = if_known (is_among name names) (next (waits name) places seen)
turn names ready (joint name text) places argument seen next =
    if_known (is_among name names) (keep name text seen (next ready places))
turn names ready flag places argument seen next = None
turn names ready other places argument seen next = at_place places argument seen (next ready)
turn names (waits name) other places argument seen next = keep name argument seen (next ready places)
turn names (waits name) dashes places argument seen next = None
turn names (waits name) (whole option) places argument seen next = None
turn names (waits name) (joint option text) places argument seen next = None
turn names (waits name) flag places argument seen next = None
turn names behind kind places argument seen next = at_place places argument seen (next behind)

abbrev pub at_end : Stage → Option Items
at_end ready = Some []
at_end (waits name) = None
at_end behind = Some []

-- the texts of options and places, in order, where the arguments are taken
unfoldable pub pass : List Text → Stage → List Text → List Text → List Text → Option Items
pass names stage places seen [] = at_end stage
pass names stage places seen (argument ∷ rest) =
    turn names stage (kind_of argument) places argument seen (λ next places seen. pass names next places seen rest)
