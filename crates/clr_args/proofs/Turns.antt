-- What clap's walk makes of an argument, by the argument's kind.
use Rattle.std.specs.Prelude.{◌≡◌, ℕ, Bool, true, false, not, List, [], ◌∷◌, Option, Some, None, if◌then◌else◌, length}
use Rattle.std.specs.Prelude.{slice_get}
use Rattle.std.specs.Prelude.{encode_utf8, drop}
use Rattle.std.proofs.Common.{refl, ap, ◌∙◌}
use Rattle.std.specs.Str.{bytes_eq, chars}
use Rattle.clap.specs.Lexer.{long_of, short_of}
use Rattle.clap.specs.Walk.{Held, Row, Rule, Step, Text, Names, Waiting, Walk, idle, trailing, after_step, arg_by_long}
use Rattle.clap.specs.Walk.{arg_by_short, bundle_met, long_word, plain, plain_word, short_met}
use Rattle.clap.specs.Walk.{short_or_plain, walked, after_flag, bundle_step, done, long_or_other, option, positional}
use Rattle.clap.specs.Walk.{subcommand_met, subcommand_or_other}
use Rattle.std.specs.Option.{option_map_or}
use Rattle.clap.specs.Simple.{Shape, new_shape}
use Rattle.clap.specs.Kinds.{Kinds, or_else}
use Rattle.clap.specs.Faults.{bundle_fault, bundle_step_fault, flag_word_fault, flags_fault, long_fault, other_fault}
use Rattle.clap.specs.Faults.{short_fault, step_fault, turn_fault}
use Rattle.clap.specs.declared.error.kind.ErrorKind.TheVariants as kind
use Rattle.clr_args.proofs.Pass.{Kind, dashes, whole, joint, flag, other, kind_by, kind_of, kind_of_first}
use Rattle.clr_args.proofs.Pass.{kind_of_long, kind_of_short}

-- a command with these rules, once it is built: one without subcommands, or one that wants one
abbrev pub level : Text → Bool → List Rule → Shape
level name is_leaf rules = record (new_shape name) {
  rules = rules;
  is_leaf = is_leaf;
  subcommand_required = not is_leaf;
  no_binary_name = true;
  disable_help_flag = true;
  disable_help_subcommand = true;
  disable_version_flag = true;
  is_built = true;
}

abbrev pub leaf : Text → List Rule → Shape
leaf name rules = level name true rules

abbrev pub held : List Row → Option (Text × List Text) → Held
held rows pending = record { rows = rows; pending = pending; skip = 0 }

abbrev pub walk_from : Bool → Waiting → ℕ → Held → Walk
walk_from is_trailing waiting position h =
    record { held = h; waiting = waiting; position = position; is_trailing = is_trailing; stopped = None }

abbrev pub fault_by : Text → Bool → List Rule → Waiting → ℕ → Held → Text → Kind → Kinds
fault_by command is_leaf c waiting position h argument dashes = []
fault_by command is_leaf c waiting position h argument (whole name) =
    or_else (long_fault c false (arg_by_long c name) None h)
    (step_fault (level command is_leaf c) position (long_word c waiting argument name None h).0
    (long_word c waiting argument name None h).1)
fault_by command is_leaf c waiting position h argument (joint name text) =
    or_else (long_fault c false (arg_by_long c name) (Some text) h)
    (step_fault (level command is_leaf c) position (long_word c waiting argument name (Some text) h).0
    (long_word c waiting argument name (Some text) h).1)
fault_by command is_leaf c waiting position h argument flag = kind.UnknownArgument ∷ []
fault_by command is_leaf c waiting position h argument other =
    step_fault (level command is_leaf c) position (plain_word c waiting argument h).0
    (plain_word c waiting argument h).1

abbrev pub walk_by : List Rule → Waiting → ℕ → Held → Text → Kind → Walk
walk_by c waiting position h argument dashes = walk_from true waiting position h
walk_by c waiting position h argument (whole name) =
    after_step c argument (walk_from false waiting position h) (long_word c waiting argument name None h).0
    (long_word c waiting argument name None h).1
walk_by c waiting position h argument (joint name text) =
    after_step c argument (walk_from false waiting position h) (long_word c waiting argument name (Some text) h).0
    (long_word c waiting argument name (Some text) h).1
walk_by c waiting position h argument flag = walk_from false waiting position h
walk_by c waiting position h argument other =
    after_step c argument (walk_from false waiting position h) (plain_word c waiting argument h).0
    (plain_word c waiting argument h).1

pub none_met : (waiting : Waiting) (argument : Text) → subcommand_met [] waiting argument ≡ None
none_met idle argument = refl
none_met (option id) argument = refl
none_met positional argument = refl

module _ (command : Text) (is_leaf : Bool) (c : List Rule) (names : Names)
    (no_short : (x : ℕ) → arg_by_short c x ≡ None) (waiting : Waiting) (position : ℕ) (rows : List Row)
    (pending : Option (Text × List Text)) (argument : Text) (unmet : subcommand_met names waiting argument ≡ None) where
  abbrev h : Held
  h = held rows pending

  abbrev step_of : Held × Step → Kinds
  step_of met = step_fault (level command is_leaf c) position met.0 met.1

  -- the same as functions of what the argument looks like
  abbrev met_by : Bool → Option (Text × Option Text) → Option Text → Held × Step
  met_by true long short = (h, trailing position)
  met_by false (Some p) short = long_word c waiting argument p.0 p.1 h
  met_by false None short = short_or_plain c waiting argument short h

  abbrev argument_by : Bool → Option (Text × Option Text) → Option Text → Kinds
  argument_by true long short = []
  argument_by false (Some p) short = long_fault c false (arg_by_long c p.0) p.1 h
  argument_by false None short = option_map_or (λ flags. bundle_fault c false flags h) short []

  abbrev turn_by : Bool → Option (Text × Option Text) → Option Text → Kinds
  turn_by is_dashes long short = or_else (argument_by is_dashes long short) (step_of (met_by is_dashes long short))

  abbrev walk_of : Held × Step → Walk
  walk_of met = after_step c argument (walk_from false waiting position h) met.0 met.1

  by_long : (name : Text) (text : Option Text)
      → turn_by false (Some (name, text)) None ≡ fault_by command is_leaf c waiting position h argument
      (kind_of_long name text)
  by_long name None = refl
  by_long name (Some text) = refl

  by_first : (k : ℕ) (flags : Text) (first : Option ℕ)
      → or_else (bundle_step_fault c false first flags 0 h (flags_fault c false k))
      (step_of (after_flag c waiting argument (bundle_step c first flags 0 plain h (bundle_met c k)).0
      (bundle_step c first flags 0 plain h (bundle_met c k)).1))
      ≡ fault_by command is_leaf c waiting position h argument (kind_of_first first)
  by_first k flags None = refl
  by_first k flags (Some x) = let rest = drop (length (encode_utf8 x)) flags in
      ap (λ (found : Option Rule). or_else (short_fault c false found rest h (flags_fault c false k rest 0))
      (step_of (after_flag c waiting argument (short_met c found rest h (bundle_met c k rest 0 done)).0
      (short_met c found rest h (bundle_met c k rest 0 done)).1)))
      (no_short x)

  by_flags : (flags : Text)
      → turn_by false None (Some flags) ≡ fault_by command is_leaf c waiting position h argument
      (kind_of_short (Some flags))
  unfolding flags_fault bundle_met chars
  by_flags [] = refl
  by_flags (x ∷ xs) = by_first (length xs) (x ∷ xs) (slice_get (chars (x ∷ xs)) 0)

  by_looks : (is_dashes : Bool) (long : Option (Text × Option Text)) (short : Option Text)
      → turn_by is_dashes long short
      ≡ fault_by command is_leaf c waiting position h argument (kind_by is_dashes long short)
  by_looks true long short = refl
  by_looks false (Some p) short = by_long p.0 p.1
  by_looks false None None = refl
  by_looks false None (Some flags) = by_flags flags

  pub turn_is : turn_fault (level command is_leaf c) names (walk_from false waiting position h) argument
      ≡ fault_by command is_leaf c waiting position h argument (kind_of argument)
  turn_is = ap (λ met. or_else (other_fault (level command is_leaf c) met argument h)
      (step_of (subcommand_or_other c met waiting position argument h)))
      unmet ∙ (go (bytes_eq argument (45 ∷ 45 ∷ [])) (long_of argument)
      ∙ by_looks (bytes_eq argument (45 ∷ 45 ∷ [])) (long_of argument) (short_of argument))
    where
      go : (is_dashes : Bool) (long : Option (Text × Option Text))
          → or_else (if is_dashes then [] else flag_word_fault c false long argument h)
          (step_of (if is_dashes then (h, trailing position) else long_or_other c waiting argument long h)) ≡ turn_by
          is_dashes long (short_of argument)
      go true long = refl
      go false None = refl
      go false (Some p) = refl

  -- ---- where the walk stands then

  walk_by_first : (k : ℕ) (flags : Text) (first : Option ℕ) → (kind_of_first first ≡ flag → ⊥)
      → walk_of (after_flag c waiting argument (bundle_step c first flags 0 plain h (bundle_met c k)).0
      (bundle_step c first flags 0 plain h (bundle_met c k)).1)
      ≡ walk_by c waiting position h argument (kind_of_first first)
  walk_by_first k flags None no_flag = refl
  walk_by_first k flags (Some x) no_flag = absurd (no_flag refl)

  walk_by_flags : (flags : Text) → (kind_of_short (Some flags) ≡ flag → ⊥)
      → walk_of (met_by false None (Some flags)) ≡ walk_by c waiting position h argument (kind_of_short (Some flags))
  unfolding bundle_met chars
  walk_by_flags [] no_flag = refl
  walk_by_flags (x ∷ xs) no_flag = walk_by_first (length xs) (x ∷ xs) (slice_get (chars (x ∷ xs)) 0) no_flag

  walk_by_long : (name : Text) (text : Option Text)
      → walk_of (met_by false (Some (name, text)) None) ≡ walk_by c waiting position h argument (kind_of_long name text)
  walk_by_long name None = refl
  walk_by_long name (Some text) = refl

  walk_by_looks : (is_dashes : Bool) (long : Option (Text × Option Text)) (short : Option Text)
      → (kind_by is_dashes long short ≡ flag → ⊥)
      → walk_of (met_by is_dashes long short) ≡ walk_by c waiting position h argument (kind_by is_dashes long short)
  walk_by_looks true long short no_flag = refl
  walk_by_looks false (Some p) short no_flag = walk_by_long p.0 p.1
  walk_by_looks false None None no_flag = refl
  walk_by_looks false None (Some flags) no_flag = walk_by_flags flags no_flag

  pub walked_is : (kind_of argument ≡ flag → ⊥)
      → walked c names (walk_from false waiting position h) argument
      ≡ walk_by c waiting position h argument (kind_of argument)
  unfolding walked
  walked_is no_flag = ap (λ met. walk_of (subcommand_or_other c met waiting position argument h)) unmet
      ∙ (go (bytes_eq argument (45 ∷ 45 ∷ [])) (long_of argument)
      ∙ walk_by_looks (bytes_eq argument (45 ∷ 45 ∷ [])) (long_of argument) (short_of argument) no_flag)
    where
      go : (is_dashes : Bool) (long : Option (Text × Option Text))
          → walk_of (if is_dashes then (h, trailing position) else long_or_other c waiting argument long h) ≡ walk_of
          (met_by is_dashes long (short_of argument))
      go true long = refl
      go false None = refl
      go false (Some p) = refl
