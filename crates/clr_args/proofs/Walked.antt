-- What clap's walk over the arguments behind a command's name comes to is what the pass says.
use Rattle.std.specs.Prelude.{◌≡◌, ◌≢◌, ◌++◌, ◌+◌, ◌&&◌, ◌||◌, ℕ, Bool, true, false, List, [], ◌∷◌, Option, Some, None}
use Rattle.std.specs.Prelude.{fold, min, if◌then◌else◌, nat_lt, option_map}
use Rattle.std.proofs.Common.{refl, sym, ap, ◌∙◌, subst}
use Rattle.std.proofs.lemmas.List.{append-nil, append_assoc}
use Rattle.std.proofs.lemmas.Slice.Eq.{bytes_eq-Decides}
use Rattle.std.specs.Str.{bytes_eq}
use Rattle.std.specs.Option.{option_map_or}
use Rattle.clap.specs.Lexer.{usize_max}
use Rattle.clap.specs.Walk.{Held, Row, Rule, Text, Waiting, Walk, arg_by_index, arg_by_long, has_row, idle, option}
use Rattle.clap.specs.Walk.{value, walked, settled_rows, to_positional, after_flag, after_step, long_met}
use Rattle.clap.specs.Walk.{is_pending, pushed, settled, option_word}
use Rattle.clap.specs.Kinds.{Kinds, or_else}
use Rattle.clap.specs.Faults.{long_fault, settle_fault, step_fault, turn_fault, walk_fault, positional_fault}
use Rattle.clap.specs.declared.error.kind.ErrorKind.TheVariants as kind
use Rattle.clr_args.specs.Grammar.{is_among}
use Rattle.clr_args.proofs.Pass.{Items, Kind, Stage, dashes, whole, joint, flag, other, ready, waits, behind, at_place}
use Rattle.clr_args.proofs.Pass.{if_known, keep_by, kind_of, pass, turn}
use Rattle.clr_args.proofs.Turns.{fault_by, held, leaf, none_met, turn_is, walk_by, walk_from, walked_is}
use Rattle.clr_args.proofs.Rules.{AreRules, AreSeen, HavePlaces, IsClean, built_option, built_place, clean_pending}
use Rattle.clr_args.proofs.Rules.{first_faults, rows_at, rows_more, seen_more, some_kind, unclean_pending, first_use}
use Rattle.clr_args.proofs.Rules.{second_use}
use Rattle.clap.specs.Walk.{used, next as next_step}
use Rattle.clap.specs.Faults.{use_fault}

abbrev pub last : List Rule → Walk → List Text → Held
last c w arguments = (fold (walked c []) w arguments).held

-- the walk has no fault, and leaves these rows; or it has one
pub record IsTaken (command : Text) (c : List Rule) (w : Walk) (arguments : List Text) (items : Items) : Type 0 where
  pub walks : walk_fault (leaf command c) [] w arguments ≡ []
  pub settles : settle_fault c false (last c w arguments) ≡ []
  pub rows_are : (settled c (last c w arguments)).rows ≡ rows_at items

abbrev pub ComesTo : Text → List Rule → Walk → List Text → Items → Option Items → Type 0
ComesTo command c w arguments before None =
    or_else (walk_fault (leaf command c) [] w arguments) (settle_fault c false (last c w arguments)) ≢ []
ComesTo command c w arguments before (Some items) = IsTaken command c w arguments (before ++ items)

module _ (command : Text) (c : List Rule) where
  -- an argument without a fault leads the walk on
  step_on : (w after : Walk) (argument : Text) (rest : List Text) (before : Items) (o : Option Items)
      → turn_fault (leaf command c) [] w argument ≡ [] → walked c [] w argument ≡ after
      → ComesTo command c after rest before o
      → ComesTo command c w (argument ∷ rest) before o
  unfolding walk_fault
  step_on w after argument rest before None turned is next =
      λ e. next (sym
      (ap (λ t. or_else (or_else t (walk_fault (leaf command c) [] (walked c [] w argument) rest))
      (settle_fault c false (last c (walked c [] w argument) rest))) turned
      ∙ ap (λ v. or_else (walk_fault (leaf command c) [] v rest) (settle_fault c false (last c v rest))) is) ∙ e)
  step_on w after argument rest before (Some items) turned is next = record {
    walks = ap (λ t. or_else t (walk_fault (leaf command c) [] (walked c [] w argument) rest)) turned
        ∙ (ap (λ v. walk_fault (leaf command c) [] v rest) is ∙ next.walks);
    settles = ap (λ v. settle_fault c false (last c v rest)) is ∙ next.settles;
    rows_are = ap (λ v. (settled c (last c v rest)).rows) is ∙ next.rows_are;
  }

  -- an argument with a fault ends it
  step_off : (w : Walk) (argument : Text) (rest : List Text) (before : Items)
      → turn_fault (leaf command c) [] w argument ≢ []
      → ComesTo command c w (argument ∷ rest) before None
  unfolding walk_fault
  step_off w argument rest before faults =
      first_faults _ _ (first_faults (turn_fault (leaf command c) [] w argument) _ faults)

  -- ---- an argument for a place

  plain_pending : (same : Bool) (x : Kinds) → (if same && false then [] else x) ≡ x
  plain_pending true x = refl
  plain_pending false x = refl

  place_fault : (places : List Text) (position : ℕ) (h : Held) → HavePlaces c position places
      → settle_fault c false h ≢ []
      → step_fault (leaf command c) position h value ≢ []
  place_fault [] position h have faults e =
      some_kind kind.UnknownArgument []
      (sym (ap (λ o. option_map_or (λ a. positional_fault c false a h) o (kind.UnknownArgument ∷ [])) have) ∙ e)
  place_fault (place ∷ places) position h have faults e =
      faults (sym (ap (λ o. option_map_or (λ a. positional_fault c false a h) o (kind.UnknownArgument ∷ [])) have.0
      ∙ plain_pending (is_pending (built_place position place) h.pending) (settle_fault c false h)) ∙ e)

  no_place : (position : ℕ) (h : Held) → HavePlaces c position [] → step_fault (leaf command c) position h value ≢ []
  no_place position h have e =
      some_kind kind.UnknownArgument []
      (sym (ap (λ o. option_map_or (λ a. positional_fault c false a h) o (kind.UnknownArgument ∷ [])) have) ∙ e)

  place_passes : (place : Text) (places : List Text) (position : ℕ) (h : Held) → HavePlaces c position (place ∷ places)
      → settle_fault c false h ≡ []
      → step_fault (leaf command c) position h value ≡ []
  place_passes place places position h have settles =
      ap (λ o. option_map_or (λ a. positional_fault c false a h) o (kind.UnknownArgument ∷ [])) have.0
      ∙ (plain_pending (is_pending (built_place position place) h.pending) (settle_fault c false h) ∙ settles)

  -- the walk then
  placed : (is_trailing : Bool) (place : Text) (places : List Text) (position : ℕ) (rows : List Row)
      (pending : Option (Text × List Text)) (argument : Text) (items : Items)
      → HavePlaces c position (place ∷ places) → settled_rows c pending rows ≡ rows_at items
      → to_positional c (arg_by_index c position) argument (walk_from is_trailing idle position (held rows pending))
      (held rows pending)
      ≡ walk_from is_trailing idle (min (position + 1) usize_max) (held (rows_at items) (Some (place, argument ∷ [])))
  placed is_trailing place places position rows pending argument items have are =
      ap (λ o. to_positional c o argument (walk_from is_trailing idle position (held rows pending)) (held rows pending))
      have.0
      ∙ (ap (λ t. record {
        held = pushed place argument
            (if is_pending (built_place position place) pending && false then held rows pending else settled c
            (held rows pending));
        waiting = idle;
        position = min (position + 1) usize_max;
        is_trailing = t;
        stopped =
            None;
      }) (stays is_trailing)
      ∙ (ap (λ h. walk_from is_trailing idle (min (position + 1) usize_max) (pushed place argument h))
      (settles (is_pending (built_place position place) pending))
      ∙ ap (λ r. walk_from is_trailing idle (min (position + 1) usize_max) (held r (Some (place, argument ∷ [])))) are))
    where
      stays : (b : Bool) → (b || false) ≡ b
      stays true = refl
      stays false = refl

      settles : (same : Bool)
          → (if same && false then held rows pending else settled c (held rows pending)) ≡ settled c (held rows pending)
      settles true = refl
      settles false = refl

  -- ---- what is pending faults, and so the walk ends by a fault

  lost_behind : (arguments : List Text) (places : List Text) (waiting : Waiting) (position : ℕ)
      (h : Held) (before : Items)
      → HavePlaces c position places
      → settle_fault c false h ≢ [] → ComesTo command c (walk_from true waiting position h) arguments before None
  unfolding walk_fault
  lost_behind [] places waiting position h before have faults = faults
  lost_behind (argument ∷ rest) places waiting position h before have faults =
      step_off (walk_from true waiting position h) argument rest before (place_fault places position h have faults)

  module _ (names : List Text) (rules : AreRules names c) where
    -- an option settles what is pending first
    option_fault_first : (name : Text) (text : Option Text) (h : Held) → settle_fault c false h ≢ []
        → long_fault c false (arg_by_long c name) text h ≢ []
    option_fault_first name text h faults = go (is_among name names) refl text
      where
        go : (known : Bool) → is_among name names ≡ known → (text : Option Text)
            → long_fault c false (arg_by_long c name) text h ≢ []
        go false isnt text e =
            some_kind kind.UnknownArgument []
            (sym (ap (λ o. long_fault c false o text h) (rules.unknown name isnt)) ∙ e)
        go true known None e = faults (sym (ap (λ o. long_fault c false o None h) (rules.by_long name known)) ∙ e)
        go true known (Some t) e =
            first_faults (settle_fault c false h) _ faults
            (sym (ap (λ o. long_fault c false o (Some t) h) (rules.by_long name known)) ∙ e)

    lost_ready : (arguments : List Text) (places : List Text) (position : ℕ) (rows : List Row)
        (pending : Option (Text × List Text)) (before : Items)
        → HavePlaces c position places → settle_fault c false (held rows pending) ≢ []
        → ComesTo command c (walk_from false idle position (held rows pending)) arguments before None
    unfolding walk_fault
    lost_ready [] places position rows pending before have faults = faults
    lost_ready (argument ∷ rest) places position rows pending before have faults = go (kind_of argument) refl
      where
        h : Held
        h = held rows pending

        off : fault_by command true c idle position (held rows pending) argument (kind_of argument) ≢ []
            → ComesTo command c (walk_from false idle position (held rows pending)) (argument ∷ rest) before None
        off some = step_off (walk_from false idle position (held rows pending)) argument rest before
            (λ e. some (sym
            (turn_is command true c [] rules.no_short idle position rows pending argument
            (none_met idle argument)) ∙ e))

        by_kind : (k : Kind) → kind_of argument ≡ k
            → fault_by command true c idle position (held rows pending) argument k ≢ []
            → ComesTo command c (walk_from false idle position (held rows pending)) (argument ∷ rest) before None
        by_kind k is some =
            off (λ e. some (sym (ap (fault_by command true c idle position (held rows pending) argument) is) ∙ e))

        go : (k : Kind) → kind_of argument ≡ k
            → ComesTo command c (walk_from false idle position (held rows pending)) (argument ∷ rest) before None
        go dashes is =
            step_on (walk_from false idle position (held rows pending))
            (walk_from true idle position (held rows pending)) argument rest before None
            (turn_is command true c [] rules.no_short idle position rows pending argument (none_met idle argument)
            ∙ ap (fault_by command true c idle position (held rows pending) argument) is)
            (walked_is command true c [] rules.no_short idle position rows pending argument (none_met idle argument)
            (λ f. is_no_flag (sym is ∙ f)) ∙ ap (walk_by c idle position (held rows pending) argument) is)
            (lost_behind rest places idle position (held rows pending) before have faults)
          where
            is_no_flag : dashes ≡ flag → ⊥
            is_no_flag e = absurd cc
        go (whole name) is =
            by_kind (whole name) is
            (first_faults (long_fault c false (arg_by_long c name) None (held rows pending)) _
            (option_fault_first name None (held rows pending) faults))
        go (joint name text) is =
            by_kind (joint name text) is
            (first_faults (long_fault c false (arg_by_long c name) (Some text) (held rows pending)) _
            (option_fault_first name (Some text) (held rows pending) faults))
        go flag is = by_kind flag is (some_kind kind.UnknownArgument [])
        go other is = by_kind other is (place_fault places position (held rows pending) have faults)

    -- ---- the walk from each stage

    abbrev walk_in : Stage → ℕ → List Row → Option (Text × List Text) → Items → Walk
    walk_in ready position rows pending items = walk_from false idle position (held rows pending)
    walk_in (waits name) position rows pending items =
        walk_from false (option name) position (held (rows_at items) (Some (name, [])))
    walk_in behind position rows pending items = walk_from true idle position (held rows pending)

    abbrev Stands : Stage → List Row → Option (Text × List Text) → Items → Type 0
    Stands ready rows pending items = IsClean c rows pending items
    Stands (waits name) rows pending items = is_among name names ≡ true
    Stands behind rows pending items = IsClean c rows pending items

    abbrev Continues : List Text → Type 0
    Continues arguments =
        (stage : Stage) (places seen : List Text) (position : ℕ) (rows : List Row) (pending : Option (Text × List Text))
        (items : Items)
        → Stands stage rows pending items → HavePlaces c position places → AreSeen seen items
        → ComesTo command c (walk_in stage position rows pending items) arguments items
        (pass names stage places seen arguments)

    shift : (w : Walk) (arguments : List Text) (items : Items) (x : Text × Text) (o : Option Items)
        → ComesTo command c w arguments (items ++ x ∷ []) o
        → ComesTo command c w arguments items (option_map (λ more. x ∷ more) o)
    shift w arguments items x None comes = comes
    shift w arguments items x (Some more) comes =
        subst (IsTaken command c w arguments) (append_assoc items (x ∷ []) more) comes

    kept : (w : Walk) (arguments : List Text) (items : Items) (name text : Text) (o : Option Items) (is_seen : Bool)
        → (is_seen ≡ true → ComesTo command c w arguments items None)
        → (is_seen ≡ false → ComesTo command c w arguments (items ++ (name, text) ∷ []) o)
        → ComesTo command c w arguments items (keep_by is_seen name text o)
    kept w arguments items name text o true again once = again refl
    kept w arguments items name text o false again once = shift w arguments items (name, text) o (once refl)

    -- an argument for a place, where nothing waits or behind `--`
    module _ (argument : Text) (rest : List Text) (next : Continues rest) where
      abbrev stage_at : Bool → Stage
      stage_at is_trailing = if is_trailing then behind else ready

      lost : (is_trailing : Bool) (places : List Text) (position : ℕ) (rows : List Row)
          (pending : Option (Text × List Text)) (before : Items)
          → HavePlaces c position places → settle_fault c false (held rows pending) ≢ []
          → ComesTo command c (walk_from is_trailing idle position (held rows pending)) rest before None
      lost true places position rows pending before have faults =
          lost_behind rest places idle position (held rows pending) before have faults
      lost false places position rows pending before have faults =
          lost_ready rest places position rows pending before have faults

      goes_on : (is_trailing : Bool) (places seen : List Text) (position : ℕ) (rows : List Row)
          (pending : Option (Text × List Text)) (items : Items)
          → IsClean c rows pending items → HavePlaces c position places → AreSeen seen items
          → ComesTo command c (walk_from is_trailing idle position (held rows pending)) rest items
          (pass names (stage_at is_trailing) places seen rest)
      goes_on true places seen position rows pending items = next behind places seen position rows pending items
      goes_on false places seen position rows pending items = next ready places seen position rows pending items

      placing : (is_trailing : Bool) (places seen : List Text) (position : ℕ) (rows : List Row)
          (pending : Option (Text × List Text)) (items : Items)
          → IsClean c rows pending items → HavePlaces c position places → AreSeen seen items
          → turn_fault (leaf command c) [] (walk_from is_trailing idle position (held rows pending)) argument
          ≡ step_fault
          (leaf command c) position (held rows pending) value
          → walked c [] (walk_from is_trailing idle position (held rows pending)) argument
          ≡ to_positional c (arg_by_index c position) argument (walk_from is_trailing idle position (held rows pending))
          (held rows pending)
          → ComesTo command c (walk_from is_trailing idle position (held rows pending)) (argument ∷ rest) items
          (at_place places argument seen (λ places seen. pass names (stage_at is_trailing) places seen rest))
      placing is_trailing [] seen position rows pending items clean have are turned walks =
          step_off (walk_from is_trailing idle position (held rows pending)) argument rest items
          (λ e. no_place position (held rows pending) have (sym turned ∙ e))
      placing is_trailing (place ∷ places) seen position rows pending items clean have are turned walks =
          let w = walk_from is_trailing idle position (held rows pending) in
          let after =
          walk_from is_trailing idle (min (position + 1) usize_max) (held (rows_at items)
          (Some (place, argument ∷ []))) in
          let passes = turned ∙ place_passes place places position (held rows pending) have clean.settles in
          let leads = walks ∙ placed is_trailing place places position rows pending argument
          items have clean.rows_are in
          kept w (argument ∷ rest) items place argument (pass names (stage_at is_trailing) places (place ∷ seen) rest)
          (is_among place seen)
          (λ again. step_on w after argument rest items None passes leads
          (lost is_trailing places (min (position + 1) usize_max) (rows_at items) (Some (place, argument ∷ []))
          items have.2
          (unclean_pending None (Some position) true c place argument items have.1 (are place ∙ again))))
          (λ once. step_on w after argument rest (items ++ (place, argument) ∷ [])
          (pass names (stage_at is_trailing) places (place ∷ seen) rest) passes leads
          (goes_on is_trailing places (place ∷ seen) (min (position + 1) usize_max) (rows_at items)
          (Some (place, argument ∷ [])) (items ++ (place, argument) ∷ [])
          (clean_pending None (Some position) true c place argument items have.1 (are place ∙ once)) have.2
          (seen_more seen items place argument are)))

      -- ---- behind `--`

      from_behind : (places seen : List Text) (position : ℕ) (rows : List Row) (pending : Option (Text × List Text))
          (items : Items)
          → IsClean c rows pending items → HavePlaces c position places → AreSeen seen items
          → ComesTo command c (walk_from true idle position (held rows pending)) (argument ∷ rest) items
          (pass names behind places seen (argument ∷ rest))
      unfolding pass walked
      from_behind places seen position rows pending items clean have are =
          placing true places seen position rows pending items clean have are refl refl

      -- ---- where nothing waits

      module _ (places seen : List Text) (position : ℕ) (rows : List Row) (pending : Option (Text × List Text))
          (items : Items)
          (clean : IsClean c rows pending items) (have : HavePlaces c position places) (are : AreSeen seen items) where
        abbrev h : Held
        h = held rows pending

        abbrev w : Walk
        w = walk_from false idle position (held rows pending)

        turned_as : (k : Kind) → kind_of argument ≡ k
            → turn_fault (leaf command c) [] w argument ≡ fault_by command true c idle position h argument k
        turned_as k is =
            turn_is command true c [] rules.no_short idle position rows pending argument (none_met idle argument)
            ∙ ap (fault_by command true c idle position h argument) is

        leads_as : (k : Kind) → kind_of argument ≡ k → (k ≡ flag → ⊥)
            → walked c [] w argument ≡ walk_by c idle position h argument k
        leads_as k is no_flag =
            walked_is command true c [] rules.no_short idle position rows pending argument (none_met idle argument)
            (λ f. no_flag (sym is ∙ f)) ∙ ap (walk_by c idle position h argument) is

        off_as : (k : Kind) → kind_of argument ≡ k → fault_by command true c idle position h argument k ≢ []
            → ComesTo command c w (argument ∷ rest) items None
        off_as k is some = step_off w argument rest items (λ e. some (sym (turned_as k is) ∙ e))

        abbrev Goes : Option Items → Type 0
        Goes o = ComesTo command c w (argument ∷ rest) items o

        abbrev long_turn : Option Text → Option Rule → Kinds
        long_turn text found = or_else (long_fault c false found text h)
            (step_fault (leaf command c) position
            (after_flag c idle argument (long_met c found text h).0 (long_met c found text h).1).0
            (after_flag c idle argument (long_met c found text h).0 (long_met c found text h).1).1)

        abbrev long_walk : Option Text → Option Rule → Walk
        long_walk text found =
            after_step c argument w (after_flag c idle argument (long_met c found text h).0
            (long_met c found text h).1).0
            (after_flag c idle argument (long_met c found text h).0 (long_met c found text h).1).1

        unknown_whole : (name : Text) → kind_of argument ≡ whole name → is_among name names ≡ false → Goes None
        unknown_whole name is isnt =
            off_as (whole name) is
            (λ e. some_kind kind.UnknownArgument [] (sym (ap (long_turn None) (rules.unknown name isnt)) ∙ e))

        unknown_joint : (name text : Text) → kind_of argument ≡ joint name text → is_among name names ≡ false
            → Goes None
        unknown_joint name text is isnt =
            off_as (joint name text) is
            (λ e. some_kind kind.UnknownArgument []
            (sym (ap (long_turn (Some text)) (rules.unknown name isnt)) ∙ e))

        known_whole : (name : Text) → kind_of argument ≡ whole name → is_among name names ≡ true
            → Goes (pass names (waits name) places seen rest)
        known_whole name is known =
            step_on w (walk_from false (option name) position (held (rows_at items) (Some (name, []))))
            argument rest items
            (pass names (waits name) places seen rest)
            (turned_as (whole name) is
            ∙ (ap (long_turn None) (rules.by_long name known) ∙ ap (λ k. or_else k []) clean.settles))
            (leads_as (whole name) is no_flag ∙ (ap (long_walk None) (rules.by_long name known)
            ∙ ap (λ r. walk_from false (option name) position (held r (Some (name, [])))) clean.rows_are))
            (next (waits name) places seen position rows pending items known have are)
          where
            no_flag : whole name ≡ flag → ⊥
            no_flag e = absurd cc

        known_joint : (name text : Text) → kind_of argument ≡ joint name text → is_among name names ≡ true
            → Goes (keep_by (is_among name seen) name text (pass names ready places (name ∷ seen) rest))
        known_joint name text is known =
            kept w (argument ∷ rest) items name text (pass names ready places (name ∷ seen) rest) (is_among name seen)
            (λ again. off_as (joint name text) is
            (λ e. fails (are name ∙ again) (sym (ap (long_turn (Some text)) (rules.by_long name known)) ∙ e)))
            (λ once. step_on w
            (walk_from false idle position (held (rows_at (items ++ (name, text) ∷ [])) None)) argument rest
            (items ++ (name, text) ∷ [])
            (pass names ready places (name ∷ seen) rest)
            (turned_as (joint name text) is ∙ (ap (long_turn (Some text)) (rules.by_long name known)
            ∙ (ap (λ k. or_else
            (or_else k (use_fault false (built_option name) (text ∷ []) (settled_rows c pending rows))) [])
            clean.settles
            ∙ (ap (λ r. or_else (use_fault false (built_option name) (text ∷ []) r) []) clean.rows_are
            ∙ ap (λ k. or_else k []) (first_use (Some name) None false name text (rows_at items) (are name ∙ once))))))
            (leads_as (joint name text) is no_flag ∙ (ap (long_walk (Some text)) (rules.by_long name known)
            ∙ (ap (λ r. walk_from false idle position (held (used (built_option name) (text ∷ []) r) None))
            clean.rows_are
            ∙ ap (λ r. walk_from false idle position (held r None)) (rows_more name text items (are name ∙ once)))))
            (next ready places (name ∷ seen) position (rows_at (items ++ (name, text) ∷ [])) None
            (items ++ (name, text) ∷ [])
            (record { settles = refl; rows_are = refl }) have (seen_more seen items name text are)))
          where
            no_flag : joint name text ≡ flag → ⊥
            no_flag e = absurd cc

            fails : has_row name (rows_at items) ≡ true → long_turn (Some text) (Some (built_option name)) ≢ []
            fails there =
                first_faults (or_else (settle_fault c false h)
                (use_fault false (built_option name) (text ∷ []) (settled_rows c pending rows))) _
                (λ e. second_use (Some name) None false name text (rows_at items) there
                (ap (use_fault false (built_option name) (text ∷ [])) (sym clean.rows_are)
                ∙ (sym (ap (λ k. or_else k
                (use_fault false (built_option name) (text ∷ []) (settled_rows c pending rows))) clean.settles)
                ∙ e)))

        from_ready : ComesTo command c w (argument ∷ rest) items (pass names ready places seen (argument ∷ rest))
        unfolding pass
        from_ready = go (kind_of argument) refl
          where
            if_whole : (name : Text) → kind_of argument ≡ whole name → (known : Bool) → is_among name names ≡ known
                → Goes (if_known known (pass names (waits name) places seen rest))
            if_whole name is true known = known_whole name is known
            if_whole name is false isnt = unknown_whole name is isnt

            if_joint : (name text : Text) → kind_of argument ≡ joint name text → (known : Bool)
                → is_among name names ≡ known
                → Goes (if_known known
                (keep_by (is_among name seen) name text (pass names ready places (name ∷ seen) rest)))
            if_joint name text is true known = known_joint name text is known
            if_joint name text is false isnt = unknown_joint name text is isnt

            go : (k : Kind) → kind_of argument ≡ k
                → Goes (turn names ready k places argument seen
                (λ stage places seen. pass names stage places seen rest))
            go dashes is =
                step_on w (walk_from true idle position h) argument rest items (pass names behind places seen rest)
                (turned_as dashes is) (leads_as dashes is no_flag)
                (next behind places seen position rows pending items clean have are)
              where
                no_flag : dashes ≡ flag → ⊥
                no_flag e = absurd cc
            go (whole name) is = if_whole name is (is_among name names) refl
            go (joint name text) is = if_joint name text is (is_among name names) refl
            go flag is = off_as flag is (some_kind kind.UnknownArgument [])
            go other is =
                placing false places seen position rows pending items clean have are (turned_as other is)
                (leads_as other is no_flag)
              where
                no_flag : other ≡ flag → ⊥
                no_flag e = absurd cc

      -- ---- where an option waits for its text

      module _ (name : Text) (places seen : List Text) (position : ℕ) (items : Items)
          (known : is_among name names ≡ true)
          (have : HavePlaces c position places) (are : AreSeen seen items) where
        abbrev waiting_held : Held
        waiting_held = held (rows_at items) (Some (name, []))

        abbrev waiting_walk : Walk
        waiting_walk = walk_from false (option name) position (held (rows_at items) (Some (name, [])))

        textless : settle_fault c false waiting_held ≢ []
        textless e = some_kind kind.InvalidValue []
            (sym (ap (λ o. option_map_or (λ a. use_fault false a [] (rows_at items)) o []) (rules.by_id name known))
            ∙ e)

        waiting_turned : (k : Kind) → kind_of argument ≡ k
            → turn_fault (leaf command c) [] waiting_walk argument ≡ fault_by command true c
            (option name) position waiting_held argument k
        waiting_turned k is =
            turn_is command true c [] rules.no_short (option name) position (rows_at items) (Some (name, [])) argument
            (none_met (option name) argument)
            ∙ ap (fault_by command true c (option name) position waiting_held argument) is

        waiting_leads : (k : Kind) → kind_of argument ≡ k → (k ≡ flag → ⊥)
            → walked c [] waiting_walk argument ≡ walk_by c (option name) position waiting_held argument k
        waiting_leads k is no_flag =
            walked_is command true c [] rules.no_short (option name) position (rows_at items) (Some (name, [])) argument
            (none_met (option name) argument) (λ f. no_flag (sym is ∙ f))
            ∙ ap (walk_by c (option name) position waiting_held argument) is

        waiting_off : (k : Kind) → kind_of argument ≡ k
            → fault_by command true c (option name) position waiting_held argument k ≢ []
            → ComesTo command c waiting_walk (argument ∷ rest) items None
        waiting_off k is some = step_off waiting_walk argument rest items (λ e. some (sym (waiting_turned k is) ∙ e))

        same : bytes_eq name name ≡ true
        same = (bytes_eq-Decides name name).1 refl

        takes_text : kind_of argument ≡ other
            → walked c [] waiting_walk argument ≡ walk_from false idle position
            (held (rows_at items) (Some (name, argument ∷ [])))
        takes_text is = waiting_leads other is no_flag
            ∙ (ap (λ o. after_step c argument waiting_walk (option_word o name argument waiting_held).0
            (next_step (option_word o name argument waiting_held).1)) (rules.by_id name known)
            ∙ ap (λ b. walk_from false (if nat_lt (if b then 1 else 0) 1 then option name else idle) position
            (held (rows_at items) (Some (name, argument ∷ [])))) same)
          where
            no_flag : other ≡ flag → ⊥
            no_flag e = absurd cc

        from_waits : ComesTo command c waiting_walk (argument ∷ rest) items
            (pass names (waits name) places seen (argument ∷ rest))
        unfolding pass
        from_waits = go (kind_of argument) refl
          where
            go : (k : Kind) → kind_of argument ≡ k
                → ComesTo command c waiting_walk (argument ∷ rest) items
                (turn names (waits name) k places argument seen
                (λ stage places seen. pass names stage places seen rest))
            go dashes is =
                step_on waiting_walk (walk_from true (option name) position waiting_held) argument rest items None
                (waiting_turned dashes is) (waiting_leads dashes is no_flag)
                (lost_behind rest places (option name) position waiting_held items have textless)
              where
                no_flag : dashes ≡ flag → ⊥
                no_flag e = absurd cc
            go (whole other_name) is = waiting_off (whole other_name) is
                (first_faults (long_fault c false (arg_by_long c other_name) None waiting_held) _
                (option_fault_first other_name None waiting_held textless))
            go (joint other_name text) is = waiting_off (joint other_name text) is
                (first_faults (long_fault c false (arg_by_long c other_name) (Some text) waiting_held) _
                (option_fault_first other_name (Some text) waiting_held textless))
            go flag is = waiting_off flag is (some_kind kind.UnknownArgument [])
            go other is =
                kept waiting_walk (argument ∷ rest) items name argument (pass names ready places (name ∷ seen) rest)
                (is_among name seen)
                (λ again. step_on waiting_walk
                (walk_from false idle position (held (rows_at items) (Some (name, argument ∷ []))))
                argument rest items None
                (waiting_turned other is) (takes_text is)
                (lost_ready rest places position (rows_at items) (Some (name, argument ∷ [])) items have
                (unclean_pending (Some name) None false c name argument items (rules.by_id name known)
                (are name ∙ again))))
                (λ once. step_on waiting_walk
                (walk_from false idle position (held (rows_at items) (Some (name, argument ∷ [])))) argument rest
                (items ++ (name, argument) ∷ [])
                (pass names ready places (name ∷ seen) rest) (waiting_turned other is) (takes_text is)
                (next ready places (name ∷ seen) position (rows_at items) (Some (name, argument ∷ []))
                (items ++ (name, argument) ∷ [])
                (clean_pending (Some name) None false c name argument items (rules.by_id name known)
                (are name ∙ once)) have
                (seen_more seen items name argument are)))

      turns : Continues (argument ∷ rest)
      turns ready places seen position rows pending items clean have are =
          from_ready places seen position rows pending items clean have are
      turns (waits name) places seen position rows pending items known have are =
          from_waits name places seen position items known have are
      turns behind places seen position rows pending items clean have are =
          from_behind places seen position rows pending items clean have are

    ends : Continues []
    unfolding walk_fault pass
    ends ready places seen position rows pending items clean have are = record {
      walks = refl;
      settles = clean.settles;
      rows_are = clean.rows_are ∙ ap rows_at (sym (append-nil items));
    }
    ends (waits name) places seen position rows pending items known have are = textless_end
      where
        textless_end : settle_fault c false (held (rows_at items) (Some (name, []))) ≢ []
        textless_end e =
            some_kind kind.InvalidValue []
            (sym (ap (λ o. option_map_or (λ a. use_fault false a [] (rows_at items)) o []) (rules.by_id name known))
            ∙ e)
    ends behind places seen position rows pending items clean have are = record {
      walks = refl;
      settles = clean.settles;
      rows_are = clean.rows_are ∙ ap rows_at (sym (append-nil items));
    }

    continues : (arguments : List Text) → Continues arguments
    continues [] = ends
    continues (argument ∷ rest) = turns argument rest (continues rest)

    -- the walk over all arguments behind a command's name
    pub walk_comes : (arguments places : List Text) → HavePlaces c 1 places
        → ComesTo command c (walk_from false idle 1 (held [] None)) arguments [] (pass names ready places [] arguments)
    walk_comes arguments places have =
        continues arguments ready places [] 1 [] None [] (record { settles = refl; rows_are = refl }) have (λ id. refl)
