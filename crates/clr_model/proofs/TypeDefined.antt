-- The line that defines a type: it keeps the machine lawful, and its picture shows it.
use Rattle.std.proofs.Common.{◌≡◌, ℕ, ◌+◌, ◌<◌, ◌≤◌, IsSome, IsTrue, true, false, List, [], ◌∷◌, ◌++◌, map, length}
use Rattle.std.proofs.Common.{refl, sym, ap, subst, ◌∙◌, arith, Option, Some, None, Bool, is_some, nat_le, not, IfSome}
use Rattle.std.proofs.Common.{length-append, inl, inr}
use Rattle.std.specs.List.{AllByRecursion}
use Rattle.std.specs.Prelude.{MatchOption}
use Rattle.std.proofs.lemmas.Bool.{lt-leb, le-leb}
use Rattle.clr_types.specs.Ranges.{Piece, by_place, fits}
use Rattle.clr_types.specs.Types.{TypeRow, Form, form_of_row, form_at, type_row, size_of, mt_of, number_with_free}
use Rattle.clr_types.specs.Types.{is_lawful_form, has_finalizer, is_array, is_array_with_references, slot_kinds}
use Rattle.clr_types.specs.Segments.{rest_pieces, rest_of, segment_of}
use Rattle.clr_types.specs.LawfulLayout.{IsTiled, DoesNotCross}
use Rattle.clr_types.specs.declared.segment.SegInfo.{SegInfo}
use Rattle.clr_types.specs.declared.segment.SegKind.{SegKind}
use Rattle.clr_types.specs.declared.segment.SegKind.TheVariants.{Small, Ephemeral, Large, Pinned}
use Rattle.clr_types.proofs.RisingLists.{all_at}
use Rattle.clr_types.proofs.TableRows.{AllByRecursion-push}
use Rattle.clr_types.proofs.ChangedLists.{all_imply}
use Rattle.clr_types.proofs.GrownTables.{type_row-grown, lawful-grown, distinct-grown}
use Rattle.clr_model.specs.declared.Refusal.{Refusal}
use Rattle.clr_model.specs.declared.Refusal.TheVariants.{DuplicateType, BadShape, TooManyTypes, NoMemory}
use Rattle.clr_model.specs.declared.Reply.TheVariants.{Mt}
use Rattle.clr_model.specs.Machine.{Object, ThreadStep, no_step, begun_store, begun_new, Machine}
use Rattle.clr_model.specs.Lookups.{object_size, object_piece, pieces, type_of_named}
use Rattle.clr_model.specs.Instructions.{define_type}
use Rattle.clr_model.specs.Checks.{refusal as first_refusal, refuse_if, first_of_all}
use Rattle.clr_model.specs.Outcomes.{Outcome, answered, refused}
use Rattle.clr_model.specs.Step.{Obeys, Does, new_row, with_type}
use Rattle.clr_model.specs.Lawful.{AreBoundedSums, IsBirthNamed, IsFinal, IsLawful, is_reference_value, IsShaped}
use Rattle.clr_model.specs.Lawful.{NumberFits, Suits, SuitsItsSegment, StepIsPresent, HasItsRoom, AllFrom}
use Rattle.clr_model.specs.LineGrammar.{is_name}
use Rattle.clr_model.specs.Picture.{picture}
use Rattle.clr_model.specs.Run.{StandsFor}
use Rattle.clr_model.proofs.BoundedSums.{bounded_alike, bytes_typed}
use Rattle.clr_model.proofs.Carried.{IsCarried, carried, refusal_carried_by}
use Rattle.clr_model.proofs.MarkingKept.{marking_kept, old_as}

module _ (m : Machine) (name : List ℕ) (form : Form) (finalizer : Bool) where
  abbrev defined : Machine
  defined = with_type m name form finalizer

  -- a type that is there stays as it is
  stays : (t : ℕ) → is_some (type_row m.types t) ≡ true → type_row defined.types t ≡ type_row m.types t
  stays t there = type_row-grown m.types (new_row name form finalizer) t there

  shaped : (o : Object) → IsShaped m o → IsShaped defined o
  shaped o h =
      let same : type_row m.types o.type ≡ type_row defined.types o.type = sym (stays o.type h.typed) in
      record {
        named = h.named;
        typed = subst (λ (r : Option TypeRow). is_some r ≡ true) same h.typed;
        size = subst (λ (r : Option TypeRow). size_of (form_of_row r) o.len ≤ 1073741824) same h.size;
        class_len = subst (λ (r : Option TypeRow). is_array (form_of_row r) ≡ false → o.len ≡ 0) same h.class_len;
        kinds =
            subst (λ (r : Option TypeRow). map is_reference_value o.slots ≡ slot_kinds (form_of_row r) o.len) same
            h.kinds;
        numbers = subst (λ (r : Option TypeRow). AllByRecursion (NumberFits (form_of_row r)) o.slots) same h.numbers;
        suppressed = subst (λ (r : Option TypeRow). o.suppressed ≡ true → has_finalizer r ≡ true) same h.suppressed;
      }

  same_pieces : (objects : List Object) → AllByRecursion (IsShaped m) objects
      → map (object_piece m.types) objects ≡ map (object_piece defined.types) objects
  same_pieces [] all = refl
  same_pieces (o ∷ os) all =
      let same : type_row m.types o.type ≡ type_row defined.types o.type = sym (stays o.type all.0.typed) in
      let rest : map (object_piece m.types) os ≡ map (object_piece defined.types) os = same_pieces os all.1 in
      λ i. record { place = o.place; size = size_of (form_of_row (same i)) o.len } ∷ rest i

  -- each object has the size that it had, so the pieces are the same
  pieces-defined : AllByRecursion (IsShaped m) m.objects → pieces m ≡ pieces defined
  pieces-defined all =
      ap (λ ps. by_place ((ps ++ m.layout.free) ++ rest_pieces m.layout.rests)) (same_pieces m.objects all)

  suits : (o : Object) → type_row m.types o.type ≡ type_row defined.types o.type → (k : SegKind) → Suits m o k
      → Suits defined o k
  suits o same Small h =
      subst (λ (r : Option TypeRow). size_of (form_of_row r) o.len < m.options.large) same h
  suits o same Ephemeral h =
      subst (λ (r : Option TypeRow). size_of (form_of_row r) o.len < m.options.large) same h
  suits o same Large h =
      subst (λ (r : Option TypeRow). m.options.large ≤ size_of (form_of_row r) o.len) same h
  suits o same Pinned h =
      subst (λ (r : Option TypeRow). (is_array (form_of_row r) ≡ true)
      × (is_array_with_references (form_of_row r) ≡ false)) same h

  suits_its : (o : Object) → IsShaped m o → SuitsItsSegment m o → SuitsItsSegment defined o
  suits_its o shape h = go (segment_of m.layout o.place) h
    where
      same : type_row m.types o.type ≡ type_row defined.types o.type
      same = sym (stays o.type shape.typed)

      go : (r : Option SegInfo) → IfSome r (λ s. Suits m o s.kind) → IfSome r (λ s. Suits defined o s.kind)
      go None h = tt
      go (Some s) h = suits o same s.kind h

  all_suit : (objects : List Object) → AllByRecursion (IsShaped m) objects
      → AllByRecursion (SuitsItsSegment m) objects → AllByRecursion (SuitsItsSegment defined) objects
  all_suit [] shapes all = tt
  all_suit (o ∷ os) shapes all = (suits_its o shapes.0 all.0, all_suit os shapes.1 all.1)

  sized_alike : (o : Object) → IsShaped m o → object_size defined.types o ≡ object_size m.types o
  sized_alike o shape = ap (λ (r : Option TypeRow). size_of (form_of_row r) o.len) (stays o.type shape.typed)

  final : (x : ℕ) → IsFinal m x → IsFinal defined x
  final x is = ap has_finalizer (stays (type_of_named m x) (there (type_row m.types (type_of_named m x)) is)) ∙ is
    where
      there : (r : Option TypeRow) → has_finalizer r ≡ true → is_some r ≡ true
      there None e = absurd cc
      there (Some row) e = refl

  bounds : IsLawful m → AreBoundedSums defined
  bounds h =
      bounded_alike m defined (bytes_typed m defined.types (λ o i. sized_alike o (all_at (IsShaped m) i h.shapes)))
      refl h.sums

  step_present : (s : ThreadStep) → StepIsPresent m s → StepIsPresent defined s
  step_present no_step h = tt
  step_present (begun_store object slot) h = h
  step_present (begun_new type len local) h =
      let same : type_row m.types type ≡ type_row defined.types type = sym (stays type h.1) in (
        h.0,
        subst (λ (r : Option TypeRow). is_some r ≡ true) same h.1,
        subst
            (λ (r : Option TypeRow). is_array (form_of_row r) ≡ false → len ≡ 0) same h.2,
      )

  has_room : (t : ℕ) (s : ThreadStep) → StepIsPresent m s → HasItsRoom m t s → HasItsRoom defined t s
  has_room t no_step there h = tt
  has_room t (begun_store object slot) there h = tt
  has_room t (begun_new type len local) there h =
      let same : size_of (form_at m.types type) len ≡ size_of (form_at defined.types type) len =
      ap (λ (r : Option TypeRow). size_of (form_of_row r) len) (sym (stays type there.1)) in
      subst (λ n. (rest : Piece) × (rest_of m.layout t ≡ Some rest) × IsTrue (fits n rest.size)
      × (n < m.options.large)) same h

  have_room : (t : ℕ) (ss : List ThreadStep) → AllByRecursion (StepIsPresent m) ss → AllFrom (HasItsRoom m) t ss
      → AllFrom (HasItsRoom defined) t ss
  have_room t [] there all = tt
  have_room t (s ∷ ss) there all = (has_room t s there.0 all.0, have_room (t + 1) ss there.1 all.1)

  -- a lawful machine stays lawful where the name is new and a name, the form lawful and there is room for the type
  pub defined_lawful : IsBirthNamed m → number_with_free m.types name ≡ None → is_lawful_form form finalizer ≡ true
      → length m.types < 1000
      → is_name name ≡ true → IsBirthNamed defined
  defined_lawful named unknown lawful room word =
      let h = named.lawful in
      let same : pieces m ≡ pieces defined = pieces-defined h.shapes in
      record {
        lawful = record {
          options = h.options;
          types = lawful-grown m.types (new_row name form finalizer) h.types unknown lawful;
          type_count = let count = length-append m.types (new_row name form finalizer ∷ []) in omega arith;
          type_names = distinct-grown m.types (new_row name form finalizer) h.type_names unknown;
          type_words =
              AllByRecursion-push (λ (row : TypeRow). is_name row.name ≡ true) m.types (new_row name form finalizer)
              h.type_words word;
          names_rise = h.names_rise;
          shapes = all_imply (IsShaped m) (IsShaped defined) m.objects shaped h.shapes;
          laid = record {
            layout = h.laid.layout;
            housed = subst (AllByRecursion (λ (p : Piece). IsSome (segment_of m.layout p.place))) same h.laid.housed;
            tiled = subst (λ ps. AllByRecursion (IsTiled ps) m.layout.segments) same h.laid.tiled;
            whole1 = subst (AllByRecursion (DoesNotCross m.layout.start1)) same h.laid.whole1;
            whole0 = subst (AllByRecursion (DoesNotCross m.layout.start0)) same h.laid.whole0;
          };
          rests_young = h.rests_young;
          suited = all_suit m.objects h.shapes h.suited;
          limit = h.limit;
          names = record {
            slots = h.names.slots;
            locals = h.names.locals;
            handles = h.names.handles;
            entries = h.names.entries;
            ready = h.names.ready;
            steps = all_imply (StepIsPresent m) (StepIsPresent defined) m.steps step_present h.names.steps;
          };
          seconds = h.seconds;
          locals = h.locals;
          steps = h.steps;
          rooms = have_room 1 m.steps h.names.steps h.rooms;
          holder = h.holder;
          handle_count = h.handle_count;
          handle_numbers = h.handle_numbers;
          entries = all_imply (IsFinal m) (IsFinal defined) m.entries final h.entries;
          ready = all_imply (IsFinal m) (IsFinal defined) m.ready final h.ready;
          sums = bounds h;
          marking =
              marking_kept m defined m.background
              (old_as m defined (λ o. o) (λ o. refl) (λ o i. i) (λ o i old. old)) h.marking;
        };
        born = named.born;
      }

-- what shows a machine shows it with the type, too
pub type_defined : (seen m : Machine) (name : List ℕ) (form : Form) (finalizer : Bool) → StandsFor seen m
    → number_with_free m.types name ≡ None → is_lawful_form form finalizer ≡ true → length m.types < 1000
    → is_name name ≡ true
    → StandsFor (with_type seen name form finalizer) (with_type m name form finalizer)
type_defined seen m name form finalizer stands unknown lawful room word = record {
  lawful = defined_lawful m name form finalizer stands.lawful unknown lawful room word;
  seen_is = ap (λ s. with_type s name form finalizer) stands.seen_is;
}

-- ---- the line

-- the checks of the line, as a function of what they see
abbrev checks_by : Bool → Bool → Bool → Option Refusal
checks_by known lawful full = first_of_all (
    None ∷ None ∷ None ∷ None ∷ None ∷ None ∷ refuse_if known DuplicateType ∷ refuse_if (not lawful) BadShape
    ∷ refuse_if full TooManyTypes ∷ None ∷ None ∷ None ∷ None ∷ None ∷ None ∷ None
    ∷ None ∷ None ∷ None ∷ None ∷ [])

module _ (m : Machine) (name : List ℕ) (form : Form) (finalizer : Bool) where
  -- the line does what a refusal by these tests says
  obeys_by : (known lawful full : Bool) → is_some (number_with_free m.types name) ≡ known
      → is_lawful_form form finalizer ≡ lawful → nat_le 1000 (length m.types) ≡ full
      → (outcome : Outcome) (new : Machine)
      → MatchOption (checks_by known lawful full) (Does m (define_type name form finalizer) outcome new)
      (λ r. (outcome ≡ refused r) × (new ≡ m))
      → Obeys m (define_type name form finalizer) outcome new
  obeys_by known lawful full is_known is_lawful is_full outcome new h =
      let same : first_refusal m (define_type name form finalizer) ≡ checks_by known lawful full =
      λ i. checks_by (is_known i) (is_lawful i) (is_full i) in
      subst (λ (r : Option Refusal). MatchOption r (Does m (define_type name form finalizer) outcome new)
      (λ r. (outcome ≡ refused r) × (new ≡ m))) (sym same) h

  -- where no check fails, the type is defined, and its method table word is the answer
  pub define_obeys : number_with_free m.types name ≡ None → is_lawful_form form finalizer ≡ true → length m.types < 1000
      → Obeys m (define_type name form finalizer) (answered (Mt (mt_of (length m.types + 1))))
      (with_type m name form finalizer)
  define_obeys unknown lawful room =
      obeys_by false true false (ap is_some unknown) lawful (lt-leb 1000 (length m.types) room) _ _ (inl (refl, refl))

  -- or there is no memory for it
  pub define_lacks_memory : number_with_free m.types name ≡ None → is_lawful_form form finalizer ≡ true
      → length m.types < 1000
      → Obeys m (define_type name form finalizer) (refused NoMemory) m
  define_lacks_memory unknown lawful room =
      obeys_by false true false (ap is_some unknown) lawful (lt-leb 1000 (length m.types) room) _ _ (inr (refl, refl))

  -- a name that is taken is the first cause of refusal
  pub define_refuses_name : is_some (number_with_free m.types name) ≡ true
      → Obeys m (define_type name form finalizer) (refused DuplicateType) m
  define_refuses_name known =
      obeys_by true (is_lawful_form form finalizer) (nat_le 1000 (length m.types)) known refl refl _ _ (refl, refl)

  -- a form that is not lawful is the second
  pub define_refuses_form : number_with_free m.types name ≡ None → is_lawful_form form finalizer ≡ false
      → Obeys m (define_type name form finalizer) (refused BadShape) m
  define_refuses_form unknown unlawful =
      obeys_by false false (nat_le 1000 (length m.types)) (ap is_some unknown) unlawful refl _ _ (refl, refl)

  -- and a full table is the third
  pub define_refuses_count : number_with_free m.types name ≡ None → is_lawful_form form finalizer ≡ true
      → 1000 ≤ length m.types → Obeys m (define_type name form finalizer) (refused TooManyTypes) m
  define_refuses_count unknown lawful full =
      obeys_by false true true (ap is_some unknown) lawful (le-leb 1000 (length m.types) full) _ _ (refl, refl)

-- ---- the line on what is seen

module _ (seen : Machine) (name : List ℕ) (form : Form) (finalizer : Bool) where
  -- the type is defined in each machine that is seen so
  pub define_carried : number_with_free seen.types name ≡ None → is_lawful_form form finalizer ≡ true
      → length seen.types < 1000
      → is_name name ≡ true → IsCarried seen (define_type name form finalizer)
      (answered (Mt (mt_of (length seen.types + 1)))) (with_type seen name form finalizer)
  define_carried unknown lawful room word =
      carried (define_type name form finalizer) (λ s. (number_with_free s.types name ≡ None) × (length s.types < 1000))
      (λ s. answered (Mt (mt_of (length s.types + 1)))) (λ s. with_type s name form finalizer)
      (λ m named given. (
        with_type m name form finalizer,
        define_obeys m name form finalizer given.0 lawful given.1,
        type_defined (picture m) m name form finalizer (record { lawful = named; seen_is = refl }) given.0 lawful
            given.1 word,
      ))
      seen (unknown, room)

  -- or there is no memory for it
  pub define_carried_lack : number_with_free seen.types name ≡ None → is_lawful_form form finalizer ≡ true
      → length seen.types < 1000
      → IsCarried seen (define_type name form finalizer) (refused NoMemory) seen
  define_carried_lack unknown lawful room =
      refusal_carried_by (define_type name form finalizer)
      (λ s. (number_with_free s.types name ≡ None) × (length s.types < 1000)) NoMemory
      (λ m named given. define_lacks_memory m name form finalizer given.0 lawful given.1) seen (unknown, room)

  -- a name that is taken is refused
  pub define_carried_name : is_some (number_with_free seen.types name) ≡ true
      → IsCarried seen (define_type name form finalizer) (refused DuplicateType) seen
  define_carried_name known =
      refusal_carried_by (define_type name form finalizer) (λ s. is_some (number_with_free s.types name) ≡ true)
      DuplicateType
      (λ m named given. define_refuses_name m name form finalizer given) seen known

  -- a form that is not lawful is refused
  pub define_carried_form : number_with_free seen.types name ≡ None → is_lawful_form form finalizer ≡ false
      → IsCarried seen (define_type name form finalizer) (refused BadShape) seen
  define_carried_form unknown unlawful =
      refusal_carried_by (define_type name form finalizer) (λ s. number_with_free s.types name ≡ None) BadShape
      (λ m named given. define_refuses_form m name form finalizer given unlawful) seen unknown

  -- a full table takes no type
  pub define_carried_count : number_with_free seen.types name ≡ None → is_lawful_form form finalizer ≡ true
      → 1000 ≤ length seen.types → IsCarried seen (define_type name form finalizer) (refused TooManyTypes) seen
  define_carried_count unknown lawful full =
      refusal_carried_by (define_type name form finalizer)
      (λ s. (number_with_free s.types name ≡ None) × (1000 ≤ length s.types)) TooManyTypes
      (λ m named given. define_refuses_count m name form finalizer given.0 lawful given.1) seen (unknown, full)
