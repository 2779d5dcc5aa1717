-- What is to hold of a machine's state between any two lines.
use Rattle.std.specs.Prelude.{◌≡◌, ℕ, ◌+◌, ◌*◌, ◌%◌, ◌^◌, ◌<◌, ◌≤◌, List, [], ◌∷◌, map, length, Some, if◌then◌else◌}
use Rattle.std.specs.Prelude.{Bool, true, false, ◌⊎◌, IsTrue, IsSome, IfSome, is_some, nat_le, slice_get}
use Rattle.std.specs.List.{AllByRecursion}
use Rattle.std.specs.FinMap as finmap
use Rattle.clr_types.specs.Rising.{IsRisingBy}
use Rattle.clr_types.specs.Ranges.{Piece, fits}
use Rattle.clr_types.specs.Types.{Form, TypeRow, type_row, size_of, slot_kinds, is_bytes, is_array, form_at}
use Rattle.clr_types.specs.Types.{is_array_with_references}
use Rattle.clr_types.specs.Types.{has_finalizer}
use Rattle.clr_types.specs.declared.handle.Handle.{Handle}
use Rattle.clr_model.specs.Machine.{Value, ref, num, Object, ThreadStep, no_step, begun_store, begun_new, Options}
use Rattle.clr_model.specs.Machine.{Machine}
use Rattle.clr_model.specs.Lookups.{object_size, object_named, object_has_finalizer, slots_of_named, is_thread}
use Rattle.clr_model.specs.Lookups.{pieces, bytes_of, bytes_where, bytes_up_to}
use Rattle.clr_types.specs.Kinds.{is_dependent}
use Rattle.clr_model.specs.LineGrammar.{is_name}
use Rattle.clr_model.specs.Background.{IsLawfulMarking}
use Rattle.clr_types.specs.Table.{IsLawfulRow, HasDistinctNames}
use Rattle.clr_types.specs.LawfulLayout.{IsLawfulLayout, IsTiled, DoesNotCross}
use Rattle.clr_types.specs.declared.segment.SegKind.{SegKind}
use Rattle.clr_types.specs.declared.segment.SegKind.TheVariants.{Small, Ephemeral, Large, Pinned}
use Rattle.clr_types.specs.Segments.{segment_of, reserved_sum, generation, rest_pieces, rest_of}

-- ---- what a name may be

abbrev pub IsPresent : Machine → ℕ → Type 0
IsPresent m name = IsTrue (is_some (object_named m.objects name))

abbrev pub IsNullOrPresent : Machine → ℕ → Type 0
IsNullOrPresent m name = (name ≡ 0) ⊎ IsPresent m name

abbrev pub SlotIsPresent : Machine → Value → Type 0
SlotIsPresent m (ref name) = IsNullOrPresent m name
SlotIsPresent m (num number) = Unit {0}

abbrev pub is_reference_value : Value → Bool
is_reference_value (ref name) = true
is_reference_value (num number) = false

-- a begun store is into a reference slot of an object that is present, and a begun object of a class has no length
abbrev pub StepIsPresent : Machine → ThreadStep → Type 0
StepIsPresent m no_step = Unit {0}
StepIsPresent m (begun_store object slot) = IsPresent m object × (name : ℕ)
    × (slice_get (slots_of_named m object) slot ≡ Some (ref name))
StepIsPresent m (begun_new type len local) = (local < 64) × IsTrue (is_some (type_row m.types type))
    × (is_array (form_at m.types type) ≡ false → len ≡ 0)

-- only a dependent handle whose primary is an object names a second one
pub record HasItsSecond (row : Handle) : Type 0 where
  pub dependent : is_dependent row.kind ≡ false → row.second ≡ 0
  pub primary : row.target ≡ 0 → row.second ≡ 0

-- every name in the state is null or an object's; queues and begun stores have no null
pub record NamesArePresent (m : Machine) : Type 0 where
  pub slots : AllByRecursion (λ (o : Object). AllByRecursion (SlotIsPresent m) o.slots) m.objects
  pub locals : AllByRecursion (IsNullOrPresent m) m.locals
  pub handles : AllByRecursion (λ (row : Handle). IsNullOrPresent m row.target × IsNullOrPresent m row.second)
      (finmap.values m.handles)
  pub entries : AllByRecursion (IsPresent m) m.entries
  pub ready : AllByRecursion (IsPresent m) m.ready
  pub steps : AllByRecursion (StepIsPresent m) m.steps

-- ---- what an object is

-- a byte's slot holds a byte, and another number slot a word
abbrev pub NumberFits : Form → Value → Type 0
NumberFits form (ref name) = Unit {0}
NumberFits form (num number) = number < (if is_bytes form then 256 else 2 ^ 64)

pub record IsShaped (m : Machine) (o : Object) : Type 0 where
  pub named : 0 < o.name
  pub typed : IsTrue (is_some (type_row m.types o.type))
  pub size : object_size m.types o ≤ 1073741824
  pub class_len : is_array (form_at m.types o.type) ≡ false → o.len ≡ 0
  pub kinds : map is_reference_value o.slots ≡ slot_kinds (form_at m.types o.type) o.len
  pub numbers : AllByRecursion (NumberFits (form_at m.types o.type)) o.slots
  pub suppressed : o.suppressed ≡ true → has_finalizer (type_row m.types o.type) ≡ true

-- objects below the threshold stand in small and ephemeral segments, others in large ones, arrays without references
-- also in pinned ones
abbrev pub Suits : Machine → Object → SegKind → Type 0
Suits m o Small = object_size m.types o < m.options.large
Suits m o Ephemeral = object_size m.types o < m.options.large
Suits m o Large = m.options.large ≤ object_size m.types o
Suits m o Pinned =
    (is_array (form_at m.types o.type) ≡ true) × (is_array_with_references (form_at m.types o.type) ≡ false)

abbrev pub SuitsItsSegment : Machine → Object → Type 0
SuitsItsSegment m o = IfSome (segment_of m.layout o.place) (λ s. Suits m o s.kind)

-- ---- what is queued, and what is counted

-- an object whose type has a finaliser
abbrev pub IsFinal : Machine → ℕ → Type 0
IsFinal m name = object_has_finalizer m name ≡ true

-- The bytes of small births since the last collection, of large ones since the last full one, and of what went from
-- generation 0 to 1 and
-- from 1 to 2 are bytes of objects that are there. What went to 1 isn't of generation 0, and what went to 2 is of
-- neither, so these bounds
-- hold on when the segment of all of them becomes a small one.
pub record AreBoundedSums (m : Machine) : Type 0 where
  pub spent0 : m.sums.spent0 ≤ bytes_of m
  pub spent_large : m.sums.spent_large ≤ bytes_where m (λ o. nat_le m.options.large (object_size m.types o))
  pub promoted1 : m.sums.promoted1 + bytes_up_to m 0 ≤ bytes_of m
  pub promoted2 : m.sums.promoted2 + bytes_up_to m 1 ≤ bytes_of m

-- ---- what threads have begun

-- the front of the thread's context has room for what it began
abbrev pub HasItsRoom : Machine → ℕ → ThreadStep → Type 0
HasItsRoom m t no_step = Unit {0}
HasItsRoom m t (begun_store object slot) = Unit {0}
HasItsRoom m t (begun_new type len local) =
    (rest : Piece) × (rest_of m.layout t ≡ Some rest) × IsTrue (fits (size_of (form_at m.types type) len) rest.size)
    × (size_of (form_at m.types type) len < m.options.large)

abbrev pub AllFrom : (ℕ → ThreadStep → Type 0) → ℕ → List ThreadStep → Type 0
AllFrom P t [] = Unit {0}
AllFrom P t (s ∷ ss) = P t s × AllFrom P (t + 1) ss

pub record AreLawfulOptions (options : Options) : Type 0 where
  pub segment_least : 262144 ≤ options.segment
  pub segment_greatest : options.segment ≤ 67108864
  pub segment_aligned : options.segment % 4096 ≡ 0
  pub limit_least : 2 * options.segment ≤ options.limit
  pub limit_greatest : options.limit ≤ 1073741824
  pub b0 : options.b0 ≤ 1073741824
  pub b1 : options.b1 ≤ 1073741824
  pub b2 : options.b2 ≤ 1073741824
  pub bl : options.bl ≤ 1073741824
  pub compact : options.compact ≤ 100
  pub large_least : 85000 ≤ options.large
  pub large_greatest : options.large + 4096 ≤ options.segment

-- the layout is lawful, and the pieces fill the segments and cross no boundary
pub record IsLaid (m : Machine) : Type 0 where
  pub layout : IsLawfulLayout m.layout
  pub housed : AllByRecursion (λ (p : Piece). IsSome (segment_of m.layout p.place)) (pieces m)
  pub tiled : AllByRecursion (IsTiled (pieces m)) m.layout.segments
  pub whole1 : AllByRecursion (DoesNotCross m.layout.start1) (pieces m)
  pub whole0 : AllByRecursion (DoesNotCross m.layout.start0) (pieces m)

pub record IsLawful (m : Machine) : Type 0 where
  pub options : AreLawfulOptions m.options
  pub types : AllByRecursion IsLawfulRow m.types
  pub type_count : length m.types ≤ 1000
  pub type_names : HasDistinctNames m.types
  pub type_words : AllByRecursion (λ (row : TypeRow). is_name row.name ≡ true) m.types
  pub names_rise : IsRisingBy (λ (o : Object). o.name) m.objects
  pub shapes : AllByRecursion (IsShaped m) m.objects
  pub laid : IsLaid m
  pub rests_young : AllByRecursion (λ (p : Piece). generation m.layout p.place ≡ 0) (rest_pieces m.layout.rests)
  pub suited : AllByRecursion (SuitsItsSegment m) m.objects
  pub limit : reserved_sum m.layout ≤ m.options.limit
  pub names : NamesArePresent m
  pub seconds : AllByRecursion HasItsSecond (finmap.values m.handles)
  pub locals : length m.locals ≡ 1024
  pub steps : length m.steps ≡ 16
  pub rooms : AllFrom (HasItsRoom m) 1 m.steps
  pub holder : IfSome m.holder (λ t. IsTrue (is_thread t))
  pub handle_count : finmap.len m.handles ≤ 65536
  pub handle_numbers : AllByRecursion (λ (e : ℕ × Handle). e.0 < 65536) (finmap.entries m.handles)
  pub entries : AllByRecursion (IsFinal m) m.entries
  pub ready : AllByRecursion (IsFinal m) m.ready
  pub sums : AreBoundedSums m
  pub marking : IfSome m.background (IsLawfulMarking m)

-- a machine whose objects are named by their births, counted from 1
pub record IsBirthNamed (m : Machine) : Type 0 where
  pub lawful : IsLawful m
  pub born : AllByRecursion (λ (o : Object). o.name ≤ m.born) m.objects

-- a machine whose objects are named by their places
pub record IsPlaceNamed (m : Machine) : Type 0 where
  pub lawful : IsLawful m
  pub places : AllByRecursion (λ (o : Object). o.name ≡ o.place) m.objects
  pub uncounted : m.born ≡ 0
