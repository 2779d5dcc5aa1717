-- The birth of a pinned object: the machine stays lawful, the object is seen at its place, and the line does it.
use Rattle.std.proofs.Common.{◌≡◌, ℕ, zero, suc, ◌+◌, ◌<◌, ◌≤◌, List, [], ◌∷◌, ◌++◌, refl, sym, ap, subst, ◌∙◌, arith}
use Rattle.std.proofs.Common.{Bool, true}
use Rattle.std.proofs.Common.{false, if◌then◌else◌, not, ◌&&◌, ◌||◌, ◌==◌, nat_le, nat_lt, Option, Some, None, is_some}
use Rattle.std.proofs.Common.{is_none, unwrap_or, inl, inr, length, slice_get}
use Rattle.std.specs.List.{AllByRecursion, list_all}
use Rattle.std.proofs.lemmas.Bool.{and_parts, both_ways, lt-leb, le-ltb}
use Rattle.clr_types.specs.Types.{Form, TypeRow, bytes_form, class_form, references_form, structs_form}
use Rattle.clr_types.specs.Types.{form_at, has_finalizer, is_array, form_of_row, is_array_with_references}
use Rattle.clr_types.specs.Types.{is_lawful_form, is_pattern_byte}
use Rattle.clr_types.specs.Types.{number_of}
use Rattle.clr_types.specs.Types.{size_of, type_row}
use Rattle.clr_types.specs.Table.{IsLawfulRow}
use Rattle.clr_types.specs.Segments.{Layout}
use Rattle.clr_types.specs.declared.segment.SegKind.TheVariants.{Pinned}
use Rattle.clr_model.specs.declared.Refusal.{Refusal}
use Rattle.clr_model.specs.declared.Refusal.TheVariants.{BadShape, Blocked, HasReferences, MidStep, NoSlot, NotMidStep}
use Rattle.clr_model.specs.declared.Refusal.TheVariants.{TooBig, UnknownThread, UnknownType}
use Rattle.clr_model.specs.declared.Reply.TheVariants.{Place}
use Rattle.clr_model.specs.Machine.{Machine}
use Rattle.clr_model.specs.Updates.{born_at}
use Rattle.clr_model.specs.Picture.{picture}
use Rattle.clr_model.specs.Allocation.{Attempt, IsPlacedIn, roomed, with_layout}
use Rattle.clr_model.specs.Checks.{refusal as first_refusal, refuse_if, with_some, first_of_all}
use Rattle.clr_model.specs.Instructions.{Instruction, new_pinned}
use Rattle.clr_model.specs.Lawful.{AreBoundedSums, IsBirthNamed}
use Rattle.clr_model.specs.Outcomes.{Outcome, answered}
use Rattle.clr_model.specs.Run.{Follows, StandsFor}
use Rattle.clr_model.specs.Step.{Fails, MakesPinned, Obeys}
use Rattle.clr_model.proofs.Birth.{born_object, born_objects, born_size, IsBirth, IsBirthplace, placed_in, seen_birth}
use Rattle.clr_model.proofs.Birth.{with_birth}
use Rattle.clr_model.proofs.BirthFollows.{asked_birth}
use Rattle.clr_model.proofs.BirthSeen.{birth_stands}
use Rattle.clr_model.proofs.BoundedSums.{bounded_born}
use Rattle.clr_model.proofs.Carried.{carried, follows}
use Rattle.clr_model.proofs.LineChecks.{MayRun, may_run_of-picture, obeys_done, unheld_passes}
use Rattle.clr_model.proofs.RoomFollows.{of_picture}
use Rattle.clr_model.specs.PinnedFollows.{FollowsPinnedFails, FollowsToPinned}
use Rattle.clr_model.proofs.KindBirth.{kind_birthplace}
use Rattle.clr_model.proofs.PinnedFollows.{pinned_fails_followed, pinned_leaves, to_pinned_followed}

-- a pinned object is born at the place, which the layout has for it
abbrev pub born_pinned : Machine → Layout → ℕ → ℕ → ℕ → ℕ → ℕ → Machine
born_pinned m layout t local place type len = born_at (with_layout m layout) t local place type len

-- What is seen after the birth: the new object, named by its place, stands among the others by rising place.
abbrev pub seen_pinned : Machine → Layout → ℕ → ℕ → ℕ → ℕ → ℕ → Machine
seen_pinned seen layout t local place type len = seen_birth seen layout seen.sums t local place type len

-- ---- the birth

-- An array without references may be.
pub record IsPinnable (m : Machine) (type len : ℕ) : Type 0 where
  pub birth : IsBirth m type len
  pub array : is_array (form_at m.types type) ≡ true
  pub plain : is_array_with_references (form_at m.types type) ≡ false

-- an array has no finaliser
array-plain : (form : Form) (finalizer : Bool) → is_array form ≡ true → is_lawful_form form finalizer ≡ true
    → finalizer ≡ false
array-plain (class_form pattern) finalizer array lawful = absurd cc
array-plain references_form true array lawful = absurd cc
array-plain references_form false array lawful = refl
array-plain bytes_form true array lawful = absurd cc
array-plain bytes_form false array lawful = refl
array-plain (structs_form pattern) true array lawful =
    sym ((and_parts
    (list_all is_pattern_byte pattern && (nat_le 1 (length pattern) && nat_le (length pattern) 64)) false
    lawful).1)
array-plain (structs_form pattern) false array lawful = refl

row-plain : (rows : List TypeRow) (t : ℕ) → AllByRecursion IsLawfulRow rows
    → is_array (form_of_row (slice_get rows t)) ≡ true → has_finalizer (slice_get rows t) ≡ false
row-plain [] t all array = refl
row-plain (row ∷ rows) zero all array = array-plain row.form row.finalizer array all.0.form
row-plain (row ∷ rows) (suc t) all array = row-plain rows t all.1 array

pub type-plain : (rows : List TypeRow) (type : ℕ) → AllByRecursion IsLawfulRow rows
    → is_array (form_at rows type) ≡ true → has_finalizer (type_row rows type) ≡ false
type-plain rows zero all array = refl
type-plain rows (suc t) all array = row-plain rows t all array

module _ (m : Machine) (type len : ℕ) (named : IsBirthNamed m) (h : IsPinnable m type len) (place : ℕ) (layout : Layout)
    (placed : IsPlacedIn Pinned m.layout (born_size m type len) place layout) where
  -- the layout has the place for it
  pinned_birthplace : IsBirthplace m layout place type len
  pinned_birthplace = kind_birthplace Pinned m type len named (λ p. (h.array, h.plain)) place layout placed

  -- the sums stay, and stay bounded
  pinned_bounded : AreBoundedSums (record m { objects = born_objects m place type len; sums = m.sums })
  pinned_bounded =
      let more = bounded_born m (born_object m (m.born + 1) place type len) named.lawful.sums in
      let spent = more.spent0 in
      record {
        spent0 = omega (arith, spent);
        spent_large = more.spent_large;
        promoted1 = more.promoted1;
        promoted2 = more.promoted2;
      }

  -- there is no entry more
  pinned_parts : (t local : ℕ)
      → born_pinned m layout t local place type len ≡ with_birth m layout m.sums t local place type len
  pinned_parts t local =
      sym (ap (λ (b : Bool). record (placed_in m layout m.sums t local place type len) {
        entries = if b then m.entries ++ ((m.born + 1) ∷ []) else m.entries;
      }) (type-plain m.types type named.lawful.types h.array))

  -- THE MACHINE AFTER THE BIRTH stands for what is seen after it
  pub pinned_stands : (t local : ℕ) → StandsFor (seen_pinned (picture m) layout t local place type len)
      (born_pinned m layout t local place type len)
  pinned_stands t local =
      subst (StandsFor (seen_pinned (picture m) layout t local place type len)) (sym (pinned_parts t local))
      (birth_stands m layout m.sums t local place type len named h.birth pinned_birthplace pinned_bounded)

-- ---- the line

-- no check of the line fails
pub record MayBearPinned (m : Machine) (t k : ℕ) (name : List ℕ) (len type : ℕ) : Type 0 where
  pub run : MayRun m t
  pub known : number_of m.types name ≡ Some type
  pub array : is_array (form_at m.types type) ≡ true
  pub plain : is_array_with_references (form_at m.types type) ≡ false
  pub local : k < 64
  pub most : born_size m type len ≤ 1073741824

may_bear_pinned_of-picture : (m : Machine) (t k : ℕ) (name : List ℕ) (len type : ℕ)
    → MayBearPinned (picture m) t k name len type → MayBearPinned m t k name len type
may_bear_pinned_of-picture m t k name len type h = record {
  run = may_run_of-picture m t h.run;
  known = h.known;
  array = h.array;
  plain = h.plain;
  local = h.local;
  most = h.most;
}

-- the checks of the line, where the check for a holder comes to `held`
abbrev checks_behind : Bool → Option Refusal → Bool → Option ℕ → Bool → Bool → Bool → Bool → Option Refusal
checks_behind thread held stepping number array references away big = first_of_all (
    refuse_if (not thread) UnknownThread
    ∷ held
    ∷ refuse_if (stepping && true) MidStep
    ∷ refuse_if (not stepping && false) NotMidStep
    ∷ None
    ∷ refuse_if (is_none number) UnknownType
    ∷ None ∷ refuse_if (not (if array then true else false)) BadShape ∷ None ∷ refuse_if references HasReferences
    ∷ refuse_if (away || false) NoSlot
    ∷ None ∷ None ∷ None ∷ None ∷ None ∷ None
    ∷ refuse_if big TooBig ∷ None ∷ None ∷ [])

-- the same, as a function of what they see
abbrev checks_by : ℕ → Bool → Option ℕ → Bool → Option ℕ → Bool → Bool → Bool → Bool → Option Refusal
checks_by t thread holder stepping =
    checks_behind thread (with_some holder (λ h. refuse_if (not (h == t) && not stepping) (Blocked h))) stepping

module _ (m : Machine) (t k : ℕ) (name : List ℕ) (len type : ℕ) (h : MayBearPinned m t k name len type) where
  type_is : unwrap_or (number_of m.types name) 0 ≡ type
  type_is = ap (λ (n : Option ℕ). unwrap_or n 0) h.known

  -- what holds of the type's number holds of the number that the line finds
  found : (P : ℕ → Type 0) → P type → P (unwrap_or (number_of m.types name) 0)
  found P = subst P (sym type_is)

  pub pinned_passes : first_refusal m (new_pinned t k name len) ≡ None
  pinned_passes =
      let thread = h.run.thread in
      let idle = h.run.idle in
      let array = found (λ n. is_array (form_at m.types n) ≡ true) h.array in
      let plain = found (λ n. is_array_with_references (form_at m.types n) ≡ false) h.plain in
      let local = lt-leb 64 k h.local in
      let small = found (λ n. nat_lt 1073741824 (born_size m n len) ≡ false)
      (le-ltb 1073741824 (born_size m type len) h.most) in
      (λ i. checks_by t (thread i) m.holder (idle i) (h.known i) (array i) (plain i) (local i) (small i))
      ∙ ap (λ held. checks_behind true held false (Some type) true false false false)
      (unheld_passes m.holder t h.run.unheld)

  -- so it does what it says
  pub new_obeys_pinned : (outcome : Outcome) (new : Machine) → MakesPinned m t k type len outcome new
      → Obeys m (new_pinned t k name len) outcome new
  new_obeys_pinned outcome new made =
      obeys_done m (new_pinned t k name len) outcome new pinned_passes
      (found (λ n. MakesPinned m t k n len outcome new) made)

  -- the object may be
  asked : IsBirth m type len
  asked = asked_birth m t k name (Some len) type (record {
    run = h.run;
    known = h.known;
    shape = ap (λ (b : Bool). if b then true else false) h.array;
    local = h.local;
  }) h.most

  -- under the same types, too
  pinnable : (ready : Machine) → ready.types ≡ m.types → IsPinnable ready type len
  pinnable ready same =
      let array : is_array (form_at ready.types type) ≡ true =
      subst (λ (rows : List TypeRow). is_array (form_at rows type) ≡ true) (sym same) h.array in
      record {
        birth = record {
          typed = subst (λ (rows : List TypeRow). is_some (type_row rows type) ≡ true) (sym same) asked.typed;
          class = λ e. absurd (both_ways (is_array (form_at ready.types type)) e array);
          most = subst (λ (rows : List TypeRow). size_of (form_at rows type) len ≤ 1073741824) (sym same) h.most;
        };
        array = array;
        plain = subst (λ (rows : List TypeRow). is_array_with_references (form_at rows type) ≡ false)
            (sym same) h.plain;
      }

-- ---- on what is seen

module _ (s : Machine) (t k : ℕ) (name : List ℕ) (len type : ℕ) (may : MayBearPinned s t k name len type)
    (s' : Machine) where
  abbrev i : Instruction
  i = new_pinned t k name len

  -- where there is a place, the object is born there
  pub new_follows_pinned : FollowsToPinned s (born_size s type len) s' → (place : ℕ) (layout : Layout)
      → IsPlacedIn Pinned s'.layout (born_size s type len) place layout
      → Follows s (new_pinned t k name len) (answered (Place place)) (seen_pinned s' layout t k place type len)
  new_follows_pinned comes_to place layout placed =
      follows s i _ _
      (carried i (λ s. MayBearPinned s t k name len type × FollowsToPinned s (born_size s type len) s'
      × IsPlacedIn Pinned s'.layout (born_size s type len) place layout)
      (λ s. answered (Place place)) (λ s. seen_pinned s' layout t k place type len)
      (λ m named given.
      let size = born_size m type len in
      let (ready, comes, after) =
      to_pinned_followed (picture m) size s' given.1 m (record { lawful = named; seen_is = refl }) in
      let h = may_bear_pinned_of-picture m t k name len type given.0 in
      let there : IsPlacedIn Pinned ready.layout size place layout =
      of_picture (λ w. IsPlacedIn Pinned w.layout size place layout) s' ready after given.2 in
      let made = comes place layout there in
      let leaves = pinned_leaves size place roomed (with_layout ready layout) m made in
      let same : born_size ready type len ≡ size =
      ap (λ (rows : List TypeRow). size_of (form_at rows type) len) leaves.types in (
        born_pinned ready layout t k place type len,
        new_obeys_pinned m t k name len type h _ _ (
          roomed,
          with_layout ready layout,
          place,
          made,
          inl (refl, (refl, refl)),
        ),
        subst (λ (w : Machine). StandsFor (seen_pinned w layout t k place type len)
            (born_pinned ready layout t k place type len)) after.seen_is
            (pinned_stands ready type len after.lawful (pinnable m t k name len type h ready leaves.types) place layout
            (subst (λ n. IsPlacedIn Pinned ready.layout n place layout) (sym same) there) t k),
      ))
      s (may, comes_to, placed))

  -- where there is none, the line is refused, and what was done for it stays
  pub new_follows_pinned_fails : (attempt : Attempt) (outcome : Outcome)
      → FollowsPinnedFails s (born_size s type len) attempt s' → Fails attempt outcome
      → Follows s (new_pinned t k name len) outcome s'
  new_follows_pinned_fails attempt outcome comes_to fails =
      follows s i _ _
      (carried i (λ s. MayBearPinned s t k name len type × FollowsPinnedFails s (born_size s type len) attempt s')
      (λ s. outcome) (λ s. s')
      (λ m named given.
      let (ready, made, after) =
      pinned_fails_followed (picture m) (born_size m type len) attempt s' given.1 m
      (record { lawful = named; seen_is = refl }) in (
        ready,
        new_obeys_pinned m t k name len type (may_bear_pinned_of-picture m t k name len type given.0) _ _
            (attempt, ready, 0, made 0, inr (fails, refl)),
        after,
      ))
      s (may, comes_to))
