-- The line that makes a pinned object, on what is seen: its checks.
use Rattle.std.proofs.Common.{◌≡◌, ◌∙◌, ℕ, ◌<◌, ◌≤◌, nat_le, nat_lt, Bool, true, false, List, [], ◌∷◌, length, refl}
use Rattle.std.proofs.Common.{sym, ap, subst, arith, Option, Some, None, unwrap_or, if◌then◌else◌, is_none, not, ◌&&◌}
use Rattle.std.proofs.Common.{◌==◌, ◌||◌}
use Rattle.std.specs.Prelude.{Err}
use Rattle.std.proofs.lemmas.Bool.{both_ways, le-leb, lt-leb, lt-ltb}
use Rattle.clr_types.specs.Types.{form_at, is_array, is_array_with_references, number_of, TypeRow}
use Rattle.clr_types.proofs.TailTaken.{size-lawful}
use Rattle.clr_heap.specs.Parts.{IsMakeable}
use Rattle.clr_safe.specs.Threads.{Threads}
use Rattle.clr_runtime.specs.Shown.{Ahead, shown}
use Rattle.clr_view.specs.World.{World}
use Rattle.clr_model.specs.declared.Refusal.{Refusal}
use Rattle.clr_model.specs.declared.Refusal.TheVariants as refusal
use Rattle.clr_model.specs.declared.Refusal.TheVariants.{BadShape, Blocked, HasReferences, MidStep, NoSlot, NotMidStep}
use Rattle.clr_model.specs.declared.Refusal.TheVariants.{TooBig, UnknownThread, UnknownType}
use Rattle.clr_model.specs.Checks.{first_of_all, refusal as first_refusal, refuse_if, with_some}
use Rattle.clr_model.specs.Instructions.{Instruction, new_pinned}
use Rattle.clr_model.specs.Machine.{Machine, Options, Sums}
use Rattle.clr_model.specs.Outcomes.{refused}
use Rattle.clr_model.specs.Picture.{picture}
use Rattle.clr_model.specs.PinnedFollows.{FollowsPinnedFails}
use Rattle.clr_model.specs.Run.{Follows}
use Rattle.clr_model.proofs.Birth.{born_size}
use Rattle.clr_model.proofs.Carried.{follows, refusal_carried_by}
use Rattle.clr_model.proofs.LineChecks.{may_run_of-picture, MayRun, obeys_refusal, unheld_passes}
use Rattle.clr_model.proofs.PinnedBirth.{MayBearPinned, new_follows_pinned_fails}
use Rattle.clr_runtime.specs.Checks.{thread_refusal}
use Rattle.clr_runtime.specs.Outcomes.{refusal_of_room}
use Rattle.clr_runtime.specs.PinnedBirths.{IsMeasuredPinned, MeasuredPinned}
use Rattle.clr_runtime.specs.Rooms.{attempt_of}
use Rattle.clr_runtime.specs.RuntimeView.{IsShown}
use Rattle.clr_runtime.specs.declared.births.Request.{Request}
use Rattle.clr_runtime.specs.declared.rooms.NoRoom.{NoRoom}
use Rattle.clr_runtime.proofs.BirthLines.{fails-so}
use Rattle.clr_runtime.proofs.NamesChecked.{may_run}
use Rattle.clr_runtime.proofs.TypeNumbers.{number_from-bounds}

-- ---- the checks of the line

-- where the check for a holder comes to `held`
abbrev checks_behind : Bool → Option Refusal → Bool → Option ℕ → Bool → Bool → Bool → Bool → Option Refusal
checks_behind thread held stepping number array references away big = first_of_all (
    refuse_if (not thread) UnknownThread
    ∷ held
    ∷ refuse_if (stepping && true) MidStep
    ∷ refuse_if (not stepping && false) NotMidStep
    ∷ None
    ∷ refuse_if (is_none number) UnknownType
    ∷ None ∷ refuse_if (not (if array then true else false)) BadShape ∷ None ∷ refuse_if references HasReferences
    ∷ refuse_if (away || false) NoSlot
    ∷ None ∷ None ∷ None ∷ None ∷ None ∷ None
    ∷ refuse_if big TooBig ∷ None ∷ None ∷ [])

-- the same, as a function of what they see
abbrev checks_by : ℕ → Bool → Option ℕ → Bool → Option ℕ → Bool → Bool → Bool → Bool → Option Refusal
checks_by t thread holder stepping =
    checks_behind thread (with_some holder (λ h. refuse_if (not (h == t) && not stepping) (Blocked h))) stepping

module _ (m : Machine) (t k : ℕ) (name : List ℕ) (len : ℕ) (run : MayRun m t) where
  -- the type that the line finds
  abbrev found_type : ℕ
  found_type = unwrap_or (number_of m.types name) 0

  -- what the checks come to, by what they see
  refusal-by : (number : Option ℕ) (array references away big : Bool) → number_of m.types name ≡ number
      → is_array (form_at m.types (unwrap_or (number_of m.types name) 0)) ≡ array
      → is_array_with_references (form_at m.types (unwrap_or (number_of m.types name) 0)) ≡ references
      → nat_le 64 k ≡ away → nat_lt 1073741824 (born_size m (unwrap_or (number_of m.types name) 0) len) ≡ big
      → first_refusal m (new_pinned t k name len) ≡ checks_by t true None false number array references away big
  refusal-by number array references away big is_number is_formed refers is_away is_big =
      let thread = run.thread in
      let idle = run.idle in
      (λ i. checks_by t (thread i) m.holder (idle i) (is_number i) (is_formed i) (refers i) (is_away i) (is_big i))
      ∙ ap (λ held. checks_behind true held false number array references away big)
      (unheld_passes m.holder t run.unheld)

  -- a name that no type has
  refuses_type : number_of m.types name ≡ None → first_refusal m (new_pinned t k name len) ≡ Some UnknownType
  refuses_type none = refusal-by None _ _ _ _ none refl refl refl refl

  module _ (type : ℕ) (known : number_of m.types name ≡ Some type) where
    -- what holds of the type's number holds of the number that the line finds
    found : (P : ℕ → Type 0) → P type → P (unwrap_or (number_of m.types name) 0)
    found P = subst P (sym (ap (λ (n : Option ℕ). unwrap_or n 0) known))

    -- a class
    refuses_shape : is_array (form_at m.types type) ≡ false
        → first_refusal m (new_pinned t k name len) ≡ Some BadShape
    refuses_shape class =
        refusal-by (Some type) false _ _ _ known (found (λ n. is_array (form_at m.types n) ≡ false) class) refl refl
        refl

    module _ (array : is_array (form_at m.types type) ≡ true) where
      arrayed : is_array (form_at m.types (unwrap_or (number_of m.types name) 0)) ≡ true
      arrayed = found (λ n. is_array (form_at m.types n) ≡ true) array

      -- an array that has references
      refuses_references : is_array_with_references (form_at m.types type) ≡ true
          → first_refusal m (new_pinned t k name len) ≡ Some HasReferences
      refuses_references refers =
          refusal-by (Some type) true true _ _ known arrayed
          (found (λ n. is_array_with_references (form_at m.types n) ≡ true) refers) refl refl

      module _ (plain : is_array_with_references (form_at m.types type) ≡ false) where
        plainly : is_array_with_references (form_at m.types (unwrap_or (number_of m.types name) 0)) ≡ false
        plainly = found (λ n. is_array_with_references (form_at m.types n) ≡ false) plain

        -- a local that there is not
        refuses_local : 64 ≤ k → first_refusal m (new_pinned t k name len) ≡ Some NoSlot
        refuses_local high =
            refusal-by (Some type) true false true _ known arrayed plainly (le-leb 64 k high) refl

        -- more bytes than an object may have
        refuses_size : k < 64 → 1073741824 < born_size m type len
            → first_refusal m (new_pinned t k name len) ≡ Some TooBig
        refuses_size low big =
            refusal-by (Some type) true false false true known arrayed plainly (lt-leb 64 k low)
            (found (λ n. nat_lt 1073741824 (born_size m n len) ≡ true) (lt-ltb 1073741824 (born_size m type len) big))

-- ---- an object that may be made

module _ (rows : List TypeRow) (local : ℕ) (name : List ℕ) (len : ℕ) (request : Request)
    (is : IsMeasuredPinned rows local name len request) where
  -- the type is one of the table's, and not that of unused space
  pub known : (0 < request.type_id.0) × (request.type_id.0 ≤ length rows)
  known =
      let b = number_from-bounds 1 rows name request.type_id.0 is.suited.known in
      let low = b.0 in
      let high = b.1 in
      (omega arith, omega arith)

  -- an object of this type and length may stand in the heap
  pub makeable : IsMakeable rows request.type_id.0 request.len
  makeable =
      let type = request.type_id.0 in
      let lawful = size-lawful (form_at rows type) len in
      let most = is.most in
      let same = is.size_is in
      let (low, high) = known in
      subst (IsMakeable rows type) (sym is.len_is)
      (record {
        known = high;
        no_length = λ class. absurd (both_ways (is_array (form_at rows type)) class is.suited.array);
        least = lawful.0;
        most = omega arith;
        whole = lawful.1;
        free = λ none. absurd (omega arith);
      })

-- ---- on what is seen

module _ {w : World} {sums : Sums} {options : Options} {threads : Threads} {ahead : Ahead}
    (is : IsShown w sums options threads ahead) (t local : ℕ) (name : List ℕ) (len : ℕ)
    (passed : thread_refusal (shown w sums options threads ahead) t ≡ None) where
  abbrev s : Machine
  s = shown w sums options threads ahead

  abbrev i : Instruction
  i = new_pinned t local name len

  run : MayRun s t
  run = may_run s t passed

  -- a check that fails by what is seen of the types
  refused_by : (P : Machine → Type 0) (r : Refusal)
      → ((m : Machine) → MayRun m t → P (picture m) → first_refusal m i ≡ Some r) → P s
      → Follows s i (refused r) s
  refused_by P r fails given =
      follows s i (refused r) s
      (refusal_carried_by i (λ w. MayRun w t × P w) r
      (λ m named both. obeys_refusal m i r (fails m (may_run_of-picture m t both.0) both.1)) s (run, given))

  -- the line is refused for the first of the checks on the object that fails
  pub pinned_measured_follows : (r : Refusal) → MeasuredPinned w.rows local name len (Err r)
      → Follows (shown w sums options threads ahead) (new_pinned t local name len) (refused r)
      (shown w sums options threads ahead)
  pinned_measured_follows UnknownType none =
      refused_by (λ m. number_of m.types name ≡ None) UnknownType
      (λ m runs fails. refuses_type m t local name len runs fails) none
  pinned_measured_follows BadShape (type, known, class) =
      refused_by (λ m. (number_of m.types name ≡ Some type) × (is_array (form_at m.types type) ≡ false)) BadShape
      (λ m runs fails. refuses_shape m t local name len runs type fails.0 fails.1) (known, class)
  pinned_measured_follows HasReferences (type, known, array, refers) =
      refused_by
      (λ m. (number_of m.types name ≡ Some type) × (is_array (form_at m.types type) ≡ true)
      × (is_array_with_references (form_at m.types type) ≡ true)) HasReferences
      (λ m runs fails. refuses_references m t local name len runs type fails.0 fails.1 fails.2)
      (known, array, refers)
  pinned_measured_follows NoSlot (type, is, high) =
      refused_by
      (λ m. (number_of m.types name ≡ Some type) × (is_array (form_at m.types type) ≡ true)
      × (is_array_with_references (form_at m.types type) ≡ false)) NoSlot
      (λ m runs fails. refuses_local m t local name len runs type fails.0 fails.1 fails.2 high)
      (is.known, is.array, is.plain)
  pinned_measured_follows TooBig (type, is, low, big) =
      refused_by
      (λ m. (number_of m.types name ≡ Some type) × (is_array (form_at m.types type) ≡ true)
      × (is_array_with_references (form_at m.types type) ≡ false) × (1073741824 < born_size m type len)) TooBig
      (λ m runs fails. refuses_size m t local name len runs type fails.0 fails.1 fails.2 low fails.3)
      (is.known, is.array, is.plain, big)
  pinned_measured_follows _ none = absurd none

  module _ (request : Request) (measured : IsMeasuredPinned w.rows local name len request) where
    -- no check fails
    pub may_bear_pinned : MayBearPinned (shown w sums options threads ahead) t local name len request.type_id.0
    may_bear_pinned = record {
      run = run;
      known = measured.suited.known;
      array = measured.suited.array;
      plain = measured.suited.plain;
      local = measured.local;
      most = let same = measured.size_is in let most = measured.most in omega (arith, same, most);
    }

    -- no place was found, and what was done for it stays
    pub pinned_fails_follows : (new : Machine) (why : NoRoom) (r : Refusal) → r ≡ refusal_of_room why
        → FollowsPinnedFails (shown w sums options threads ahead) request.size (attempt_of (Err why)) new
        → Follows (shown w sums options threads ahead) (new_pinned t local name len) (refused r) new
    pinned_fails_follows new why r told failed =
        new_follows_pinned_fails s t local name len request.type_id.0 may_bear_pinned new (attempt_of (Err why))
        (refused r) (subst (λ b. FollowsPinnedFails s b (attempt_of (Err why)) new) measured.size_is failed)
        (fails-so why r told)

-- no check on what is asked for is told as a lack of room
pub pinned-not-oom : (rows : List TypeRow) (local : ℕ) (name : List ℕ) (len : ℕ) (r : Refusal)
    → MeasuredPinned rows local name len (Err r) → r ≡ refusal.Oom → ⊥
pinned-not-oom rows local name len r is oom =
    subst (λ (q : Refusal). MeasuredPinned rows local name len (Err q)) oom is
