-- The checks of a line, as functions of what they see, and the outcomes that follow from them.
use Rattle.std.proofs.Common.{◌≡◌, ◌≢◌, ℕ, ◌-◌, ◌<◌, ◌≤◌, List, [], ◌∷◌, map, length, refl, sym, ap, subst, ◌∙◌, arith}
use Rattle.std.proofs.Common.{Bool, true, false, if◌then◌else◌, not, ◌&&◌, ◌||◌, ◌==◌, nat_le, Option, Some, None}
use Rattle.std.proofs.Common.{MatchOption, zero, suc, ne_eqb, eq-eqb}
use Rattle.std.specs.Prelude.{slice_get}
use Rattle.std.specs.List.{AllByRecursion, list_any}
use Rattle.std.proofs.lemmas.Bool.{lt-leb, le-leb, leb-false}
use Rattle.clr_types.specs.Rising.{IsIn}
use Rattle.clr_types.proofs.ListMembers.{any-from}
use Rattle.clr_model.specs.declared.Refusal.{Refusal}
use Rattle.clr_model.specs.declared.Refusal.TheVariants.{UnknownThread, Blocked, MidStep, NotMidStep, NoSlot, Null}
use Rattle.clr_model.specs.declared.Refusal.TheVariants.{Index, NotReference, IsReference}
use Rattle.clr_model.specs.declared.Reply.TheVariants.{Place, Number, Done}
use Rattle.clr_model.specs.Machine.{ref, num, Object, ThreadStep, no_step, begun_store, begun_new, Machine}
use Rattle.clr_model.specs.Lookups.{is_thread, step_or_none, step_of, is_step, place_of, object_named, local_of}
use Rattle.clr_model.specs.Lookups.{slots_or_none, slots_of_named}
use Rattle.clr_model.specs.Updates.{with_local, with_slot}
use Rattle.clr_model.specs.Picture.{picture, renamed_step}
use Rattle.clr_types.specs.Types.{form_at}
use Rattle.clr_model.specs.Instructions.{Instruction, get_slot, set_slot, put_number, read_number, copy_local}
use Rattle.clr_model.specs.Instructions.{clear_local}
use Rattle.clr_model.specs.Checks.{refusal as first_refusal, refuse_if, with_some, first_of_all, thread_of}
use Rattle.clr_model.specs.Checks.{is_reference_slot, blocked, mid_step, not_mid_step, unknown_type, duplicate_type}
use Rattle.clr_model.specs.Checks.{bad_shape, too_many_types, no_slot, null, index, wrong_slot, no_handle, handle_kind}
use Rattle.clr_model.specs.Checks.{too_many_handles, too_big, no_object, empty, background, has_references}
use Rattle.clr_model.specs.Outcomes.{Outcome, answered, refused}
use Rattle.clr_model.specs.Lookups.{type_of_object}
use Rattle.clr_model.specs.Step.{Obeys, Does, stored_number, name_in, number_in}

-- ---- who may run

-- another thread than this one holds all others
abbrev pub is_held_off : Option ℕ → ℕ → Bool
is_held_off None t = false
is_held_off (Some h) t = not (h == t)

-- there is such a thread, it isn't in mid-step, and no other thread holds it
pub record MayRun (m : Machine) (t : ℕ) : Type 0 where
  pub thread : is_thread t ≡ true
  pub idle : is_step (step_of m t) ≡ false
  pub unheld : is_held_off m.holder t ≡ false

-- so it isn't refused for what another one holds
pub unheld_passes : (holder : Option ℕ) (t : ℕ) → is_held_off holder t ≡ false
    → with_some holder (λ h. refuse_if (not (h == t) && not false) (Blocked h)) ≡ None
unheld_passes None t e = refl
unheld_passes (Some h) t e = ap (λ b. refuse_if (b && not false) (Blocked h)) e

is_step-renamed : (to : ℕ → ℕ) (s : ThreadStep) → is_step (renamed_step to s) ≡ is_step s
is_step-renamed to no_step = refl
is_step-renamed to (begun_store object slot) = refl
is_step-renamed to (begun_new type len local) = refl

is_step-at : (to : ℕ → ℕ) (steps : List ThreadStep) (i : ℕ)
    → is_step (step_or_none (slice_get (map (renamed_step to) steps) i)) ≡ is_step (step_or_none (slice_get steps i))
is_step-at to [] i = refl
is_step-at to (s ∷ ss) zero = is_step-renamed to s
is_step-at to (s ∷ ss) (suc i) = is_step-at to ss i

-- a thread is in mid-step in the picture just where it is
pub is_step-picture : (m : Machine) (t : ℕ) → is_step (step_of (picture m) t) ≡ is_step (step_of m t)
is_step-picture m t = is_step-at (place_of m.objects) m.steps (t - 1)

pub may_run_of-picture : (m : Machine) (t : ℕ) → MayRun (picture m) t → MayRun m t
may_run_of-picture m t h = record { thread = h.thread; idle = sym (is_step-picture m t) ∙ h.idle; unheld = h.unheld }

-- ---- from a refusal to what is obeyed

-- the first check that fails is why the line is refused
pub obeys_refusal : (s : Machine) (i : Instruction) (r : Refusal) → first_refusal s i ≡ Some r → Obeys s i (refused r) s
obeys_refusal s i r e = subst (λ (o : Option Refusal). MatchOption o (Does s i (refused r) s)
    (λ q. (refused r ≡ refused q) × (s ≡ s))) (sym e) (refl, refl)

-- where none fails, the line does what it does
pub obeys_done : (s : Machine) (i : Instruction) (outcome : Outcome) (new : Machine) → first_refusal s i ≡ None
    → Does s i outcome new → Obeys s i outcome new
obeys_done s i outcome new e does =
    subst (λ (o : Option Refusal). MatchOption o (Does s i outcome new) (λ q. (outcome ≡ refused q) × (new ≡ s)))
    (sym e) does

-- a line of a thread that there is not
pub refuses_thread : (s : Machine) (i : Instruction) (t : ℕ) → thread_of i ≡ Some t → is_thread t ≡ false
    → Obeys s i (refused UnknownThread) s
refuses_thread s i t of none =
    obeys_refusal s i UnknownThread
    (ap
    (λ c. first_of_all (
    c ∷ blocked s i ∷ mid_step s i ∷ not_mid_step s i ∷ background s i ∷ unknown_type s i ∷ duplicate_type s i
    ∷ bad_shape s i ∷ too_many_types s i ∷ has_references s i ∷ no_slot i ∷ null s i ∷ index s i ∷ wrong_slot s i
    ∷ no_handle s i ∷ handle_kind s i
    ∷ too_many_handles s i ∷ too_big s i ∷ no_object s i ∷ empty s i ∷ []))
    (ap (λ o. with_some o (λ u. refuse_if (not (is_thread u)) UnknownThread)) of
    ∙ ap (λ b. refuse_if (not b) UnknownThread) none))

-- ---- lines that name locals

-- some local of these is none
abbrev pub is_away : List ℕ → Bool
is_away locals = list_any (λ k. nat_le 64 k) locals

-- the checks of a line of a thread that names locals and makes no object, where the check for a holder comes to `held`
abbrev pub line_checks_by : Bool → Option Refusal → Bool → Bool → List (Option Refusal) → Option Refusal
line_checks_by thread held stepping away more = first_of_all (
    refuse_if (not thread) UnknownThread
    ∷ held
    ∷ refuse_if (stepping && true) MidStep
    ∷ refuse_if (not stepping && false) NotMidStep
    ∷ None ∷ None ∷ None ∷ None ∷ None ∷ None
    ∷ refuse_if away NoSlot
    ∷ more)

-- the same, as a function of what they see
abbrev pub line_checks : ℕ → Bool → Option ℕ → Bool → Bool → List (Option Refusal) → Option Refusal
line_checks t thread holder stepping away more =
    line_checks_by thread (with_some holder (λ h. refuse_if (not (h == t) && not stepping) (Blocked h))) stepping away
    more

-- The line is one of this thread, names these locals, and is then checked by more.
pub record IsThreadLine (i : Instruction) (t : ℕ) (locals : List ℕ) (more : Machine
    → List (Option Refusal)) : Type 0 where
  pub thread : thread_of i ≡ Some t
  pub checks : (s : Machine) → first_refusal s i
      ≡ line_checks t (is_thread t) s.holder (is_step (step_of s t)) (is_away locals) (more s)

abbrev pub no_more : List (Option Refusal)
no_more = None ∷ None ∷ None ∷ None ∷ None ∷ None ∷ []

-- what a line that works on a slot is then checked by: null, a slot that there is not, and one of the wrong kind
abbrev pub slot_checks : Bool → Bool → Bool → Bool → List (Option Refusal)
slot_checks is_null beyond is_reference wants =
    refuse_if is_null Null ∷ refuse_if beyond Index
    ∷ (if is_reference then refuse_if (not wants) IsReference else refuse_if wants NotReference) ∷ no_more

abbrev pub slot_more : ℕ → ℕ → ℕ → Bool → Machine → List (Option Refusal)
slot_more t object index wants s =
    let slots = slots_of_named s (local_of s t object) in
    slot_checks (local_of s t object == 0) (nat_le (length slots) index)
    (is_reference_slot (slice_get slots index)) wants

-- a line that works on a slot of the object of a local
abbrev pub IsSlotLine : Instruction → ℕ → List ℕ → ℕ → ℕ → Bool → Type 0
IsSlotLine i t locals object index wants = IsThreadLine i t locals (slot_more t object index wants)

-- a line that works on locals alone
abbrev pub IsLocalLine : Instruction → ℕ → List ℕ → Type 0
IsLocalLine i t locals = IsThreadLine i t locals (λ s. None ∷ None ∷ None ∷ no_more)

pub get_line : (t to from index : ℕ) → IsSlotLine (get_slot t to from index) t (to ∷ from ∷ []) from index true
get_line t to from index = record { thread = refl; checks = λ s. refl }

pub set_line : (t into index from : ℕ) → IsSlotLine (set_slot t into index from) t (into ∷ from ∷ []) into index true
set_line t into index from = record { thread = refl; checks = λ s. refl }

pub put_line : (t into index value : ℕ) → IsSlotLine (put_number t into index value) t (into ∷ []) into index false
put_line t into index value = record { thread = refl; checks = λ s. refl }

pub read_line : (t from index : ℕ) → IsSlotLine (read_number t from index) t (from ∷ []) from index false
read_line t from index = record { thread = refl; checks = λ s. refl }

pub copy_line : (t to from : ℕ) → IsLocalLine (copy_local t to from) t (to ∷ from ∷ [])
copy_line t to from = record { thread = refl; checks = λ s. refl }

pub clear_line : (t local : ℕ) → IsLocalLine (clear_local t local) t (local ∷ [])
clear_line t local = record { thread = refl; checks = λ s. refl }

-- the locals are all below 64
abbrev pub AreLocals : List ℕ → Type 0
AreLocals locals = AllByRecursion (λ k. k < 64) locals

pub none_away : (locals : List ℕ) → AreLocals locals → is_away locals ≡ false
none_away [] all = refl
none_away (k ∷ ks) all = ap (λ b. b || is_away ks) (lt-leb 64 k all.0) ∙ none_away ks all.1

module _ (i : Instruction) (t : ℕ) (locals : List ℕ) (more : Machine
    → List (Option Refusal)) (line : IsThreadLine i t locals more) (s : Machine) where
  -- a thread that there is not
  pub line_refuses_thread : is_thread t ≡ false → Obeys s i (refused UnknownThread) s
  line_refuses_thread none = refuses_thread s i t line.thread none

  refusal-by : MayRun s t → (away : Bool) → is_away locals ≡ away
      → first_refusal s i ≡ line_checks t true None false away (more s)
  refusal-by run away e = let thread = run.thread in let idle = run.idle in
      line.checks s ∙ (λ j. line_checks t (thread j) s.holder (idle j) (e j) (more s))
      ∙ ap (λ held. line_checks_by true held false away (more s)) (unheld_passes s.holder t run.unheld)

  -- a local that there is not
  pub line_refuses_local : MayRun s t → (k : ℕ) → IsIn k locals → 64 ≤ k → Obeys s i (refused NoSlot) s
  line_refuses_local run k j high =
      obeys_refusal s i NoSlot (refusal-by run true (any-from (λ k. nat_le 64 k) locals k j (le-leb 64 k high)))

  -- where there are thread and locals, the other checks decide
  pub line_passes : MayRun s t → AreLocals locals → first_refusal s i ≡ first_of_all (more s)
  line_passes run all = refusal-by run false (none_away locals all)

  -- such a line is refused in the picture just where it is refused, if the other checks see the same there
  pub line_alike : more (picture s) ≡ more s → first_refusal (picture s) i ≡ first_refusal s i
  line_alike same =
      line.checks (picture s)
      ∙ (λ j. line_checks t (is_thread t) s.holder (is_step-picture s t j) (is_away locals) (same j))
      ∙ sym (line.checks s)

  -- where no check fails, none of the others does
  pub line_passed : first_refusal s i ≡ None → first_of_all (more s) ≡ None
  line_passed e =
      others (is_thread t)
      (with_some s.holder (λ h. refuse_if (not (h == t) && not (is_step (step_of s t))) (Blocked h)))
      (is_step (step_of s t)) (is_away locals) (sym (line.checks s) ∙ e)
    where
      others : (thread : Bool) (c : Option Refusal) (stepping away : Bool)
          → first_of_all (refuse_if (not thread) UnknownThread ∷ c ∷ refuse_if (stepping && true) MidStep
          ∷ refuse_if (not stepping && false) NotMidStep ∷ None ∷ None ∷ None ∷ None ∷ None ∷ None
          ∷ refuse_if away NoSlot
          ∷ more s) ≡ None
          → first_of_all (more s) ≡ None
      others false c stepping away e = absurd cc
      others true (Some r) stepping away e = absurd cc
      others true None true away e = absurd cc
      others true None false true e = absurd cc
      others true None false false e = e

-- ---- lines that work on a slot

module _ (i : Instruction) (t : ℕ) (locals : List ℕ) (object index : ℕ) (wants : Bool)
    (line : IsSlotLine i t locals object index wants) (s : Machine) (run : MayRun s t) (all : AreLocals locals) where
  refusal-slot : (is_null beyond is_reference : Bool) → (local_of s t object == 0) ≡ is_null
      → nat_le (length (slots_of_named s (local_of s t object))) index ≡ beyond
      → is_reference_slot (slice_get (slots_of_named s (local_of s t object)) index) ≡ is_reference
      → first_refusal s i ≡ first_of_all (slot_checks is_null beyond is_reference wants)
  refusal-slot is_null beyond is_reference a b c =
      line_passes i t locals (slot_more t object index wants) line s run all
      ∙ (λ j. first_of_all (slot_checks (a j) (b j) (c j) wants))

  -- a local that is null
  pub slot_refuses_null : local_of s t object ≡ 0 → Obeys s i (refused Null) s
  slot_refuses_null null = obeys_refusal s i Null
      (refusal-slot true _ _ (eq-eqb (local_of s t object) 0 null) refl refl)

  module _ (o : Object) (some : local_of s t object ≢ 0)
      (found : object_named s.objects (local_of s t object) ≡ Some o) where
    slots-are : slots_of_named s (local_of s t object) ≡ o.slots
    slots-are = ap slots_or_none found

    -- a slot that the object doesn't have
    pub slot_refuses_index : length o.slots ≤ index → Obeys s i (refused Index) s
    slot_refuses_index high =
        obeys_refusal s i Index (refusal-slot false true _ (ne_eqb (local_of s t object) 0 some)
        (ap (λ vs. nat_le (length vs) index) slots-are ∙ le-leb (length o.slots) index high) refl)

    within : index < length o.slots → nat_le (length (slots_of_named s (local_of s t object))) index ≡ false
    within low = ap (λ vs. nat_le (length vs) index) slots-are ∙ lt-leb (length o.slots) index low

    kind : (b : Bool) → is_reference_slot (slice_get o.slots index) ≡ b
        → is_reference_slot (slice_get (slots_of_named s (local_of s t object)) index) ≡ b
    kind b e = ap (λ vs. is_reference_slot (slice_get vs index)) slots-are ∙ e

    -- a slot of the other kind
    pub slot_refuses_kind : index < length o.slots → is_reference_slot (slice_get o.slots index) ≡ not wants
        → Obeys s i (refused (if wants then NotReference else IsReference)) s
    slot_refuses_kind low e = obeys_refusal s i (if wants then NotReference else IsReference)
        (refusal-slot false false (not wants) (ne_eqb (local_of s t object) 0 some) (within low) (kind (not wants) e)
        ∙ decided wants)
      where
        decided : (wants : Bool) → first_of_all (slot_checks false false (not wants) wants)
            ≡ Some (if wants then NotReference else IsReference)
        decided true = refl
        decided false = refl

    -- no check fails
    pub slot_passes : index < length o.slots → is_reference_slot (slice_get o.slots index) ≡ wants
        → first_refusal s i ≡ None
    slot_passes low e = refusal-slot false false wants (ne_eqb (local_of s t object) 0 some) (within low) (kind wants e)
        ∙ decided wants
      where
        decided : (wants : Bool) → first_of_all (slot_checks false false wants wants) ≡ None
        decided true = refl
        decided false = refl

-- where no check fails, the slot is there and is of the kind that is wanted
passed_by : (is_null beyond is_reference wants : Bool)
    → first_of_all (slot_checks is_null beyond is_reference wants) ≡ None → (beyond ≡ false) × (is_reference ≡ wants)
passed_by true beyond is_reference wants e = absurd cc
passed_by false true is_reference wants e = absurd cc
passed_by false false true true e = (refl, refl)
passed_by false false true false e = absurd cc
passed_by false false false true e = absurd cc
passed_by false false false false e = (refl, refl)

pub slot_passed : (i : Instruction) (t : ℕ) (locals : List ℕ) (object index : ℕ) (wants : Bool)
    → IsSlotLine i t locals object index wants → (s : Machine) → first_refusal s i ≡ None
    → (index < length (slots_of_named s (local_of s t object)))
    × (is_reference_slot (slice_get (slots_of_named s (local_of s t object)) index) ≡ wants)
slot_passed i t locals object index wants line s e =
    let slots = slots_of_named s (local_of s t object) in
    let (low, kind) = passed_by (local_of s t object == 0) (nat_le (length slots) index)
    (is_reference_slot (slice_get slots index)) wants
    (line_passed i t locals (slot_more t object index wants) line s e) in
    (leb-false (length slots) index low, kind)

-- what is read stands in the list
pub read-within : {X : Type 0} (xs : List X) (i : ℕ) (x : X) → slice_get xs i ≡ Some x → i < length xs
read-within [] i x e = absurd cc
read-within (y ∷ ys) zero x e = omega arith
read-within (y ∷ ys) (suc i) x e = let l = read-within ys i x e in omega arith

-- ---- what the lines do

module _ (s : Machine) (t : ℕ) (run : MayRun s t) where
  -- what a slot refers to goes into a local, and its place is the answer
  pub get_obeys : (to from index : ℕ) → to < 64 → from < 64 → (o : Object) → local_of s t from ≢ 0
      → object_named s.objects (local_of s t from) ≡ Some o → (name : ℕ) → slice_get o.slots index ≡ Some (ref name)
      → Obeys s (get_slot t to from index) (answered (Place (place_of s.objects name))) (with_local s t to name)
  get_obeys to from index a b o some found name e =
      let is : name_in (slice_get (slots_of_named s (local_of s t from)) index)
      ≡ name = ap (λ r. name_in (slice_get (slots_or_none r) index)) found ∙ ap name_in e in
      obeys_done s (get_slot t to from index) _ _
      (slot_passes (get_slot t to from index) t (to ∷ from ∷ []) from index true (get_line t to from index) s run
      (a, (b, tt)) o some found (read-within o.slots index (ref name) e) (ap is_reference_slot e))
      (ap (λ n. answered (Place (place_of s.objects n))) (sym is), ap (with_local s t to) (sym is))

  -- a local goes into a slot of references
  pub set_obeys : (into index from : ℕ) → into < 64 → from < 64 → (o : Object) → local_of s t into ≢ 0
      → object_named s.objects (local_of s t into) ≡ Some o → (name : ℕ) → slice_get o.slots index ≡ Some (ref name)
      → Obeys s (set_slot t into index from) (answered Done)
      (with_slot s (local_of s t into) index (ref (local_of s t from)))
  set_obeys into index from a b o some found name e =
      obeys_done s (set_slot t into index from) _ _
      (slot_passes (set_slot t into index from) t (into ∷ from ∷ []) into index true (set_line t into index from) s run
      (a, (b, tt)) o some found (read-within o.slots index (ref name) e) (ap is_reference_slot e))
      (refl, refl)

  -- a number goes into a slot of numbers
  pub put_obeys : (into index value : ℕ) → into < 64 → (o : Object) → local_of s t into ≢ 0
      → object_named s.objects (local_of s t into) ≡ Some o → (number : ℕ) → slice_get o.slots index ≡ Some (num number)
      → Obeys s (put_number t into index value) (answered Done)
      (with_slot s (local_of s t into) index (num (stored_number (form_at s.types o.type) value)))
  put_obeys into index value a o some found number e =
      obeys_done s (put_number t into index value) _ _
      (slot_passes (put_number t into index value) t (into ∷ []) into index false (put_line t into index value) s run
      (a, tt) o some found (read-within o.slots index (num number) e) (ap is_reference_slot e)) (
        refl,
        ap (λ r. with_slot s (local_of s t into) index
            (num (stored_number (form_at s.types (type_of_object r)) value))) (sym found),
      )

  -- the number in a slot is the answer
  pub read_obeys : (from index : ℕ) → from < 64 → (o : Object) → local_of s t from ≢ 0
      → object_named s.objects (local_of s t from) ≡ Some o → (number : ℕ) → slice_get o.slots index ≡ Some (num number)
      → Obeys s (read_number t from index) (answered (Number number)) s
  read_obeys from index a o some found number e =
      let is : number_in (slice_get (slots_of_named s (local_of s t from)) index)
      ≡ number = ap (λ r. number_in (slice_get (slots_or_none r) index)) found ∙ ap number_in e in
      obeys_done s (read_number t from index) _ _
      (slot_passes (read_number t from index) t (from ∷ []) from index false (read_line t from index) s run
      (a, tt) o some found (read-within o.slots index (num number) e) (ap is_reference_slot e))
      (ap (λ n. answered (Number n)) (sym is), refl)

  -- a local goes into another
  pub copy_obeys : (to from : ℕ) → to < 64 → from < 64
      → Obeys s (copy_local t to from) (answered (Place (place_of s.objects (local_of s t from))))
      (with_local s t to (local_of s t from))
  copy_obeys to from a b = obeys_done s (copy_local t to from) _ _
      (line_passes (copy_local t to from) t (to ∷ from ∷ []) (λ s. None ∷ None ∷ None ∷ no_more)
      (copy_line t to from) s run (a, (b, tt))) (refl, refl)

  -- a local becomes null
  pub clear_obeys : (local : ℕ) → local < 64 → Obeys s (clear_local t local) (answered Done) (with_local s t local 0)
  clear_obeys local a = obeys_done s (clear_local t local) _ _
      (line_passes (clear_local t local) t (local ∷ []) (λ s. None ∷ None ∷ None ∷ no_more) (clear_line t local) s run
      (a, tt)) (refl, refl)
