-- The line that makes an object: its refusals, and what it does where no check fails.
use Rattle.std.proofs.Common.{◌≡◌, ℕ, ◌<◌, ◌≤◌, ◌⊎◌, List, [], ◌∷◌, refl, sym, ap, subst, ◌∙◌, arith, Bool, true}
use Rattle.std.proofs.Common.{false, if◌then◌else◌, not, ◌&&◌, ◌||◌, ◌==◌, nat_le, nat_lt, Option, Some, None, is_some}
use Rattle.std.proofs.Common.{is_none, unwrap_or, MatchBool, inl, inr}
use Rattle.std.proofs.lemmas.Bool.{lt-leb, le-leb, lt-ltb, le-ltb}
use Rattle.clr_types.specs.Types.{type_row, form_at, number_of, is_array, has_finalizer}
use Rattle.clr_model.specs.declared.Refusal.{Refusal}
use Rattle.clr_model.specs.declared.Refusal.TheVariants.{UnknownThread, Blocked, MidStep, NotMidStep, UnknownType}
use Rattle.clr_model.specs.declared.Refusal.TheVariants.{BadShape, NoSlot, TooBig, NoMemory}
use Rattle.clr_model.specs.Machine.{Machine}
use Rattle.clr_model.specs.Instructions.{new_object}
use Rattle.clr_model.specs.Checks.{refusal as first_refusal, refuse_if, with_some, first_of_all}
use Rattle.clr_model.specs.Outcomes.{Outcome, refused}
use Rattle.clr_model.specs.Step.{Obeys, MakesSmall, MakesLarge, WantsEntry}
use Rattle.clr_model.specs.Lawful.{IsBirthNamed}
use Rattle.clr_model.proofs.LineChecks.{MayRun, obeys_refusal, obeys_done, unheld_passes}
use Rattle.clr_model.proofs.Birth.{born_size}

-- a length is given to an array, and none to a class
abbrev pub suits_form : Machine → ℕ → Option ℕ → Bool
suits_form m type len = if is_array (form_at m.types type) then is_some len else is_none len

-- No check of the line but that of the size fails: an object of this type may be asked for.
pub record MayAsk (m : Machine) (t k : ℕ) (name : List ℕ) (len : Option ℕ) (type : ℕ) : Type 0 where
  pub run : MayRun m t
  pub known : number_of m.types name ≡ Some type
  pub shape : suits_form m type len ≡ true
  pub local : k < 64

-- Nor does that of the size, and the object is small.
pub record MayBear (m : Machine) (t k : ℕ) (name : List ℕ) (len : Option ℕ) (type : ℕ) : Type 0 where
  pub run : MayRun m t
  pub known : number_of m.types name ≡ Some type
  pub shape : suits_form m type len ≡ true
  pub local : k < 64
  pub small : born_size m type (unwrap_or len 0) < m.options.large

-- Nor does that of the size, and the object is large.
pub record MayBearLarge (m : Machine) (t k : ℕ) (name : List ℕ) (len : Option ℕ) (type : ℕ) : Type 0 where
  pub run : MayRun m t
  pub known : number_of m.types name ≡ Some type
  pub shape : suits_form m type len ≡ true
  pub local : k < 64
  pub is_large : m.options.large ≤ born_size m type (unwrap_or len 0)
  pub most : born_size m type (unwrap_or len 0) ≤ 1073741824

-- an object that may be made may be asked for, if it is small
pub asks_small : (m : Machine) (t k : ℕ) (name : List ℕ) (len : Option ℕ) (type : ℕ) → MayBear m t k name len type
    → MayAsk m t k name len type
asks_small m t k name len type h = record { run = h.run; known = h.known; shape = h.shape; local = h.local }

-- and if it is large
pub asks_large : (m : Machine) (t k : ℕ) (name : List ℕ) (len : Option ℕ) (type : ℕ) → MayBearLarge m t k name len type
    → MayAsk m t k name len type
asks_large m t k name len type h = record { run = h.run; known = h.known; shape = h.shape; local = h.local }

-- ---- the checks

-- the checks of the line, where the check for a holder comes to `held`
abbrev checks_behind : Bool → Option Refusal → Bool → Option ℕ → Bool → Bool → Bool → Option Refusal
checks_behind thread held stepping number suits away big = first_of_all (
    refuse_if (not thread) UnknownThread
    ∷ held
    ∷ refuse_if (stepping && true) MidStep
    ∷ refuse_if (not stepping && false) NotMidStep
    ∷ None
    ∷ refuse_if (is_none number) UnknownType
    ∷ None ∷ refuse_if (not suits) BadShape ∷ None ∷ None
    ∷ refuse_if (away || false) NoSlot
    ∷ None ∷ None ∷ None ∷ None ∷ None ∷ None
    ∷ refuse_if big TooBig ∷ None ∷ None ∷ [])

-- the same, as a function of what they see
abbrev checks_by : ℕ → Bool → Option ℕ → Bool → Option ℕ → Bool → Bool → Bool → Option Refusal
checks_by t thread holder stepping =
    checks_behind thread (with_some holder (λ h. refuse_if (not (h == t) && not stepping) (Blocked h))) stepping

-- a size that no object has
abbrev too_big_by : Machine → ℕ → ℕ → Bool
too_big_by m type len = nat_lt 1073741824 (born_size m type len)

module _ (m : Machine) (t k : ℕ) (name : List ℕ) (len : Option ℕ) where
  -- what the checks come to, by what they see
  refusal-by : MayRun m t → (number : Option ℕ) (suits away big : Bool) → number_of m.types name ≡ number
      → suits_form m (unwrap_or (number_of m.types name) 0) len ≡ suits → nat_le 64 k ≡ away
      → too_big_by m (unwrap_or (number_of m.types name) 0) (unwrap_or len 0) ≡ big
      → first_refusal m (new_object t k name len) ≡ checks_by t true None false number suits away big
  refusal-by run number suits away big is_number is_suits is_away is_big =
      let thread = run.thread in let idle = run.idle in
      (λ i. checks_by t (thread i) m.holder (idle i) (is_number i) (is_suits i) (is_away i) (is_big i))
      ∙ ap (λ held. checks_behind true held false number suits away big) (unheld_passes m.holder t run.unheld)

  -- a name that no type has
  pub new_refuses_type : MayRun m t → number_of m.types name ≡ None
      → Obeys m (new_object t k name len) (refused UnknownType) m
  new_refuses_type run unknown = obeys_refusal m (new_object t k name len) UnknownType
      (refusal-by run None _ _ _ unknown refl refl refl)

  module _ (type : ℕ) (known : number_of m.types name ≡ Some type) where
    number_is : unwrap_or (number_of m.types name) 0 ≡ type
    number_is = ap (λ (n : Option ℕ). unwrap_or n 0) known

    suits_is : (b : Bool) → suits_form m type len ≡ b → suits_form m (unwrap_or (number_of m.types name) 0) len ≡ b
    suits_is b e = ap (λ n. suits_form m n len) number_is ∙ e

    -- a length with a class, or an array without one
    pub new_refuses_shape : MayRun m t → suits_form m type len ≡ false
        → Obeys m (new_object t k name len) (refused BadShape) m
    new_refuses_shape run unsuited =
        obeys_refusal m (new_object t k name len) BadShape
        (refusal-by run (Some type) false _ _ known (suits_is false unsuited) refl refl)

    -- a local that there is not
    pub new_refuses_local : MayRun m t → suits_form m type len ≡ true → 64 ≤ k
        → Obeys m (new_object t k name len) (refused NoSlot) m
    new_refuses_local run suited high =
        obeys_refusal m (new_object t k name len) NoSlot
        (refusal-by run (Some type) true true _ known (suits_is true suited) (le-leb 64 k high) refl)

    -- more bytes than an object may have
    pub new_refuses_size : MayRun m t → suits_form m type len ≡ true → k < 64
        → 1073741824 < born_size m type (unwrap_or len 0) → Obeys m (new_object t k name len) (refused TooBig) m
    new_refuses_size run suited local big =
        obeys_refusal m (new_object t k name len) TooBig
        (refusal-by run (Some type) true false true known (suits_is true suited) (lt-leb 64 k local)
        (ap (λ n. too_big_by m n (unwrap_or len 0)) number_is
        ∙ lt-ltb 1073741824 (born_size m type (unwrap_or len 0)) big))

  -- by the type's number, and by whether the object is large
  abbrev does_by : ℕ → Bool → Outcome → Machine → Type 0
  does_by type large outcome new =
      MatchBool large (MakesLarge m t k type (unwrap_or len 0) outcome new)
      (MakesSmall m t k type (unwrap_or len 0) outcome new) ⊎ WantsEntry m type outcome new

  module _ (type : ℕ) (h : MayAsk m t k name len type) (fits : too_big_by m type (unwrap_or len 0) ≡ false)
      (large : Bool) (is : nat_le m.options.large (born_size m type (unwrap_or len 0)) ≡ large) where
    -- no check fails
    passes : first_refusal m (new_object t k name len) ≡ None
    passes =
        refusal-by h.run (Some type) true false false h.known (suits_is type h.known true h.shape) (lt-leb 64 k h.local)
        (ap (λ n. too_big_by m n (unwrap_or len 0)) (number_is type h.known) ∙ fits)

    -- where no check fails, the line does what it says
    obeys_by : (outcome : Outcome) (new : Machine) → does_by type large outcome new
        → Obeys m (new_object t k name len) outcome new
    obeys_by outcome new does =
        obeys_done m (new_object t k name len) outcome new passes
        (subst (λ n. does_by n (nat_le m.options.large (born_size m n (unwrap_or len 0))) outcome new)
        (sym (number_is type h.known)) (subst (λ b. does_by type b outcome new) (sym is) does))

  -- ---- a small object

  module _ (type : ℕ) (named : IsBirthNamed m) (h : MayBear m t k name len type) where
    -- a small size isn't too big
    small_enough : too_big_by m type (unwrap_or len 0) ≡ false
    small_enough =
        let size = born_size m type (unwrap_or len 0) in
        let small = h.small in
        let a = named.lawful.options.large_greatest in
        let b = named.lawful.options.segment_greatest in
        le-ltb 1073741824 size (omega arith)

    -- so the line does what it says of a small object
    small_obeys : (outcome : Outcome) (new : Machine) → does_by type false outcome new
        → Obeys m (new_object t k name len) outcome new
    small_obeys =
        obeys_by type (asks_small m t k name len type h) small_enough false
        (lt-leb m.options.large (born_size m type (unwrap_or len 0)) h.small)

    -- what a line that makes a small object does, where no check fails
    pub new_obeys_small : (outcome : Outcome) (new : Machine) → MakesSmall m t k type (unwrap_or len 0) outcome new
        → Obeys m (new_object t k name len) outcome new
    new_obeys_small outcome new made = small_obeys outcome new (inl made)

    -- no memory for the finalisation entry
    pub new_refuses_memory : has_finalizer (type_row m.types type) ≡ true
        → Obeys m (new_object t k name len) (refused NoMemory) m
    new_refuses_memory final = small_obeys (refused NoMemory) m (inr (final, (refl, refl)))

  -- ---- a large one

  module _ (type : ℕ) (h : MayBearLarge m t k name len type) where
    -- nor is a large one
    large_enough : too_big_by m type (unwrap_or len 0) ≡ false
    large_enough =
        le-ltb 1073741824 (born_size m type (unwrap_or len 0)) h.most

    -- so the line does what it says of a large object
    large_obeys : (outcome : Outcome) (new : Machine) → does_by type true outcome new
        → Obeys m (new_object t k name len) outcome new
    large_obeys =
        obeys_by type (asks_large m t k name len type h) large_enough true
        (le-leb m.options.large (born_size m type (unwrap_or len 0)) h.is_large)

    -- what a line that makes a large object does, where no check fails
    pub new_obeys_large : (outcome : Outcome) (new : Machine) → MakesLarge m t k type (unwrap_or len 0) outcome new
        → Obeys m (new_object t k name len) outcome new
    new_obeys_large outcome new made = large_obeys outcome new (inl made)

    -- no memory for the finalisation entry
    pub new_refuses_large_memory : has_finalizer (type_row m.types type) ≡ true
        → Obeys m (new_object t k name len) (refused NoMemory) m
    new_refuses_large_memory final = large_obeys (refused NoMemory) m (inr (final, (refl, refl)))
