-- The line that makes an object, on what is seen: what it does there, it does to each machine that is seen so.
use Rattle.std.proofs.Common.{◌≡◌, ℕ, zero, suc, ◌+◌, ◌-◌, ◌<◌, ◌≤◌, List, [], ◌∷◌, refl, sym, arith, subst, Bool}
use Rattle.std.proofs.Common.{true, false, if◌then◌else◌, Option, Some, None, is_some, is_none, unwrap_or}
use Rattle.std.specs.Prelude.{slice_get, bytes_eq}
use Rattle.clr_types.specs.Types.{TypeRow, type_row, form_at, number_from, number_of, has_finalizer, is_array}
use Rattle.clr_model.specs.declared.Refusal.TheVariants.{UnknownThread, UnknownType, BadShape, NoSlot, TooBig}
use Rattle.clr_model.specs.declared.Refusal.TheVariants.{NoMemory}
use Rattle.clr_model.specs.Machine.{Machine}
use Rattle.clr_model.specs.Lookups.{is_thread}
use Rattle.clr_model.specs.Picture.{picture}
use Rattle.clr_model.specs.Instructions.{Instruction, new_object}
use Rattle.clr_model.specs.Allocation.{own_fits}
use Rattle.clr_model.specs.Outcomes.{refused}
use Rattle.clr_model.specs.Step.{born_small}
use Rattle.clr_model.specs.Lawful.{IsBirthNamed}
use Rattle.clr_model.specs.Run.{StandsFor, Follows}
use Rattle.clr_model.proofs.Carried.{refusal_carried_by, follows}
use Rattle.clr_model.proofs.LineChecks.{MayRun, may_run_of-picture, refuses_thread}
use Rattle.clr_model.proofs.Birth.{born_size, IsBirth}
use Rattle.clr_model.proofs.FrontBirth.{IsFrontBirth, seen_at_front, front_stands}
use Rattle.clr_model.proofs.BirthLine.{MayAsk, MayBear, MayBearLarge, suits_form, new_refuses_type, new_refuses_shape}
use Rattle.clr_model.proofs.BirthLine.{new_refuses_local, new_refuses_size, new_refuses_memory}
use Rattle.clr_model.proofs.BirthLine.{new_refuses_large_memory}

no_length : (array : Bool) (len : Option ℕ) → array ≡ false → (if array then is_some len else is_none len) ≡ true
    → unwrap_or len 0 ≡ 0
no_length true len e f = absurd cc
no_length false None e f = refl
no_length false (Some n) e f = absurd cc

-- a type that is found by its name is there
there-from : (n : ℕ) (rows : List TypeRow) (name : List ℕ) (type : ℕ) → number_from n rows name ≡ Some type
    → (n ≤ type) × (is_some (slice_get rows (type - n)) ≡ true)
there-from n [] name type e = absurd cc
there-from n (row ∷ rows) name type e = go (bytes_eq row.name name) e (there-from (n + 1) rows name type)
  where
    go : (b : Bool) → (if b then Some n else number_from (n + 1) rows name) ≡ Some type
        → (number_from (n + 1) rows name ≡ Some type
        → (n + 1 ≤ type) × (is_some (slice_get rows (type - (n + 1))) ≡ true))
        → (n ≤ type) × (is_some (slice_get (row ∷ rows) (type - n)) ≡ true)
    go true e more =
        let same : n ≡ type = cc in
        let none : type - n ≡ 0 = omega arith in
        (omega arith, subst (λ i. is_some (slice_get (row ∷ rows) i) ≡ true) (sym none) refl)
    go false e more =
        let (low, there) = more e in
        let next : type - n ≡ suc (type - (n + 1)) = omega arith in
        (omega arith, subst (λ i. is_some (slice_get (row ∷ rows) i) ≡ true) (sym next) there)

known-there : (rows : List TypeRow) (name : List ℕ) (type : ℕ) → number_of rows name ≡ Some type
    → is_some (type_row rows type) ≡ true
known-there rows name zero e = let (low, there) = there-from 1 rows name zero e in absurd (omega arith)
known-there rows name (suc t) e = let (low, there) = there-from 1 rows name (suc t) e in
    let same : suc t - 1 ≡ t = omega arith in subst (λ i. is_some (slice_get rows i) ≡ true) same there

module _ (m : Machine) (t k : ℕ) (name : List ℕ) (len : Option ℕ) (type : ℕ) where
  -- what holds of a picture's types, options, steps and holder holds of its machine
  pub may_bear_of-picture : MayBear (picture m) t k name len type → MayBear m t k name len type
  may_bear_of-picture h = record {
    run = may_run_of-picture m t h.run;
    known = h.known;
    shape = h.shape;
    local = h.local;
    small = h.small;
  }

  -- so it does of a large object
  pub may_bear_large_of-picture : MayBearLarge (picture m) t k name len type → MayBearLarge m t k name len type
  may_bear_large_of-picture h = record {
    run = may_run_of-picture m t h.run;
    known = h.known;
    shape = h.shape;
    local = h.local;
    is_large = h.is_large;
    most = h.most;
  }

  -- an object that may be asked for may be, where it isn't too big
  pub asked_birth : MayAsk m t k name len type → born_size m type (unwrap_or len 0) ≤ 1073741824
      → IsBirth m type (unwrap_or len 0)
  asked_birth h most = record {
    typed = known-there m.types name type h.known;
    class = λ e. no_length (is_array (form_at m.types type)) len e h.shape;
    most = most;
  }

  -- it is born at the front where it fits
  pub front_birth : MayBear m t k name len type → own_fits m.layout t (born_size m type (unwrap_or len 0)) ≡ true
      → IsFrontBirth m t k type (unwrap_or len 0)
  front_birth h fits = record {
    thread = h.run.thread;
    local = h.local;
    typed = known-there m.types name type h.known;
    class = λ e. no_length (is_array (form_at m.types type)) len e h.shape;
    small = h.small;
    fits = fits;
  }

  -- the birth stands for what is seen after it
  pub born_stands : IsBirthNamed m → MayBear m t k name len type
      → own_fits m.layout t (born_size m type (unwrap_or len 0)) ≡ true
      → StandsFor (seen_at_front (picture m) t k type (unwrap_or len 0)) (born_small m t k type (unwrap_or len 0))
  born_stands named h fits = front_stands m t k type (unwrap_or len 0) named h.run.idle (front_birth h fits)

module _ (s : Machine) (t k : ℕ) (name : List ℕ) (len : Option ℕ) where
  abbrev i : Instruction
  i = new_object t k name len

  abbrev l : ℕ
  l = unwrap_or len 0

  -- no memory for the finalisation entry
  pub new_follows_memory : (type : ℕ) → MayBear s t k name len type → has_finalizer (type_row s.types type) ≡ true
      → Follows s (new_object t k name len) (refused NoMemory) s
  new_follows_memory type may final =
      follows s i _ _
      (refusal_carried_by i (λ s. MayBear s t k name len type × (has_finalizer (type_row s.types type) ≡ true)) NoMemory
      (λ m named given. new_refuses_memory m t k name len type named
      (may_bear_of-picture m t k name len type given.0) given.1)
      s (may, final))

  -- the same for a large object
  pub new_follows_large_memory : (type : ℕ) → MayBearLarge s t k name len type
      → has_finalizer (type_row s.types type) ≡ true → Follows s (new_object t k name len) (refused NoMemory) s
  new_follows_large_memory type may final =
      follows s i _ _
      (refusal_carried_by i
      (λ s. MayBearLarge s t k name len type × (has_finalizer (type_row s.types type) ≡ true)) NoMemory
      (λ m named given. new_refuses_large_memory m t k name len type
      (may_bear_large_of-picture m t k name len type given.0) given.1)
      s (may, final))

  -- a thread that there is not
  pub new_follows_thread : is_thread t ≡ false → Follows s (new_object t k name len) (refused UnknownThread) s
  new_follows_thread none = follows s i _ _
      (refusal_carried_by i (λ s. is_thread t ≡ false) UnknownThread
      (λ m named given. refuses_thread m i t refl given) s none)

  -- a name that no type has
  pub new_follows_type : MayRun s t → number_of s.types name ≡ None
      → Follows s (new_object t k name len) (refused UnknownType) s
  new_follows_type run unknown =
      follows s i _ _
      (refusal_carried_by i (λ s. MayRun s t × (number_of s.types name ≡ None)) UnknownType
      (λ m named given. new_refuses_type m t k name len (may_run_of-picture m t given.0) given.1)
      s (run, unknown))

  -- a length with a class, or an array without one
  pub new_follows_shape : (type : ℕ) → MayRun s t → number_of s.types name ≡ Some type → suits_form s type len ≡ false
      → Follows s (new_object t k name len) (refused BadShape) s
  new_follows_shape type run known unsuited =
      follows s i _ _
      (refusal_carried_by i (λ s. MayRun s t × (number_of s.types name ≡ Some type)
      × (suits_form s type len ≡ false)) BadShape
      (λ m named given. new_refuses_shape m t k name len type given.1 (may_run_of-picture m t given.0) given.2)
      s (run, known, unsuited))

  -- a local that there is not
  pub new_follows_local : (type : ℕ) → MayRun s t → number_of s.types name ≡ Some type → suits_form s type len ≡ true
      → 64 ≤ k → Follows s (new_object t k name len) (refused NoSlot) s
  new_follows_local type run known suited high =
      follows s i _ _
      (refusal_carried_by i (λ s. MayRun s t × (number_of s.types name ≡ Some type)
      × (suits_form s type len ≡ true)) NoSlot
      (λ m named given. new_refuses_local m t k name len type given.1 (may_run_of-picture m t given.0) given.2 high)
      s (run, known, suited))

  -- more bytes than an object may have
  pub new_follows_size : (type : ℕ) → MayRun s t → number_of s.types name ≡ Some type → suits_form s type len ≡ true
      → k < 64 → 1073741824 < born_size s type (unwrap_or len 0)
      → Follows s (new_object t k name len) (refused TooBig) s
  new_follows_size type run known suited local big =
      follows s i _ _
      (refusal_carried_by i
      (λ s. MayRun s t × (number_of s.types name ≡ Some type) × (suits_form s type len ≡ true)
      × (1073741824 < born_size s type l)) TooBig
      (λ m named given. new_refuses_size m t k name len type given.1
      (may_run_of-picture m t given.0) given.2 local given.3)
      s (run, known, suited, big))
