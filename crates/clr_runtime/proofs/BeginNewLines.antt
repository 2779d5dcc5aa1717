-- The line that makes room for an object, and leaves its birth to a later line, on what is seen.
use Rattle.std.proofs.Common.{◌≡◌, ℕ, ◌<◌, ◌≤◌, List, [], ◌∷◌, refl, sym, ap, subst, ◌∙◌, arith, Bool, true, false, not}
use Rattle.std.proofs.Common.{◌&&◌, ◌||◌, ◌==◌, nat_le, nat_lt, Option, Some, None, is_some, is_none}
use Rattle.std.proofs.Common.{unwrap_or, ◌⊎◌, inl, inr}
use Rattle.std.proofs.lemmas.Bool.{le-leb, le-ltb, lt-leb}
use Rattle.clr_types.specs.Types.{form_at, has_finalizer, is_array, number_of, type_row, TypeRow}
use Rattle.clr_model.specs.declared.Refusal.{Refusal}
use Rattle.clr_model.specs.declared.Refusal.TheVariants.{BadShape, Blocked, MidStep, NoMemory, NoSlot, NotMidStep}
use Rattle.clr_model.specs.declared.Refusal.TheVariants.{TooBig}
use Rattle.clr_model.specs.declared.Refusal.TheVariants.{UnknownThread, UnknownType}
use Rattle.clr_model.specs.declared.Reply.TheVariants.{Done}
use Rattle.clr_model.specs.Allocation.{Attempt, own_fits, roomed}
use Rattle.clr_model.specs.Machine.{begun_new, Machine, Options}
use Rattle.clr_model.specs.Instructions.{begin_new, Instruction}
use Rattle.clr_model.specs.Checks.{first_of_all, refusal as first_refusal, refuse_if, with_some}
use Rattle.clr_model.specs.Outcomes.{answered, Outcome, refused}
use Rattle.clr_model.specs.Picture.{picture}
use Rattle.clr_model.specs.Step.{BeginsNew, Fails, Obeys, WantsEntry}
use Rattle.clr_model.specs.Updates.{with_step}
use Rattle.clr_model.specs.Lawful.{HasItsRoom, IsBirthNamed, StepIsPresent}
use Rattle.clr_model.specs.RoomFollows.{FollowsRoom}
use Rattle.clr_model.specs.Run.{Follows}
use Rattle.clr_model.proofs.BirthFollows.{asked_birth, may_bear_of-picture}
use Rattle.clr_model.proofs.BirthLine.{asks_small, MayBear, suits_form}
use Rattle.clr_model.proofs.Carried.{carried, follows, refusal_carried_by}
use Rattle.clr_model.proofs.FrontBirth.{born_size, own-rest}
use Rattle.clr_model.proofs.LineChecks.{may_run_of-picture, MayRun, obeys_done, obeys_refusal, unheld_passes}
use Rattle.clr_model.proofs.RoomFollows.{LeavesParts, of_picture, room_followed, room_leaves}
use Rattle.clr_runtime.proofs.StepChanged.{picture-with_step, with_step_lawful}

-- ---- the checks

-- the checks of the line, where the check for a holder comes to `held`
abbrev checks_behind : Bool → Option Refusal → Bool → Option ℕ → Bool → Bool → Bool → Option Refusal
checks_behind thread held stepping number suits away big = first_of_all (
    refuse_if (not thread) UnknownThread
    ∷ held
    ∷ refuse_if (stepping && true) MidStep
    ∷ refuse_if (not stepping && false) NotMidStep
    ∷ None
    ∷ refuse_if (is_none number) UnknownType
    ∷ None ∷ refuse_if (not suits) BadShape ∷ None ∷ None
    ∷ refuse_if (away || false) NoSlot
    ∷ None ∷ None ∷ None ∷ None ∷ None ∷ None
    ∷ refuse_if big TooBig ∷ None ∷ None ∷ [])

-- the same, as a function of what they see
abbrev checks_by : ℕ → Bool → Option ℕ → Bool → Option ℕ → Bool → Bool → Bool → Option Refusal
checks_by t thread holder stepping =
    checks_behind thread (with_some holder (λ h. refuse_if (not (h == t) && not stepping) (Blocked h))) stepping

-- a size that no small object has
abbrev too_big_by : Machine → ℕ → ℕ → Bool
too_big_by m type len = nat_lt 1073741824 (born_size m type len) || nat_le m.options.large (born_size m type len)

or-true : (b c : Bool) → c ≡ true → (b || c) ≡ true
or-true true c e = refl
or-true false c e = e

module _ (m : Machine) (t k : ℕ) (name : List ℕ) (len : Option ℕ) where
  -- what the checks come to, by what they see
  refusal-by : MayRun m t → (number : Option ℕ) (suits away big : Bool) → number_of m.types name ≡ number
      → suits_form m (unwrap_or (number_of m.types name) 0) len ≡ suits → nat_le 64 k ≡ away
      → too_big_by m (unwrap_or (number_of m.types name) 0) (unwrap_or len 0) ≡ big
      → first_refusal m (begin_new t k name len) ≡ checks_by t true None false number suits away big
  refusal-by run number suits away big is_number is_suits is_away is_big =
      let thread = run.thread in let idle = run.idle in
      (λ i. checks_by t (thread i) m.holder (idle i) (is_number i) (is_suits i) (is_away i) (is_big i))
      ∙ ap (λ held. checks_behind true held false number suits away big) (unheld_passes m.holder t run.unheld)

  -- a name that no type has
  begin_refuses_type : MayRun m t → number_of m.types name ≡ None
      → Obeys m (begin_new t k name len) (refused UnknownType) m
  begin_refuses_type run unknown = obeys_refusal m (begin_new t k name len) UnknownType
      (refusal-by run None _ _ _ unknown refl refl refl)

  module _ (type : ℕ) (known : number_of m.types name ≡ Some type) where
    number_is : unwrap_or (number_of m.types name) 0 ≡ type
    number_is = ap (λ (n : Option ℕ). unwrap_or n 0) known

    suits_is : (b : Bool) → suits_form m type len ≡ b → suits_form m (unwrap_or (number_of m.types name) 0) len ≡ b
    suits_is b e = ap (λ n. suits_form m n len) number_is ∙ e

    -- a length with a class, or an array without one
    begin_refuses_shape : MayRun m t → suits_form m type len ≡ false
        → Obeys m (begin_new t k name len) (refused BadShape) m
    begin_refuses_shape run unsuited =
        obeys_refusal m (begin_new t k name len) BadShape
        (refusal-by run (Some type) false _ _ known (suits_is false unsuited) refl refl)

    -- a local that there is not
    begin_refuses_local : MayRun m t → suits_form m type len ≡ true → 64 ≤ k
        → Obeys m (begin_new t k name len) (refused NoSlot) m
    begin_refuses_local run suited high =
        obeys_refusal m (begin_new t k name len) NoSlot
        (refusal-by run (Some type) true true _ known (suits_is true suited) (le-leb 64 k high) refl)

    -- a large object
    begin_refuses_large : MayRun m t → suits_form m type len ≡ true → k < 64
        → m.options.large ≤ born_size m type (unwrap_or len 0) → Obeys m (begin_new t k name len) (refused TooBig) m
    begin_refuses_large run suited local big =
        obeys_refusal m (begin_new t k name len) TooBig
        (refusal-by run (Some type) true false true known (suits_is true suited) (lt-leb 64 k local)
        (ap (λ n. too_big_by m n (unwrap_or len 0)) number_is
        ∙ or-true (nat_lt 1073741824 (born_size m type (unwrap_or len 0)))
        (nat_le m.options.large (born_size m type (unwrap_or len 0)))
        (le-leb m.options.large (born_size m type (unwrap_or len 0)) big)))

  module _ (type : ℕ) (named : IsBirthNamed m) (h : MayBear m t k name len type) where
    -- a small object has no more bytes than any
    small_enough : born_size m type (unwrap_or len 0) ≤ 1073741824
    small_enough =
        let small = h.small in
        let a = named.lawful.options.large_greatest in
        let b = named.lawful.options.segment_greatest in
        omega (arith, small, a, b)

    -- no check fails
    passes : first_refusal m (begin_new t k name len) ≡ None
    passes =
        let size = born_size m type (unwrap_or len 0) in
        refusal-by h.run (Some type) true false false h.known (suits_is type h.known true h.shape) (lt-leb 64 k h.local)
        (ap (λ n. too_big_by m n (unwrap_or len 0)) (number_is type h.known)
        ∙ (λ i. le-ltb 1073741824 (born_size m type (unwrap_or len 0)) small_enough i
        || lt-leb m.options.large (born_size m type (unwrap_or len 0)) h.small i))

    -- where no check fails, the line does what it says
    obeys_by : (outcome : Outcome) (new : Machine)
        → BeginsNew m t k type (unwrap_or len 0) outcome new ⊎ WantsEntry m type outcome new
        → Obeys m (begin_new t k name len) outcome new
    obeys_by outcome new does =
        obeys_done m (begin_new t k name len) outcome new passes
        (subst (λ n. BeginsNew m t k n (unwrap_or len 0) outcome new ⊎ WantsEntry m n outcome new)
        (sym (number_is type h.known)) does)

    -- the object has a type, and a length where that is an array
    begun_present : (ready : Machine) → ready.types ≡ m.types → StepIsPresent ready (begun_new type (unwrap_or len 0) k)
    begun_present ready same =
        let is = asked_birth m t k name len type (asks_small m t k name len type h) small_enough in
        subst (λ (rows : List TypeRow). (k < 64) × (is_some (type_row rows type) ≡ true)
        × (is_array (form_at rows type) ≡ false → unwrap_or len 0 ≡ 0)) (sym same) (h.local, is.typed, is.class)

    -- and the room that was made is its own
    begun_room : (ready : Machine) → LeavesParts m ready
        → own_fits ready.layout t (born_size m type (unwrap_or len 0)) ≡ true
        → HasItsRoom ready t (begun_new type (unwrap_or len 0) k)
    begun_room ready leaves fits =
        let size : born_size ready type (unwrap_or len 0) ≡ born_size m type (unwrap_or len 0) =
        ap (λ (rows : List TypeRow). born_size (record m { types = rows }) type (unwrap_or len 0)) leaves.types in
        let large : ready.options.large ≡ m.options.large = ap (λ (o : Options). o.large) leaves.options in
        let small = h.small in
        let (rest, is, fitting) = own-rest ready.layout t (born_size ready type (unwrap_or len 0))
        (ap (own_fits ready.layout t) size ∙ fits) in
        (rest, is, fitting, omega (arith, size, large, small))

-- ---- what follows

module _ (s : Machine) (t k : ℕ) (name : List ℕ) (len : Option ℕ) where
  abbrev i : Instruction
  i = begin_new t k name len

  abbrev l : ℕ
  l = unwrap_or len 0

  -- a name that no type has
  pub begin_follows_type : MayRun s t → number_of s.types name ≡ None
      → Follows s (begin_new t k name len) (refused UnknownType) s
  begin_follows_type run unknown =
      follows s i _ _
      (refusal_carried_by i (λ s. MayRun s t × (number_of s.types name ≡ None)) UnknownType
      (λ m named given. begin_refuses_type m t k name len (may_run_of-picture m t given.0) given.1)
      s (run, unknown))

  module _ (type : ℕ) where
    -- a length with a class, or an array without one
    pub begin_follows_shape : MayRun s t → number_of s.types name ≡ Some type → suits_form s type len ≡ false
        → Follows s (begin_new t k name len) (refused BadShape) s
    begin_follows_shape run known unsuited =
        follows s i _ _
        (refusal_carried_by i (λ s. MayRun s t × (number_of s.types name ≡ Some type)
        × (suits_form s type len ≡ false)) BadShape
        (λ m named given. begin_refuses_shape m t k name len type given.1 (may_run_of-picture m t given.0) given.2)
        s (run, known, unsuited))

    -- a local that there is not
    pub begin_follows_local : MayRun s t → number_of s.types name ≡ Some type → suits_form s type len ≡ true → 64 ≤ k
        → Follows s (begin_new t k name len) (refused NoSlot) s
    begin_follows_local run known suited high =
        follows s i _ _
        (refusal_carried_by i (λ s. MayRun s t × (number_of s.types name ≡ Some type)
        × (suits_form s type len ≡ true)) NoSlot
        (λ m named given. begin_refuses_local m t k name len type given.1 (may_run_of-picture m t given.0) given.2 high)
        s (run, known, suited))

    -- a large object
    pub begin_follows_large : MayRun s t → number_of s.types name ≡ Some type → suits_form s type len ≡ true → k < 64
        → s.options.large ≤ born_size s type (unwrap_or len 0) → Follows s (begin_new t k name len) (refused TooBig) s
    begin_follows_large run known suited local big =
        follows s i _ _
        (refusal_carried_by i
        (λ s. MayRun s t × (number_of s.types name ≡ Some type) × (suits_form s type len ≡ true)
        × (s.options.large ≤ born_size s type l)) TooBig
        (λ m named given. begin_refuses_large m t k name len type given.1
        (may_run_of-picture m t given.0) given.2 local given.3)
        s (run, known, suited, big))

    module _ (may : MayBear s t k name len type) where
      -- no memory for the finalisation entry
      pub begin_follows_memory : has_finalizer (type_row s.types type) ≡ true
          → Follows s (begin_new t k name len) (refused NoMemory) s
      begin_follows_memory final =
          follows s i _ _
          (refusal_carried_by i (λ s. MayBear s t k name len type × (has_finalizer (type_row s.types type) ≡ true))
          NoMemory
          (λ m named given. obeys_by m t k name len type named (may_bear_of-picture m t k name len type given.0) _ _
          (inr (given.1, (refl, refl))))
          s (may, final))

      module _ (s' : Machine) where
        -- where room was made, the thread is in mid-step
        pub begin_follows_room : FollowsRoom s t (born_size s type (unwrap_or len 0)) roomed s'
            → own_fits s'.layout t (born_size s type (unwrap_or len 0)) ≡ true
            → Follows s (begin_new t k name len) (answered Done) (with_step s' t (begun_new type (unwrap_or len 0) k))
        begin_follows_room room fits =
            follows s i _ _
            (carried i (λ s. MayBear s t k name len type × FollowsRoom s t (born_size s type l) roomed s'
            × (own_fits s'.layout t (born_size s type l) ≡ true))
            (λ s. answered Done) (λ s. with_step s' t (begun_new type l k))
            (λ m named given.
            let size = born_size m type l in
            let (ready, made, after) =
            room_followed (picture m) t size roomed s' given.1 m (record { lawful = named; seen_is = refl }) in
            let h = may_bear_of-picture m t k name len type given.0 in
            let leaves = room_leaves t size roomed ready m made in (
              with_step ready t (begun_new type l k),
              obeys_by m t k name len type named h _ _ (inl (roomed, ready, made, inl (refl, (refl, refl)))),
              record {
                lawful = with_step_lawful ready after.lawful t h.run.thread (begun_new type l k)
                    (begun_present m t k name len type named h ready leaves.types)
                    (begun_room m t k name len type named h ready leaves
                    (of_picture (λ w. own_fits w.layout t size ≡ true) s' ready after given.2));
                seen_is = picture-with_step ready t (begun_new type l k)
                    ∙ ap (λ (w : Machine). with_step w t (begun_new type l k)) after.seen_is;
              },
            ))
            s (may, room, fits))

        -- where none was made, the line is refused, and what was done for it stays
        pub begin_follows_fails : (attempt : Attempt) (outcome : Outcome)
            → FollowsRoom s t (born_size s type (unwrap_or len 0)) attempt s' → Fails attempt outcome
            → Follows s (begin_new t k name len) outcome s'
        begin_follows_fails attempt outcome room fails =
            follows s i _ _
            (carried i (λ s. MayBear s t k name len type × FollowsRoom s t (born_size s type l) attempt s')
            (λ s. outcome) (λ s. s')
            (λ m named given.
            let (ready, made, after) =
            room_followed (picture m) t (born_size m type l) attempt s' given.1 m
            (record { lawful = named; seen_is = refl }) in (
              ready,
              obeys_by m t k name len type named (may_bear_of-picture m t k name len type given.0) _ _
                  (inl (attempt, ready, made, inr (fails, refl))),
              after,
            ))
            s (may, room))
