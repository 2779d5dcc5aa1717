-- The line that finishes what its thread has begun, on what is seen.
use Rattle.std.proofs.Common.{◌≡◌, ◌≢◌, ℕ, List, [], ◌∷◌, refl, sym, ap, subst, ◌∙◌, Bool, true, false, not}
use Rattle.std.proofs.Common.{◌&&◌, ◌==◌, Option, Some, None, eq-eqb, ne_eqb}
use Rattle.clr_types.specs.Ranges.{Piece}
use Rattle.clr_model.specs.declared.Refusal.{Refusal}
use Rattle.clr_model.specs.declared.Refusal.TheVariants.{Blocked, MidStep, NotMidStep, UnknownThread}
use Rattle.clr_model.specs.declared.Reply.TheVariants.{Done, Place}
use Rattle.clr_model.specs.Allocation.{context_front, rest_fits}
use Rattle.clr_model.specs.Machine.{begun_new, begun_store, Machine, no_step, ThreadStep}
use Rattle.clr_model.specs.Lookups.{is_step, is_thread, place_of, step_of}
use Rattle.clr_model.specs.Instructions.{finish_step}
use Rattle.clr_model.specs.Checks.{first_of_all, refusal as first_refusal, refuse_if, with_some, unknown_thread}
use Rattle.clr_model.specs.Checks.{blocked}
use Rattle.clr_model.specs.Checks.{mid_step, not_mid_step}
use Rattle.clr_model.specs.Outcomes.{answered, refused}
use Rattle.clr_model.specs.Picture.{picture, renamed_step}
use Rattle.clr_model.specs.Step.{born_small, FinishesStep}
use Rattle.clr_model.specs.Updates.{with_step}
use Rattle.clr_model.specs.Lawful.{HasItsRoom, IsLawful, StepIsPresent}
use Rattle.clr_model.specs.Run.{Follows, StandsFor}
use Rattle.clr_model.proofs.Carried.{carried, follows, refusal_carried_by}
use Rattle.clr_model.proofs.FrontBirth.{born_size, front_stands, IsFrontBirth, seen_at_front}
use Rattle.clr_model.proofs.LineChecks.{is_step-picture, obeys_done, obeys_refusal}
use Rattle.clr_runtime.specs.Steps.{finish_refusal}
use Rattle.clr_runtime.proofs.StepChanged.{picture-with_step, step-present, step-room, step-within, step_of-picture}
use Rattle.clr_runtime.proofs.StepChanged.{step_of-with, with_step_lawful}

-- ---- the checks

-- the checks, as functions of what they see
abbrev finish_by : ℕ → Bool → Option ℕ → Bool → List (Option Refusal)
finish_by t known holder stepping =
    refuse_if (not known) UnknownThread
    ∷ with_some holder (λ h. refuse_if (not (h == t) && not stepping) (Blocked h))
    ∷ refuse_if (stepping && false) MidStep
    ∷ refuse_if (not stepping && true) NotMidStep
    ∷ []

-- a line that finishes a step has no other checks
finish-same : (s : Machine) (t : ℕ) → first_refusal s (finish_step t) ≡ finish_refusal s t
finish-same s t =
    go (unknown_thread (finish_step t)) (blocked s (finish_step t)) (mid_step s (finish_step t))
    (not_mid_step s (finish_step t))
  where
    go : (a b c d : Option Refusal) → first_of_all (
        a ∷ b ∷ c ∷ d ∷ None ∷ None ∷ None ∷ None ∷ None ∷ None ∷ None ∷ None ∷ None ∷ None ∷ None ∷ None ∷ None ∷ None
        ∷ None ∷ None ∷ [])
        ≡ first_of_all (a ∷ b ∷ c ∷ d ∷ [])
    go (Some r) b c d = refl
    go None (Some r) c d = refl
    go None None (Some r) d = refl
    go None None None (Some r) = refl
    go None None None None = refl

-- what is seen of a thread in the picture is what is so
finish-picture : (m : Machine) (t : ℕ) → finish_refusal (picture m) t ≡ finish_refusal m t
finish-picture m t = ap (λ b. first_of_all (finish_by t (is_thread t) m.holder b)) (is_step-picture m t)

module _ (s : Machine) (t : ℕ) where
  -- there is no such thread
  pub finish_unknown : is_thread t ≡ false → finish_refusal s t ≡ Some UnknownThread
  finish_unknown none = ap (λ b. first_of_all (finish_by t b s.holder (is_step (step_of s t)))) none

  module _ (known : is_thread t ≡ true) where
    -- it is in mid-step, whoever holds the others
    pub finish_passes : is_step (step_of s t) ≡ true → finish_refusal s t ≡ None
    finish_passes stepping = (λ i. first_of_all (finish_by t (known i) s.holder (stepping i))) ∙ go s.holder
      where
        by : (off : Bool) (h : ℕ)
            → first_of_all (None ∷ refuse_if (off && false) (Blocked h) ∷ None ∷ None ∷ []) ≡ None
        by true h = refl
        by false h = refl

        go : (holder : Option ℕ) → first_of_all (finish_by t true holder true) ≡ None
        go None = refl
        go (Some h) = by (not (h == t)) h

    module _ (idle : is_step (step_of s t) ≡ false) where
      idle_checks : (holder : Option ℕ) → s.holder ≡ holder
          → finish_refusal s t ≡ first_of_all (finish_by t true holder false)
      idle_checks holder is = λ i. first_of_all (finish_by t (known i) (is i) (idle i))

      -- it isn't, and another one holds it
      pub finish_held : (h : ℕ) → s.holder ≡ Some h → h ≢ t → finish_refusal s t ≡ Some (Blocked h)
      finish_held h is other =
          idle_checks (Some h) is
          ∙ ap (λ b. first_of_all (None ∷ refuse_if (not b && true) (Blocked h) ∷ None ∷ Some NotMidStep ∷ []))
          (ne_eqb h t other)

      -- it isn't, and holds all others itself
      pub finish_holds : (h : ℕ) → s.holder ≡ Some h → h ≡ t → finish_refusal s t ≡ Some NotMidStep
      finish_holds h is same =
          idle_checks (Some h) is
          ∙ ap (λ b. first_of_all (None ∷ refuse_if (not b && true) (Blocked h) ∷ None ∷ Some NotMidStep ∷ []))
          (eq-eqb h t same)

      -- it isn't, and no thread holds the others
      pub finish_free : s.holder ≡ None → finish_refusal s t ≡ Some NotMidStep
      finish_free is = idle_checks None is

  -- where none of them fails, the thread is in mid-step
  pub finish_passed : finish_refusal s t ≡ None → (is_thread t ≡ true) × (is_step (step_of s t) ≡ true)
  finish_passed e =
      go (is_thread t)
      (with_some s.holder (λ h. refuse_if (not (h == t) && not (is_step (step_of s t))) (Blocked h)))
      (is_step (step_of s t)) e
    where
      go : (known : Bool) (held : Option Refusal) (stepping : Bool)
          → first_of_all (refuse_if (not known) UnknownThread ∷ held ∷ refuse_if (stepping && false) MidStep
          ∷ refuse_if (not stepping && true) NotMidStep ∷ []) ≡ None
          → (known ≡ true) × (stepping ≡ true)
      go true held true e = (refl, refl)
      go true None false e = absurd cc
      go true (Some r) false e = absurd cc
      go false held stepping e = absurd cc

  -- the line is refused for the first of them that fails
  pub finish_refused : (r : Refusal) → finish_refusal s t ≡ Some r → Follows s (finish_step t) (refused r) s
  finish_refused r e =
      follows s (finish_step t) (refused r) s
      (refusal_carried_by (finish_step t) (λ w. finish_refusal w t ≡ Some r) r
      (λ m named fails. obeys_refusal m (finish_step t) r (finish-same m t ∙ sym (finish-picture m t) ∙ fails)) s e)

-- a thread in mid-step finishes what it began
finish_obeys : (m : Machine) (t : ℕ) (s : ThreadStep) → is_thread t ≡ true → step_of m t ≡ s → is_step s ≡ true
    → first_refusal m (finish_step t) ≡ None
finish_obeys m t s thread at stepping = finish-same m t ∙ finish_passes m t thread (ap is_step at ∙ stepping)

-- ---- a store

store-of : (to : ℕ → ℕ) (s : ThreadStep) (object slot : ℕ) → renamed_step to s ≡ begun_store object slot
    → (x : ℕ) × (s ≡ begun_store x slot)
store-of to no_step object slot e = absurd cc
store-of to (begun_store x k) object slot e = let same : k ≡ slot = cc in (x, ap (begun_store x) same)
store-of to (begun_new type len local) object slot e = absurd cc

-- The thread has finished its store, and no object changes.
pub finish_store_done : (s : Machine) (t object slot : ℕ) → is_thread t ≡ true → step_of s t ≡ begun_store object slot
    → Follows s (finish_step t) (answered Done) (with_step s t no_step)
finish_store_done s t object slot thread begun =
    follows s (finish_step t) _ _
    (carried (finish_step t) (λ w. step_of w t ≡ begun_store object slot) (λ w. answered Done)
    (λ w. with_step w t no_step)
    (λ m named is.
    let (x, at) = store-of (place_of m.objects) (step_of m t) object slot (sym (step_of-picture m t) ∙ is) in (
      with_step m t no_step,
      obeys_done m (finish_step t) _ _ (finish_obeys m t (begun_store x slot) thread at refl)
          (subst (λ s. FinishesStep m t s (answered Done) (with_step m t no_step)) (sym at) (refl, refl)),
      record {
        lawful = with_step_lawful m named t thread no_step tt tt;
        seen_is = picture-with_step m t no_step;
      },
    ))
    s begun)

-- ---- a birth

birth-of : (to : ℕ → ℕ) (s : ThreadStep) (type len local : ℕ) → renamed_step to s ≡ begun_new type len local
    → s ≡ begun_new type len local
birth-of to no_step type len local e = absurd cc
birth-of to (begun_store x k) type len local e = absurd cc
birth-of to (begun_new a b c) type len local e = e

-- What a thread has begun may be born at the front of its context.
pub begun_birth : (m : Machine) → IsLawful m → (t type len local : ℕ) → is_thread t ≡ true
    → step_of m t ≡ begun_new type len local → IsFrontBirth m t local type len
begun_birth m h t type len local thread at =
    let there : StepIsPresent m (begun_new type len local) = subst (StepIsPresent m) at (step-present m h t) in
    let room : HasItsRoom m t (begun_new type len local) = subst (HasItsRoom m t) at (step-room m h t thread) in
    let (rest, is, fitting, small) = room in
    record {
      thread = thread;
      local = there.0;
      typed = there.1;
      class = there.2;
      small = small;
      fits = ap (λ (r : Option Piece). rest_fits r (born_size m type len)) is ∙ fitting;
    }

-- The object is born at the front of its thread's context, and the thread has finished its step.
pub finish_birth_done : (s : Machine) (t type len local : ℕ) → is_thread t ≡ true
    → step_of s t ≡ begun_new type len local
    → Follows s (finish_step t) (answered (Place (context_front s.layout t)))
    (seen_at_front (with_step s t no_step) t local type len)
finish_birth_done s t type len local thread begun =
    follows s (finish_step t) _ _
    (carried (finish_step t) (λ w. step_of w t ≡ begun_new type len local)
    (λ w. answered (Place (context_front w.layout t))) (λ w. seen_at_front (with_step w t no_step) t local type len)
    (λ m named is.
    let at = birth-of (place_of m.objects) (step_of m t) type len local (sym (step_of-picture m t) ∙ is) in
    let idle : Machine = with_step m t no_step in
    let may = begun_birth m named.lawful t type len local thread at in
    let done = with_step_lawful m named t thread no_step tt tt in (
      born_small idle t local type len,
      obeys_done m (finish_step t) _ _ (finish_obeys m t (begun_new type len local) thread at refl)
          (subst (λ s. FinishesStep m t s (answered (Place (context_front m.layout t)))
          (born_small (with_step m t no_step) t local type len)) (sym at) (refl, refl)),
      subst (λ (w : Machine). StandsFor (seen_at_front w t local type len)
          (born_small (with_step m t no_step) t local type len)) (picture-with_step m t no_step)
          (front_stands (with_step m t no_step) t local type len done
          (ap is_step (step_of-with m t no_step (step-within m named.lawful t thread)))
          (record {
            thread = thread;
            local = may.local;
            typed = may.typed;
            class = may.class;
            small = may.small;
            fits = may.fits;
          })),
    ))
    s begun)
