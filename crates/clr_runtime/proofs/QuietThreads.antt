-- Which thread may go on: each where nothing is begun and no thread holds the others, and else as its step and the
-- holder say.
use Rattle.std.proofs.Common.{◌≡◌, ◌∙◌, ◌-◌, ◌&&◌, ◌==◌, not, ℕ, zero, suc, ap, sym, get_or, replicate, refl}
use Rattle.std.proofs.Common.{◌≤◌, Bool, true, false, [], ◌∷◌, Option, None, Some, subst}
use Rattle.std.specs.Prelude.{IfSome, IsTrue}
use Rattle.clr_model.proofs.ContextChange.{thread-between}
use Rattle.std.proofs.lemmas.Bool.{eq-eqb, ne_eqb}
use Rattle.clr_model.specs.Checks.{first_of_all, refuse_if}
use Rattle.clr_model.specs.declared.Refusal.TheVariants.{Blocked, MidStep, NotMidStep}
use Rattle.clr_model.specs.Lookups.{is_step, is_thread, step_of}
use Rattle.clr_model.specs.Machine.{Machine, Options, Sums}
use Rattle.clr_safe.specs.Threads.{begun_by, no_threads, step_by, Threads}
use Rattle.clr_safe.specs.declared.begun.Begun.TheVariants.{Nothing}
use Rattle.clr_view.specs.World.{World}
use Rattle.clr_runtime.specs.Checks.{thread_refusal}
use Rattle.clr_runtime.specs.Shown.{Ahead, shown}
use Rattle.clr_runtime.proofs.NamesChecked.{thread_by}
use Rattle.clr_runtime.proofs.StepsSeen.{step-seen}

nothing-at : (n i : ℕ) → get_or (replicate n Nothing) i Nothing ≡ Nothing
nothing-at zero i = refl
nothing-at (suc n) zero = refl
nothing-at (suc n) (suc i) = nothing-at n i

pub none_refused : (w : World) (sums : Sums) (options : Options) (threads : Threads) (ahead : Ahead) (s : Machine)
    (t : ℕ)
    → shown w sums options threads ahead ≡ s → threads ≡ no_threads → is_thread t ≡ true → thread_refusal s t ≡ None
none_refused w sums options threads ahead s t seen none thread =
    let begun : begun_by threads t ≡ Nothing = ap (λ (all : Threads). begun_by all t) none ∙ nothing-at 16 (t - 1) in
    let idle : is_step (step_of s t) ≡ is_step (step_by Nothing) =
    ap (λ (m : Machine). is_step (step_of m t)) (sym seen) ∙ ap is_step (step-seen w sums options threads ahead t)
    ∙ ap (λ what. is_step (step_by what)) begun in
    let unheld : s.holder ≡ None =
    ap (λ (m : Machine). m.holder) (sym seen) ∙ ap (λ (all : Threads). all.holder) none in
    λ i. first_of_all (thread_by t (thread i) (unheld i) (idle i))

-- ---- a thread beside others

-- the thread that holds the others is one of sixteen
pub holder-few : (holder : Option ℕ) (h : ℕ) → IfSome holder (λ t. IsTrue (is_thread t)) → holder ≡ Some h → h ≤ 16
holder-few holder h one is =
    (thread-between h (subst (λ (o : Option ℕ). IfSome o (λ t. IsTrue (is_thread t))) is one)).1

module _ (w : World) (sums : Sums) (options : Options) (threads : Threads) (ahead : Ahead) (s : Machine) (t : ℕ)
    (seen : shown w sums options threads ahead ≡ s) (thread : is_thread t ≡ true) where
  -- the checks, by what is begun and who holds the others
  checks_by : (holder : Option ℕ) (stepping : Bool) → threads.holder ≡ holder
      → is_step (step_by (begun_by threads t)) ≡ stepping
      → thread_refusal s t ≡ first_of_all (thread_by t true holder stepping)
  checks_by holder stepping held begun =
      let step : is_step (step_of s t) ≡ stepping =
      ap (λ (m : Machine). is_step (step_of m t)) (sym seen)
      ∙ ap is_step (step-seen w sums options threads ahead t) ∙ begun in
      let holds : s.holder ≡ holder = ap (λ (m : Machine). m.holder) (sym seen) ∙ held in
      λ i. first_of_all (thread_by t (thread i) (holds i) (step i))

  -- the thread is in mid-step
  pub refused_midway : is_step (step_by (begun_by threads t)) ≡ true → thread_refusal s t ≡ Some MidStep
  refused_midway begun = checks_by threads.holder true refl begun ∙ go threads.holder
    where
      one : (h : ℕ) (same : Bool) → first_of_all (refuse_if (not same && not true) (Blocked h)
          ∷ refuse_if (true && true) MidStep ∷ refuse_if (not true && false) NotMidStep ∷ []) ≡ Some MidStep
      one h true = refl
      one h false = refl

      go : (holder : Option ℕ) → first_of_all (thread_by t true holder true) ≡ Some MidStep
      go None = refl
      go (Some h) = one h (h == t)

  -- another one holds it
  pub refused_held : is_step (step_by (begun_by threads t)) ≡ false → (h : ℕ) → threads.holder ≡ Some h → (h ≡ t → ⊥)
      → thread_refusal s t ≡ Some (Blocked h)
  refused_held begun h held other =
      let away : (h == t) ≡ false = ne_eqb h t other in
      checks_by (Some h) false held begun
      ∙ (λ i. first_of_all (refuse_if (not (away i) && not false) (Blocked h)
      ∷ refuse_if (false && true) MidStep ∷ refuse_if (not false && false) NotMidStep ∷ []))

  -- it holds the others itself
  pub free_holding : is_step (step_by (begun_by threads t)) ≡ false → (h : ℕ) → threads.holder ≡ Some h → h ≡ t
      → thread_refusal s t ≡ None
  free_holding begun h held own =
      let same : (h == t) ≡ true = eq-eqb h t own in
      checks_by (Some h) false held begun
      ∙ (λ i. first_of_all (refuse_if (not (same i) && not false) (Blocked h)
      ∷ refuse_if (false && true) MidStep ∷ refuse_if (not false && false) NotMidStep ∷ []))

  -- none holds the others
  pub free_unheld : is_step (step_by (begun_by threads t)) ≡ false → threads.holder ≡ None → thread_refusal s t ≡ None
  free_unheld begun held = checks_by None false held begun
