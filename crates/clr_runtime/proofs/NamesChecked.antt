-- The checks on the thread and the locals of a line, on what is seen.
use Rattle.std.proofs.Common.{◌≡◌, ℕ, ◌++◌, List, [], ◌∷◌, refl, sym, ap, ◌∙◌, Bool, true, false}
use Rattle.std.proofs.Common.{if◌then◌else◌, ◌&&◌, ◌||◌, ◌==◌, nat_le, not, Option, Some, None}
use Rattle.std.proofs.lemmas.Bool.{leb-false}
use Rattle.clr_model.specs.declared.Refusal.{Refusal}
use Rattle.clr_model.specs.declared.Refusal.TheVariants.{Blocked, MidStep, NoSlot, NotMidStep, UnknownThread}
use Rattle.clr_model.specs.Machine.{Machine}
use Rattle.clr_model.specs.Lookups.{is_step, is_thread, step_of}
use Rattle.clr_model.specs.Instructions.{Instruction, suspend_others}
use Rattle.clr_model.specs.Picture.{picture}
use Rattle.clr_model.specs.Checks.{blocked, first_of_all, is_finish, mid_step, not_mid_step, refuse_if, thread_of}
use Rattle.clr_model.specs.Checks.{unknown_thread, with_some}
use Rattle.clr_model.specs.Outcomes.{refused}
use Rattle.clr_model.specs.Run.{Follows}
use Rattle.clr_model.proofs.Carried.{follows, follows_alike, IsAlike, refusal_carried_by}
use Rattle.clr_model.proofs.LineChecks.{AreLocals, is_away, is_held_off, is_step-picture, IsThreadLine, MayRun}
use Rattle.clr_model.proofs.LineChecks.{obeys_refusal}
use Rattle.clr_runtime.specs.Checks.{names_refusal, thread_refusal}

-- ---- the first check that fails

-- one of the first checks fails, or none of them does
first-some : (checks more : List (Option Refusal)) (r : Refusal) → first_of_all checks ≡ Some r
    → first_of_all (checks ++ more) ≡ Some r
first-some [] more r e = absurd cc
first-some (None ∷ checks) more r e = first-some checks more r e
first-some (Some q ∷ checks) more r e = e

first-none : (checks more : List (Option Refusal)) → first_of_all checks ≡ None
    → first_of_all (checks ++ more) ≡ first_of_all more
first-none [] more e = refl
first-none (None ∷ checks) more e = first-none checks more e
first-none (Some q ∷ checks) more e = absurd cc

-- the checks on a thread, as functions of what they see
abbrev pub thread_by : ℕ → Bool → Option ℕ → Bool → List (Option Refusal)
thread_by t known holder stepping =
    refuse_if (not known) UnknownThread
    ∷ with_some holder (λ h. refuse_if (not (h == t) && not stepping) (Blocked h))
    ∷ refuse_if (stepping && true) MidStep
    ∷ refuse_if (not stepping && false) NotMidStep
    ∷ []

-- what is seen of a thread in the picture is what is so
refusal-picture : (m : Machine) (t : ℕ) → thread_refusal (picture m) t ≡ thread_refusal m t
refusal-picture m t = ap (λ b. first_of_all (thread_by t (is_thread t) m.holder b)) (is_step-picture m t)

-- ---- the answer of all checks

-- a thread that may not go on
pub names-thread : (s : Machine) (t : ℕ) (locals : List ℕ) (r : Refusal) → thread_refusal s t ≡ Some r
    → names_refusal s t locals ≡ Some r
names-thread s t locals r e = first-some (thread_by t (is_thread t) s.holder (is_step (step_of s t))) _ r e

-- one that may, and its locals
pub names-locals : (s : Machine) (t : ℕ) (locals : List ℕ) (away : Bool) → thread_refusal s t ≡ None
    → is_away locals ≡ away → names_refusal s t locals ≡ (if away then Some NoSlot else None)
names-locals s t locals away e is =
    first-none (thread_by t (is_thread t) s.holder (is_step (step_of s t))) _ e
    ∙ ap (λ b. first_of_all (refuse_if b NoSlot ∷ [])) is ∙ go away
  where
    go : (away : Bool) → first_of_all (refuse_if away NoSlot ∷ []) ≡ (if away then Some NoSlot else None)
    go true = refl
    go false = refl

-- a line that names one local twice names one
pub once : (s : Machine) (t k : ℕ) (r : Option Refusal) → names_refusal s t (k ∷ k ∷ []) ≡ r
    → names_refusal s t (k ∷ []) ≡ r
once s t k r e =
    ap (λ b. first_of_all (thread_by t (is_thread t) s.holder (is_step (step_of s t)) ++ refuse_if b NoSlot ∷ []))
    (sym (go (nat_le 64 k))) ∙ e
  where
    go : (b : Bool) → (b || (b || false)) ≡ (b || false)
    go true = refl
    go false = refl

-- ---- a line that is refused

-- Each line of a thread that finishes no step is refused for the first check on its thread that fails.
pub thread_refused : (i : Instruction) (t : ℕ) → thread_of i ≡ Some t → is_finish i ≡ false → (s : Machine)
    (r : Refusal) → thread_refusal s t ≡ Some r → Follows s i (refused r) s
thread_refused i t of begins s r e =
    follows s i (refused r) s
    (refusal_carried_by i (λ w. thread_refusal w t ≡ Some r) r
    (λ m named fails. obeys_refusal m i r (first-some (checks m) _ r (same m ∙ sym (refusal-picture m t) ∙ fails))) s e)
  where
    checks : Machine → List (Option Refusal)
    checks m = unknown_thread i ∷ blocked m i ∷ mid_step m i ∷ not_mid_step m i ∷ []

    same : (m : Machine) → first_of_all (checks m) ≡ thread_refusal m t
    same m = λ k. first_of_all (
        with_some (of k) (λ u. refuse_if (not (is_thread u)) UnknownThread)
        ∷ with_some (of k) (λ u.
        with_some m.holder (λ h. refuse_if (not (h == u) && not (is_step (step_of m u))) (Blocked h)))
        ∷ with_some (of k) (λ u. refuse_if (is_step (step_of m u) && not (begins k)) MidStep)
        ∷ with_some (of k) (λ u. refuse_if (not (is_step (step_of m u)) && begins k) NotMidStep)
        ∷ [])

module _ (i : Instruction) (t : ℕ) (locals : List ℕ) (more : Machine → List (Option Refusal))
    (line : IsThreadLine i t locals more) (alike : IsAlike i) (s : Machine) where
  -- and one that names locals is refused for the first check on thread and locals that fails
  pub names_refused : (r : Refusal) → names_refusal s t locals ≡ Some r → Follows s i (refused r) s
  names_refused r e =
      let first = suspend_others t in
      follows_alike i alike s (refused r) s
      (obeys_refusal s i r
      (line.checks s
      ∙ go (unknown_thread first) (blocked s first) (mid_step s first) (not_mid_step s first)
      (refuse_if (is_away locals) NoSlot) e))
    where
      go : (a b c d x : Option Refusal) → first_of_all (a ∷ b ∷ c ∷ d ∷ x ∷ []) ≡ Some r
          → first_of_all (a ∷ b ∷ c ∷ d ∷ None ∷ None ∷ None ∷ None ∷ None ∷ None ∷ x ∷ more s) ≡ Some r
      go (Some q) b c d x e = e
      go None (Some q) c d x e = e
      go None None (Some q) d x e = e
      go None None None (Some q) x e = e
      go None None None None (Some q) e = e
      go None None None None None e = absurd cc

-- ---- a line that goes on

-- where no check on its thread fails, it may run
pub may_run : (s : Machine) (t : ℕ) → thread_refusal s t ≡ None → MayRun s t
may_run s t e = go (is_thread t) (is_step (step_of s t)) s.holder refl refl refl e
  where
    go : (known stepping : Bool) (holder : Option ℕ) → is_thread t ≡ known → is_step (step_of s t) ≡ stepping
        → s.holder ≡ holder → first_of_all (thread_by t known holder stepping) ≡ None → MayRun s t
    go false stepping holder is_known is_stepping is_holder e = absurd cc
    go true true None is_known is_stepping is_holder e = absurd cc
    go true false None is_known is_stepping is_holder e = record {
      thread = is_known;
      idle = is_stepping;
      unheld = ap (λ (o : Option ℕ). is_held_off o t) is_holder;
    }
    go true stepping (Some h) is_known is_stepping is_holder e = by (not (h == t)) stepping refl is_stepping e
      where
        by : (off stepping : Bool) → not (h == t) ≡ off → is_step (step_of s t) ≡ stepping
            → first_of_all (None ∷ refuse_if (off && not stepping) (Blocked h) ∷ refuse_if (stepping && true) MidStep
            ∷ refuse_if (not stepping && false) NotMidStep ∷ []) ≡ None
            → MayRun s t
        by true true is_off is_stepping e = absurd cc
        by true false is_off is_stepping e = absurd cc
        by false true is_off is_stepping e = absurd cc
        by false false is_off is_stepping e = record {
          thread = is_known;
          idle = is_stepping;
          unheld = ap (λ (o : Option ℕ). is_held_off o t) is_holder ∙ is_off;
        }

all-locals : (locals : List ℕ) → is_away locals ≡ false → AreLocals locals
all-locals [] e = tt
all-locals (k ∷ ks) e = go (nat_le 64 k) refl e (all-locals ks)
  where
    go : (b : Bool) → nat_le 64 k ≡ b → (b || is_away ks) ≡ false → (is_away ks ≡ false → AreLocals ks)
        → AreLocals (k ∷ ks)
    go true is e rest = absurd cc
    go false is e rest = (leb-false 64 k is, rest e)

-- and where no check on its locals fails, they are there, too
pub names_passed : (s : Machine) (t : ℕ) (locals : List ℕ) → names_refusal s t locals ≡ None
    → MayRun s t × AreLocals locals
names_passed s t locals e = go (thread_refusal s t) refl
  where
    go : (o : Option Refusal) → thread_refusal s t ≡ o → MayRun s t × AreLocals locals
    go (Some r) is = absurd (none-some r (sym e ∙ names-thread s t locals r is))
      where
        none-some : (r : Refusal) → None ≡ Some r → ⊥
        none-some r e = cc
    go None is = (may_run s t is, all-locals locals (away (is_away locals) refl))
      where
        away : (b : Bool) → is_away locals ≡ b → is_away locals ≡ false
        away false is_away = is_away
        away true is_away = absurd (some-none (sym (names-locals s t locals true is is_away) ∙ e))
          where
            some-none : Some NoSlot ≡ None → ⊥
            some-none e = cc
