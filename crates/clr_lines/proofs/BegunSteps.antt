-- What threads have begun, one thread after the other.
use Rattle.std.proofs.Common.{◌≡◌, ℕ, zero, suc, ◌+◌, ◌-◌, ◌<◌, List, [], ◌∷◌, ◌++◌, length, take, ap, sym}
use Rattle.std.proofs.Common.{slice_get, arith, subst, ◌∙◌}
use Rattle.clr_types.specs.Segments.{Layout}
use Rattle.clr_model.specs.Lookups.{step_of, step_or_none}
use Rattle.clr_model.specs.Machine.{Machine, ThreadStep}
use Rattle.clr_safe.specs.Threads as safe
use Rattle.clr_safe.proofs.Entries.{step_of-begun}
use Rattle.clr_sos.specs.declared.step.Step.{Step}
use Rattle.clr_sos.specs.Steps as begun

-- what a thread has begun is its step
pub step-begun : (m : Machine) (threads : safe.Threads) (t : ℕ) → safe.steps_of threads ≡ m.steps
    → safe.step_by (safe.begun_by threads t) ≡ step_of m t
step-begun m threads t e = rw (← e) (sym (step_of-begun threads t))

-- one thread more
steps-next : (layout : Layout) (t k : ℕ) (ss : List ThreadStep) → k < length ss
    → begun.steps_of layout t (take (suc k) ss)
    ≡ begun.steps_of layout t (take k ss) ++ begun.step_of layout (t + k) (step_or_none (slice_get ss k)) ∷ []
steps-next layout t k [] within = absurd (omega (arith, within))
steps-next layout t zero (s ∷ ss) within =
    let same : t ≡ t + 0 = omega arith in
    ap (λ u. begun.step_of layout u s ∷ []) same
steps-next layout t (suc k) (s ∷ ss) within =
    let more = steps-next layout (t + 1) k ss (omega (arith, within)) in
    let same : t + 1 + k ≡ t + suc k = omega arith in
    ap (λ rest. begun.step_of layout t s ∷ rest) (subst (λ u.
    begun.steps_of layout (t + 1) (take (suc k) ss)
    ≡ begun.steps_of layout (t + 1) (take k ss) ++ begun.step_of layout u (step_or_none (slice_get ss k)) ∷ [])
    same more)

pub steps-turn : (m : Machine) (k : ℕ) (built : List Step) (x : Step) → k < length m.steps
    → begun.steps_of m.layout 1 (take k m.steps) ≡ built
    → x ≡ begun.step_of m.layout (k + 1) (step_of m (k + 1))
    → begun.steps_of m.layout 1 (take (k + 1) m.steps) ≡ built ++ x ∷ []
steps-turn m k built x within so_far is =
    let next = steps-next m.layout 1 k m.steps within in
    let turn : suc k ≡ k + 1 = omega arith in
    let thread : 1 + k ≡ k + 1 = omega arith in
    let at : k + 1 - 1 ≡ k = omega arith in
    let step : begun.step_of m.layout (1 + k) (step_or_none (slice_get m.steps k)) ≡ x =
    ap (λ u. begun.step_of m.layout u (step_or_none (slice_get m.steps k))) thread
    ∙ (ap (λ i. begun.step_of m.layout (k + 1) (step_or_none (slice_get m.steps i))) (sym at) ∙ sym is) in
    ap (λ n. begun.steps_of m.layout 1 (take n m.steps)) (sym turn) ∙ (next
    ∙ (ap (λ front. front ++ begun.step_of m.layout (1 + k) (step_or_none (slice_get m.steps k)) ∷ []) so_far
    ∙ ap (λ s. built ++ s ∷ []) step))
