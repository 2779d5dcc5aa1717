-- Tests of what threads have begun.
use Rattle.std.proofs.Common.{◌≡◌, ℕ, suc, zero, ◌+◌, ◌<◌, ◌==◌, ◌||◌, Bool, true, false, List, [], ◌∷◌, ◌++◌, length}
use Rattle.std.proofs.Common.{take, get_or, Some, None, refl, sym, ◌∙◌, ap, arith, append_assoc, append-nil}
use Rattle.std.specs.List.{list_any}
use Rattle.clr_format.specs.NameTests.{first_failed, fronts_of, is_among, with_earlier}
use Rattle.clr_sos.specs.declared.step.Step.{Step}
use Rattle.clr_load.specs.StepTests.{fronts_among}

-- ---- one word

pub first_fails : (q : ℕ) (a : Bool) → a ≡ false → first_failed ((q + 0, a) ∷ []) ≡ Some q
unfolding first_failed
first_fails q a bad =
    let at : q + 0 ≡ q = omega arith in ap (λ (t : Bool). first_failed ((q + 0, t) ∷ [])) bad ∙ ap Some at

pub first_passes : (q : ℕ) (a : Bool) → a ≡ true → first_failed ((q + 0, a) ∷ []) ≡ None
unfolding first_failed
first_passes q a good = ap (λ (t : Bool). first_failed ((q + 0, t) ∷ [])) good

-- ---- two words

pub one_fails : (q : ℕ) (a b : Bool) → a ≡ false → first_failed ((q + 8, a) ∷ (q + 16, b) ∷ []) ≡ Some (q + 8)
unfolding first_failed
one_fails q a b bad = ap (λ (t : Bool). first_failed ((q + 8, t) ∷ (q + 16, b) ∷ [])) bad

pub two_fails : (q : ℕ) (a b : Bool) → a ≡ true → b ≡ false
    → first_failed ((q + 8, a) ∷ (q + 16, b) ∷ []) ≡ Some (q + 16)
unfolding first_failed
two_fails q a b good bad =
    ap (λ (t : Bool). first_failed ((q + 8, t) ∷ (q + 16, b) ∷ [])) good
    ∙ ap (λ (t : Bool). first_failed ((q + 16, t) ∷ [])) bad

pub both_pass : (q : ℕ) (a b : Bool) → a ≡ true → b ≡ true → first_failed ((q + 8, a) ∷ (q + 16, b) ∷ []) ≡ None
unfolding first_failed
both_pass q a b good fine =
    ap (λ (t : Bool). first_failed ((q + 8, t) ∷ (q + 16, b) ∷ [])) good
    ∙ ap (λ (t : Bool). first_failed ((q + 16, t) ∷ [])) fine
