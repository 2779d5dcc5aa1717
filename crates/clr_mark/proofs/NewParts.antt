-- Whether a mark would be new, taken apart.
use Rattle.std.proofs.Common.{◌≡◌, ◌⊎◌, inl, inr, ℕ, true, false, not}
use Rattle.std.proofs.lemmas.Bool.{and_cases, and_parts, not-false, not-true}
use Rattle.clr_heap.specs.View.{HeapView, word_of}
use Rattle.clr_view.specs.Marks.{has_mark}
use Rattle.clr_mark.specs.Marks.{is_condemned_place, is_new}

-- a mark would be new
pub new_parts : (h : HeapView) (g y : ℕ) → is_new h g y ≡ true
    → (is_condemned_place h g y ≡ true) × (has_mark (word_of h y) ≡ false)
new_parts h g y e =
    let parts = and_parts (is_condemned_place h g y) (not (has_mark (word_of h y))) e in
    (parts.0, not-true _ parts.1)

-- it wouldn't
pub not_new : (h : HeapView) (g y : ℕ) → is_new h g y ≡ false
    → (is_condemned_place h g y ≡ false) ⊎ (has_mark (word_of h y) ≡ true)
not_new h g y e = elim (and_cases (is_condemned_place h g y) (not (has_mark (word_of h y))) e) [
  | inl far ↦ inl far
  | inr on ↦ inr (not-false _ on)
]
