-- The image of what is kept is the image.
use Rattle.std.proofs.Common.{◌≡◌, ℕ, suc, ◌+◌, ◌-◌, List, [], ◌∷◌, ◌++◌, refl, sym, ap, ap₂, ◌∙◌, arith, Option, Some}
use Rattle.std.specs.Prelude.{codes, slice_get}
use Rattle.clr_types.specs.Ranges.{Piece}
use Rattle.clr_types.specs.Segments.{flat_option}
use Rattle.clr_model.specs.Machine.{begun_new, begun_store, Machine, no_step, ThreadStep}
use Rattle.clr_format.specs.Saved.{bit, common_bytes, image_bytes, steps_words, step_words, tables_bytes}
use Rattle.clr_sos.specs.Steps.{front_or_zero}
use Rattle.clr_format.specs.Saved.{handle_bytes, number_or_zero, queue_bytes, without_rests, word_bytes, words_bytes}
use Rattle.std.specs.FinMap as finmap
use Rattle.std.specs.List.{flat_map}
use Rattle.clr_settled.specs.Settled.{settled}
use Rattle.clr_settled.proofs.SettledLawful.{free-kept, front-kept}
use Rattle.clr_opened.specs.Laws.{SettledImageLaw}

module _ (m : Machine) where
  step-kept : (n : ℕ) (s : ThreadStep) → slice_get m.steps (n + 1 - 1) ≡ Some s
      → step_words (settled m).layout (n + 1) s ≡ step_words m.layout (n + 1) s
  step-kept n no_step at = refl
  step-kept n (begun_store object slot) at = refl
  step-kept n (begun_new type len local) at =
      ap (λ (r : Option (Option Piece)). 2 ∷ type ∷ len ∷ local ∷ front_or_zero (flat_option r) ∷ [])
      (front-kept m (n + 1 - 1) type len local at)

  steps-kept : (n : ℕ) (steps : List ThreadStep) → ((i : ℕ) → slice_get steps i ≡ slice_get m.steps (n + i))
      → steps_words (settled m).layout (n + 1) steps ≡ steps_words m.layout (n + 1) steps
  steps-kept n [] at = refl
  steps-kept n (s ∷ ss) at =
      let here : n + 1 - 1 ≡ n + 0 = omega arith in
      ap₂ (λ (xs ys : List ℕ). xs ++ ys) (step-kept n s (ap (slice_get m.steps) here ∙ sym (at 0)))
      (steps-kept (n + 1) ss
      (λ i. let next : n + suc i ≡ n + 1 + i = omega arith in at (suc i) ∙ ap (slice_get m.steps) next))

  tables-kept : tables_bytes (settled m) ≡ tables_bytes m
  tables-kept =
      let words = steps-kept 0 m.steps (λ i. let e : i ≡ 0 + i = omega arith in ap (slice_get m.steps) e) in
      ap (λ (ws : List ℕ).
      (words_bytes (number_or_zero m.holder ∷ ws)
      ++ (word_bytes (finmap.len m.handles) ++ flat_map handle_bytes (finmap.entries m.handles)))
      ++ (queue_bytes m.entries ++ queue_bytes m.ready)) words

pub settled-image : SettledImageLaw
unfolding image_bytes
settled-image m h =
    let free = free-kept m h in
    ap₂ (λ (ps : List Piece) (tables : List ℕ).
    (codes "CLRHEAP2" ++ words_bytes (m.options.limit ∷ m.options.large ∷ bit m.compacts_large ∷ []))
    ++ (common_bytes (record m { layout = record (without_rests m).layout { free = ps } }) ++ tables))
    free (tables-kept m)
