-- What lies below everything that a collection goes over is left.
use Rattle.std.proofs.Common.{◌≡◌, inl, inr, ℕ, ◌<◌, ◌≤◌, true, List, arith}
use Rattle.std.proofs.lemmas.Bool.{cases_Bool}
use Rattle.clr_types.specs.Types.{TypeRow}
use Rattle.clr_heap.specs.View.{HeapView}
use Rattle.clr_view.specs.Memory.{is_left_name}
use Rattle.clr_view.specs.SlotValues.{StandsAt}
use Rattle.clr_mark.specs.Marks.{is_condemned_place}
use Rattle.clr_collect.proofs.LeftCases.{older-left}

module _ (rows : List TypeRow) (h : HeapView) (g low : ℕ)
    (lowest : (x : ℕ) → is_condemned_place h g x ≡ true → low ≤ x) where
  pub left_below : (x : ℕ) → x < low → StandsAt rows h x → is_left_name rows h g x ≡ true
  left_below x under stands = elim (cases_Bool (is_condemned_place h g x)) [
    | inl e ↦ let above = lowest x e in absurd (omega (arith, under, above))
    | inr old ↦ older-left rows h g x (record { stands = stands; old = old })
  ]
