-- Heaps without contexts.
use Rattle.std.proofs.Common.{◌≡◌, get_or, Option, Some, None, sym, ◌∙◌, ap, inl, inr, List}
use Rattle.std.proofs.lemmas.Bool.{cases_lt}
use Rattle.std.proofs.lemmas.List.{get_or_past, get_or-replicate}
use Rattle.clr_types.specs.Ranges.{Piece}
use Rattle.clr_heap.specs.View.{HeapView, no_rests}
use Rattle.clr_sos.specs.Faults.{AreInside}

pub without_rests : (h : HeapView) → h.rests ≡ no_rests → AreInside h
without_rests h e i k r is l young =
    let none : get_or no_rests i None ≡ None = elim (cases_lt i 16) [
      | inl low ↦ get_or-replicate 16 i None None low
      | inr high ↦ get_or_past no_rests i None high
    ] in
    let clash : None ≡ Some r = sym none ∙ ap (λ (rests : List (Option Piece)). get_or rests i None) (sym e) ∙ is in
    absurd cc
