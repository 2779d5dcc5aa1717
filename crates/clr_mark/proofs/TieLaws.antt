-- Ties of a list, beside slots, as what leads from one object to another.
use Rattle.std.proofs.Common.{◌≡◌, ◌↔◌, inl, inr, ℕ, ◌<◌, List, [], length, get_or, sym, ◌∙◌}
use Rattle.std.proofs.Common.{subst, arith}
use Rattle.clr_types.specs.Types.{TypeRow}
use Rattle.clr_heap.specs.View.{HeapView, IsHeap}
use Rattle.clr_model.specs.Machine.{Object}
use Rattle.clr_model.specs.Reach.{SlotNames}
use Rattle.clr_view.specs.View.{IsHeld}
use Rattle.clr_mark.specs.Marks.{IsRemarked, LeadsTo}
use Rattle.clr_mark.specs.TieLists.{AreTies, IsTied, LeadsBy}
use Rattle.clr_mark.specs.declared.marker.listed.Tie.{Tie}
use Rattle.clr_mark.proofs.EdgeLaws.{AreStable}
use Rattle.clr_mark.proofs.Graying.{same_condemned}
use Rattle.clr_mark.proofs.Remarking.{keeps_objects, keeps_stands}

-- what slots and ties lead to stays under other marks
pub ties_stable : (rows : List TypeRow) (ties : List Tie) → AreStable rows (LeadsBy rows ties)
ties_stable rows ties = record {
  on = λ old new heap held r g x y e. record {
    joined = elim e.joined [
      | inl named ↦ inl (subst (λ (os : List Object). SlotNames os x y) (sym (keeps_objects rows old new heap held r))
          named)
      | inr tied ↦ inr tied
    ];
    condemned = same_condemned rows old new g y r ∙ e.condemned;
  };
  back = λ old new heap held r g x y e. record {
    joined = elim e.joined [
      | inl named ↦ inl (subst (λ (os : List Object). SlotNames os x y) (keeps_objects rows old new heap held r) named)
      | inr tied ↦ inr tied
    ];
    condemned = sym (same_condemned rows old new g y r) ∙ e.condemned;
  };
}

-- what ties name still stands under other marks
pub ties_on : (rows : List TypeRow) (old new : HeapView) → IsHeap old → IsHeld rows old → IsRemarked rows old new
    → (ties : List Tie) → AreTies rows old ties → AreTies rows new ties
ties_on rows old new heap held r ties a = record {
  stand = λ x y t.
      let s = a.stand x y t in
      (keeps_stands rows old new heap held r x s.0, keeps_stands rows old new heap held r y s.1);
  rise = a.rise;
}

-- what a slot leads to
pub leads_by : (rows : List TypeRow) (ties : List Tie) (h : HeapView) (g x y : ℕ) → LeadsTo rows h g x y
    → LeadsBy rows ties h g x y
leads_by rows ties h g x y e = record { joined = inl e.named; condemned = e.condemned }

-- without ties that is all
pub leads_alone : (rows : List TypeRow) (h : HeapView) (g x y : ℕ) → LeadsTo rows h g x y ↔ LeadsBy rows [] h g x y
leads_alone rows h g x y = (
  leads_by rows [] h g x y,
  λ e. record {
    named = elim e.joined [ inl named ↦ named | inr tied ↦ let none = tied.1 in absurd (omega (arith, none)) ];
    condemned = e.condemned;
  },
)

pub no_ties_are : (rows : List TypeRow) (h : HeapView) → AreTies rows h []
no_ties_are rows h = record {
  stand = λ x y t. let none = t.1 in absurd (omega (arith, none));
  rise = λ i j d le l. absurd (omega (arith, l));
}

-- the tie at an index is one of the list
pub tie_at : (ties : List Tie) (k : ℕ) (t : Tie) → k < length ties → t ≡ get_or ties k t
    → IsTied ties t.primary t.second
tie_at ties k t l read = (k, l, sym read)
