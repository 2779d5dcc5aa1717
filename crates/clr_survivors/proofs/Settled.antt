-- What the end of a move leaves as it is.
use Rattle.std.proofs.Common.{◌≡◌, ℕ, ℤ, Bool, true, false, ◌==◌, MatchBool, ap, sym, ◌∙◌, subst, List}
use Rattle.std.specs.FinMap.{FinMap}
use Rattle.std.specs.Ordering.{nat_cmp}
use Rattle.clr_types.specs.Segments.{Layout}
use Rattle.clr_types.specs.Types.{TypeRow}
use Rattle.clr_types.specs.declared.handle.Handle.{Handle}
use Rattle.clr_generations.specs.Laws.{BrickLaw}
use Rattle.clr_heap.specs.View.{frame, HeapView, IsHeap}
use Rattle.clr_heap.proofs.Rewrite.{shaped_heap}
use Rattle.clr_model.specs.Machine.{Object}
use Rattle.clr_view.specs.View.{AreFreeHeads, IsHeld, objects_in}
use Rattle.clr_sweep.specs.SweptLarge.{HasSweptLarge}
use Rattle.clr_survivors.specs.Phases.{HasSettled}
use Rattle.clr_survivors.specs.Pins.{HasPins}

-- the law of bricks looks at no word
pub brick_law-bare : (rows : List TypeRow) (old new : HeapView) (table : FinMap nat_cmp Handle) (low : ℕ)
    → HasPins rows old new table low 65536 false → (entry : ℕ → ℤ)
    → BrickLaw rows (frame old) (objects_in rows old) entry → BrickLaw rows (frame new) (objects_in rows new) entry
brick_law-bare rows old new table low pins entry law =
    subst (λ (l : Layout). BrickLaw rows l (objects_in rows new) entry) (sym (ap frame pins.shape.others))
    (subst (λ (os : List Object). BrickLaw rows (frame old) os entry) (sym pins.objects) law)

module _ (rows : List TypeRow) (old new : HeapView) (table : FinMap nat_cmp Handle) (low g : ℕ)
    (e : HasSettled rows old new table low g) where
  -- what holds of the heap without pins, and of a swept one, holds at the end
  pub settled-has : (P : HeapView → Type 0) → P e.bare → (HasSweptLarge rows e.bare new → P new) → P new
  settled-has P bare swept = go (g == 2) e.swept
    where
      go : (b : Bool) → MatchBool b (HasSweptLarge rows e.bare new) (new ≡ e.bare) → P new
      go true is = swept is
      go false same = subst P (sym same) bare

  pub limit-settled : new.limit ≡ old.limit
  limit-settled =
      let bare = ap (λ (h : HeapView). h.limit) e.pins.shape.others in
      settled-has (λ h. h.limit ≡ old.limit) bare (λ swept. swept.limit ∙ bare)

  pub rests-settled : new.rests ≡ old.rests
  rests-settled =
      let bare = ap (λ (h : HeapView). h.rests) e.pins.shape.others in
      settled-has (λ h. h.rests ≡ old.rests) bare (λ swept. swept.rests ∙ bare)

  pub heads-settled : AreFreeHeads rows old → AreFreeHeads rows new
  heads-settled heads =
      let bare = e.pins.free_heads heads in
      settled-has (AreFreeHeads rows) bare (λ swept. swept.free_heads bare)

  pub heap-settled : IsHeap old → IsHeap new
  heap-settled heap = settled-has IsHeap (shaped_heap old e.bare e.pins.shape heap) (λ swept. swept.heap)

  pub held-settled : IsHeld rows new
  held-settled = settled-has (IsHeld rows) e.pins.held (λ swept. swept.held)
