-- A marking goes on where flags were cleared.
use Rattle.std.proofs.Common.{◌≡◌, inl, inr, ℕ, nat_le, List, ap, sym, ◌∙◌, subst}
use Rattle.clr_types.specs.Segments.{generation, Layout}
use Rattle.clr_types.specs.Types.{TypeRow}
use Rattle.clr_heap.specs.View.{HeapView, IsHeap}
use Rattle.clr_model.specs.Machine.{Object}
use Rattle.clr_model.specs.Reach.{SlotNames}
use Rattle.clr_view.specs.Memory.{is_left_name}
use Rattle.clr_view.specs.View.{objects_in}
use Rattle.clr_mark.specs.Marks.{is_condemned_place, LeadsTo}
use Rattle.clr_mark.specs.Waiting.{IsGray, IsSettled, MarkerView}
use Rattle.clr_collect.specs.Collecting.{HasUnflagged}
use Rattle.clr_collect.proofs.ClearedFlags.{stands_unflagged}
use Rattle.clr_collect.proofs.KeptMarks.{edge-was}
use Rattle.clr_survivors.proofs.LeftGoes.{condemned-is}

module _ (rows : List TypeRow) (old new : HeapView) (g : ℕ) (entries : List ℕ)
    (u : HasUnflagged rows old new g entries) where
  names-was : (x y : ℕ) → SlotNames (objects_in rows new) x y → SlotNames (objects_in rows old) x y
  names-was x y e = edge-was (is_left_name rows old g) entries (objects_in rows old) x y
      (subst (λ (os : List Object). SlotNames os x y) u.objects e)

  same-condemned : (e y : ℕ) → is_condemned_place new e y ≡ is_condemned_place old e y
  same-condemned e y = condemned-is new e y ∙ ap (λ (l : Layout). nat_le (generation l y) e) u.layout
      ∙ sym (condemned-is old e y)

  leads-was : (e x y : ℕ) → LeadsTo rows new e x y → LeadsTo rows old e x y
  leads-was e x y l = record {
    named = names-was x y l.named;
    condemned = sym (same-condemned e y) ∙ l.condemned;
  }

  -- THE LAW OF A MARKING holds on
  pub gray_unflagged : IsHeap new → (m : MarkerView) → IsGray rows old m → IsGray rows new m
  gray_unflagged heap m gray = record {
    closed = record {
      heap = heap;
      held = u.held;
      named = λ x y e. stands_unflagged rows old new g entries u y (gray.closed.named x y (names-was x y e));
    };
    stacked = λ x i. (u.marks x).1 (gray.stacked x i);
    settled = λ x marked. go x (gray.settled x ((u.marks x).0 marked));
  }
    where
      go : (x : ℕ) → IsSettled rows old m x → IsSettled rows new m x
      go x (inl waits) = inl waits
      go x (inr followed) = inr (λ y l. (u.marks y).1 (followed y (leads-was m.oldest x y l)))
