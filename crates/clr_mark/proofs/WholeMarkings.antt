-- Markings in parts: by roots of a list, by targets of handles, and by what handles tie to marked and to older objects.
use Rattle.std.proofs.Common.{◌≡◌, ◌⊎◌, ◌↔◌, ℕ, List, subst}
use Rattle.clr_types.specs.Types.{TypeRow}
use Rattle.clr_handles.specs.Tables.{Table}
use Rattle.clr_heap.specs.View.{HeapView, IsHeap}
use Rattle.clr_model.specs.Reach.{Reach}
use Rattle.clr_view.specs.Marks.{Marked}
use Rattle.clr_view.specs.View.{IsHeld}
use Rattle.clr_mark.specs.Marks.{IsRemarked, LeadsTo}
use Rattle.clr_mark.specs.Roots.{IsCondemnedRoot}
use Rattle.clr_mark.specs.Ties.{Draws, IsCondemnedStart, IsCondemnedTarget, IsTiedToOld}
use Rattle.clr_mark.proofs.ReachParts.{either_iff, reached_more, reached_then, reached_whole}
use Rattle.clr_mark.proofs.TiedMarks.{draws_same, leads_draws, leads_same, root_same, target_same, tied_same}

-- `h` is the heap at the start, `mid` that after the roots, `new` that at the end
module _ (rows : List TypeRow) (h mid new : HeapView) (handles : Table) (heap : IsHeap h) (held : IsHeld rows h)
    (words : IsRemarked rows h mid) (g : ℕ) (roots : List ℕ)
    (first : (x : ℕ) → Marked rows mid x
    ↔ Reach (LeadsTo rows h g) (λ y. Marked rows h y ⊎ IsCondemnedRoot roots h g y) x) where
  pub more_marked : (i : ℕ) → i ≡ g
      → ((x : ℕ) → Marked rows new x
      ↔ Reach (Draws rows mid handles i) (λ y. Marked rows mid y ⊎ IsTiedToOld rows mid handles i y) x)
      → (x : ℕ) → Marked rows new x
      ↔ Reach (Draws rows h handles g)
      (λ y. Marked rows h y ⊎ (IsCondemnedRoot roots h g y ⊎ IsTiedToOld rows h handles g y)) x
  more_marked i same second =
      let P : ℕ → Type 0 = λ i. (x : ℕ) → Marked rows new x
      ↔ Reach (Draws rows mid handles i) (λ y. Marked rows mid y ⊎ IsTiedToOld rows mid handles i y) x in
      reached_more (Draws rows h handles g) (LeadsTo rows h g) (Marked rows h) (Marked rows mid) (Marked rows new)
      (IsCondemnedRoot roots h g) (IsTiedToOld rows h handles g) (leads_draws rows h handles g) first
      (reached_then (Draws rows h handles g) (Draws rows mid handles g) (Marked rows new) (Marked rows mid)
      (IsTiedToOld rows mid handles g) (IsTiedToOld rows h handles g) (draws_same rows h mid heap held words handles g)
      (tied_same rows h mid heap held words handles g) (subst P same second))

-- `h` is the heap at the start, where nothing is marked, `a` that after the locals, `b` that after the targets of
-- handles, and `new` that at the end
module _ (rows : List TypeRow) (h a b new : HeapView) (handles : Table) (heap : IsHeap h) (held : IsHeld rows h)
    (to_a : IsRemarked rows h a) (to_b : IsRemarked rows h b) (clear : (x : ℕ) → Marked rows h x → ⊥)
    (g : ℕ) (locals ready : List ℕ) where
  by_targets : (j : ℕ) → j ≡ g
      → ((x : ℕ) → Marked rows b x
      ↔ Reach (LeadsTo rows a j) (λ y. Marked rows a y ⊎ IsCondemnedTarget handles a j y) x)
      → (x : ℕ) → Marked rows b x
      ↔ Reach (LeadsTo rows h g) (λ y. Marked rows a y ⊎ IsCondemnedTarget handles h g y) x
  by_targets j same second =
      let P : ℕ → Type 0 = λ j. (x : ℕ) → Marked rows b x
      ↔ Reach (LeadsTo rows a j) (λ y. Marked rows a y ⊎ IsCondemnedTarget handles a j y) x in
      reached_then (LeadsTo rows h g) (LeadsTo rows a g) (Marked rows b) (Marked rows a)
      (IsCondemnedTarget handles a g) (IsCondemnedTarget handles h g) (leads_same rows h a heap held to_a g)
      (target_same rows h a heap held to_a handles g) (subst P same second)

  by_ready : (k : ℕ) → k ≡ g
      → ((x : ℕ) → Marked rows new x ↔ Reach (Draws rows b handles k)
      (λ y. Marked rows b y ⊎ (IsCondemnedRoot ready b k y ⊎ IsTiedToOld rows b handles k y)) x)
      → (x : ℕ) → Marked rows new x ↔ Reach (Draws rows h handles g)
      (λ y. Marked rows b y ⊎ (IsCondemnedRoot ready h g y ⊎ IsTiedToOld rows h handles g y)) x
  by_ready k same third =
      let more : HeapView → ℕ → ℕ → Type 0 = λ w i y. IsCondemnedRoot ready w i y ⊎ IsTiedToOld rows w handles i y in
      let P : ℕ → Type 0 = λ k. (x : ℕ) → Marked rows new x
      ↔ Reach (Draws rows b handles k) (λ y. Marked rows b y ⊎ more b k y) x in
      reached_then (Draws rows h handles g) (Draws rows b handles g) (Marked rows new) (Marked rows b) (more b g)
      (more h g) (draws_same rows h b heap held to_b handles g)
      (either_iff (IsCondemnedRoot ready b g) (IsCondemnedRoot ready h g) (IsTiedToOld rows b handles g)
      (IsTiedToOld rows h handles g) (root_same rows h b heap held to_b ready g)
      (tied_same rows h b heap held to_b handles g)) (subst P same third)

  pub whole_marked : (i j k : ℕ) → i ≡ g → j ≡ g → k ≡ g
      → ((x : ℕ) → Marked rows a x
      ↔ Reach (LeadsTo rows h i) (λ y. Marked rows h y ⊎ IsCondemnedRoot locals h i y) x)
      → ((x : ℕ) → Marked rows b x
      ↔ Reach (LeadsTo rows a j) (λ y. Marked rows a y ⊎ IsCondemnedTarget handles a j y) x)
      → ((x : ℕ) → Marked rows new x ↔ Reach (Draws rows b handles k)
      (λ y. Marked rows b y ⊎ (IsCondemnedRoot ready b k y ⊎ IsTiedToOld rows b handles k y)) x)
      → (x : ℕ) → Marked rows new x
      ↔ Reach (Draws rows h handles g) (IsCondemnedStart rows h handles g locals ready) x
  whole_marked i j k e f same first second third =
      let P : ℕ → Type 0 = λ i. (x : ℕ) → Marked rows a x
      ↔ Reach (LeadsTo rows h i) (λ y. Marked rows h y ⊎ IsCondemnedRoot locals h i y) x in
      reached_whole (Draws rows h handles g) (LeadsTo rows h g) (Marked rows h) (Marked rows a) (Marked rows b)
      (Marked rows new) (IsCondemnedRoot locals h g) (IsCondemnedTarget handles h g) (IsCondemnedRoot ready h g)
      (IsTiedToOld rows h handles g) (leads_draws rows h handles g) clear (subst P e first)
      (by_targets j f second) (by_ready k same third)
