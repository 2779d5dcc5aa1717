-- The bricks of one segment after the other, renewed behind its front.
use Rattle.std.proofs.Common.{◌≡◌, ◌≢◌, inl, inr, ℕ, ◌+◌, ◌<◌, ◌≤◌, Bool, true, List, length, refl, sym, ◌∙◌}
use Rattle.std.proofs.Common.{subst, arith, ℤ}
use Rattle.std.proofs.lemmas.Bool.{cases_eq}
use Rattle.clr_types.specs.Segments.{generation, Layout, reserved_end, stands_in}
use Rattle.clr_types.specs.Types.{TypeRow}
use Rattle.clr_types.proofs.SegmentFacts.{stands-between}
use Rattle.clr_bricks.specs.Bricks.{entry_at}
use Rattle.clr_covers.specs.Covers.{CoverView, spans}
use Rattle.clr_generations.specs.Laws.{AreEntered, BrickLaw, IsBrickOf}
use Rattle.clr_generations.specs.Renewing.{AreLeft, left_in}
use Rattle.clr_generations.proofs.Alike.{alike-self, entered_alike}
use Rattle.clr_generations.proofs.AllBricks.{bricks-apart, number-in}
use Rattle.clr_generations.proofs.HeapHomes.{heap_homes}
use Rattle.clr_generations.proofs.Homes.{HaveHomes, homes-left}
use Rattle.clr_heap.specs.View.{frame, HeapView, IsHeap, segment_at}
use Rattle.clr_model.specs.Machine.{Object}
use Rattle.clr_view.specs.View.{IsHeld, objects_in}
use Rattle.clr_sweep.specs.Fronts.{front_at, HasFronts}
use Rattle.clr_sweep.specs.SweptSegments.{IsParted}
use Rattle.clr_sweep.specs.declared.behind.Front.{Front}

-- those of the segments below k are renewed, and those of the others are as they were
pub record AreRenewedBehind (rows : List TypeRow) (h : HeapView) (fronts : List Front) (old now : List (CoverView ℤ))
    (k : ℕ) : Type 0 where
  pub done : (j : ℕ) (after : Layout) (keep : Object → Bool) → j < k → j < length h.segments
      → AreLeft rows h j (front_at fronts j).place after keep
      → AreEntered rows after (left_in rows h keep) (entry_at now) (segment_at h j)
  pub ahead : (j : ℕ) → k ≤ j → j < length h.segments
      → AreEntered rows (frame h) (objects_in rows h) (entry_at now) (segment_at h j)
  pub spans : spans now ≡ spans old

pub behind_start : (rows : List TypeRow) (h : HeapView) (fronts : List Front) (old : List (CoverView ℤ))
    → BrickLaw rows (frame h) (objects_in rows h) (entry_at old) → AreRenewedBehind rows h fronts old old 0
behind_start rows h fronts old law = record {
  done = λ j after keep low. absurd (omega arith);
  ahead = λ j low inside. law (segment_at h j) (number-in h.segments j inside);
  spans = refl;
}

module _ (rows : List TypeRow) (h : HeapView) (fronts : List Front) (heap : IsHeap h) (held : IsHeld rows h) where
  -- where other segments' bricks change, those of this one say the same
  still_entered : (j : ℕ) (layout : Layout) (objects : List Object) (entry other : ℕ → ℤ)
      → HaveHomes rows objects (segment_at h j) → ((b : ℕ) → IsBrickOf (segment_at h j) b → other b ≡ entry b)
      → AreEntered rows layout objects entry (segment_at h j) → AreEntered rows layout objects other (segment_at h j)
  still_entered j layout objects entry other homes same e =
      entered_alike rows layout layout objects objects (segment_at h j) entry other homes homes
      (alike-self rows layout objects (segment_at h j) (reserved_end (segment_at h j))) same e

  -- THE NEXT SEGMENT'S are renewed
  pub behind_more : (old now new : List (CoverView ℤ)) (k : ℕ) → k < length h.segments
      → AreRenewedBehind rows h fronts old now k
      → ((after : Layout) (keep : Object → Bool) → AreLeft rows h k (front_at fronts k).place after keep
      → AreEntered rows after (left_in rows h keep) (entry_at new) (segment_at h k))
      → ((b : ℕ) → (IsBrickOf (segment_at h k) b → ⊥) → entry_at new b ≡ entry_at now b) → spans new ≡ spans now
      → AreRenewedBehind rows h fronts old new (k + 1)
  behind_more old now new k inside a here others whole =
      let other : (j : ℕ) → j ≢ k → j < length h.segments → (b : ℕ) → IsBrickOf (segment_at h j) b
      → entry_at new b ≡ entry_at now b = λ j ne in_j b of.
      others b (λ of_k. bricks-apart h j k b heap in_j inside ne of of_k) in
      record {
        done = λ j after keep low in_j left. elim (cases_eq j k) [
          | inl at ↦
              let P : ℕ → Type 0 = λ n. AreLeft rows h n (front_at fronts n).place after keep in
              let Q : ℕ → Type 0 = λ n. AreEntered rows after (left_in rows h keep) (entry_at new) (segment_at h n) in
              subst Q (sym at) (here after keep (subst P at left))
          | inr ne ↦ still_entered j after (left_in rows h keep) (entry_at now) (entry_at new)
              (homes-left rows (objects_in rows h) (segment_at h j) keep (heap_homes rows h heap held j in_j))
              (other j ne in_j) (a.done j after keep (omega arith) in_j left)
        ];
        ahead = λ j low in_j. still_entered j (frame h) (objects_in rows h) (entry_at now) (entry_at new)
            (heap_homes rows h heap held j in_j) (other j (λ at. absurd (omega arith)) in_j)
            (a.ahead j (omega arith) in_j);
        spans = whole ∙ a.spans;
      }

-- ---- what the fronts say of one segment

module _ (rows : List TypeRow) (h v : HeapView) (fronts : List Front) (fs : HasFronts rows h v fronts) (k : ℕ)
    (inside : k < length h.segments) where
  pub parted_of : IsParted rows h k (front_at fronts k).place
  parted_of = (fs.each k inside).parted

  -- no place of a front is of generation 0
  pub front_aged : (place : ℕ) → stands_in (segment_at h k) place ≡ true → place < (front_at fronts k).place
      → 0 < generation (frame h) place
  front_aged place in_s below =
      let low = (stands-between (segment_at h k) place in_s).0 in
      let old = (fs.each k inside).old place low below in
      omega (arith, old)
