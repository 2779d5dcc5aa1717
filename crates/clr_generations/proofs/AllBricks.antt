-- The bricks of one segment after the other, renewed.
use Rattle.std.proofs.Common.{◌≡◌, ◌≢◌, inl, inr, ℕ, zero, suc, ◌+◌, ◌<◌, ◌≤◌, Bool, List, [], ◌∷◌}
use Rattle.std.proofs.Common.{length, get_or, refl, sym, ◌∙◌, subst, arith, ℤ}
use Rattle.std.proofs.lemmas.Bool.{cases_eq, cases_order}
use Rattle.clr_types.specs.Rising.{first, IsIn, later}
use Rattle.clr_types.specs.Segments.{empty_segment, Layout, reserved_end}
use Rattle.clr_types.specs.Types.{TypeRow}
use Rattle.clr_types.specs.declared.segment.SegInfo.{SegInfo}
use Rattle.clr_bricks.specs.Bricks.{entry_at}
use Rattle.clr_covers.specs.Covers.{CoverView, spans}
use Rattle.clr_heap.specs.View.{first_of, frame, HeapView, IsHeap, segment_at}
use Rattle.clr_heap.proofs.Staying.{segment_order}
use Rattle.clr_model.specs.Machine.{Object}
use Rattle.clr_view.specs.View.{IsHeld, objects_in}
use Rattle.clr_generations.specs.Laws.{AreEntered, BrickLaw, IsBrickOf}
use Rattle.clr_generations.specs.Renewing.{AreLeft, left_in}
use Rattle.clr_generations.proofs.Alike.{alike-self, entered_alike}
use Rattle.clr_generations.proofs.HeapHomes.{heap_homes, whole_bricks}
use Rattle.clr_generations.proofs.Homes.{HaveHomes, homes-left}

-- a segment among others has a number
pub number-of : (ss : List SegInfo) (s : SegInfo) → IsIn s ss
    → (k : ℕ) × (k < length ss) × (get_or ss k empty_segment ≡ s)
number-of [] s i = elim i [ ]
number-of (r ∷ ss) s first = (0, omega arith, refl)
number-of (r ∷ ss) s (later i) =
    let found = number-of ss s i in
    let l = found.1 in
    (suc found.0, omega arith, found.2)

-- no brick belongs to two segments
pub bricks-apart : (h : HeapView) (j k brick : ℕ) → IsHeap h → j < length h.segments → k < length h.segments → j ≢ k
    → IsBrickOf (segment_at h j) brick → IsBrickOf (segment_at h k) brick → ⊥
bricks-apart h j k brick heap in_j in_k ne of_j of_k =
    let base_j = (whole_bricks h j heap in_j).base in
    let base_k = (whole_bricks h k heap in_k).base in
    let low_j = of_j.0 in
    let high_j = of_j.1 in
    let low_k = of_k.0 in
    let high_k = of_k.1 in
    elim (cases_order j k) [
      | inl same ↦ ne same
      | inr (inl less) ↦ let order = segment_order h j k heap less in_k in omega arith
      | inr (inr more) ↦ let order = segment_order h k j heap more in_j in omega arith
    ]

-- a segment among others with this number
pub number-in : (ss : List SegInfo) (k : ℕ) → k < length ss → IsIn (get_or ss k empty_segment) ss
number-in [] k l = absurd (omega arith)
number-in (s ∷ ss) zero l = first
number-in (s ∷ ss) (suc k) l = later (number-in ss k (omega arith))

-- ---- entries of one segment after the other

-- those of the segments below k are renewed, and those of the others are as they were
pub record AreAllRenewed (rows : List TypeRow) (h : HeapView) (old now : List (CoverView ℤ)) (k : ℕ) : Type 0 where
  pub done : (j : ℕ) (after : Layout) (keep : Object → Bool) → j < k → j < length h.segments
      → AreLeft rows h j (first_of h j) after keep
      → AreEntered rows after (left_in rows h keep) (entry_at now) (segment_at h j)
  pub ahead : (j : ℕ) → k ≤ j → j < length h.segments
      → AreEntered rows (frame h) (objects_in rows h) (entry_at now) (segment_at h j)
  pub spans : spans now ≡ spans old

pub all_start : (rows : List TypeRow) (h : HeapView) (old : List (CoverView ℤ))
    → BrickLaw rows (frame h) (objects_in rows h) (entry_at old) → AreAllRenewed rows h old old 0
all_start rows h old law = record {
  done = λ j after keep low. absurd (omega arith);
  ahead = λ j low inside. law (segment_at h j) (number-in h.segments j inside);
  spans = refl;
}

module _ (rows : List TypeRow) (h : HeapView) (heap : IsHeap h) (held : IsHeld rows h) where
  -- where other segments' bricks change, those of this one say the same
  renewed_elsewhere : (j : ℕ) (layout : Layout) (objects : List Object) (entry other : ℕ → ℤ) → j < length h.segments
      → HaveHomes rows objects (segment_at h j)
      → ((b : ℕ) → IsBrickOf (segment_at h j) b → other b ≡ entry b)
      → AreEntered rows layout objects entry (segment_at h j) → AreEntered rows layout objects other (segment_at h j)
  renewed_elsewhere j layout objects entry other inside homes same e =
      entered_alike rows layout layout objects objects (segment_at h j) entry other homes homes
      (alike-self rows layout objects (segment_at h j) (reserved_end (segment_at h j))) same e

  pub all_more : (old now new : List (CoverView ℤ)) (k : ℕ) → k < length h.segments → AreAllRenewed rows h old now k
      → ((after : Layout) (keep : Object → Bool) → AreLeft rows h k (first_of h k) after keep
      → AreEntered rows after (left_in rows h keep) (entry_at new) (segment_at h k))
      → ((b : ℕ) → (IsBrickOf (segment_at h k) b → ⊥) → entry_at new b ≡ entry_at now b) → spans new ≡ spans now
      → AreAllRenewed rows h old new (k + 1)
  all_more old now new k inside a here others whole =
      let other : (j : ℕ) → j ≢ k → j < length h.segments → (b : ℕ) → IsBrickOf (segment_at h j) b
      → entry_at new b ≡ entry_at now b = λ j ne in_j b of.
      others b (λ of_k. bricks-apart h j k b heap in_j inside ne of of_k) in
      record {
        done = λ j after keep low in_j left. elim (cases_eq j k) [
          | inl at ↦
              let P : ℕ → Type 0 = λ n. AreLeft rows h n (first_of h n) after keep in
              let Q : ℕ → Type 0 = λ n. AreEntered rows after (left_in rows h keep) (entry_at new) (segment_at h n) in
              subst Q (sym at) (here after keep (subst P at left))
          | inr ne ↦ renewed_elsewhere j after (left_in rows h keep) (entry_at now) (entry_at new) in_j
              (homes-left rows (objects_in rows h) (segment_at h j) keep (heap_homes rows h heap held j in_j))
              (other j ne in_j) (a.done j after keep (omega arith) in_j left)
        ];
        ahead = λ j low in_j. renewed_elsewhere j (frame h) (objects_in rows h) (entry_at now) (entry_at new) in_j
            (heap_homes rows h heap held j in_j) (other j (λ at. absurd (omega arith)) in_j)
            (a.ahead j (omega arith) in_j);
        spans = whole ∙ a.spans;
      }
