-- The large segments, one after the other: their bricks are renewed, and they are swept.
use Rattle.std.proofs.Common.{◌≡◌, ◌≢◌, inl, inr, ℕ, ◌+◌, ◌<◌, ◌≤◌, Bool, true, false, ◌&&◌, ◌||◌, nat_eq, nat_lt, List}
use Rattle.std.proofs.Common.{length, refl, ap, sym, ◌∙◌, subst, arith, ℤ}
use Rattle.std.proofs.lemmas.Bool.{cases_eq, cases_order, eq-eqb, le-ltb, lt-ltb, ne_eqb}
use Rattle.clr_types.specs.Segments.{Layout, reserved_end}
use Rattle.clr_types.specs.Types.{TypeRow}
use Rattle.clr_bricks.specs.Bricks.{entry_at}
use Rattle.clr_covers.specs.Covers.{CoverView, spans}
use Rattle.clr_generations.specs.Laws.{AreEntered, IsBrickOf}
use Rattle.clr_generations.specs.Renewing.{AreLeft, left_in}
use Rattle.clr_generations.proofs.Alike.{alike-self, entered_alike}
use Rattle.clr_generations.proofs.AllBricks.{bricks-apart}
use Rattle.clr_generations.proofs.HeapHomes.{heap_homes}
use Rattle.clr_generations.proofs.Homes.{HaveHomes, homes-left}
use Rattle.clr_heap.specs.View.{first_of, frame, HeapView, IsHeap, segment_at}
use Rattle.clr_model.specs.Machine.{Object}
use Rattle.clr_types.specs.declared.segment.SegInfo.{SegInfo}
use Rattle.clr_types.specs.declared.segment.SegKind.TheVariants.{Large}
use Rattle.clr_types.specs.Segments.{same_kind}
use Rattle.clr_view.specs.View.{IsHeld, objects_in}
use Rattle.clr_sweep.specs.SweptLarge.{is_large}
use Rattle.clr_sweep.specs.SweptSegments.{AreSwept, HasSweptSegment}
use Rattle.clr_sweep.proofs.MoreSwept.{swept_alike, swept_more}
use Rattle.clr_types.specs.Segments.{is_large_or_pinned}

-- ---- bricks

-- the bricks of the large segments below k are renewed, and those of the others are as they were
pub record AreRenewing (rows : List TypeRow) (h : HeapView) (old now : List (CoverView ℤ)) (k : ℕ) : Type 0 where
  pub done : (j : ℕ) (after : Layout) (keep : Object → Bool) → j < k → j < length h.segments → is_large h j ≡ true
      → AreLeft rows h j (first_of h j) after keep
      → AreEntered rows after (left_in rows h keep) (entry_at now) (segment_at h j)
  pub ahead : (j : ℕ) → k ≤ j → j < length h.segments → is_large h j ≡ true
      → AreEntered rows (frame h) (objects_in rows h) (entry_at now) (segment_at h j)
  pub others : (j brick : ℕ) → j < length h.segments → is_large h j ≡ false → IsBrickOf (segment_at h j) brick
      → entry_at now brick ≡ entry_at old brick
  pub spans : spans now ≡ spans old

module _ (rows : List TypeRow) (h : HeapView) (heap : IsHeap h) (held : IsHeld rows h) where
  -- where other segments' bricks change, those of this one say the same
  said_again : (j : ℕ) (layout : Layout) (objects : List Object) (entry other : ℕ → ℤ)
      → HaveHomes rows objects (segment_at h j) → ((b : ℕ) → IsBrickOf (segment_at h j) b → other b ≡ entry b)
      → AreEntered rows layout objects entry (segment_at h j) → AreEntered rows layout objects other (segment_at h j)
  said_again j layout objects entry other homes same e =
      entered_alike rows layout layout objects objects (segment_at h j) entry other homes homes
      (alike-self rows layout objects (segment_at h j) (reserved_end (segment_at h j))) same e

  pub renewing_more : (old now new : List (CoverView ℤ)) (k : ℕ) → k < length h.segments → AreRenewing rows h old now k
      → (is_large h k ≡ true → (after : Layout) (keep : Object → Bool) → AreLeft rows h k (first_of h k) after keep
      → AreEntered rows after (left_in rows h keep) (entry_at new) (segment_at h k))
      → ((b : ℕ) → (IsBrickOf (segment_at h k) b → ⊥) → entry_at new b ≡ entry_at now b)
      → (is_large h k ≡ false → (b : ℕ) → entry_at new b ≡ entry_at now b) → spans new ≡ spans now
      → AreRenewing rows h old new (k + 1)
  renewing_more old now new k inside r here others small whole =
      let other : (j : ℕ) → j ≢ k → j < length h.segments → (b : ℕ) → IsBrickOf (segment_at h j) b
      → entry_at new b ≡ entry_at now b = λ j ne in_j b of.
      others b (λ of_k. bricks-apart h j k b heap in_j inside ne of of_k) in
      record {
        done = λ j after keep low in_j on left. elim (cases_eq j k) [
          | inl at ↦
              let P : ℕ → Type 0 = λ n. AreLeft rows h n (first_of h n) after keep in
              let Q : ℕ → Type 0 = λ n. AreEntered rows after (left_in rows h keep) (entry_at new) (segment_at h n) in
              let L : ℕ → Type 0 = λ n. is_large h n ≡ true in
              subst Q (sym at) (here (subst L at on) after keep (subst P at left))
          | inr ne ↦ said_again j after (left_in rows h keep) (entry_at now) (entry_at new)
              (homes-left rows (objects_in rows h) (segment_at h j) keep (heap_homes rows h heap held j in_j))
              (other j ne in_j) (r.done j after keep (omega arith) in_j on left)
        ];
        ahead = λ j low in_j on. said_again j (frame h) (objects_in rows h) (entry_at now) (entry_at new)
            (heap_homes rows h heap held j in_j) (other j (λ at. absurd (omega arith)) in_j)
            (r.ahead j (omega arith) in_j on);
        others = λ j brick in_j off of. elim (cases_eq j k) [
          | inl at ↦
              let L : ℕ → Type 0 = λ n. is_large h n ≡ false in
              small (subst L at off) brick ∙ r.others j brick in_j off of
          | inr ne ↦ other j ne in_j brick of ∙ r.others j brick in_j off of
        ];
        spans = whole ∙ r.spans;
      }

-- ---- sweeps

-- which segments below k are large
abbrev pub large_below : HeapView → ℕ → ℕ → Bool
large_below h k j = nat_lt j k && is_large h j

or_none : (b : Bool) → (b || false) ≡ b
or_none true = refl
or_none false = refl

-- a number more, where its segment is large
large_more : (h : HeapView) (k j : ℕ) → is_large h k ≡ true → (large_below h k j || nat_eq j k)
    ≡ large_below h (k + 1) j
large_more h k j on = elim (cases_order j k) [
  | inl at ↦
      let a = le-ltb j k (omega arith) in
      let b = eq-eqb j k at in
      let c = lt-ltb j (k + 1) (omega arith) in
      let d : is_large h j ≡ true = ap (λ (n : ℕ). is_large h n) at ∙ on in
      (λ i. (a i && is_large h j) || b i) ∙ sym (λ i. c i && d i)
  | inr (inl less) ↦
      let a = lt-ltb j k less in
      let b = ne_eqb j k (λ e. omega arith) in
      let c = lt-ltb j (k + 1) (omega arith) in
      (λ i. (a i && is_large h j) || b i) ∙ or_none (is_large h j) ∙ sym (λ i. c i && is_large h j)
  | inr (inr more) ↦
      let a = le-ltb j k (omega arith) in
      let b = ne_eqb j k (λ e. omega arith) in
      let c = le-ltb j (k + 1) (omega arith) in
      (λ i. (a i && is_large h j) || b i) ∙ sym (λ i. c i && is_large h j)
]

-- and where it isn't
large_same : (h : HeapView) (k j : ℕ) → is_large h k ≡ false → large_below h k j ≡ large_below h (k + 1) j
large_same h k j off = elim (cases_order j k) [
  | inl at ↦
      let a = le-ltb j k (omega arith) in
      let c = lt-ltb j (k + 1) (omega arith) in
      let d : is_large h j ≡ false = ap (λ (n : ℕ). is_large h n) at ∙ off in
      (λ i. a i && is_large h j) ∙ sym (λ i. c i && d i)
  | inr (inl less) ↦
      let a = lt-ltb j k less in
      let c = lt-ltb j (k + 1) (omega arith) in
      (λ i. a i && is_large h j) ∙ sym (λ i. c i && is_large h j)
  | inr (inr more) ↦
      let a = le-ltb j k (omega arith) in
      let c = le-ltb j (k + 1) (omega arith) in
      (λ i. a i && is_large h j) ∙ sym (λ i. c i && is_large h j)
]

module _ (rows : List TypeRow) (old now : HeapView) (k : ℕ) (heap : IsHeap old) (held : IsHeld rows old)
    (s : AreSwept rows old now (large_below old k)) (inside : k < length old.segments) where
  pub large_not_yet : (nat_lt k k && is_large old k) ≡ false
  large_not_yet = let a = le-ltb k k (omega arith) in λ i. a i && is_large old k

  -- THE NEXT SEGMENT is swept where it is a large one
  pub large_sweeps : (new : HeapView) → (is_large now k ≡ true → HasSweptSegment rows now new k (first_of now k))
      → (is_large now k ≡ false → new ≡ now) → AreSwept rows old new (large_below old (k + 1))
  large_sweeps new large small = go (is_large old k) refl
    where
      same : is_large now k ≡ is_large old k
      same = ap (λ (t : SegInfo). is_large_or_pinned t.kind) (s.ahead k inside large_not_yet).segment

      go : (b : Bool) → is_large old k ≡ b → AreSwept rows old new (large_below old (k + 1))
      go true e =
          swept_alike rows old new (λ j. large_below old k j || nat_eq j k) (large_below old (k + 1))
          (λ j l. large_more old k j e)
          (swept_more rows old now (large_below old k) k heap held s inside large_not_yet new (large (same ∙ e)))
      go false e =
          swept_alike rows old new (large_below old k) (large_below old (k + 1)) (λ j l. large_same old k j e)
          (subst (λ (h : HeapView). AreSwept rows old h (large_below old k)) (sym (small (same ∙ e))) s)
