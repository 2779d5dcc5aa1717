-- All segments are swept, one after the other, and then the boundaries move.
use Rattle.std.proofs.Common.{◌≡◌, ◌⊎◌, inl, inr, ℕ, ◌+◌, ◌%◌, ◌<◌, ◌≤◌, Bool, true, false, ◌||◌, nat_eq, nat_lt, List}
use Rattle.std.proofs.Common.{length, min, refl, ap, ap₂, sym, ◌∙◌, arith}
use Rattle.std.proofs.lemmas.Bool.{cases_order, eq-eqb, le-ltb, lt-ltb, ne_eqb, or_left, or_right}
use Rattle.clr_types.specs.Segments.{empty_segment, ended_at, first_place}
use Rattle.clr_types.specs.Types.{TypeRow}
use Rattle.clr_types.specs.declared.segment.SegInfo.{SegInfo}
use Rattle.clr_heap.specs.View.{extents, first_of, HeapView, IsHeap, last_of, listing, listings, segment_at, word_of}
use Rattle.clr_heap.proofs.Framing.{ephemerals, ephemerals_set, lawful_at, same_first}
use Rattle.clr_heap.proofs.Staying.{segment_order}
use Rattle.clr_view.specs.View.{IsHeld, tail_of}
use Rattle.clr_view.proofs.Listed.{listed-in}
use Rattle.clr_view.proofs.Walked.{walked-on}
use Rattle.clr_sweep.specs.SweptItems.{HasSweptItems, swept_last, tally_among}
use Rattle.clr_sweep.specs.SweptSegments.{AreSwept, HasSweptSegment, IsAhead, IsParted, IsSwept}
use Rattle.clr_sweep.specs.Passes.{IsAtMost, no_tally, plus}
use Rattle.clr_sweep.specs.declared.tally.Tally.{Tally}
use Rattle.clr_sweep.proofs.Agreeing.{generation_same}
use Rattle.clr_sweep.proofs.MoreSwept.{next_in_range, parted_more, same_items, same_word, segments_are, swept_alike}
use Rattle.clr_sweep.proofs.MoreSwept.{swept_more, swept_none}
use Rattle.clr_sweep.proofs.Tallies.{at_most_up, tally-agrees, tally-append, tally-item}

-- the segments below k are swept and counted, the others as they were
pub record IsSweeping (rows : List TypeRow) (old now : HeapView) (k : ℕ) (tally : Tally) : Type 0 where
  pub all : AreSwept rows old now (λ j. nat_lt j k)
  pub young : extents (ephemerals now.segments) ≡ extents (ephemerals old.segments)
  pub outside : (b : ℕ) → b % 8 ≡ 0 → ((j : ℕ) → j < length old.segments → (b + 8 < first_of old j)
      ⊎ (last_of old j ≤ b + 8)) → word_of now b ≡ word_of old b
  pub counts : tally ≡ tally_among old (listings rows old 0 k)
  pub counted : (j : ℕ) → k ≤ j → j < length old.segments → IsAtMost tally (first_of old j)

pub sweeping_starts : (rows : List TypeRow) (h : HeapView) → IsSweeping rows h h 0 no_tally
sweeping_starts rows h = record {
  all = swept_none rows h (λ j. nat_lt j 0) (λ j. le-ltb j 0 (omega arith));
  young = refl;
  outside = λ b z away. refl;
  counts = refl;
  counted = λ j l m. record {
    kept = omega arith;
    freed = omega arith;
    promoted1 = omega arith;
    promoted2 = omega arith;
  };
}

-- one number more is below the next
below_more : (j k : ℕ) → (nat_lt j k || nat_eq j k) ≡ nat_lt j (k + 1)
below_more j k = elim (cases_order j k) [
  | inl e ↦ or_right (nat_lt j k) (nat_eq j k) (eq-eqb j k e) ∙ sym (lt-ltb j (k + 1) (omega arith))
  | inr (inl less) ↦ or_left (nat_lt j k) (nat_eq j k) (lt-ltb j k less) ∙ sym (lt-ltb j (k + 1) (omega arith))
  | inr (inr more) ↦ or_neither (nat_lt j k) (nat_eq j k) (le-ltb j k (omega arith)) (ne_eqb j k (λ e. omega arith))
      ∙ sym (le-ltb j (k + 1) (omega arith))
]
  where
    or_neither : (a b : Bool) → a ≡ false → b ≡ false → (a || b) ≡ false
    or_neither true b e f = absurd cc
    or_neither false b e f = f

module _ (rows : List TypeRow) (old now : HeapView) (k : ℕ) (tally : Tally) (heap : IsHeap old) (held : IsHeld rows old)
    (s : IsSweeping rows old now k tally) (inside : k < length old.segments) where
  abbrev below : ℕ → Bool
  below j = nat_lt j k

  not_yet : nat_lt k k ≡ false
  not_yet = le-ltb k k (omega arith)

  abbrev here : IsAhead old now k
  here = s.all.ahead k inside not_yet

  pub next_parted : IsParted rows now k (first_of now k)
  next_parted = parted_more rows old now below k heap held s.all inside not_yet

  same_tally : tally_among now (listing rows now k) ≡ tally_among old (listing rows old k)
  same_tally =
      ap (tally_among now) (same_items rows old now below k heap held s.all inside not_yet)
      ∙ tally-agrees old now (listing rows old k) (λ i l. tally-item old now i
      (same_word rows old now below k heap held s.all inside not_yet i l)
      (generation_same old now i.place (same_first (ephemerals now.segments) (ephemerals old.segments) s.young)
      (ap (λ (h : HeapView). h.start1) s.all.others) (ap (λ (h : HeapView). h.start0) s.all.others)))

  module _ (new : HeapView) (more : Tally) (w : HasSweptSegment rows now new k (first_of now k))
      (adds : more ≡ plus tally (tally_among now (listing rows now k))) (at_most : IsAtMost more (last_of now k)) where
    abbrev ended : SegInfo
    ended = ended_at (swept_last rows now k) (segment_at now k)

    -- THE NEXT SEGMENT is swept
    pub sweeping_more : IsSweeping rows old new (k + 1) more
    sweeping_more = record {
      all = swept_alike rows old new (λ j. nat_lt j k || nat_eq j k) (λ j. nat_lt j (k + 1)) (λ j l. below_more j k)
          (swept_more rows old now below k heap held s.all inside not_yet new w);
      young = ap (λ (ss : List SegInfo). extents (ephemerals ss))
          (segments_are rows old now below k heap held s.all inside not_yet new w)
          ∙ ephemerals_set now.segments k ended empty_segment
          (next_in_range rows old now below k heap held s.all inside not_yet) refl refl ∙ s.young;
      outside = λ b z away.
          let first = ap first_place here.segment in
          let last = ap (λ (t : SegInfo). t.end) here.segment in
          w.outside b z (elim (away k inside) [
            | inl under ↦ inl (omega (arith, first, under))
            | inr over ↦
                inr (omega (arith, last, over))
          ]) ∙ s.outside b z away;
      counts = adds ∙ ap₂ plus s.counts same_tally ∙ sym (tally-append old (listings rows old 0 k) (listing rows old k))
          ∙ ap (tally_among old) (sym (walked-on rows old k));
      counted = λ j above l.
          let last = ap (λ (t : SegInfo). t.end) here.segment in
          let high = (lawful_at old k heap inside).high in
          let order = segment_order old k j heap (omega arith) l in
          at_most_up more (last_of now k) (first_of old j) (omega (arith, last, high, order)) at_most;
    }

-- ---- the end

module _ (rows : List TypeRow) (old now : HeapView) (k : ℕ) (tally : Tally) (s : IsSweeping rows old now k tally)
    (past : length now.segments ≤ k) where
  -- the heap with the new boundaries
  abbrev aged : HeapView
  aged = record now { start1 = min now.start0 (tail_of now); start0 = tail_of now }

  done : (j : ℕ) → j < length old.segments → IsSwept rows old now j
  done j l = let n = s.all.count in s.all.done j l (lt-ltb j k (omega (arith, n, past, l)))

  pub all_swept : HasSweptItems rows old (record now { start1 = min now.start0 (tail_of now); start0 = tail_of now })
  all_swept = record {
    memories = s.all.memories;
    count = s.all.count;
    segments = λ j l. (done j l).segment;
    start1 = ap (λ (h : HeapView). min h.start0 (tail_of now)) s.all.others;
    start0 = refl;
    others =
        ap (λ (h : HeapView). record h { start1 = min now.start0 (tail_of now); start0 = tail_of now }) s.all.others;
    walkable = λ j l. (done j (let n = s.all.count in omega (arith, n, l))).walkable;
    items = λ j l. (done j l).items;
    free_heads = λ i listed free.
        let n = s.all.count in
        let at = listed-in rows (record now { start1 = min now.start0 (tail_of now); start0 = tail_of now }) i 0
        (length now.segments) listed in
        let l = at.1 in
        (done at.0 (omega (arith, n, l))).free_heads i at.2 free;
    cells = λ i b listed on z lo hi.
        let at = listed-in rows old i 0 (length old.segments) listed in
        let l = at.1 in
        (done at.0 (omega arith)).cells i at.2 on b z lo hi;
    outside = s.outside;
  }
