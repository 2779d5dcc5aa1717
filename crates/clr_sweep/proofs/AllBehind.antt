-- All segments are swept behind their fronts, one after the other, and then the boundaries move.
use Rattle.std.proofs.Common.{◌≡◌, ◌⊎◌, inl, inr, ℕ, ◌+◌, ◌%◌, ◌^◌, ◌<◌, ◌≤◌, List, length, min, refl, ap, set}
use Rattle.std.proofs.Common.{ap₂, sym, ◌∙◌, subst, arith, length-set}
use Rattle.std.proofs.lemmas.Bool.{cases_eq}
use Rattle.clr_mem.specs.Words.{Memory}
use Rattle.clr_types.specs.Segments.{empty_segment, ended_at}
use Rattle.clr_types.specs.Types.{TypeRow}
use Rattle.clr_types.specs.declared.item.Item.{Item}
use Rattle.clr_types.specs.declared.segment.SegInfo.{SegInfo}
use Rattle.clr_heap.specs.Memories.{shapes}
use Rattle.clr_heap.specs.Parts.{item_at}
use Rattle.clr_heap.specs.View.{extents, first_of, heap_items, HeapView, IsHeap, last_of, listing, listings, no_rests}
use Rattle.clr_heap.specs.View.{segment_at, word_of}
use Rattle.clr_heap.proofs.Framing.{below_top_at, ephemerals, ephemerals_set, lawful_at, same_first}
use Rattle.clr_heap.proofs.Rewrite.{shaped_heap}
use Rattle.clr_heap.proofs.Staying.{segment_order}
use Rattle.clr_mark.proofs.Held.{keeps_held}
use Rattle.clr_view.specs.SlotValues.{StandsAt}
use Rattle.clr_view.specs.View.{IsHeld, tail_of}
use Rattle.clr_view.proofs.Listed.{listed-in}
use Rattle.clr_view.proofs.ObjectItems.{stands-item}
use Rattle.clr_view.proofs.Standing.{standing}
use Rattle.clr_view.proofs.Walked.{walked-on}
use Rattle.clr_sweep.specs.Fronts.{front_at, HasFronts, IsFront}
use Rattle.clr_sweep.specs.Passes.{IsAtMost, no_tally, plus}
use Rattle.clr_sweep.specs.SweptItems.{HasSweptItems, items_below, items_from, part_last, tally_among}
use Rattle.clr_sweep.specs.SweptSegments.{HasSweptSegment, IsAhead, IsParted, IsSwept}
use Rattle.clr_sweep.specs.declared.behind.Front.{Front}
use Rattle.clr_sweep.specs.declared.tally.Tally.{Tally}
use Rattle.clr_sweep.proofs.Agreeing.{generation_same}
use Rattle.clr_sweep.proofs.FrontFacts.{behind_word, below_filled, below_item, front_stays, part_high, part_low}
use Rattle.clr_sweep.proofs.FrontItems.{few_objects, front_tally}
use Rattle.clr_sweep.proofs.OtherSegments.{still_ahead, still_swept}
use Rattle.clr_sweep.proofs.SweptBehind.{above_word, from_now, items_marked, parted_now, swept_behind, with_memories}
use Rattle.clr_sweep.proofs.Tallies.{at_most_up, plus-assoc, tally-agrees, tally-append, tally-item}

-- The segments below k are swept and counted as those of a heap v in which the objects of the fronts are marked, too.
-- The others are as they were.
pub record IsSweepingBehind (rows : List TypeRow) (h v now : HeapView) (k : ℕ) (tally : Tally) : Type 0 where
  pub memories : shapes now.memories ≡ shapes h.memories
  pub others : now ≡ record h { memories = now.memories; segments = now.segments }
  pub count : length now.segments ≡ length h.segments
  pub done : (j : ℕ) → j < length h.segments → j < k → IsSwept rows v now j
  pub ahead : (j : ℕ) → j < length h.segments → k ≤ j → IsAhead h now j
  pub young : extents (ephemerals now.segments) ≡ extents (ephemerals h.segments)
  pub outside : (b : ℕ) → b % 8 ≡ 0 → ((j : ℕ) → j < length h.segments → (b + 8 < first_of h j)
      ⊎ (last_of h j ≤ b + 8)) → word_of now b ≡ word_of h b
  pub counts : tally ≡ tally_among v (listings rows v 0 k)
  pub counted : (j : ℕ) → k ≤ j → j < length h.segments → IsAtMost tally (first_of h j)

pub behind_starts : (rows : List TypeRow) (h v : HeapView) → IsSweepingBehind rows h v h 0 no_tally
behind_starts rows h v = record {
  memories = refl;
  others = refl;
  count = refl;
  done = λ j l low. absurd (omega arith);
  ahead = λ j l low. record { segment = refl; words = λ b z lo hi. refl };
  young = refl;
  outside = λ b z away. refl;
  counts = refl;
  counted = λ j l m. record {
    kept = omega arith;
    freed = omega arith;
    promoted1 = omega arith;
    promoted2 = omega arith;
  };
}

-- the count with a front more
abbrev pub with_front : Tally → Front → Tally
with_front tally f = record tally { kept = tally.kept + f.count }

-- ---- the next segment

module _ (rows : List TypeRow) (h : HeapView) (vm : List Memory) (fronts : List Front) (now : HeapView) (k : ℕ)
    (tally : Tally) (heap : IsHeap h) (held : IsHeld rows h) (none : h.rests ≡ no_rests)
    (fs : HasFronts rows h (with_memories h vm) fronts)
    (s : IsSweepingBehind rows h (with_memories h vm) now k tally) (inside : k < length h.segments) where
  abbrev v : HeapView
  v = with_memories h vm

  abbrev f : Front
  f = front_at fronts k

  front : IsFront rows h v k f
  front = fs.each k inside

  here : IsAhead h now k
  here = s.ahead k inside (omega arith)

  low : first_of h k ≤ f.place
  low = part_low rows h k f.place front.parted

  high : f.place ≤ last_of h k
  high = part_high rows h k f.place front.parted

  pub next_in_range : k < length now.segments
  next_in_range = let n = s.count in omega (arith, n, inside)

  pub next_parted : IsParted rows now k f.place
  next_parted = parted_now rows h now k s.memories s.others here f.place front.parted

  -- what is counted with the front is no more than its end
  pub front_counted : IsAtMost (with_front tally f) f.place
  front_counted =
      let most = s.counted k (omega arith) inside in
      let kept = most.kept in
      let freed = most.freed in
      let one = most.promoted1 in
      let two = most.promoted2 in
      let few = few_objects (first_of h k) f.place (items_below rows h k f.place)
      (below_filled rows h k f.place front.parted none) in
      let count = front.count in
      let up = low in
      record {
        kept = omega (arith, kept, few, count);
        freed = omega (arith, freed, up);
        promoted1 = omega (arith, one, up);
        promoted2 = omega (arith, two, up);
      }

  pub front_fits : tally.kept + f.count < 2 ^ 64
  front_fits =
      let most = front_counted.kept in
      let end = high in
      let top = (lawful_at h k heap inside).high in
      let below = below_top_at h k heap inside in
      let small = heap.top_small in
      omega (arith, most, end, top, below, small)

  same_behind : (b : ℕ) → b % 8 ≡ 0 → f.place ≤ b → b < last_of h k → word_of v b ≡ word_of h b
  same_behind b z lo hi = behind_word rows h v fronts fs k b inside z lo hi

  heap_v : IsHeap v
  heap_v = shaped_heap h v fs.marks.shape heap

  held_v : IsHeld rows v
  held_v = keeps_held rows h v heap held fs.marks

  module _ (new : HeapView) (more : Tally) (w : HasSweptSegment rows now new k f.place)
      (adds : more ≡ plus (with_front tally f) (tally_among now (items_from rows now k f.place)))
      (at_most : IsAtMost more (last_of now k)) where
    -- ---- counts

    abbrev below : List Item
    below = items_below rows h k f.place

    abbrev above : List Item
    above = items_from rows h k f.place

    -- those of the front
    below_counts : tally_among v below ≡ record { kept = f.count; freed = 0; promoted1 = 0; promoted2 = 0 }
    below_counts =
        front_tally v below (front_stays rows h v k f front)
        (λ i l.
        let is = below_item rows h k f.place front.parted i l in
        let up = is.above in
        let down = is.below in
        let least = is.least in
        front.old i.place up (omega arith))
        ∙ ap (λ (n : ℕ). record { kept = n; freed = 0; promoted1 = 0; promoted2 = 0 }) (sym front.count)

    with_below : with_front tally f ≡ plus tally (tally_among v below)
    with_below =
        let freed : tally.freed ≡ tally.freed + 0 = omega arith in
        let one : tally.promoted1 ≡ tally.promoted1 + 0 = omega arith in
        let two : tally.promoted2 ≡ tally.promoted2 + 0 = omega arith in
        (λ j. record { kept = tally.kept + f.count; freed = freed j; promoted1 = one j; promoted2 = two j })
        ∙ ap (plus tally) (sym below_counts)

    -- those behind it
    above_counts : tally_among now (items_from rows now k f.place) ≡ tally_among v above
    above_counts =
        ap (tally_among now) (from_now rows h now k s.memories s.others here f.place front.parted)
        ∙ tally-agrees v now above (λ i l. tally-item v now i
        (above_word rows h vm now new k f heap held none inside fs.marks same_behind front s.memories s.others here
        next_in_range w i l)
        (generation_same v now i.place (same_first (ephemerals now.segments) (ephemerals h.segments) s.young)
        (ap (λ (g : HeapView). g.start1) s.others) (ap (λ (g : HeapView). g.start0) s.others)))

    counts_now : more ≡ tally_among v (listings rows v 0 (k + 1))
    counts_now =
        adds ∙ ap₂ plus with_below above_counts ∙ plus-assoc tally (tally_among v below) (tally_among v above)
        ∙ ap (plus tally) (sym (tally-append v below above)
        ∙ ap (tally_among v) (sym (items_marked rows h vm k f heap held none inside fs.marks front)))
        ∙ ap (λ (t : Tally). plus t (tally_among v (listing rows v k))) s.counts
        ∙ sym (tally-append v (listings rows v 0 k) (listing rows v k))
        ∙ ap (tally_among v) (sym (walked-on rows v k))

    -- ---- segments

    abbrev ended : SegInfo
    ended = ended_at (part_last rows now k f.place) (segment_at now k)

    segments_are : new.segments ≡ set now.segments k ended
    segments_are = ap (λ (g : HeapView). g.segments) w.others

    this_swept : IsSwept rows v new k
    this_swept =
        swept_behind rows h vm now new k f heap held none inside fs.marks same_behind front s.memories s.others here
        next_in_range w

    -- THE NEXT SEGMENT is swept
    pub behind_sweeps : IsSweepingBehind rows h (with_memories h vm) new (k + 1) more
    behind_sweeps = record {
      memories = w.memories ∙ s.memories;
      others = w.others
          ∙ ap (λ (g : HeapView). record g { memories = new.memories; segments = set now.segments k ended }) s.others
          ∙ ap (λ (ss : List SegInfo). record h { memories = new.memories; segments = ss }) (sym segments_are);
      count = ap length segments_are ∙ length-set now.segments k ended ∙ s.count;
      done = λ j l less. elim (cases_eq j k) [
        | inl e ↦ subst (λ (i : ℕ). IsSwept rows v new i) (sym e) this_swept
        | inr ne ↦ still_swept rows v now new k f.place heap_v held_v inside here.segment low w j ne
            (s.done j l (omega arith)) l
      ];
      ahead = λ j l more. still_ahead rows h now new k f.place heap held inside here.segment low w j
          (λ e. omega arith) (s.ahead j l (omega arith)) l;
      young = ap (λ (ss : List SegInfo). extents (ephemerals ss)) segments_are
          ∙ ephemerals_set now.segments k ended empty_segment next_in_range refl refl ∙ s.young;
      outside = λ b z away.
          let begins = low in
          let last = ap (λ (t : SegInfo). t.end) here.segment in
          w.outside b z (elim (away k inside) [
            | inl under ↦ inl (omega (arith, begins, under))
            | inr over ↦ inr (omega (arith, last, over))
          ]) ∙ s.outside b z away;
      counts = counts_now;
      counted = λ j above_k l.
          let last = ap (λ (t : SegInfo). t.end) here.segment in
          let top = (lawful_at h k heap inside).high in
          let order = segment_order h k j heap (omega arith) l in
          at_most_up more (last_of now k) (first_of h j) (omega (arith, last, top, order)) at_most;
    }

-- ---- the end

module _ (rows : List TypeRow) (h : HeapView) (vm : List Memory) (fronts : List Front) (now : HeapView) (k : ℕ)
    (tally : Tally) (heap : IsHeap h) (held : IsHeld rows h) (fs : HasFronts rows h (with_memories h vm) fronts)
    (s : IsSweepingBehind rows h (with_memories h vm) now k tally) (past : length h.segments ≤ k) where
  done_all : (j : ℕ) → j < length h.segments → IsSwept rows (with_memories h vm) now j
  done_all j l = s.done j l (omega (arith, past, l))

  -- no object stands outside the segments
  none_outside : (b : ℕ) → ((j : ℕ) → j < length h.segments → (b + 8 < first_of h j) ⊎ (last_of h j ≤ b + 8))
      → StandsAt rows h b → ⊥
  none_outside b away stands =
      let i = item_at rows (word_of h) b in
      let at = stands-item rows h heap held b stands in
      let there = standing rows h heap held i at.listed in
      let least = there.least in
      let place = at.at in
      let up = there.above in
      let down = there.below in
      elim (away there.segment there.in_range) [
        | inl under ↦ omega (arith, place, up, under)
        | inr over ↦ omega (arith, place, down, least, over)
      ]

  same_outside : (b : ℕ) → b % 8 ≡ 0
      → ((j : ℕ) → j < length h.segments → (b + 8 < first_of h j) ⊎ (last_of h j ≤ b + 8))
      → word_of (with_memories h vm) b ≡ word_of h b
  same_outside b z away = elim (fs.marks.words b z) [
    | inl same ↦ same
    | inr other ↦ absurd (none_outside b away other.0)
  ]

  pub all_behind : HasSweptItems rows (with_memories h vm)
      (record now { start1 = min now.start0 (tail_of now); start0 = tail_of now })
  all_behind = record {
    memories = s.memories ∙ sym fs.marks.shape.memories;
    count = s.count;
    segments = λ j l. (done_all j l).segment;
    start1 = ap (λ (g : HeapView). min g.start0 (tail_of now)) s.others;
    start0 = refl;
    others = ap (λ (g : HeapView). record g { start1 = min now.start0 (tail_of now); start0 = tail_of now }) s.others;
    walkable = λ j l. (done_all j (let n = s.count in omega (arith, n, l))).walkable;
    items = λ j l. (done_all j l).items;
    free_heads = λ i listed free.
        let n = s.count in
        let at = listed-in rows (record now { start1 = min now.start0 (tail_of now); start0 = tail_of now }) i 0
        (length now.segments) listed in
        let l = at.1 in
        (done_all at.0 (omega (arith, n, l))).free_heads i at.2 free;
    cells = λ i b listed on z lo hi.
        let at = listed-in rows (with_memories h vm) i 0 (length h.segments) listed in
        let l = at.1 in
        (done_all at.0 (omega arith)).cells i at.2 on b z lo hi;
    outside = λ b z away. s.outside b z away ∙ sym (same_outside b z away);
  }

-- ---- any heap in which the objects of the fronts are marked, too

module _ (rows : List TypeRow) (h v : HeapView) (fronts : List Front) (fs : HasFronts rows h v fronts) where
  pub as_memories : HasFronts rows h (with_memories h v.memories) fronts
  as_memories = subst (λ (g : HeapView). HasFronts rows h g fronts) fs.marks.shape.others fs

  module _ (now : HeapView) (k : ℕ) (tally : Tally) (heap : IsHeap h) (held : IsHeld rows h)
      (s : IsSweepingBehind rows h (with_memories h v.memories) now k tally) (past : length h.segments ≡ k) where
    -- ALL IS SWEPT, and counted
    pub swept_marked_heap : HasSweptItems rows v
        (record now { start1 = min now.start0 (tail_of now); start0 = tail_of now })
    swept_marked_heap =
        subst (λ (g : HeapView). HasSweptItems rows g
        (record now { start1 = min now.start0 (tail_of now); start0 = tail_of now })) (sym fs.marks.shape.others)
        (all_behind rows h v.memories fronts now k tally heap held as_memories s (omega (arith, past)))

    pub counted_marked_heap : tally ≡ tally_among v (heap_items rows v)
    counted_marked_heap =
        subst (λ (g : HeapView). tally ≡ tally_among g (heap_items rows g)) (sym fs.marks.shape.others)
        (s.counts ∙ ap (λ (n : ℕ). tally_among (with_memories h v.memories)
        (listings rows (with_memories h v.memories) 0 n)) (sym past))
