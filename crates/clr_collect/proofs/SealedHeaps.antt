-- A heap whose ephemeral segment is sealed: a new empty one is above all others, and all items stay.
use Rattle.std.proofs.Common.{◌≡◌, inl, inr, ℕ, ◌+◌, ◌%◌, ◌<◌, ◌≤◌}
use Rattle.std.proofs.Common.{List, [], ◌∷◌, length, map, refl, ap, sym, ◌∙◌, arith}
use Rattle.std.proofs.Common.{if◌then◌else◌, nat_lt}
use Rattle.std.proofs.lemmas.Bool.{cases_Bool}
use Rattle.std.proofs.lemmas.List.{get_or-map, get_or_append_left, length-append, length-map}
use Rattle.clr_types.specs.Segments.{empty_segment, ephemeral, first_place, generation, opening_segment}
use Rattle.clr_types.specs.Segments.{sealed_segment, segment_or_empty, stands_in}
use Rattle.clr_types.specs.Types.{TypeRow}
use Rattle.clr_types.specs.declared.segment.SegInfo.{SegInfo}
use Rattle.clr_types.specs.declared.segment.SegKind.TheVariants.{Ephemeral}
use Rattle.clr_types.proofs.SegmentFacts.{stands-between}
use Rattle.clr_heap.specs.Memories.{first_memory}
use Rattle.clr_heap.specs.Parts.{parts}
use Rattle.clr_heap.specs.View.{CanWalk, first_of, frame, HeapView, holes_of, IsHeap, last_of}
use Rattle.clr_heap.specs.View.{no_rests, segment_at, sight, with_ephemeral, word_of}
use Rattle.clr_heap.proofs.Acquiring.{stays_with_ephemeral, word_in-push}
use Rattle.clr_heap.proofs.Framing.{ephemerals_sealed}
use Rattle.clr_heap.proofs.Runs.{Spells-seen}
use Rattle.clr_heap.proofs.Staying.{StaysAs}
use Rattle.clr_heap.proofs.Walking.{CanWalk-from}
use Rattle.clr_model.specs.Allocation.{sealed}
use Rattle.clr_view.specs.View.{free_among, IsHeld, layout_in, tail_of}
use Rattle.clr_generations.proofs.KeptItems.{KeepsItems, no_rest}
use Rattle.clr_generations.proofs.NewSegments.{gained_cells, gained_items, gained_walkable, get_or-behind, HasGained}
use Rattle.clr_sweep.proofs.ObjectsSwept.{no-holes}

-- what can be walked in a segment can be where it stays
pub walk_stays : (rows : List TypeRow) (old new : HeapView) (j i p e : ℕ) → StaysAs old j new i → first_of old j ≤ p
    → e ≤ last_of old j → CanWalk (sight rows old j) old.memories p e → CanWalk (sight rows new i) new.memories p e
walk_stays rows old new j i p e s low high w =
    let ps = parts e (sight rows old j) p e in
    CanWalk-from (sight rows new i) new.memories ps p e w.start
    (Spells-seen (sight rows old j) (word_of new) (holes_of new i) ps p e w.start
    (record {
      words = λ b z from to. s.words b z (omega arith) (omega arith);
      holes = λ q from to. s.holes q (omega arith) (omega arith);
    }) w.spelled)
    (λ a z from to. s.held a (omega arith) (omega arith) (w.held a z from to))

module _ (rows : List TypeRow) (h : HeapView) (heap : IsHeap h) (held : IsHeld rows h) (none : h.rests ≡ no_rests)
    (size : ℕ) where
  abbrev new : HeapView
  new = with_ephemeral h size

  -- ---- segments

  -- there is one more
  pub one_more : length new.segments ≡ length h.segments + 1
  one_more =
      length-append (map sealed_segment h.segments) (opening_segment h.top Ephemeral size ∷ [])
      ∙ ap (λ (n : ℕ). n + 1) (length-map h.segments sealed_segment)

  -- the old ones are sealed
  pub old_segment : (j : ℕ) → j < length h.segments → segment_at (with_ephemeral h size) j
      ≡ sealed_segment (segment_at h j)
  old_segment j l =
      let count = length-map h.segments sealed_segment in
      get_or_append_left (map sealed_segment h.segments) (opening_segment h.top Ephemeral size ∷ []) empty_segment j
      (omega arith)
      ∙ get_or-map sealed_segment h.segments j empty_segment empty_segment l

  -- the last one is new
  pub new_segment : segment_at (with_ephemeral h size) (length h.segments) ≡ opening_segment h.top Ephemeral size
  new_segment =
      ap (λ (n : ℕ). segment_at new n) (sym (length-map h.segments sealed_segment))
      ∙ get_or-behind (map sealed_segment h.segments) (opening_segment h.top Ephemeral size) empty_segment

  -- and the ephemeral one
  pub young_is : ephemeral (frame (with_ephemeral h size)) ≡ opening_segment h.top Ephemeral size
  young_is = ap segment_or_empty (ephemerals_sealed h.segments (opening_segment h.top Ephemeral size) refl)

  -- what stands below the top is of generation 2
  pub all_aged : (p : ℕ) → p < h.top → generation (frame (with_ephemeral h size)) p ≡ 2
  all_aged p low =
      ap (λ (s : SegInfo). if stands_in s p
      then (if nat_lt p new.start1 then 2 else (if nat_lt p new.start0 then 1 else 0)) else 2) young_is
      ∙ (elim (cases_Bool (stands_in (opening_segment h.top Ephemeral size) p)) [
        | inl there ↦
            let between = stands-between (opening_segment h.top Ephemeral size) p there in
            let above = between.0 in
            absurd (omega arith)
        | inr away ↦ rw away refl
      ])

  -- ---- items

  -- an old segment stays as it is
  pub stays : (j : ℕ) → j < length h.segments → StaysAs h j (with_ephemeral h size) j
  stays j l = stays_with_ephemeral h heap size j l (λ q low high. no-holes h j q none)

  abbrev n : ℕ
  n = length h.segments

  -- nothing stands in the new one
  nothing_new : (first_of new n ≡ last_of new n) × (first_of new n % 8 ≡ 0)
  nothing_new =
      let first = ap first_place new_segment in
      let last = ap (λ (s : SegInfo). s.end) new_segment in
      let top = heap.top_aligned in
      (first ∙ sym last, omega arith)

  -- so it has an empty segment more
  gained : HasGained h (with_ephemeral h size)
  gained = record {
    count = one_more;
    stays = stays;
    words = word_in-push h.memories (first_memory h.top size);
    start = nothing_new.1;
    empty = nothing_new.0;
  }

  -- ALL ITEMS STAY
  pub sealed_kept : IsHeap (with_ephemeral h size) → KeepsItems rows h (with_ephemeral h size)
  sealed_kept new_heap = record {
    heap = new_heap;
    held = record {
      walkable = gained_walkable rows h heap held new gained;
      contexts = λ i r e. absurd (no_rest h none i r e);
      apart = λ i j r q e. absurd (no_rest h none i r e);
      young = let tail : tail_of new ≡ h.top + 0x1000 = ap (λ (s : SegInfo). s.end) young_is in omega arith;
    };
    items = gained_items rows h heap held new gained;
    cells = gained_cells rows h heap held new gained;
  }

  -- THE LAYOUT is the sealed one
  pub sealed_layout : layout_in rows (with_ephemeral h size) ≡ sealed (layout_in rows h) size
  sealed_layout = λ i. record (frame new) { free = free_among (gained_items rows h heap held new gained i) }
