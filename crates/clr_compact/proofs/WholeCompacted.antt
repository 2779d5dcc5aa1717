-- A whole compaction, in the machine's words.
use Rattle.std.proofs.Common.{◌≡◌, ℕ, ◌≤◌, Bool, List, length, get_or, replicate, zero, suc, None, Some, true, false}
use Rattle.std.proofs.Common.{refl, sym, ap, subst, ◌∙◌}
use Rattle.clr_types.specs.Rising.{IsIn}
use Rattle.clr_types.specs.Ranges.{Piece}
use Rattle.clr_types.specs.declared.item.Item.{Item}
use Rattle.clr_types.specs.Segments.{ephemeral, Layout}
use Rattle.clr_types.specs.Types.{TypeRow}
use Rattle.clr_compact.specs.Rewrites.{cleared, Rewrites}
use Rattle.clr_heap.specs.View.{heap_items, HeapView, IsHeap, no_rests, SameShape, word_of}
use Rattle.clr_model.specs.Compaction.{Move}
use Rattle.clr_model.specs.Lawful.{IsLaid}
use Rattle.clr_model.specs.Machine.{Machine}
use Rattle.clr_view.specs.Marks.{Marked}
use Rattle.clr_view.specs.View.{AreFreeHeads, free_among, IsFreeHead, IsHeld, layout_in, objects_among, objects_in}
use Rattle.clr_view.specs.View.{tail_of}
use Rattle.clr_view.specs.Items.{is_free}
use Rattle.clr_view.proofs.Listings.{listings-agree}
use Rattle.clr_sweep.proofs.SurvivorsSwept.{seen}
use Rattle.clr_compact.specs.Compacted.{ArePartsWalkable, HasCompacted, part_items}
use Rattle.clr_moves.specs.Overlaid.{IsCompactionOf}
use Rattle.clr_moves.specs.Objects.{is_in_parts}
use Rattle.clr_compact.specs.Slides.{HasSlid}
use Rattle.clr_compact.proofs.CompactedHeap.{words_outside}
use Rattle.clr_moves.specs.Moves.{age_of}
use Rattle.clr_moves.proofs.CompactionFills.{fills-parts}
use Rattle.clr_moves.proofs.FilledParts.{FillsParts}
use Rattle.clr_moves.proofs.PlannedMoves.{seen-laid}
use Rattle.clr_compact.proofs.LayoutCompacted.{cells_kept, free_compacted, headers_kept, heads_kept, limit_same}
use Rattle.clr_compact.proofs.LayoutCompacted.{marks_left}
use Rattle.clr_compact.proofs.LayoutCompacted.{rests_same, segments_compacted, top_same, walkable_now}
use Rattle.clr_compact.proofs.ObjectsCompacted.{objects_compacted}
use Rattle.clr_compact.proofs.PartsSlid.{slid_parts}
use Rattle.clr_moves.specs.declared.condemned.Condemned.{Condemned}

module _ (rows : List TypeRow) (old : HeapView) (g : Condemned) (moves : List Move) (m : Machine) (kept : ℕ → Bool)
    (after : Layout) (p : IsCompactionOf rows old g moves m kept after) where
  seen_laid : IsLaid (seen rows old m)
  seen_laid = seen-laid rows old g moves m kept after p

  module _ (heap : IsHeap old) (held : IsHeld rows old) (none : old.rests ≡ no_rests) (least : age_of g ≤ 2)
      (mid : HeapView) (slid : HasSlid old mid g moves) where
    fills : FillsParts rows old m g kept moves after
    fills = fills-parts rows old g moves m kept after p least

    -- the marks can be cleared
    pub planned_parts : ArePartsWalkable rows mid g
    planned_parts = slid_parts rows old m heap held none seen_laid g kept moves after fills mid slid

    pub planned_rests : mid.rests ≡ no_rests
    planned_rests = ap (λ (h : HeapView). h.rests) slid.others ∙ none

    module _ (mid_heap : IsHeap mid) (clean : HeapView) (shape : SameShape mid clean)
        (words : Rewrites (cleared (part_items rows mid g (length mid.segments))) (word_of mid)
        (word_of clean))
        (clean_heap : IsHeap clean) (start1 start0 : ℕ) where
      abbrev pub fin : HeapView
      fin = record clean { start1 = start1; start0 = start0 }

      fin_items : heap_items rows fin ≡ heap_items rows clean
      fin_items = listings-agree rows rows clean fin 0 (length clean.segments) (λ j low high. refl)

      -- the layout, by this plan
      pub planned_layout : after.start1 ≡ start1 → after.start0 ≡ start0 → layout_in rows fin ≡ after
      planned_layout one two =
          let segments = segments_compacted rows old m heap held none seen_laid g kept moves after fills
          mid slid p.tests mid_heap clean shape words clean_heap in
          let free = ap free_among fin_items ∙ free_compacted rows old m heap held none seen_laid g kept moves
          after fills mid slid p.tests mid_heap clean shape words clean_heap in
          let rests = rests_same rows old m heap held none seen_laid g kept moves after fills mid slid
          p.tests mid_heap clean shape words clean_heap ∙ sym fills.rests in
          let top = top_same rows old m heap held none seen_laid g kept moves after fills mid slid
          p.tests mid_heap clean shape words clean_heap ∙ sym fills.top in
          λ k. record {
            segments = segments k;
            start1 = sym one k;
            start0 = sym two k;
            free = free k;
            rests = rests k;
            top = top k;
          }

      -- generation 0 begins at or below the end of the ephemeral segment
      young_now : after.start1 ≡ start1 → after.start0 ≡ start0 → fin.start0 ≤ tail_of fin
      young_now one two =
          subst (λ (l : Layout). l.start0 ≤ (ephemeral l).end) (sym (planned_layout one two)) fills.lawful.start0_high

      pub planned_held : after.start1 ≡ start1 → after.start0 ≡ start0 → IsHeld rows fin
      planned_held one two =
          let walkable = walkable_now rows old m heap held none seen_laid g kept moves after fills mid
          slid p.tests mid_heap clean shape words clean_heap in
          record {
            walkable = walkable;
            contexts = λ i r e. absurd (no_rest i r e);
            apart = λ i j r q e f same. absurd (no_rest i r e);
            young = young_now one two;
          }
        where
          none_at : (n i : ℕ) (r : Piece) → get_or (replicate n None) i None ≡ Some r → ⊥
          none_at zero i r e = absurd cc
          none_at (suc n) zero r e = absurd cc
          none_at (suc n) (suc i) r e = none_at n i r e

          no_rest : (i : ℕ) (r : Piece) → get_or clean.rests i None ≡ Some r → ⊥
          no_rest i r e =
              let same = rests_same rows old m heap held none seen_laid g kept moves after fills mid slid
              p.tests mid_heap clean shape words clean_heap in
              none_at 16 i r (ap (λ rs. get_or rs i None) (sym (same ∙ none)) ∙ e)

      pub planned_marks : (x : ℕ) → Marked rows fin x → Marked rows old x × (is_in_parts old g x ≡ false)
      planned_marks x marked =
          let (o, n, at) = marked.stands in
          let same : objects_in rows fin ≡ objects_in rows clean = ap (objects_among rows (word_of clean)) fin_items in
          marks_left rows old m heap held none seen_laid g kept moves after fills mid slid p.tests
          mid_heap clean shape words clean_heap x
          (record { stands = (o, subst (IsIn o) same n, at); mark = marked.mark })

      pub planned_heads : AreFreeHeads rows old → AreFreeHeads rows fin
      planned_heads heads =
          subst (λ is. (i : Item) → IsIn i is → is_free i ≡ true → IsFreeHead (word_of clean) i.place) (sym fin_items)
          (heads_kept rows old m heap held none seen_laid g kept moves after fills mid slid p.tests
          mid_heap clean shape words clean_heap heads)

-- THE COMPACTION, whatever machine's memory the heap is
pub has_compacted : (rows : List TypeRow) (old : HeapView) (g : Condemned) (moves : List Move) (m : Machine)
    (kept : ℕ → Bool) (after : Layout) (p : IsCompactionOf rows old g moves m kept after) (heap : IsHeap old)
    (held : IsHeld rows old) (none : old.rests ≡ no_rests) (least : age_of g ≤ 2) (mid : HeapView)
    (slid : HasSlid old mid g moves) (mid_heap : IsHeap mid) (clean : HeapView) (shape : SameShape mid clean)
    (words : Rewrites (cleared (part_items rows mid g (length mid.segments))) (word_of mid) (word_of clean))
    (clean_heap : IsHeap clean) (start1 start0 : ℕ)
    → after.start1 ≡ start1 → after.start0 ≡ start0
    → HasCompacted rows old (record clean { start1 = start1; start0 = start0 }) g moves
has_compacted rows old g moves m kept after p heap held none least mid slid mid_heap clean shape words clean_heap start1
    start0 one two =
    let laid = seen_laid rows old g moves m kept after p in
    let fill = fills rows old g moves m kept after p heap held none least mid slid in
    record {
      objects = ap (objects_among rows (word_of clean))
          (fin_items rows old g moves m kept after p heap held none least mid slid mid_heap clean shape words clean_heap
          start1 start0) ∙ objects_compacted rows old m heap held none laid g kept moves after fill mid slid p.tests
          mid_heap clean shape words clean_heap;
      layout = λ m2 kept2 after2 p2. planned_layout rows old g moves m2 kept2 after2 p2 heap held none least mid slid
          mid_heap clean shape words clean_heap start1 start0;
      cells = cells_kept rows old m heap held none laid g kept moves after fill mid slid p.tests mid_heap clean shape
          words clean_heap;
      outside = words_outside rows old m heap held none laid g kept moves after fill mid slid p.tests mid_heap clean
          shape words;
      headers = headers_kept rows old m heap held none laid g kept moves after fill mid slid p.tests mid_heap clean
          shape words clean_heap;
      marks = planned_marks rows old g moves m kept after p heap held none least mid slid mid_heap clean shape words
          clean_heap start1 start0;
      free_heads = planned_heads rows old g moves m kept after p heap held none least mid slid mid_heap clean shape
          words clean_heap start1 start0;
      limit = limit_same rows old m heap held none laid g kept moves after fill mid slid p.tests mid_heap clean shape
          words clean_heap;
      held = planned_held rows old g moves m kept after p heap held none least mid slid mid_heap clean shape words
          clean_heap start1 start0 one two;
    }
