-- The bricks of a heap in which generation 0 or 1 is swept, as the code meets it.
use Rattle.std.proofs.Common.{◌≡◌, inl, inr, ℕ, ◌<◌, ◌≤◌, Bool, length, ap, sym, subst, ◌∙◌, arith, List, ℤ}
use Rattle.std.proofs.lemmas.Bool.{cases_order}
use Rattle.clr_types.specs.Segments.{ephemeral, Layout}
use Rattle.clr_types.specs.Types.{TypeRow}
use Rattle.clr_bricks.specs.Bricks.{entry_at}
use Rattle.clr_covers.specs.Covers.{CoverView}
use Rattle.clr_generations.specs.Laws.{AreEntered, BrickLaw, IsBrickOf}
use Rattle.clr_generations.specs.Renewing.{AreLeft, HasYoungBorder, left_in}
use Rattle.clr_heap.specs.View.{frame, HeapView, IsHeap, no_rests, segment_at}
use Rattle.clr_heap.proofs.Framing.{lawful_at}
use Rattle.clr_heap.proofs.Staying.{segment_order}
use Rattle.clr_heap.proofs.Young.{young_number}
use Rattle.clr_model.specs.Lawful.{IsLaid}
use Rattle.clr_model.specs.Machine.{Machine, Object}
use Rattle.clr_view.specs.Memory.{is_left, IsMemoryOf}
use Rattle.clr_view.specs.View.{IsHeld, objects_in}
use Rattle.clr_sweep.specs.SweptItems.{aged, young_start}
use Rattle.clr_sweep.specs.SweptSegments.{HasSweptSegment, HasSweptYoung}
use Rattle.clr_sweep.specs.declared.tally.Tally.{Tally}
use Rattle.clr_sweep.proofs.SurvivorsSwept.{seen}
use Rattle.clr_sweep.proofs.YoungBricks.{law-again, one-number, part-left}
use Rattle.clr_sweep.proofs.YoungPart.{young-high, young-low, young-parted}
use Rattle.clr_sweep.proofs.YoungWhole.{as-seen}

module _ (rows : List TypeRow) (old : HeapView) (heap : IsHeap old) (held : IsHeld rows old) (none : old.rests
    ≡ no_rests) (laid : (base : Machine) × IsMemoryOf rows old base × IsLaid base) where
  -- WHERE GENERATION 0 BEGINS no item reaches over it
  pub young_border : (k : ℕ) → k < length old.segments → HasYoungBorder rows old k
  young_border k inside low high =
      let one = heap.one_ephemeral in
      let found = young_number old.segments (omega arith) in
      let e = found.0 in
      let seen_laid = as-seen rows old heap held none laid 0 (omega arith) in
      let first = young-low rows old laid.0 heap held none seen_laid 0 (omega arith) e found.1 found.2 in
      let last = young-high rows old laid.0 heap held none seen_laid 0 (omega arith) e found.1 found.2 in
      let end_e = (lawful_at old e heap found.1).high in
      let end_k = (lawful_at old k heap inside).high in
      elim (cases_order k e) [
        | inl same ↦
            let eph = ap (segment_at old) same ∙ found.2 in
            let parted = young-parted rows old laid.0 heap held none seen_laid 0 (omega arith) k inside eph in
            record { below = parted.below; above = parted.above }
        | inr (inl less) ↦ let order = segment_order old k e heap less found.1 in absurd (omega arith)
        | inr (inr more) ↦ let order = segment_order old e k heap more inside in absurd (omega arith)
      ]

  module _ (g : ℕ) (young : g ≤ 1) (k : ℕ) (inside : k < length old.segments)
      (eph : segment_at old k ≡ ephemeral (frame old)) where
    seen-laid : IsLaid (seen rows old laid.0)
    seen-laid = as-seen rows old heap held none laid g young

    module _ (new : HeapView) (tally : Tally) (w : HasSweptYoung rows old new g tally) (new_heap : IsHeap new) where
      -- the segment that was swept has this number
      swept : HasSweptSegment rows old w.between k (young_start old g)
      swept = subst (λ (j : ℕ). HasSweptSegment rows old w.between j (young_start old g))
          (one-number old w.k k heap w.in_range inside (w.young ∙ sym eph)) w.swept

      is_heap : IsHeap (aged w.between g)
      is_heap = subst IsHeap w.ages new_heap

      -- THE LAW OF BRICKS holds where the part's were renewed before
      pub law_holds : (bricks after : List (CoverView ℤ))
          → BrickLaw rows (frame old) (objects_in rows old) (entry_at bricks)
          → ((layout : Layout) (keep : Object → Bool) → AreLeft rows old k (young_start old g) layout keep
          → AreEntered rows layout (left_in rows old keep) (entry_at after) (segment_at old k))
          → ((b : ℕ) → (IsBrickOf (segment_at old k) b → ⊥) → entry_at after b ≡ entry_at bricks b)
          → BrickLaw rows (frame new) (objects_in rows new) (entry_at after)
      law_holds bricks after law renewed others =
          subst (λ (h : HeapView). BrickLaw rows (frame h) (objects_in rows h) (entry_at after)) (sym w.ages)
          (law-again rows old laid.0 heap held none seen-laid g young k inside eph w.between swept is_heap bricks after
          law
          (renewed (frame (aged w.between g)) (is_left old g)
          (part-left rows old laid.0 heap held none seen-laid g young k inside eph w.between swept is_heap)) others)
