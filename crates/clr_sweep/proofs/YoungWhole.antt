-- A sweep of generation 0 or 1, in the machine's words.
use Rattle.std.proofs.Common.{◌≡◌, ℕ, ◌<◌, ◌≤◌, length, sym, ap, subst, ◌∙◌, List}
use Rattle.clr_types.specs.Segments.{ephemeral}
use Rattle.clr_types.specs.Types.{TypeRow}
use Rattle.clr_heap.specs.View.{frame, HeapView, IsHeap, no_rests, segment_at}
use Rattle.clr_model.specs.Lawful.{IsLaid}
use Rattle.clr_model.specs.Machine.{Machine}
use Rattle.clr_model.specs.Sweep.{survivors}
use Rattle.clr_view.specs.View.{IsHeld}
use Rattle.clr_view.specs.Memory.{IsMemoryOf}
use Rattle.clr_sweep.specs.Swept.{HasSwept, swept_layout, tally_of}
use Rattle.clr_sweep.specs.SweptItems.{aged, young_start}
use Rattle.clr_sweep.specs.SweptSegments.{HasSweptYoung, IsParted}
use Rattle.clr_sweep.specs.declared.tally.Tally.{Tally}
use Rattle.clr_sweep.proofs.SurvivorsSwept.{seen}
use Rattle.clr_sweep.proofs.WholeSwept.{memory-seen, seen-alike}
use Rattle.clr_sweep.proofs.YoungLayout.{young-layout}
use Rattle.clr_sweep.proofs.YoungPart.{young-parted}
use Rattle.clr_sweep.proofs.YoungSwept.{young-cells, young-heads, young-held, young-limit, young-objects}
use Rattle.clr_sweep.proofs.Counted.{young-counted}
use Rattle.clr_sweep.proofs.YoungSwept.{young-outside, young-unmarked}

module _ (rows : List TypeRow) (old : HeapView) (heap : IsHeap old) (held : IsHeld rows old) (none : old.rests
    ≡ no_rests) (laid : (base : Machine) × IsMemoryOf rows old base × IsLaid base) (g : ℕ) (young : g ≤ 1) where
  -- the heap is laid
  pub as-seen : IsLaid (seen rows old laid.0)
  as-seen = subst IsLaid (memory-seen rows old laid.0 laid.1) laid.2

  -- the young part can be swept
  pub part_parted : (k : ℕ) → k < length old.segments → segment_at old k ≡ ephemeral (frame old)
      → IsParted rows old k (young_start old g)
  part_parted k inside eph = young-parted rows old laid.0 heap held none as-seen g young k inside eph

  module _ (new : HeapView) (tally : Tally) (w : HasSweptYoung rows old new g tally) (new_heap : IsHeap new) where
    whole : IsHeap (aged w.between g) → HasSwept rows old (aged w.between g) g
    whole swept_heap = record {
      objects = young-objects rows old laid.0 heap held none as-seen g young w.k w.in_range w.young w.between w.swept;
      layout = λ m kept memory tests.
          young-layout rows old m heap held none (seen-alike rows old laid.0 m as-seen) g young w.k w.in_range w.young
          w.between w.swept swept_heap kept tests
          ∙ ap (λ (x : Machine). swept_layout x.layout g (survivors x g kept)) (sym (memory-seen rows old m memory));
      cells = young-cells rows old laid.0 heap held none as-seen g young w.k w.in_range w.young w.between w.swept;
      outside = young-outside rows old laid.0 heap held none as-seen g young w.k w.in_range w.young w.between w.swept;
      unmarked = young-unmarked rows old laid.0 heap held none as-seen g young w.k w.in_range w.young w.between w.swept;
      free_heads = young-heads rows old laid.0 heap held none as-seen g young w.k w.in_range w.young w.between w.swept;
      limit = young-limit rows old laid.0 heap held none as-seen g young w.k w.in_range w.young w.between w.swept;
      heap = swept_heap;
      held = young-held rows old laid.0 heap held none as-seen g young w.k w.in_range w.young w.between w.swept;
    }

    -- THE SWEEP of generation 0 or 1
    pub has_swept_young : HasSwept rows old new g
    has_swept_young = subst (λ h. HasSwept rows old h g) (sym w.ages) (whole (subst IsHeap w.ages new_heap))

    -- and its counts
    pub has_counted_young : tally ≡ tally_of rows old g
    has_counted_young = w.counts ∙ young-counted rows old laid.0 heap held none as-seen g young w.k w.in_range w.young
