-- What a sweep behind fronts makes of the heap, in the machine's words.
use Rattle.std.proofs.Common.{◌≡◌, ℕ, ◌<◌, List, length, ap, sym, ◌∙◌, subst, Bool, ℤ}
use Rattle.clr_types.specs.Segments.{Layout}
use Rattle.clr_types.specs.Types.{TypeRow}
use Rattle.clr_generations.specs.Laws.{AreEntered, BrickLaw}
use Rattle.clr_generations.specs.Renewing.{AreLeft, left_in}
use Rattle.clr_heap.specs.View.{frame, heap_items, HeapView, IsHeap, no_rests, segment_at}
use Rattle.clr_heap.proofs.Rewrite.{shaped_heap}
use Rattle.clr_mark.proofs.Held.{keeps_held}
use Rattle.clr_mark.proofs.Remarking.{keeps_layout, keeps_objects}
use Rattle.clr_model.specs.Lawful.{IsLaid}
use Rattle.clr_model.specs.Machine.{Machine, Object}
use Rattle.clr_view.specs.Memory.{IsMemoryOf}
use Rattle.clr_view.specs.View.{IsHeld, objects_in}
use Rattle.clr_sweep.specs.Fronts.{front_at, HasFronts}
use Rattle.clr_sweep.specs.Swept.{HasSwept, tally_of}
use Rattle.clr_sweep.specs.SweptItems.{HasSweptItems, tally_among}
use Rattle.clr_sweep.specs.declared.behind.Front.{Front}
use Rattle.clr_sweep.proofs.AllBehind.{as_memories}
use Rattle.clr_sweep.proofs.BehindBricks.{behind_law}
use Rattle.clr_sweep.proofs.WholeSwept.{has_counted, has_swept}

module _ (rows : List TypeRow) (h v new : HeapView) (fronts : List Front) (heap : IsHeap h) (held : IsHeld rows h)
    (none : h.rests ≡ no_rests) (fs : HasFronts rows h v fronts) (swept : HasSweptItems rows v new) where
  heap_v : IsHeap v
  heap_v = shaped_heap h v fs.marks.shape heap

  held_v : IsHeld rows v
  held_v = keeps_held rows h v heap held fs.marks

  none_v : v.rests ≡ no_rests
  none_v = ap (λ (g : HeapView). g.rests) fs.marks.shape.others ∙ none

  memory_v : (m : Machine) → IsMemoryOf rows h m → IsMemoryOf rows v m
  memory_v m memory = record {
    types = memory.types;
    objects = memory.objects ∙ sym (keeps_objects rows h v heap held fs.marks);
    layout = memory.layout ∙ sym (keeps_layout rows h v heap held fs.marks);
  }

  -- THE SWEEP of the heap in which the objects of the fronts are marked, too
  pub has_swept_behind : IsHeap new → (base : Machine) × IsMemoryOf rows h base × IsLaid base → HasSwept rows v new 2
  has_swept_behind new_heap (base, memory, laid) =
      has_swept rows v new swept heap_v held_v none_v new_heap (base, memory_v base memory, laid)

  pub has_counted_behind : tally_among v (heap_items rows v) ≡ tally_of rows v 2
  has_counted_behind = has_counted rows v new swept heap_v held_v none_v

  -- and its bricks
  pub has_law_behind : IsHeap new → (entry : ℕ → ℤ)
      → ((k : ℕ) (layout : Layout) (keep : Object → Bool) → k < length h.segments
      → AreLeft rows h k (front_at fronts k).place layout keep
      → AreEntered rows layout (left_in rows h keep) entry (segment_at h k))
      → BrickLaw rows (frame new) (objects_in rows new) entry
  has_law_behind new_heap entry renewed =
      behind_law rows h v.memories fronts new heap held none (as_memories rows h v fronts fs)
      (subst (λ (g : HeapView). HasSweptItems rows g new) fs.marks.shape.others swept) new_heap entry renewed
