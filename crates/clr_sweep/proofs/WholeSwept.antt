-- What a sweep of each segment's items makes of the heap, in the machine's words.
use Rattle.std.proofs.Common.{◌≡◌, ◌⊎◌, ℕ, ◌+◌, ◌<◌, ◌≤◌, sym, ap, subst, ◌∙◌, Bool, not, ◌||◌, if◌then◌else◌}
use Rattle.std.proofs.Common.{List}
use Rattle.clr_types.proofs.ListMembers.{filter-on}
use Rattle.clr_types.specs.Types.{TypeRow}
use Rattle.clr_heap.specs.View.{frame, heap_items, HeapView, IsHeap, last_of, no_rests, segment_at, word_of}
use Rattle.clr_model.specs.Lawful.{IsLaid}
use Rattle.clr_model.specs.Machine.{Machine}
use Rattle.clr_model.specs.Sweep.{survivors}
use Rattle.clr_view.specs.View.{IsHeld, layout_in, objects_in}
use Rattle.clr_view.specs.Memory.{is_left, is_marked, IsMemoryOf, TestsMarks, word_without_mark}
use Rattle.clr_sweep.specs.Swept.{HasSwept, swept_layout, tally_of}
use Rattle.clr_sweep.specs.SweptItems.{HasSweptItems, tally_among}
use Rattle.clr_sweep.proofs.SurvivorsSwept.{part-start, seen}
use Rattle.clr_sweep.proofs.ObjectsSwept.{swept_cells, swept_held, swept_limit, swept_objects, swept_unmarked}
use Rattle.clr_sweep.proofs.LayoutSwept.{layout_swept, part-taken}
use Rattle.clr_sweep.proofs.Counted.{all_swept_over, whole-counted}

-- a machine whose memory the heap is, is what is seen in the heap
pub memory-seen : (rows : List TypeRow) (h : HeapView) (m : Machine) → IsMemoryOf rows h m → m ≡ seen rows h m
memory-seen rows h m memory =
    let types = memory.types in
    let objects = memory.objects in
    let layout = memory.layout in
    λ k. record m { types = types k; objects = objects k; layout = layout k }

-- all machines whose memory it is are laid alike
pub seen-alike : (rows : List TypeRow) (h : HeapView) (m other : Machine) → IsLaid (seen rows h m)
    → IsLaid (seen rows h other)
seen-alike rows h m other laid = record {
  layout = laid.layout;
  housed = laid.housed;
  tiled = laid.tiled;
  whole1 = laid.whole1;
  whole0 = laid.whole0;
}

module _ (rows : List TypeRow) (old new : HeapView) (swept : HasSweptItems rows old new) (heap : IsHeap old)
    (held : IsHeld rows old) (none : old.rests ≡ no_rests) where
  layout-told : (base : Machine) → IsMemoryOf rows old base → IsLaid base → (m : Machine) (kept : ℕ → Bool)
      → IsMemoryOf rows old m → TestsMarks rows old 2 kept
      → layout_in rows new ≡ swept_layout m.layout 2 (survivors m 2 kept)
  layout-told base memory laid m kept memory_too tests =
      let seen_laid : IsLaid (seen rows old base) = subst IsLaid (memory-seen rows old base memory) laid in
      layout_swept rows old new m swept heap held none (seen-alike rows old base m seen_laid) kept tests
      ∙ ap (λ (x : Machine). swept_layout x.layout 2 (survivors x 2 kept)) (sym (memory-seen rows old m memory_too))

  -- THE SWEEP of all generations, in the machine's words
  pub has_swept : IsHeap new → (base : Machine) × IsMemoryOf rows old base × IsLaid base → HasSwept rows old new 2
  has_swept new_heap (base, memory, laid) = record {
    objects = swept_objects rows old new swept heap held
        ∙ filter-on (is_marked old) (is_left old 2) (objects_in rows old)
        (λ o l. sym (ap (λ (b : Bool). not b || is_marked old o) (all_swept_over old o.place)));
    layout = layout-told base memory laid;
    cells = λ i b l object z low high. swept_cells rows old new swept heap held i b l object z low high
        ∙ sym (ap (λ (t : Bool). if t then word_without_mark old i b else word_of old b) (all_swept_over old i.place));
    outside = λ b z away. swept.outside b z (λ j l. subst (λ n. (b + 8 < n) ⊎ (last_of old j ≤ b + 8))
        (part-start (frame old) (segment_at old j)) (away j l (part-taken (segment_at old j).kind)));
    unmarked = λ x marked. absurd (swept_unmarked rows old new swept heap held x marked);
    free_heads = λ _. swept.free_heads;
    limit = swept_limit rows old new swept heap held;
    heap = new_heap;
    held = swept_held rows old new swept heap held none;
  }

  -- and its counts
  pub has_counted : tally_among old (heap_items rows old) ≡ tally_of rows old 2
  has_counted = whole-counted rows old heap held
