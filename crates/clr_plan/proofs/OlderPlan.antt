-- Where the pointer begins in a collection of generation 0 or 1: at the start of the ephemeral segment's part.
use Rattle.std.proofs.Common.{◌≡◌, ℕ, ◌≤◌, List, [], subst, sym, ◌∙◌, refl, arith}
use Rattle.clr_types.specs.Types.{TypeRow}
use Rattle.clr_types.specs.Segments.{reserved_end}
use Rattle.clr_heap.specs.View.{HeapView, segment_at}
use Rattle.clr_view.specs.View.{layout_in}
use Rattle.clr_model.specs.Compaction.{first_pointer, Plug}
use Rattle.clr_pinq.specs.declared.entry.PinEntry.{PinEntry}
use Rattle.clr_plan.specs.Pointing.{IsAt}
use Rattle.clr_plan.specs.Plans.{CanPlanHeap, condemned_plugs, HasReached, parts_in, start_of_part}
use Rattle.clr_plan.specs.Waiting.{ranges_from}
use Rattle.clr_plan.specs.declared.pointer.Pointer.{Pointer}
use Rattle.clr_plan.proofs.Beginning.{opens-young, start-young}

pub young-starts : (rows : List TypeRow) (h : HeapView) (g e : ℕ) (can : CanPlanHeap rows h g e) → g ≤ 1
    → (entries : List PinEntry) → entries ≡ [] → (ahead : List Plug) → condemned_plugs rows h g e ≡ ahead → (place : ℕ)
    → place ≡ start_of_part rows h g e
    → (at : Pointer) → at ≡ record { place = place; segment = e; high = reserved_end (segment_at h e); passed = 0 }
    → HasReached h (parts_in rows h g) (condemned_plugs rows h g e) entries
    (first_pointer (layout_in rows h) g (parts_in rows h g)) [] [] ahead [] at
young-starts rows h g e can l entries none ahead is place start at same =
    subst (HasReached h (parts_in rows h g) (condemned_plugs rows h g e) entries
    (first_pointer (layout_in rows h) g (parts_in rows h g)) [] [] ahead []) (sym same)
    (record {
      split = is;
      placed = start ∙ start-young rows h g e can l;
      high = refl;
      behind = omega arith;
      stands = subst (λ ps. IsAt (parts_in rows h g) [] ps (segment_at h e) place (ranges_from 0 entries)) is
          (subst (λ n. IsAt (parts_in rows h g) [] (condemned_plugs rows h g e) (segment_at h e) n
          (ranges_from 0 entries)) (sym (start ∙ start-young rows h g e can l))
          (subst (λ es. IsAt (parts_in rows h g) [] (condemned_plugs rows h g e) (segment_at h e)
          (first_pointer (layout_in rows h) g (parts_in rows h g)) (ranges_from 0 es)) (sym none)
          (opens-young rows h g e can l)));
    })
