-- A new ephemeral segment: what still holds of the parts of a runtime, and that a small object has room in it.
use Rattle.std.proofs.Common.{refl, ◌≡◌, ◌∙◌, ℕ, ◌+◌, ◌<◌, ◌≤◌, ◌&&◌, Bool, true, false, List, [], sym, ap, subst}
use Rattle.std.proofs.Common.{arith, ℤ}
use Rattle.std.proofs.Common.{◌↔◌, inl, inr, Err, Ok, Result, Some}
use Rattle.std.specs.List.{list_any}
use Rattle.std.proofs.lemmas.Bool.{both_ways, cases_lt, le-leb, or_right}
use Rattle.clr_types.specs.declared.segment.SegKind.TheVariants.{Large, Pinned}
use Rattle.clr_types.specs.Ranges.{fits}
use Rattle.clr_types.specs.Segments.{ephemeral, fits_in_tail, Layout, opening_segment, reserved_sum, rest_pieces}
use Rattle.clr_types.specs.Segments.{segment_or_empty}
use Rattle.clr_types.specs.declared.segment.SegInfo.{SegInfo}
use Rattle.clr_types.specs.declared.segment.SegKind.TheVariants.{Ephemeral}
use Rattle.clr_covers.specs.Covers.{CoverView}
use Rattle.clr_heap.specs.View.{acquired, frame, HeapView, IsHeap, no_rests}
use Rattle.clr_heap.specs.declared.heap.segments.AcquireFault.{AcquireFault}
use Rattle.clr_heap.specs.declared.heap.segments.AcquireFault.TheVariants.{OverLimit}
use Rattle.clr_view.specs.Clean.{AreClean}
use Rattle.clr_view.specs.Marks.{IsUnmarked}
use Rattle.clr_view.specs.View.{AreFreeHeads, IsHeld, layout_in, objects_in, tail_of}
use Rattle.clr_generations.specs.Tables.{AreTablesOf}
use Rattle.clr_collect.proofs.YoungItems.{none_young}
use Rattle.clr_model.specs.Allocation.{has_room, is_young_item, sealed}
use Rattle.clr_model.specs.Lawful.{IsLawful, IsPlaceNamed}
use Rattle.clr_model.specs.Machine.{Machine}
use Rattle.clr_model.proofs.SealedLawful.{sealed_lawful}
use Rattle.clr_model.proofs.SealedSums.{one_sealed}
use Rattle.clr_large.specs.Places.{kind_items}
use Rattle.clr_large.proofs.KindKept.{kind_sealed}
use Rattle.clr_runtime.specs.Rooms.{HasNewContext, IsRefill, IsSealedRefill, IsSealing, with_new_segment}
use Rattle.clr_runtime.specs.RuntimeView.{IsRuntime, seen}
use Rattle.clr_runtime.specs.declared.parts.Parts.{Parts}
use Rattle.clr_runtime.proofs.IndexKept.{index_kept}
use Rattle.clr_runtime.proofs.StepsKept.{tables-carded}
use Rattle.clr_runtime.proofs.MarkedKept.{same_marked}

-- the new segment is the ephemeral one
ephemeral-sealed : (layout : Layout) (size : ℕ)
    → ephemeral (sealed layout size) ≡ opening_segment layout.top Ephemeral size
ephemeral-sealed layout size =
    ap segment_or_empty (one_sealed layout.segments (opening_segment layout.top Ephemeral size))

-- ---- the limit

module _ (p : Parts) (is : IsRuntime p) (result : Result (Unit {0}) AcquireFault)
    (over : (result ≡ Err OverLimit)
    ↔ (p.space.heap.limit < reserved_sum (frame p.space.heap) + p.options.segment)) where
  -- where sealing doesn't come to it, it allows the segment
  pub segment_allowed : (result ≡ Err OverLimit → ⊥)
      → reserved_sum (frame p.space.heap) + p.options.segment ≤ p.options.limit
  segment_allowed other = elim (cases_lt p.space.heap.limit (reserved_sum (frame p.space.heap) + p.options.segment)) [
    | inl above ↦ absurd (other (over.1 above))
    | inr within ↦ subst (λ (l : ℕ). reserved_sum (frame p.space.heap) + p.options.segment ≤ l) is.limit within
  ]

-- ---- what still holds

module _ (p : Parts) (is : IsRuntime p) (bare : p.space.heap.rests ≡ no_rests)
    (within : reserved_sum (frame p.space.heap) + p.options.segment ≤ p.options.limit) (new : HeapView)
    (objects : objects_in p.types new ≡ objects_in p.types p.space.heap)
    (layout : layout_in p.types new ≡ sealed (layout_in p.types p.space.heap) p.options.segment) where
  sealed-shown : seen (record p { space = record p.space { heap = new } }) ≡ with_new_segment (seen p)
  sealed-shown = λ k. record (seen p) { objects = objects k; layout = layout k }

  sealed-sound : IsPlaceNamed (seen (record p { space = record p.space { heap = new } }))
  sealed-sound =
      subst IsPlaceNamed (sym sealed-shown)
      (record {
        lawful = sealed_lawful (seen p) is.shown.sound.lawful (ap rest_pieces bare)
            (le-leb (reserved_sum (frame p.space.heap) + p.options.segment) p.options.limit within);
        places = is.shown.sound.places;
        uncounted = is.shown.sound.uncounted;
      })

  -- generation 0 begins at the end of the new segment
  young-at_end : new.start0 ≡ tail_of new
  young-at_end =
      ap (λ (l : Layout). l.start0) layout
      ∙ sym (ap (λ (l : Layout). (ephemeral l).end) layout
      ∙ ap (λ (s : SegInfo). s.end) (ephemeral-sealed (layout_in p.types p.space.heap) p.options.segment))

  -- what holds of the parts of a runtime still holds, with the index of no free items
  pub sealed_kept : (cards : List (CoverView ℕ)) (bricks : List (CoverView ℤ)) → IsHeap new
      → new ≡ acquired p.space.heap Ephemeral p.options.segment → IsHeld p.types new
      → (IsUnmarked p.types p.space.heap → IsUnmarked p.types new)
      → (AreFreeHeads p.types p.space.heap → AreFreeHeads p.types new)
      → (AreClean p.types p.space.heap → AreClean p.types new)
      → AreTablesOf p.types new cards bricks
      → IsRuntime (record p {
        space = record p.space { heap = new; cards = cards; bricks = bricks };
        collector = record p.collector { young = Some [] };
      })
  sealed_kept cards bricks heap words held unmarked heads clean tables = record {
    shown = record {
      locals = is.shown.locals;
      held = held;
      unmarked = unmarked is.shown.unmarked;
      free_heads = heads is.shown.free_heads;
      clean = clean is.shown.clean;
      sound = sealed-sound;
      marked = same_marked (seen p) (seen (record p { space = record p.space { heap = new } })) objects refl refl
          p.background is.shown.marked;
    };
    heap = heap;
    tables = tables-carded cards p.safe bricks p.types new tables;
    owed = is.owed;
    finalizers = is.finalizers;
    index = sym (none_young p.types new heap held young-at_end);
    large = index_kept (kind_items Large) p.types p.types p.space.heap new p.large
        (ap (kind_items Large) layout ∙ kind_sealed Large refl (layout_in p.types p.space.heap) p.options.segment)
        is.large;
    pinned = index_kept (kind_items Pinned) p.types p.types p.space.heap new p.pinned
        (ap (kind_items Pinned) layout ∙ kind_sealed Pinned refl (layout_in p.types p.space.heap) p.options.segment)
        is.pinned;
    limit = ap (λ (h : HeapView). h.limit) words ∙ is.limit;
    ready = is.ready;
  }

-- ---- a context in the new segment

-- a small object has room in it
room-sealed : (m : Machine) → IsLawful m → (size : ℕ) → size < m.options.large
    → has_room (with_new_segment m).layout size ≡ true
room-sealed m lawful size small =
    let within = lawful.options.large_greatest in
    let next = sealed m.layout m.options.segment in
    or_right (list_any (λ p. is_young_item next p && fits size p.size) next.free) (fits_in_tail (ephemeral next) size)
    (subst (λ (s : SegInfo). fits_in_tail s size ≡ true) (sym (ephemeral-sealed m.layout m.options.segment))
    (le-leb (m.layout.top + 0x1000 + size) (m.layout.top + m.options.segment) (omega arith)))

-- so a refill finds it
pub sealing_refilled : (p q r : Parts) (t size : ℕ) → IsRuntime p → size < p.options.large
    → IsSealing (seen p) (seen q) (Ok tt) → (b : Bool) → IsRefill q r t size b
    → IsSealedRefill (seen p) (seen r) t size (Ok tt)
sealing_refilled p q r t size is small (may, same) true made =
    (may, subst (λ (m : Machine). HasNewContext m (seen r) t size) same made)
sealing_refilled p q r t size is small (may, same) false (full, stays) =
    absurd (both_ways (has_room (seen q).layout size) full
    (ap (λ (m : Machine). has_room m.layout size) same ∙ room-sealed (seen p) is.shown.sound.lawful size small))
