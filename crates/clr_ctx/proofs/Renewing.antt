-- Listing the free items of generation 0, one after the other.
use Rattle.std.proofs.Common.{◌≡◌, ℕ, ◌<◌, ◌≤◌, Bool, true, false, List, [], ◌++◌, length}
use Rattle.std.proofs.Common.{if◌then◌else◌, refl, ap, sym, ◌∙◌, arith, None, Some}
use Rattle.std.specs.List.{AllByRecursion}
use Rattle.clr_types.specs.Types.{TypeRow}
use Rattle.clr_types.specs.Ranges.{Piece}
use Rattle.clr_types.specs.Segments.{ephemeral}
use Rattle.clr_types.specs.declared.item.Item.{Item}
use Rattle.clr_types.proofs.ChangedLists.{all_imply}
use Rattle.clr_heap.specs.Parts.{parts}
use Rattle.clr_heap.specs.View.{first_of, frame, HeapView, IsHeap, last_of, no_rests}
use Rattle.clr_heap.specs.View.{segment_at, sight}
use Rattle.clr_model.specs.Lawful.{IsLaid}
use Rattle.clr_model.specs.Machine.{Machine}
use Rattle.clr_view.specs.Memory.{IsMemoryOf}
use Rattle.clr_view.specs.View.{free_among, IsHeld, layout_in}
use Rattle.clr_view.proofs.Items.{IsItem, items-are}
use Rattle.clr_sweep.specs.SweptItems.{items_below, items_from}
use Rattle.clr_sweep.specs.SweptSegments.{IsParted}
use Rattle.clr_sweep.proofs.YoungPart.{young-items}
use Rattle.clr_sweep.proofs.YoungWhole.{as-seen, part_parted}
use Rattle.clr_items.specs.Items.{free_from}
use Rattle.clr_items.proofs.FoundItems.{parted_there}
use Rattle.clr_ctx.specs.Contexts.{IsIndex, young_items}
use Rattle.clr_ctx.proofs.Walks.{young_walked}

-- ---- generation 0

module _ (rows : List TypeRow) (h : HeapView) (heap : IsHeap h) (held : IsHeld rows h) (none : h.rests ≡ no_rests)
    (laid : (m : Machine) × IsMemoryOf rows h m × IsLaid m) (k : ℕ) (inside : k < length h.segments)
    (eph : segment_at h k ≡ ephemeral (frame h)) where
  -- the part of generation 0 can be walked
  pub young_parted : IsParted rows h k h.start0
  young_parted = part_parted rows h heap held none laid 0 (omega arith) k inside eph

  -- what stands before it stands below its start
  low_items : AllByRecursion (λ (i : Item). i.place < h.start0) (items_below rows h k h.start0)
  low_items =
      let w = young_parted in
      all_imply (IsItem rows (first_of h k) h.start0) (λ (i : Item). i.place < h.start0) (items_below rows h k h.start0)
      (λ i is. let below = is.below in let least = is.least in omega arith)
      (items-are (sight rows h k) (parts h.start0 (sight rows h k) (first_of h k) h.start0) (first_of h k) h.start0
      w.below.start w.below.spelled)

  -- and what stands in it doesn't
  high_items : AllByRecursion (λ (i : Item). h.start0 ≤ i.place) (items_from rows h k h.start0)
  high_items =
      let w = young_parted in
      all_imply (IsItem rows h.start0 (last_of h k)) (λ (i : Item). h.start0 ≤ i.place) (items_from rows h k h.start0)
      (λ i is. is.above)
      (items-are (sight rows h k) (parts (last_of h k) (sight rows h k) h.start0 (last_of h k)) h.start0 (last_of h k)
      w.above.start w.above.spelled)

  -- its free items are those of the part
  pub young_listed : young_items (layout_in rows h) ≡ free_among (items_from rows h k h.start0)
  young_listed =
      young_walked rows h k heap held (record { in_range = inside; is = eph })
      ∙ ap (free_from h.start0)
      (young-items rows h laid.0 heap held none (as-seen rows h heap held none laid 0 (omega arith)) 0 (omega arith) k
      inside eph)
      ∙ parted_there h.start0 (items_below rows h k h.start0) (items_from rows h k h.start0) low_items high_items

-- What was listed is the index, and where there was no memory for it none is kept.
pub renewed_index : (rows : List TypeRow) (h : HeapView) (complete : Bool) (before listed young : List Piece)
    → before ≡ [] → (complete ≡ true → listed ≡ before ++ young) → young_items (layout_in rows h) ≡ young
    → IsIndex rows h (if complete then Some listed else None)
renewed_index rows h true before listed young clear lists is =
    lists refl ∙ ap (λ (ps : List Piece). ps ++ young) clear ∙ sym is
renewed_index rows h false before listed young clear lists is = tt
