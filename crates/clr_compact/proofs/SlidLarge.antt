-- Large segments when the objects of all of them have slid.
use Rattle.std.proofs.Common.{◌≡◌, ℕ, ◌<◌, ◌≤◌, true, false, List, length, refl, sym, ap, ◌∙◌, arith, ℤ}
use Rattle.clr_types.specs.Segments.{first_place}
use Rattle.clr_types.specs.Types.{TypeRow}
use Rattle.clr_bricks.specs.Bricks.{entry_at}
use Rattle.clr_covers.specs.Covers.{CoverView}
use Rattle.clr_heap.specs.View.{first_of, frame, HeapView, IsHeap, SameShape, segment_at, word_of}
use Rattle.clr_heap.proofs.Rewrite.{shaped_heap}
use Rattle.clr_model.specs.Compaction.{Move}
use Rattle.clr_view.specs.View.{objects_in}
use Rattle.clr_generations.specs.Laws.{AreEntered, BrickLaw, IsBrickOf}
use Rattle.clr_moves.specs.Moves.{part_of, takes}
use Rattle.clr_moves.specs.Objects.{IsUntouched}
use Rattle.clr_moves.specs.Overlaid.{HoldsPlan}
use Rattle.clr_moves.specs.declared.condemned.Condemned.TheVariants.{LargeSegments}
use Rattle.clr_pinq.specs.declared.entry.PinEntry.{PinEntry}
use Rattle.clr_plugs.specs.BrickEntries.{BricksView}
use Rattle.clr_compact.specs.Compacted.{ArePartsWalkable, HasCompacted, part_items}
use Rattle.clr_compact.specs.Entered.{CanEnterFrom}
use Rattle.clr_compact.specs.Rewrites.{cleared, Rewrites}
use Rattle.clr_compact.specs.Slides.{HasSlid}
use Rattle.clr_compact.proofs.CompactedBricks.{can-enter, law-now}
use Rattle.clr_compact.proofs.SlidBricks.{mid-same}
use Rattle.clr_compact.proofs.WholeCompacted.{has_compacted, planned_parts}

module _ (rows : List TypeRow) (old planned_heap : HeapView) (covers : BricksView) (entries : List PinEntry)
    (moves : List Move)
    (plan : HoldsPlan rows old planned_heap covers entries LargeSegments moves planned_heap.start1 planned_heap.start0)
    (mid : HeapView) (slid : HasSlid old mid LargeSegments moves) where
  all_ages : 2 ≤ 2
  all_ages = omega arith

  -- the marks can be cleared
  pub slid_walkable : ArePartsWalkable rows mid LargeSegments
  slid_walkable = planned_parts rows old LargeSegments moves plan.machine plan.kept plan.after plan.compaction
      plan.overlaid.heap plan.held plan.no_contexts all_ages mid slid

  module _ (mid_heap : IsHeap mid) (fin : HeapView) (shape : SameShape mid fin)
      (words : Rewrites (cleared (part_items rows mid LargeSegments (length mid.segments))) (word_of mid)
      (word_of fin)) where
    fin_heap : IsHeap fin
    fin_heap = shaped_heap mid fin shape mid_heap

    -- generations begin where they did
    pub start1_same : fin.start1 ≡ planned_heap.start1
    start1_same =
        ap (λ (h : HeapView). h.start1) shape.others ∙ ap (λ (h : HeapView). h.start1) slid.others
        ∙ sym (ap (λ (h : HeapView). h.start1) plan.overlaid.shape.others)

    pub start0_same : fin.start0 ≡ planned_heap.start0
    start0_same =
        ap (λ (h : HeapView). h.start0) shape.others ∙ ap (λ (h : HeapView). h.start0) slid.others
        ∙ sym (ap (λ (h : HeapView). h.start0) plan.overlaid.shape.others)

    start1_is : plan.after.start1 ≡ fin.start1
    start1_is = plan.start1_is ∙ sym start1_same

    start0_is : plan.after.start0 ≡ fin.start0
    start0_is = plan.start0_is ∙ sym start0_same

    -- THE SLIDE is done
    pub slide_done : HasCompacted rows old fin LargeSegments moves
    slide_done =
        has_compacted rows old LargeSegments moves plan.machine plan.kept plan.after plan.compaction plan.overlaid.heap
        plan.held plan.no_contexts all_ages mid slid mid_heap fin shape words fin_heap fin.start1 fin.start0 start1_is
        start0_is

    -- large segments can be entered
    pub slide_enters : (t : ℕ) → t < length mid.segments → takes LargeSegments (segment_at mid t) ≡ true
        → CanEnterFrom rows mid fin t (first_of mid t)
    slide_enters t l on =
        let n = slid.count in
        let inside : t < length old.segments = omega arith in
        let on_old : takes LargeSegments (segment_at old t) ≡ true =
        sym (mid-same old LargeSegments moves mid slid (takes LargeSegments) (λ e s. refl) t inside) ∙ on in
        let at : first_of mid t ≡ part_of old LargeSegments t =
        mid-same old LargeSegments moves mid slid first_place (λ e s. refl) t inside in
        let first = ap (λ (h : HeapView). first_of h t) shape.others in
        let w = can-enter rows old LargeSegments moves plan.machine plan.kept plan.after plan.compaction
        plan.overlaid.heap plan.held plan.no_contexts all_ages mid slid mid_heap fin shape words fin.start1 fin.start0
        slide_done start1_is start0_is fin_heap t inside on_old (first_of mid t) at (omega arith) in
        record {
          shape = shape;
          heap = w.heap;
          held = w.held;
          parted = w.parted;
          whole = w.whole;
          items = w.items;
        }

    -- THE BRICK LAW, where it held
    pub slide_law : (bricks : List (CoverView ℤ)) (entry : ℕ → ℤ)
        → BrickLaw rows (frame old) (objects_in rows old) entry
        → ((i : ℕ) → IsUntouched old LargeSegments i → entry_at bricks i ≡ entry i) → (other : ℕ → ℤ)
        → ((t : ℕ) → t < length mid.segments → takes LargeSegments (segment_at mid t) ≡ true
        → AreEntered rows (frame fin) (objects_in rows fin) other (segment_at fin t))
        → ((t b : ℕ) → t < length mid.segments → takes LargeSegments (segment_at mid t) ≡ false
        → IsBrickOf (segment_at mid t) b → other b ≡ entry_at bricks b)
        → BrickLaw rows (frame fin) (objects_in rows fin) other
    slide_law =
        law-now rows old LargeSegments moves plan.machine plan.kept plan.after plan.compaction plan.overlaid.heap
        plan.held plan.no_contexts all_ages mid slid mid_heap fin shape words fin.start1 fin.start0 slide_done start1_is
        start0_is fin_heap
