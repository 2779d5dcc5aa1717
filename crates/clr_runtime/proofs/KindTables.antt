-- A birth in a segment beside the small heap: the cards and bricks of a runtime still are those of its heap.
use Rattle.std.proofs.Common.{◌∙◌, ℕ, List, sym, ap, inl, inr, ℤ}
use Rattle.clr_types.specs.Types.{TypeRow}
use Rattle.clr_types.specs.Segments.{Layout}
use Rattle.clr_types.specs.declared.segment.SegKind.{SegKind}
use Rattle.clr_covers.specs.Covers.{CoverView}
use Rattle.clr_bricks.specs.Bricks.{entry_at}
use Rattle.clr_heap.specs.View.{frame, heap_items, HeapView, word_of}
use Rattle.clr_view.specs.Among.{AreClosedAmong}
use Rattle.clr_safe.specs.Threads.{Threads}
use Rattle.clr_view.specs.View.{layout_in, objects_in}
use Rattle.clr_generations.specs.Laws.{BrickLaw, NamesNoMore}
use Rattle.clr_generations.specs.Tables.{AreBricksOf, AreTablesBy}
use Rattle.clr_generations.proofs.KeptTables.{bounds-from}
use Rattle.clr_generations.proofs.SameBounds.{HasSameBounds, outlines, outlines_ended, units-same}
use Rattle.clr_large.specs.Births.{HasNewbornIn}
use Rattle.clr_model.specs.Allocation.{IsPlacedIn}
use Rattle.clr_runtime.specs.RuntimeView.{IsToldBy}
use Rattle.clr_runtime.proofs.StepsKept.{stayed-born, tables-told}

-- an object that is placed there moves no bound but an end
bounds-placed : (group : SegKind) (old new : Layout) (size place : ℕ) → IsPlacedIn group old size place new
    → HasSameBounds old new
bounds-placed group old new size place placed = elim placed [
  | inl item ↦ bounds-from old new (ap (λ (l : Layout). l.segments) item.5) (ap (λ (l : Layout). l.start1) item.5)
      (ap (λ (l : Layout). l.start0) item.5)
  | inr tail ↦ record {
    segments = ap (λ (l : Layout). outlines l.segments) tail.4 ∙ outlines_ended tail.0.base _ old.segments;
    start1 = ap (λ (l : Layout). l.start1) tail.4;
    start0 = ap (λ (l : Layout). l.start0) tail.4;
  }
]

-- where the birth keeps the laws, its cards and bricks are those of the new heap
pub kind_tables : (group : SegKind) (rows : List TypeRow) (old new : HeapView) (place t n : ℕ)
    (cards : List (CoverView ℕ)) (threads : Threads) (before bricks : List (CoverView ℤ))
    → HasNewbornIn group rows old new place t n → AreBricksOf (frame new) bricks
    → (BrickLaw rows (frame old) (objects_in rows old) (entry_at before)
    → BrickLaw rows (frame new) (objects_in rows new) (entry_at bricks))
    → (AreClosedAmong rows (word_of old) (heap_items rows old)
    → NamesNoMore rows (frame old) (objects_in rows old) (frame new) (objects_in rows new))
    → AreClosedAmong rows (word_of old) (heap_items rows old)
    → AreTablesBy rows old cards before (IsToldBy rows old cards threads)
    → AreTablesBy rows new cards bricks (IsToldBy rows new cards threads)
kind_tables group rows old new place t n cards threads before bricks newborn own brick_law no_more closed tables =
    let bounds = bounds-placed group (layout_in rows old) (layout_in rows new) _ place newborn.layout in
    let same : HasSameBounds (frame old) (frame new) =
    record { segments = bounds.segments; start1 = bounds.start1; start0 = bounds.start0 } in
    tables-told cards threads bricks rows rows old new
    (stayed-born rows (objects_in rows old) (objects_in rows new) _ newborn.objects)
    (record {
      cards = tables.cards ∙ sym (units-same (frame old) (frame new) same 2048);
      bricks = own;
      card_law = λ a y. tables.card_law a (no_more closed a y);
      brick_law = brick_law tables.brick_law;
    })
