-- A run of objects that is carried into the lowest older item in which it fits, where there is one.
use Rattle.std.specs.Prelude.{◌≡◌, ℕ, ◌<◌, ◌≤◌, ◌^◌, true, false, List, Option, None, Some}
use Rattle.std.specs.List.{AllByRecursion}
use Rattle.clr_types.specs.Ranges.{Piece, piece_end}
use Rattle.clr_types.specs.Rising.{IsIn}
use Rattle.clr_types.specs.Segments.{ephemeral, Layout, stands_in}
use Rattle.clr_types.specs.Types.{TypeRow}
use Rattle.clr_types.specs.declared.item.Item.{Item}
use Rattle.clr_heap.specs.Parts.{item_piece}
use Rattle.clr_heap.specs.View.{frame, heap_items, HeapView}
use Rattle.clr_model.specs.Fitting.{is_older_item, older_items, taken_from}
use Rattle.clr_view.specs.View.{is_object, layout_in}
use Rattle.clr_evacuate.specs.CarriedRun.{HasCarriedRun}
use Rattle.clr_evacuate.specs.Fittings.{AreSideBySide}

-- older items are old throughout, and end below the first boundary
pub record AreOlder (layout : Layout) : Type 0 where
  pub throughout : (p q : Piece) → IsIn p (older_items layout) → p.place ≤ q.place → q.place < piece_end p
      → is_older_item layout q ≡ true
  pub below : (p : Piece) → IsIn p (older_items layout) → piece_end p ≤ layout.start1

-- objects side by side in generation 1 of the ephemeral segment, none of which stands where older items do
pub record IsYoungRun (rows : List TypeRow) (h : HeapView) (run : List Item) (plug : Piece) : Type 0 where
  pub listed : AllByRecursion (λ (i : Item). IsIn i (heap_items rows h)) run
  pub objects : AllByRecursion (λ (i : Item). is_object i ≡ true) run
  pub young : AllByRecursion (λ (i : Item). is_older_item (layout_in rows h) (item_piece i) ≡ false) run
  pub side_by_side : AreSideBySide plug.place run (piece_end plug)
  pub least : 24 ≤ plug.size
  pub small : plug.size < 2 ^ 62
  pub above : h.start1 ≤ plug.place
  pub inside : AllByRecursion (λ (i : Item). stands_in (ephemeral (frame h)) i.place ≡ true) run
  pub below : piece_end plug ≤ h.start0

-- the run is at the item's front, and the older items are the others and what is left of this one
pub record HasGoneInto (rows : List TypeRow) (old new : HeapView) (run : List Item) (plug item : Piece) : Type 0 where
  pub carried : HasCarriedRun rows old new run plug item
  pub older : older_items (layout_in rows new) ≡ taken_from item.place plug.size (older_items (layout_in rows old))

-- the run went into the item where there is one, and so many bytes did
abbrev pub HasFitted : List TypeRow → HeapView → HeapView → List Item → Piece → ℕ → Option Piece → Type 0
HasFitted rows old new run plug bytes None = (new ≡ old) × (bytes ≡ 0)
HasFitted rows old new run plug bytes (Some item) = HasGoneInto rows old new run plug item × (bytes ≡ plug.size)
