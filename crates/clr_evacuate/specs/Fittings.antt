-- The plugs of a stretch of a segment that may go into older items, and the objects that they are.
use Rattle.std.specs.Prelude.{◌≡◌, ℕ, ◌+◌, ◌-◌, ◌≤◌, Bool, true, false, not, ◌&&◌, ◌==◌, List, [], ◌∷◌, ◌++◌}
use Rattle.std.specs.List.{AllByRecursion}
use Rattle.clr_types.specs.Bits.{has_pin}
use Rattle.clr_types.specs.Ranges.{Piece, piece_end}
use Rattle.clr_types.specs.Segments.{generation}
use Rattle.clr_types.specs.Types.{TypeRow}
use Rattle.clr_types.specs.declared.item.Item.{Item}
use Rattle.clr_heap.specs.View.{frame, HeapView, items_between, segment_at, sight, word_of}
use Rattle.clr_model.specs.Compaction.{Plug}
use Rattle.clr_model.specs.Fitting.{fitting_plugs}
use Rattle.clr_sweep.specs.SweptItems.{stays}
use Rattle.clr_plan.specs.Scans.{CanScan, plugs_between}

-- an item may go into an older one: it is a marked object of generation 1 that isn't pinned
abbrev pub may_fit : HeapView → Item → Bool
may_fit h i = (stays (word_of h) i && (generation (frame h) i.place == 1)) && not (has_pin (word_of h (i.place - 8)))

-- the plugs of segment k from p to e that may
abbrev pub fitting_between : List TypeRow → HeapView → ℕ → ℕ → ℕ → List Plug
fitting_between rows h k p e = fitting_plugs (plugs_between rows h k p e)

-- the items lie side by side from one place to another
abbrev pub AreSideBySide : ℕ → List Item → ℕ → Type 0
AreSideBySide p [] e = p ≡ e
AreSideBySide p (i ∷ is) e = (i.place ≡ p) × AreSideBySide (p + i.size) is e

-- the items of segment k from p to a place either all may or all may not, and from there to e the segment can be read
pub record ArePassed (rows : List TypeRow) (h : HeapView) (k p e : ℕ) (may : Bool) (place : ℕ) : Type 0 where
  pub passed : List Item
  pub items : items_between (sight rows h k) p e ≡ passed ++ items_between (sight rows h k) place e
  pub alike : AllByRecursion (λ (i : Item). may_fit h i ≡ may) passed
  pub side_by_side : AreSideBySide p passed place
  pub scan : CanScan rows h k place e
  pub within : p ≤ e → place ≤ e

-- the plug of a segment with this base that a range is
abbrev pub fitting_plug : ℕ → Piece → Plug
fitting_plug base p =
    record { start = p.place; size = p.size; segment = base; generation = 1; pinned = false }

-- the first plug of segment k from p to e that may, and the objects that it is
pub record HasFitting (rows : List TypeRow) (h : HeapView) (k p e : ℕ) (found : Piece) : Type 0 where
  pub plugs : fitting_between rows h k p e
      ≡ fitting_plug (segment_at h k).base found ∷ fitting_between rows h k (piece_end found) e
  pub before : ArePassed rows h k p e false found.place
  pub scan : CanScan rows h k found.place e
  pub objects : ArePassed rows h k found.place e true (piece_end found)
  pub above : p ≤ found.place
  pub least : 24 ≤ found.size
  pub within : piece_end found ≤ e
