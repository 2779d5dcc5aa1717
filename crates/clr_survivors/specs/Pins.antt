-- The header bits of pinned objects.
use Rattle.std.specs.Prelude.{◌≡◌, ◌↔◌, ◌⊎◌, ℕ, ◌+◌, ◌-◌, ◌%◌, ◌<◌, Bool, true, not, ◌&&◌, ◌==◌, List, Some}
use Rattle.std.specs.Prelude.{if◌then◌else◌, ◌≤◌, nat_le}
use Rattle.std.specs.FinMap as finmap
use Rattle.std.specs.FinMap.{FinMap}
use Rattle.std.specs.Ordering.{nat_cmp}
pub use Rattle.clr_types.specs.Bits.{pinned_header}
use Rattle.clr_types.specs.Kinds.{is_pinned_kind}
use Rattle.clr_types.specs.Types.{TypeRow}
use Rattle.clr_types.specs.declared.handle.Handle.{Handle}
use Rattle.clr_heap.specs.View.{heap_items, HeapView, SameShape, word_of}
use Rattle.clr_view.specs.Marks.{Marked}
use Rattle.clr_view.specs.SlotValues.{StandsAt}
use Rattle.clr_view.specs.View.{AreFreeHeads, IsHeld, layout_in, objects_in}

-- a pinned handle with a number below n has the place, from `low` on, as its target, which isn't null
pub record IsPinnedBelow (table : FinMap nat_cmp Handle) (low n place : ℕ) : Type 0 where
  pub number : ℕ
  pub below : number < n
  pub row : Handle
  pub in_use : finmap.get table number ≡ Some row
  pub pinned : is_pinned_kind row.kind ≡ true
  pub target : row.target ≡ place
  pub some : 0 < place
  pub high : low ≤ place

-- a handle pins an object that stands at `low` or above it
abbrev pub pins_from : ℕ → Handle → Bool
pins_from low row = (is_pinned_kind row.kind && not (row.target == 0)) && nat_le low row.target

-- the targets of pinned handles are objects of the heap
abbrev pub PinsStand : List TypeRow → HeapView → FinMap nat_cmp Handle → Type 0
PinsStand rows h table =
    (n : ℕ) (row : Handle) → finmap.get table n ≡ Some row → is_pinned_kind row.kind ≡ true → 0 < row.target
    → StandsAt rows h row.target

-- The header at b says this, where it is one of an object that such a handle pins and that stands at `low` or above it,
-- and all else is as it was.
pub record HasPins (rows : List TypeRow) (old new : HeapView) (table : FinMap nat_cmp Handle) (low n : ℕ) (on : Bool)
    : Type 0 where
  pub shape : SameShape old new
  pub objects : objects_in rows new ≡ objects_in rows old
  pub items : heap_items rows new ≡ heap_items rows old
  pub layout : layout_in rows new ≡ layout_in rows old
  pub marks : (x : ℕ) → Marked rows new x ↔ Marked rows old x
  pub free_heads : AreFreeHeads rows old → AreFreeHeads rows new
  pub words : (b : ℕ) → b % 8 ≡ 0
      → (IsPinnedBelow table low n (b + 8) × (word_of new b ≡ pinned_header on (word_of old b)))
      ⊎ ((IsPinnedBelow table low n (b + 8) → ⊥) × (word_of new b ≡ word_of old b))
  pub held : IsHeld rows new
