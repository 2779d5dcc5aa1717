-- Marks in the method table words of objects.
use Rattle.std.specs.Prelude.{◌≡◌, ℕ, true, List}
pub use Rattle.clr_types.specs.Bits.{has_mark}
use Rattle.clr_types.specs.Types.{TypeRow}
use Rattle.clr_heap.specs.View.{HeapView, word_of}
use Rattle.clr_view.specs.SlotValues.{StandsAt}

-- an object stands at x, and its method table word carries the mark
pub record Marked (rows : List TypeRow) (h : HeapView) (x : ℕ) : Type 0 where
  pub stands : StandsAt rows h x
  pub mark : has_mark (word_of h x) ≡ true

-- no object is marked
abbrev pub IsUnmarked : List TypeRow → HeapView → Type 0
IsUnmarked rows h = (x : ℕ) → Marked rows h x → ⊥
