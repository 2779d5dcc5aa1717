-- Where objects stood that were carried away, free items say where these went: the header of each free item is the
-- place that what stood there went to, and 0 where nothing did.
use Rattle.std.specs.Prelude.{◌≡◌, ℕ, ◌-◌, ◌==◌, true, List, if◌then◌else◌}
use Rattle.clr_types.specs.Rising.{IsIn}
use Rattle.clr_types.specs.Types.{mt_of, TypeRow}
use Rattle.clr_types.specs.declared.item.Item.{Item}
use Rattle.clr_heap.specs.View.{heap_items, HeapView, word_of}
use Rattle.clr_view.specs.SlotValues.{StandsAt}
use Rattle.clr_view.specs.View.{is_free}

-- what the header of a free item says of its place
abbrev pub forward_of : (ℕ → ℕ) → ℕ → ℕ
forward_of go place = if go place == place then 0 else go place

-- the headers of free items say where `go` leads from their places, and objects stay
pub record HasForwards (rows : List TypeRow) (h : HeapView) (go : ℕ → ℕ) : Type 0 where
  pub free : (i : Item) → IsIn i (heap_items rows h) → is_free i ≡ true
      → (word_of h (i.place - 8) ≡ forward_of go i.place) × (word_of h i.place ≡ mt_of 0)
  pub objects : (x : ℕ) → StandsAt rows h x → go x ≡ x
  pub null : go 0 ≡ 0
