-- Places in lists of pieces that rise, and the free items among items.
use Rattle.std.specs.Prelude.{◌≡◌, ℕ, List, filter, find, nat_le, nat_lt, None, Option}
use Rattle.std.specs.List.{prefix_len}
use Rattle.clr_types.specs.Ranges.{fits, Piece}
use Rattle.clr_types.specs.declared.item.Item.{Item}
use Rattle.clr_heap.specs.Parts.{hole_from}
use Rattle.clr_heap.specs.View.{HeapView, holes_of}
use Rattle.clr_view.specs.View.{free_among}

-- what is seen of free items that are listed
pub record Listed : Type 0 where
  pub items : List Piece

-- how many pieces, from the first on, stand below a place
abbrev pub lower_count : ℕ → List Piece → ℕ
lower_count place ps = prefix_len (λ p. nat_lt p.place place) ps

-- the first of the pieces in which a size fits
abbrev pub first_fitting : ℕ → List Piece → Option Piece
first_fitting size ps = find (λ p. fits size p.size) ps

-- the free items among items that stand from a place on
abbrev pub free_from : ℕ → List Item → List Piece
free_from start items = filter (λ p. nat_le start p.place) (free_among items)

-- no context is left in segment k: only in the ephemeral one can there be any
abbrev pub HasNoRests : HeapView → ℕ → Type 0
HasNoRests h k = (q : ℕ) → hole_from (holes_of h k) q ≡ None
