-- The heap at the start holds nothing.
use Rattle.std.proofs.Common.{◌≡◌, ℕ, zero, suc, ◌+◌, ◌*◌, ◌%◌, ◌<◌, List, [], ◌++◌, get_or, Option, None, replicate}
use Rattle.std.proofs.Common.{refl, ap, ap₂, arith}
use Rattle.clr_types.specs.Types.{TypeRow}
use Rattle.clr_types.specs.Ranges.{Piece}
use Rattle.clr_types.specs.Segments.{opening_layout}
use Rattle.clr_types.specs.declared.item.Item.{Item}
use Rattle.clr_heap.specs.Parts.{items_in}
use Rattle.clr_heap.specs.View.{frame, heap_items, HeapView, opening_heap, PartsAre, word_of}
use Rattle.clr_heap.proofs.Acquiring.{nothing_in}
use Rattle.clr_view.specs.View.{free_among, free_in, IsHeld, layout_in, objects_among, objects_in}

abbrev no-rest : Option Piece
no-rest = None

-- where no thread has a context, none has one
pub none-at : (n i : ℕ) → get_or (replicate n no-rest) i no-rest ≡ no-rest
none-at zero i = refl
none-at (suc n) zero = refl
none-at (suc n) (suc i) = none-at n i

module _ (rows : List TypeRow) (segment limit : ℕ) (aligned : segment % 4096 ≡ 0) where
  abbrev start : HeapView
  start = opening_heap segment limit

  parts-none : (k : ℕ) → k < 2 → PartsAre rows start k []
  parts-none zero l = nothing_in rows start 0 (omega arith) refl
  parts-none (suc zero) l = nothing_in rows start 1 (omega arith) refl
  parts-none (suc (suc k)) l = absurd (omega arith)

  pub items-none : heap_items rows start ≡ []
  items-none = ap₂ (λ (xs ys : List Item). xs ++ (ys ++ [])) (ap items_in (parts-none 0 (omega arith)).parts)
      (ap items_in (parts-none 1 (omega arith)).parts)

  -- THE OPENING: no objects
  pub no_objects : objects_in rows start ≡ []
  no_objects = ap (objects_among rows (word_of start)) items-none

  -- no free items
  pub no_free : free_in rows start ≡ []
  no_free = ap free_among items-none

  -- the layout of a machine at the start
  pub layout_at_start : layout_in rows start ≡ opening_layout segment
  layout_at_start =
      let free = no_free in
      let top : 0x10000000 + segment + segment ≡ 0x10000000 + 2 * segment = omega arith in
      λ i. record (frame start) { free = free i; top = top i }

  -- and it is held
  pub held_at_start : IsHeld rows start
  held_at_start = record {
    walkable = λ k l. (parts-none k l).walkable;
    contexts = λ i r e. let none = none-at 16 i in absurd cc;
    apart = λ i j r q e f same. let none = none-at 16 i in absurd cc;
    young = omega arith;
  }
