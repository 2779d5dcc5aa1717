-- A free item of generation 0, all of which becomes a context.
use Rattle.std.proofs.Common.{◌≡◌, List, ℕ, ◌+◌, ◌-◌, ◌%◌, ◌≤◌, ◌^◌, ◌||◌, Bool, true, filter, refl, ap, sym, ◌∙◌, subst, arith, leb}
use Rattle.std.proofs.lemmas.Bool.{eq-eqb}
use Rattle.clr_types.specs.Ranges.{fits, Piece}
use Rattle.clr_types.specs.Rising.{IsIn}
use Rattle.clr_types.specs.Types.{form_at, TypeRow}
use Rattle.clr_types.specs.declared.item.Item.{Item}
use Rattle.clr_types.proofs.ChangedLists.{out_of_filter}
use Rattle.clr_types.proofs.TailTaken.{size-lawful}
use Rattle.clr_heap.specs.Parts.{item_at, item_piece}
use Rattle.clr_heap.specs.View.{HasItem, heap_items, HeapView, IsHeap, word_of}
use Rattle.clr_model.specs.Allocation.{is_young_item}
use Rattle.clr_view.specs.View.{free_in, IsHeld, is_free, layout_in}
use Rattle.clr_view.proofs.Listed.{listed-head, listed-low, listed-sized, listed-spelled}
use Rattle.clr_view.proofs.ObjectItems.{in_map}
use Rattle.clr_ctx.specs.Contexts.{young_items}

module _ (rows : List TypeRow) (h : HeapView) (heap : IsHeap h) (held : IsHeld rows h) (p : Piece)
    (l : IsIn p (young_items (layout_in rows h))) where
  found : (i : Item) × IsIn i (filter is_free (heap_items rows h)) × (item_piece i ≡ p)
  found = in_map item_piece p (filter is_free (heap_items rows h))
      (out_of_filter (is_young_item (layout_in rows h)) p (free_in rows h) l).1

  abbrev i : Item
  i = found.0

  listed : IsIn i (heap_items rows h)
  listed = (out_of_filter is_free i (heap_items rows h) found.1).1

  at : i.place ≡ p.place
  at = ap (λ (q : Piece). q.place) found.2

  sized : i.size ≡ p.size
  sized = ap (λ (q : Piece). q.size) found.2

  pub whole-head : HasItem rows h p.place
  whole-head = subst (HasItem rows h) at (listed-head rows h i heap held listed)

  pub whole-size : (item_at rows (word_of h) p.place).size ≡ p.size
  whole-size =
      ap (λ (a : ℕ). (item_at rows (word_of h) a).size) (sym at)
      ∙ ap (λ (x : Item). x.size) (sym (listed-spelled rows h i heap held listed).0) ∙ sized

  lawful : (24 ≤ i.size) × (i.size % 8 ≡ 0)
  lawful =
      subst (λ (n : ℕ). (24 ≤ n) × (n % 8 ≡ 0)) (sym (listed-sized rows h i heap held listed))
      (size-lawful (form_at rows i.type_id.0) i.len)

  pub whole-least : 24 ≤ p.size
  whole-least = subst (λ (n : ℕ). 24 ≤ n) sized lawful.0

  pub whole-aligned : p.size % 8 ≡ 0
  whole-aligned = subst (λ (n : ℕ). n % 8 ≡ 0) sized lawful.1

  pub whole-ends : p.place + p.size ≤ 2 ^ 62
  whole-ends = let low = listed-low rows h i heap held listed in omega (arith, low, at, sized)

pub whole-fits : (n : ℕ) → fits n n ≡ true
whole-fits n = ap (λ (b : Bool). b || leb (n + 24) n) (eq-eqb n n refl)

-- the range that is made of it
pub range-is : (place size : ℕ) (p : Piece) → p.place ≡ place → size ≡ p.size
    → (let q : Piece = record { place = place; size = place + size - place } in q) ≡ p
range-is place size p at is =
    let size_is : place + size - place ≡ p.size = omega arith in
    λ i. record { place = sym at i; size = size_is i }
