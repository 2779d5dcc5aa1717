-- An object becomes a free item whose header says where it went: what the heap holds then.
use Rattle.std.proofs.Common.{◌≡◌, inl, inr, ℕ, true, Bool, List, [], ◌∷◌, ◌++◌}
use Rattle.std.proofs.Common.{ap, sym, ◌∙◌, subst, arith, filter, map, if◌then◌else◌}
use Rattle.clr_types.specs.Rising.{IsIn, IsRisingBy}
use Rattle.clr_types.specs.Types.{TypeRow}
use Rattle.clr_types.specs.Ranges.{by_place, Piece}
use Rattle.clr_types.specs.declared.item.Item.{Item}
use Rattle.clr_types.proofs.ListMembers.{filter-rises}
use Rattle.clr_heap.specs.Parts.{free_item, item_part, item_piece, Part}
use Rattle.clr_heap.specs.View.{heap_items, HeapView, IsHeap, no_rests}
use Rattle.clr_heap.proofs.Swaps.{free_spelled}
use Rattle.clr_view.specs.View.{free_in, is_free, IsHeld, is_object}
use Rattle.clr_view.proofs.Listed.{listed-above, listed-item}
use Rattle.clr_view.proofs.Listings.{heap-rise}
use Rattle.clr_view.proofs.Rises.{sorted-between}
use Rattle.clr_sweep.proofs.LayoutSwept.{free-rise}
use Rattle.clr_sweep.proofs.PassEnds.{none_starts}
use Rattle.clr_evacuate.specs.Carried.{HasVacated}
use Rattle.clr_evacuate.proofs.Copying.{not_free}
use Rattle.clr_evacuate.proofs.Replacing.{free_above, free_after, free_before, free_below, most_size, replaced_heap}
use Rattle.clr_evacuate.proofs.Replacing.{replaced_held, Replaces, whole_size}

-- an object of a heap where no thread has a context
pub record Vacates (rows : List TypeRow) (h : HeapView) (i : Item) : Type 0 where
  pub heap : IsHeap h
  pub held : IsHeld rows h
  pub none : h.rests ≡ no_rests
  pub listed : IsIn i (heap_items rows h)
  pub object : is_object i ≡ true

module _ (rows : List TypeRow) (h new : HeapView) (i : Item) (to : ℕ) (f : Vacates rows h i)
    (v : HasVacated h new i to) where
  open f use {heap, held, listed}

  abbrev pub vacated_parts : List Part
  vacated_parts = item_part (free_item i.place i.size) ∷ []

  pub vacated_replaces : Replaces rows h new i vacated_parts
  vacated_replaces =
      let least = (listed-item rows h i heap held listed).least in
      let up = listed-above rows h i heap held listed in
      record {
        heap = heap;
        held = held;
        none = f.none;
        listed = listed;
        shape = v.shape;
        spelled = λ k. free_spelled rows new k i.place i.size v.mt v.len
            (none_starts new k i.place (ap (λ (g : HeapView). g.rests) v.shape.others ∙ f.none)) least
            (whole_size rows h i heap held listed) (most_size rows h i heap held listed);
        words = λ b z out. v.others b z
            (λ e. elim out [ inl l ↦ omega (arith, e, l, up) | inr l ↦ omega (arith, e, l, up, least) ])
            (λ e. elim out [ inl l ↦ omega (arith, e, l) | inr l ↦ omega (arith, e, l, least) ])
            (λ e. elim out [ inl l ↦ omega (arith, e, l) | inr l ↦ omega (arith, e, l, least) ]);
      }

  abbrev fs : List Piece
  fs = free_below rows h new i vacated_parts vacated_replaces

  abbrev bs : List Piece
  bs = free_above rows h new i vacated_parts vacated_replaces

  was_free : free_in rows h ≡ fs ++ bs
  was_free =
      free_before rows h new i vacated_parts vacated_replaces
      ∙ ap (λ (b : Bool). fs ++ (map item_piece (if b then i ∷ [] else []) ++ bs)) (not_free i f.object)

  is_free_now : free_in rows new ≡ fs ++ item_piece i ∷ bs
  is_free_now = free_after rows h new i vacated_parts vacated_replaces

  rising : IsRisingBy (λ (p : Piece). p.place) (fs ++ item_piece i ∷ bs)
  rising = subst (IsRisingBy (λ (p : Piece). p.place)) is_free_now
      (free-rise (filter is_free (heap_items rows new))
      (filter-rises is_free (λ (j : Item). j.place) (heap_items rows new)
      (heap-rise rows new (replaced_held rows h new i vacated_parts vacated_replaces).walkable
      (replaced_heap rows h new i vacated_parts vacated_replaces))))

  pub vacated_free : free_in rows new ≡ by_place (free_in rows h ++ item_piece i ∷ [])
  vacated_free =
      is_free_now ∙ sym (sorted-between (λ (p : Piece). p.place) fs (item_piece i) bs rising)
      ∙ ap (λ (ps : List Piece). by_place (ps ++ item_piece i ∷ [])) (sym was_free)
