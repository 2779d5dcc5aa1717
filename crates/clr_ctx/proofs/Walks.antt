-- A walk over the ephemeral segment meets the free items of generation 0 by rising place.
use Rattle.std.proofs.Common.{◌≡◌, inl, inr, ℕ, ◌+◌, ◌-◌, ◌≤◌, true, false, Bool, List, [], ◌∷◌, ◌++◌, length}
use Rattle.std.proofs.Common.{refl, ap, sym, ◌∙◌, subst, arith, filter, map, nat_le, ◌&&◌}
use Rattle.std.proofs.Common.{if◌then◌else◌}
use Rattle.std.specs.List.{AllByRecursion}
use Rattle.std.proofs.lemmas.Bool.{cases_Bool}
use Rattle.std.proofs.lemmas.List.{append-nil}
use Rattle.std.proofs.lemmas.List.Elements.{filter-append}
use Rattle.clr_types.specs.Types.{TypeRow}
use Rattle.clr_types.specs.Ranges.{Piece}
use Rattle.clr_types.specs.Segments.{ephemeral, reserved_end, stands_in}
use Rattle.clr_types.specs.declared.item.Item.{Item}
use Rattle.clr_types.proofs.ChangedLists.{all_imply}
use Rattle.clr_types.proofs.SegmentFacts.{between-stands, stands-between}
use Rattle.clr_heap.specs.Parts.{item_piece}
use Rattle.clr_heap.specs.View.{first_of, frame, HeapView, IsHeap, last_of, listing, listings, segment_at}
use Rattle.clr_heap.proofs.Framing.{lawful_at}
use Rattle.clr_model.specs.Allocation.{is_young_item}
use Rattle.clr_view.specs.View.{free_among, IsHeld, is_free, layout_in}
use Rattle.clr_view.proofs.Items.{IsItem}
use Rattle.clr_view.proofs.Listings.{free-append, heap-cut, listing-are}
use Rattle.clr_view.proofs.Tails.{IsEphemeral}
use Rattle.clr_items.specs.Items.{first_fitting, free_from}
use Rattle.clr_ctx.specs.Contexts.{first_fit, young_items}
use Rattle.clr_view.proofs.Swapping.{items_higher, items_lower}

-- ---- the ephemeral segment among all

module _ (rows : List TypeRow) (h : HeapView) (k : ℕ) (heap : IsHeap h) (held : IsHeld rows h)
    (segment : IsEphemeral h k) where
  abbrev t : Piece → Bool
  t = is_young_item (layout_in rows h)

  abbrev Out : Item → Type 0
  Out i = stands_in (ephemeral (frame h)) i.place ≡ false

  none_young : (items : List Item) → AllByRecursion Out items → filter t (free_among items) ≡ []
  none_young [] out = refl
  none_young (i ∷ items) out = go (is_free i) (none_young items out.1)
    where
      go : (b : Bool) → filter t (free_among items) ≡ []
          → filter t (map item_piece (if b then i ∷ filter is_free items else filter is_free items)) ≡ []
      go true rest =
          ap (λ (b : Bool). if b && nat_le h.start0 i.place then item_piece i ∷ filter t (free_among items) else filter
          t (free_among items)) out.0 ∙ rest
      go false rest = rest

  abbrev In : Item → Type 0
  In i = stands_in (ephemeral (frame h)) i.place ≡ true

  all_young : (items : List Item) → AllByRecursion In items → filter t (free_among items) ≡ free_from h.start0 items
  all_young [] all = refl
  all_young (i ∷ items) all = go (is_free i) (all_young items all.1)
    where
      go : (b : Bool) → filter t (free_among items) ≡ free_from h.start0 items
          → filter t (map item_piece (if b then i ∷ filter is_free items else filter is_free items)) ≡ filter
          (λ p. nat_le h.start0 p.place) (map item_piece (if b then i ∷ filter is_free items else filter is_free items))
      go true rest =
          ap (λ (b : Bool). if b && nat_le h.start0 i.place then item_piece i ∷ filter t (free_among items) else filter
          t (free_among items)) all.0
          ∙ ap (λ (ps : List Piece). if nat_le h.start0 i.place then item_piece i ∷ ps else ps) rest
      go false rest = rest

  not_standing : (a : ℕ) → (stands_in (segment_at h k) a ≡ true → ⊥) → stands_in (ephemeral (frame h)) a ≡ false
  not_standing a out_of_it = elim (cases_Bool (stands_in (ephemeral (frame h)) a)) [
    | inl in_it ↦ absurd (out_of_it (subst (λ s. stands_in s a ≡ true) (sym segment.is) in_it))
    | inr out ↦ out
  ]

  lower_out : AllByRecursion Out (listings rows h 0 k)
  lower_out =
      all_imply (λ (i : Item). i.place + i.size ≤ (segment_at h k).base) Out (listings rows h 0 k)
      (λ i end. not_standing i.place (λ e. let at = stands-between (segment_at h k) i.place e in omega arith))
      (items_lower rows h k heap held.walkable segment.in_range (segment_at h k).base (omega arith))

  higher_out : AllByRecursion Out (listings rows h (k + 1) (length h.segments - (k + 1)))
  higher_out =
      all_imply (λ (i : Item). reserved_end (segment_at h k) ≤ i.place) Out
      (listings rows h (k + 1) (length h.segments - (k + 1)))
      (λ i start. not_standing i.place (λ e. let at = stands-between (segment_at h k) i.place e in omega arith))
      (items_higher rows h k heap held.walkable segment.in_range (reserved_end (segment_at h k)) (omega arith))

  here_in : AllByRecursion In (listing rows h k)
  here_in =
      let end = (lawful_at h k heap segment.in_range).high in
      all_imply (IsItem rows (first_of h k) (last_of h k)) In (listing rows h k) (λ i is.
      let above = is.above in
      let below = is.below in
      let least = is.least in
      subst (λ s. stands_in s i.place ≡ true) segment.is
      (between-stands (segment_at h k) i.place (omega arith) (omega arith)))
      (listing-are rows h held.walkable k segment.in_range)

  -- the young free items are those that a walk over the segment meets from the start of generation 0 on
  pub young_walked : young_items (layout_in rows h) ≡ free_from h.start0 (listing rows h k)
  young_walked =
      let l = segment.in_range in
      let under = listings rows h 0 k in
      let here = listing rows h k in
      let over = listings rows h (k + 1) (length h.segments - (k + 1)) in
      ap (λ (is : List Item). filter t (free_among is)) (heap-cut rows h k (length h.segments) l)
      ∙ ap (filter t) (free-append under (here ++ over)
      ∙ ap (λ (ps : List Piece). free_among under ++ ps) (free-append here over))
      ∙ filter-append t (free_among under) (free_among here ++ free_among over)
      ∙ ap (λ (ps : List Piece). ps ++ filter t (free_among here ++ free_among over)) (none_young under lower_out)
      ∙ filter-append t (free_among here) (free_among over)
      ∙ ap (λ (ps : List Piece). filter t (free_among here) ++ ps) (none_young over higher_out)
      ∙ append-nil (filter t (free_among here))
      ∙ all_young here here_in

  pub first_is : (size : ℕ) → first_fitting size (free_from h.start0 (listing rows h k))
      ≡ first_fit (layout_in rows h) size
  first_is size = ap (first_fitting size) (sym young_walked)
