-- The free items of the segments of a kind, segment by segment.
use Rattle.std.proofs.Common.{◌≡◌, inl, inr, ℕ, suc, ◌+◌, ◌-◌, ◌<◌, ◌≤◌, true, false, Bool, List, [], ◌++◌}
use Rattle.std.proofs.Common.{length, refl, ap, ◌∙◌, arith, filter, if◌then◌else◌}
use Rattle.std.proofs.lemmas.Bool.{cases_Bool}
use Rattle.std.specs.Option.{option_or}
use Rattle.std.proofs.lemmas.List.Elements.{filter-append}
use Rattle.std.proofs.lemmas.List.Folds.{find-append}
use Rattle.clr_types.specs.Rising.{IsIn, IsRisingBy}
use Rattle.clr_types.specs.Types.{TypeRow}
use Rattle.clr_types.specs.Ranges.{fits, Piece}
use Rattle.clr_types.specs.Segments.{empty_segment, same_kind, segments_of, stands_in}
use Rattle.clr_types.specs.declared.item.Item.{Item}
use Rattle.clr_types.specs.declared.segment.SegInfo.{SegInfo}
use Rattle.clr_types.specs.declared.segment.SegKind.{SegKind}
use Rattle.clr_types.proofs.ChangedLists.{all_imply, into_filter, out_of_filter}
use Rattle.clr_types.proofs.ListMembers.{any-from, any-in, filter-rises, from-map}
use Rattle.clr_types.proofs.RisingLists.{all_at}
use Rattle.clr_types.proofs.SegmentFacts.{AreSeparate, between-stands, disjoint-separate, stands-between}
use Rattle.clr_heap.specs.Parts.{item_piece}
use Rattle.clr_heap.specs.View.{first_of, frame, heap_items, HeapView, IsHeap, last_of, listing, listings, segment_at}
use Rattle.clr_heap.proofs.Framing.{lawful_at}
use Rattle.clr_model.specs.Allocation.{stands_in_kind}
use Rattle.clr_view.specs.View.{free_among, IsHeld, is_free, layout_in}
use Rattle.clr_view.proofs.Items.{IsItem}
use Rattle.clr_view.proofs.Listings.{free-append, heap-rise, listing-are}
use Rattle.clr_large.specs.Searches.{is_of_kind}
use Rattle.clr_sweep.proofs.Filters.{filter-all, filter-none}
use Rattle.clr_sweep.proofs.LayoutSwept.{free-rise}
use Rattle.clr_sweep.proofs.SurvivorsSwept.{at-in}
use Rattle.clr_items.specs.Items.{first_fitting, free_from}
use Rattle.clr_items.proofs.FoundItems.{from_there}
use Rattle.clr_items.proofs.Lists.{place}
use Rattle.clr_large.specs.Places.{kind_items}
use Rattle.clr_large.specs.Searches.{items_of_kind}

-- a place stands in one segment at most
one_segment : (s t : SegInfo) (a : ℕ) → AreSeparate s t → stands_in s a ≡ true → stands_in t a ≡ true
    → s ≡ t
one_segment s t a (inl same) in_s in_t = same
one_segment s t a (inr apart) in_s in_t =
    let (low_s, high_s) = stands-between s a in_s in
    let (low_t, high_t) = stands-between t a in_t in
    absurd (elim apart [ inl l ↦ omega arith | inr l ↦ omega arith ])

-- ---- one segment

module _ (group : SegKind) (rows : List TypeRow) (h : HeapView) (held : IsHeld rows h) (k : ℕ)
    (inside : k < length h.segments) where
  -- all free items of a segment of the kind
  pub kind_all : is_of_kind group h k ≡ true → items_of_kind group rows h k ≡ free_among (listing rows h k)
  kind_all e = ap (λ (b : Bool). if b then free_among (listing rows h k) else []) e

  -- they stand from its base on
  pub from_base : free_from (segment_at h k).base (listing rows h k) ≡ free_among (listing rows h k)
  from_base =
      let base = (segment_at h k).base in
      from_there base (listing rows h k)
      (all_imply (IsItem rows (first_of h k) (last_of h k)) (λ (i : Item). base ≤ i.place) (listing rows h k)
      (λ i is. let above = is.above in omega arith) (listing-are rows h held.walkable k inside))

-- ---- all of them

-- the free items of the segments of the kind from k on
abbrev pub kind_ahead : SegKind → List TypeRow → HeapView → ℕ → List Piece
kind_ahead group rows h k =
    filter (λ p. stands_in_kind group (layout_in rows h) p.place)
    (free_among (listings rows h k (length h.segments - k)))

module _ (group : SegKind) (rows : List TypeRow) (h : HeapView) (heap : IsHeap h) (held : IsHeld rows h) where
  abbrev is_there : Piece → Bool
  is_there p = stands_in_kind group (layout_in rows h) p.place

  module _ (k : ℕ) (inside : k < length h.segments) where
    abbrev s : SegInfo
    s = segment_at h k

    listed : IsIn s h.segments
    listed = at-in h.segments k empty_segment inside

    -- whether a place of segment k stands in one of the kind is told by its own
    large_there : (a : ℕ) → stands_in s a ≡ true → stands_in_kind group (layout_in rows h) a ≡ is_of_kind group h k
    large_there a stands = go (is_of_kind group h k) refl
      where
        go : (b : Bool) → same_kind group s.kind ≡ b → stands_in_kind group (layout_in rows h) a ≡ b
        go true e =
            any-from (λ (t : SegInfo). stands_in t a) (segments_of group (frame h)) s
            (into_filter (λ (t : SegInfo). same_kind group t.kind) h.segments e listed) stands
        go false e = elim (cases_Bool (stands_in_kind group (layout_in rows h) a)) [
          | inl in_kind ↦
              let (t, i, at) = any-in (λ (t : SegInfo). stands_in t a) (segments_of group (frame h)) in_kind in
              let (kind, there) = out_of_filter (λ (t : SegInfo). same_kind group t.kind) t h.segments i in
              let same = one_segment s t a (disjoint-separate h.segments s t heap.disjoint listed there)
              stands at in
              let e2 = ap (λ (u : SegInfo). same_kind group u.kind) same in
              absurd cc
          | inr out ↦ out
        ]

    -- as at each of its items
    kind_item : (i : Item) → IsIn i (listing rows h k) → is_there (item_piece i) ≡ is_of_kind group h k
    kind_item i m =
        let is = all_at (IsItem rows (first_of h k) (last_of h k)) m (listing-are rows h held.walkable k inside) in
        let above = is.above in
        let below = is.below in
        let least = is.least in
        let end = (lawful_at h k heap inside).high in
        large_there i.place (between-stands s i.place (omega arith) (omega arith))

    kind_piece : (p : Piece) → IsIn p (free_among (listing rows h k)) → is_there p ≡ is_of_kind group h k
    kind_piece p m =
        let (i, e, j) = from-map item_piece p (filter is_free (listing rows h k)) m in
        let (free, listed) = out_of_filter is_free i (listing rows h k) j in
        ap is_there e ∙ kind_item i listed

    -- what of its free items the index lists
    pub kind_here : filter is_there (free_among (listing rows h k)) ≡ items_of_kind group rows h k
    kind_here = go (is_of_kind group h k) refl
      where
        go : (b : Bool) → is_of_kind group h k ≡ b
            → filter is_there (free_among (listing rows h k)) ≡ (if b then free_among (listing rows h k) else [])
        go true e = filter-all is_there (free_among (listing rows h k)) (λ p m. kind_piece p m ∙ e)
        go false e = filter-none is_there (free_among (listing rows h k)) (λ p m. kind_piece p m ∙ e)

  -- ---- the segments from one on

  -- those of segment k come first
  pub kind_next : (k : ℕ) → k < length h.segments → kind_ahead group rows h k ≡ items_of_kind group rows h k
      ++ kind_ahead group rows h (k + 1)
  kind_next k inside =
      let one : length h.segments - k ≡ suc (length h.segments - (k + 1)) = omega arith in
      let rest = listings rows h (k + 1) (length h.segments - (k + 1)) in
      ap (λ (n : ℕ). filter is_there (free_among (listings rows h k n))) one
      ∙ ap (filter is_there) (free-append (listing rows h k) rest)
      ∙ filter-append is_there (free_among (listing rows h k)) (free_among rest)
      ∙ ap (λ (ps : List Piece). ps ++ kind_ahead group rows h (k + 1)) (kind_here k inside)

  -- they rise
  pub kind_rise : IsRisingBy place (kind_items group (layout_in rows h))
  kind_rise =
      filter-rises is_there place (free_among (heap_items rows h))
      (free-rise (filter is_free (heap_items rows h))
      (filter-rises is_free (λ (i : Item). i.place) (heap_items rows h) (heap-rise rows h held.walkable heap)))

  -- a search in them begins with segment k
  pub found_next : (size k : ℕ) → k < length h.segments → first_fitting size (kind_ahead group rows h k)
      ≡ option_or (first_fitting size (items_of_kind group rows h k))
      (first_fitting size (kind_ahead group rows h (k + 1)))
  found_next size k inside =
      ap (first_fitting size) (kind_next k inside)
      ∙ find-append (λ p. fits size p.size) (items_of_kind group rows h k) (kind_ahead group rows h (k + 1))
