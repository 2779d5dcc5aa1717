-- Of the first free item and the first tail that are large enough the lower one is the lowest place.
use Rattle.std.proofs.Common.{◌≡◌, inl, inr, ℕ, ◌+◌, ◌<◌, ◌≤◌, true, false, Bool, List, length, refl, ap, sym, ◌∙◌}
use Rattle.std.proofs.Common.{subst, arith, Option, None, Some, IfSome, is_some, ◌&&◌, ◌||◌}
use Rattle.std.specs.List.{list_any}
use Rattle.std.proofs.lemmas.Bool.{and_from, and_parts, both_ways, cases_Bool, cases_lt}
use Rattle.clr_types.specs.Rising.{IsIn}
use Rattle.clr_types.specs.Types.{TypeRow}
use Rattle.clr_types.specs.Ranges.{fits, Piece}
use Rattle.clr_types.specs.Segments.{empty_segment, fits_in_tail, Layout, same_kind, segments_of}
use Rattle.clr_types.specs.declared.segment.SegInfo.{SegInfo}
use Rattle.clr_types.specs.declared.segment.SegKind.{SegKind}
use Rattle.clr_types.proofs.ChangedLists.{into_filter, out_of_filter}
use Rattle.clr_types.proofs.ListMembers.{any-from, any-in}
use Rattle.clr_heap.specs.View.{frame, HeapView, IsHeap, last_of, segment_at}
use Rattle.clr_heap.proofs.Framing.{lawful_at}
use Rattle.clr_heap.proofs.Staying.{segment_order}
use Rattle.clr_model.specs.Allocation.{has_room_in, stands_in_kind}
use Rattle.clr_view.specs.View.{free_in, IsHeld, layout_in}
use Rattle.clr_sweep.proofs.LayoutSwept.{index-of}
use Rattle.clr_sweep.proofs.SurvivorsSwept.{at-in}
use Rattle.clr_items.proofs.FoundItems.{found_lowest, found_passes, none_found}
use Rattle.clr_large.specs.Places.{address_of, IsLowest, IsPlace, kind_items}
use Rattle.clr_large.specs.Searches.{first_of_kind, has_tail_of, IsFirstTail, IsLower}
use Rattle.clr_large.specs.declared.places.Birthplace.{Birthplace}
use Rattle.clr_large.specs.declared.places.Birthplace.TheVariants.{Item, Tail}
use Rattle.clr_large.proofs.KindLists.{kind_rise}
use Rattle.clr_large.proofs.OldKinds.{kind-is, kind-same}

module _ (group : SegKind) (rows : List TypeRow) (h : HeapView) (size : ℕ) (heap : IsHeap h)
    (held : IsHeld rows h) where
  abbrev layout : Layout
  layout = layout_in rows h

  -- the size fits in a free item of a segment of the kind, and behind the end of one
  abbrev FitsIn : Piece → Type 0
  FitsIn q = IsIn q layout.free × (stands_in_kind group layout q.place ≡ true) × (fits size q.size ≡ true)

  abbrev FitsBehind : SegInfo → Type 0
  FitsBehind s = IsIn s (segments_of group layout) × (fits_in_tail s size ≡ true)

  listed : (q : Piece) → FitsIn q → IsIn q (kind_items group layout)
  listed q (i, stands, f) = into_filter (λ (p : Piece). stands_in_kind group layout p.place) layout.free stands i

  -- what the two searches found
  module _ (item : Option Piece) (tail : Option ℕ) (first_item : item ≡ first_of_kind group layout size)
      (first_tail : IsFirstTail group h size tail) where
    -- a place that isn't above either
    abbrev NotAbove : ℕ → Type 0
    NotAbove low = IfSome item (λ p. low ≤ p.place) × IfSome tail (λ k. low ≤ last_of h k)

    item_above : (low : ℕ) → IfSome item (λ p. low ≤ p.place) → (q : Piece) → FitsIn q → low ≤ q.place
    item_above low below q is = go item first_item below
      where
        go : (o : Option Piece) → o ≡ first_of_kind group layout size → IfSome o (λ p. low ≤ p.place) → low ≤ q.place
        go None e under =
            absurd (none_found (λ p. fits size p.size) (kind_items group layout) q (sym e) (listed q is) is.2)
        go (Some p) e under =
            let least = found_lowest (λ p. fits size p.size) (kind_items group layout) p q
            (kind_rise group rows h heap held) (sym e) (listed q is) is.2 in
            omega arith

    tail_above : (low : ℕ) → IfSome tail (λ k. low ≤ last_of h k) → (s : SegInfo) → FitsBehind s → low ≤ s.end
    tail_above low below s is =
        let (kind, there) = out_of_filter (λ (t : SegInfo). same_kind group t.kind) s h.segments is.0 in
        let (j, l, e) = index-of h.segments s there in
        let has : has_tail_of group (segment_at h j) size ≡ true =
        subst (λ t. has_tail_of group t size ≡ true) e
        (and_from (same_kind group s.kind) (fits_in_tail s size) kind is.1) in
        let end = ap (λ (t : SegInfo). t.end) e in
        go tail first_tail below j l has end
      where
        go : (o : Option ℕ) → IsFirstTail group h size o → IfSome o (λ k. low ≤ last_of h k) → (j : ℕ)
            → j < length h.segments → has_tail_of group (segment_at h j) size ≡ true → s.end ≡ last_of h j → low ≤ s.end
        go None none under j l has end = absurd (both_ways (has_tail_of group (segment_at h j) size) (none j l) has)
        go (Some k) (inside, found, before) under j l has end = elim (cases_lt j k) [
          | inl less ↦ absurd (both_ways (has_tail_of group (segment_at h j) size) (before j less) has)
          | inr more ↦ elim (cases_lt k j) [
            | inl higher ↦
                let order = segment_order h k j heap higher l in
                let high = (lawful_at h k heap inside).high in
                let low_j = (lawful_at h j heap l).low in
                omega (arith, under, end, order, high, low_j)
            | inr same ↦
                let at : k ≡ j = omega arith in
                let ends = ap (last_of h) at in
                omega (arith, under, end, ends)
          ]
        ]

    -- FIRST FIT: it is the lowest place
    pub lowest : (low : ℕ) → NotAbove low → IsLowest group layout size low
    lowest low not_above other new (inl (q, i, stands, f, at, same)) =
        let above = item_above low not_above.0 q (i, stands, f) in omega (arith, above, at)
    lowest low not_above other new (inr (s, i, f, at, same)) =
        let above = tail_above low not_above.1 s (i, f) in omega (arith, above, at)

    -- where neither is there, there is no room
    pub no_place : item ≡ None → tail ≡ None → has_room_in group layout size ≡ false
    no_place no_item no_tail = both items tails
      where
        both : {a b : Bool} → a ≡ false → b ≡ false → (a || b) ≡ false
        both e f = λ i. e i || f i

        items : list_any (λ p. stands_in_kind group layout p.place && fits size p.size) layout.free ≡ false
        items = elim
            (cases_Bool (list_any (λ p. stands_in_kind group layout p.place && fits size p.size) layout.free)) [
              | inl some ↦
                  let (q, i, passes) = any-in (λ (p : Piece). stands_in_kind group layout p.place && fits size p.size)
                  layout.free some in
                  let (stands, f) = and_parts (stands_in_kind group layout q.place) (fits size q.size) passes in
                  absurd (none_found (λ p. fits size p.size) (kind_items group layout) q (sym first_item ∙ no_item)
                  (listed q (i, stands, f)) f)
              | inr none ↦ none
            ]

        tails : list_any (λ s. fits_in_tail s size) (segments_of group layout) ≡ false
        tails = elim (cases_Bool (list_any (λ s. fits_in_tail s size) (segments_of group layout))) [
          | inl some ↦
              let (s, i, f) = any-in (λ (s : SegInfo). fits_in_tail s size) (segments_of group layout) some in
              let below : IfSome tail (λ k. s.end + 1 ≤ last_of h k) =
              subst (λ (o : Option ℕ). IfSome o (λ k. s.end + 1 ≤ last_of h k)) (sym no_tail) tt in
              let above = tail_above (s.end + 1) below s (i, f) in
              absurd (omega arith)
          | inr none ↦ none
        ]

-- ---- the two kinds of places

module _ (group : SegKind) (rows : List TypeRow) (h : HeapView) (size : ℕ) where
  pub item_place : (p : Piece) → Some p ≡ first_of_kind group (layout_in rows h) size
      → IsPlace group rows h size (Item p)
  item_place p e = found_passes (λ q. fits size q.size) (kind_items group (layout_in rows h)) p (sym e)

  pub tail_place : (k : ℕ) → IsFirstTail group h size (Some k) → IsPlace group rows h size (Tail k)
  tail_place k (inside, has, before) =
      let (kind, f) = and_parts (same_kind group (segment_at h k).kind) (fits_in_tail (segment_at h k) size) has in
      (inside, kind-is group (segment_at h k).kind kind, f)

  pub lower_place : (p : Piece) (k : ℕ) (place : Birthplace) → Some p ≡ first_of_kind group (layout_in rows h) size
      → IsFirstTail group h size (Some k)
      → IsLower h p k place → IsPlace group rows h size place
  lower_place p k place first_item first_tail lower = elim lower.0 [
    | inl is ↦ subst (IsPlace group rows h size) (sym is) (item_place p first_item)
    | inr is ↦ subst (IsPlace group rows h size) (sym is) (tail_place k first_tail)
  ]

  -- where there is a place, there is room
  pub place_has_room : (place : Birthplace) → IsPlace group rows h size place
      → has_room_in group (layout_in rows h) size ≡ true
  place_has_room (Item p) (i, f) =
      let (stands, there) = out_of_filter (λ (q : Piece). stands_in_kind group (layout_in rows h) q.place) p
      (free_in rows h) i in
      ap (λ (b : Bool). b || list_any (λ s. fits_in_tail s size) (segments_of group (frame h)))
      (any-from (λ (q : Piece). stands_in_kind group (layout_in rows h) q.place && fits size q.size) (free_in rows h) p
      there
      (and_from (stands_in_kind group (layout_in rows h) p.place) (fits size p.size) stands f))
  place_has_room (Tail k) (inside, kind, f) =
      or_true (list_any (λ p. stands_in_kind group (layout_in rows h) p.place && fits size p.size) (free_in rows h))
      (any-from (λ (s : SegInfo). fits_in_tail s size) (segments_of group (frame h)) (segment_at h k)
      (into_filter (λ (s : SegInfo). same_kind group s.kind) h.segments (ap (same_kind group) kind ∙ kind-same group)
      (at-in h.segments k empty_segment inside)) f)
    where
      or_true : (a : Bool) {b : Bool} → b ≡ true → (a || b) ≡ true
      or_true true e = refl
      or_true false e = e

  -- whether one was found says whether there is room
  pub room_told : (found : Option Birthplace) → IfSome found (λ p. IsPlace group rows h size p
      × IsLowest group (layout_in rows h) size (address_of h p))
      → (found ≡ None → has_room_in group (layout_in rows h) size ≡ false)
      → is_some found ≡ has_room_in group (layout_in rows h) size
  room_told None some none = sym (none refl)
  room_told (Some p) some none = sym (place_has_room p some.0)
