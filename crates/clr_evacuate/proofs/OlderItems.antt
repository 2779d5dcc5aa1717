-- The older items, segment by segment.
use Rattle.std.proofs.Common.{◌≡◌, ◌≢◌, inl, inr, ℕ, suc, ◌+◌, ◌-◌, ◌<◌, ◌≤◌, true, false, Bool, List, ◌++◌, ◌&&◌}
use Rattle.std.proofs.Common.{length, refl, ap, sym, ◌∙◌, subst, arith, filter, if◌then◌else◌, ◌==◌, nat_le, nat_lt}
use Rattle.std.specs.List.{list_any}
use Rattle.std.proofs.Common.{is_some, None, Option, Some}
use Rattle.std.specs.Option.{option_or}
use Rattle.std.proofs.lemmas.Bool.{and_from, and_parts, cases_Bool, le-ltb, lt-ltb}
use Rattle.std.proofs.lemmas.List.Elements.{filter-append}
use Rattle.std.proofs.lemmas.List.Folds.{find-append}
use Rattle.clr_types.specs.Rising.{IsIn}
use Rattle.clr_types.specs.Types.{TypeRow}
use Rattle.clr_types.specs.Ranges.{fits, Piece}
use Rattle.clr_types.specs.Segments.{empty_segment, ephemeral, generation, is_small_or_ephemeral, Layout, stands_in}
use Rattle.clr_types.specs.declared.segment.SegInfo.{SegInfo}
use Rattle.clr_types.specs.declared.segment.SegKind.{SegKind}
use Rattle.clr_types.specs.declared.segment.SegKind.TheVariants.{Ephemeral, Large, Pinned, Small}
use Rattle.clr_types.proofs.ListMembers.{any-from, any-in, filter-on}
use Rattle.clr_types.proofs.RisingLists.{all_at}
use Rattle.clr_types.proofs.SegmentFacts.{AreSeparate, between-stands, disjoint-separate, stands-between}
use Rattle.clr_heap.specs.View.{first_of, frame, HeapView, IsHeap, last_of, listing, listings, segment_at}
use Rattle.clr_heap.proofs.Framing.{lawful_at}
use Rattle.clr_model.specs.Fitting.{is_older_item, lowest_item}
use Rattle.clr_view.specs.View.{free_among, IsHeld, layout_in}
use Rattle.clr_view.proofs.Items.{IsItem}
use Rattle.clr_view.proofs.Listings.{free-append, listing-are}
use Rattle.clr_view.proofs.Tails.{found-young, kind-young, only-young}
use Rattle.clr_sweep.proofs.Filters.{filter-filter}
use Rattle.clr_sweep.proofs.SurvivorsSwept.{at-in}
use Rattle.clr_evacuate.specs.Searching.{older_end, older_end_of, older_in}
use Rattle.clr_evacuate.proofs.FirstBetween.{free-is, is_between}

-- a place stands in one segment at most
one_segment : (s t : SegInfo) (a : ℕ) → AreSeparate s t → stands_in s a ≡ true → stands_in t a ≡ true
    → s ≡ t
one_segment s t a (inl same) in_s in_t = same
one_segment s t a (inr apart) in_s in_t =
    let (low_s, high_s) = stands-between s a in_s in
    let (low_t, high_t) = stands-between t a in_t in
    absurd (elim apart [ inl l ↦ omega arith | inr l ↦ omega arith ])

-- in the ephemeral segment, generation 2 ends at the first boundary
young-older : (layout : Layout) (a : ℕ) → stands_in (ephemeral layout) a ≡ true
    → (generation layout a == 2) ≡ nat_lt a layout.start1
young-older layout a e =
    ap (λ (b : Bool). (if b then
    (if nat_lt a layout.start1 then 2 else (if nat_lt a layout.start0 then 1 else 0)) else 2) == 2) e
    ∙ go (nat_lt a layout.start1) (nat_lt a layout.start0)
  where
    go : (b c : Bool) → ((if b then 2 else (if c then 1 else 0)) == 2) ≡ b
    go true c = refl
    go false true = refl
    go false false = refl

elsewhere-older : (layout : Layout) (a : ℕ) → stands_in (ephemeral layout) a ≡ false
    → (generation layout a == 2) ≡ true
elsewhere-older layout a e =
    ap (λ (b : Bool). (if b then
    (if nat_lt a layout.start1 then 2 else (if nat_lt a layout.start0 then 1 else 0)) else 2) == 2) e

-- the older items from a place on of the segments from one on
abbrev pub older_ahead : List TypeRow → HeapView → ℕ → ℕ → List Piece
older_ahead rows h low k =
    filter (λ (p : Piece). nat_le low p.place)
    (filter (is_older_item (layout_in rows h)) (free_among (listings rows h k (length h.segments - k))))

module _ (rows : List TypeRow) (h : HeapView) (heap : IsHeap h) (held : IsHeld rows h) where
  abbrev layout : Layout
  layout = layout_in rows h

  module _ (k : ℕ) (inside : k < length h.segments) where
    abbrev s : SegInfo
    s = segment_at h k

    in_small : SegInfo → ℕ → Bool
    in_small t a = is_small_or_ephemeral t.kind && stands_in t a

    listed : IsIn s h.segments
    listed = at-in h.segments k empty_segment inside

    -- whether a place of segment k stands in the small heap is told by the segment's kind
    small_there : (a : ℕ) → stands_in s a ≡ true
        → list_any (λ (t : SegInfo). is_small_or_ephemeral t.kind && stands_in t a) h.segments
        ≡ is_small_or_ephemeral s.kind
    small_there a stands = go (is_small_or_ephemeral s.kind) refl
      where
        go : (b : Bool) → is_small_or_ephemeral s.kind ≡ b
            → list_any (λ (t : SegInfo). is_small_or_ephemeral t.kind && stands_in t a) h.segments ≡ b
        go true e =
            any-from (λ (t : SegInfo). is_small_or_ephemeral t.kind && stands_in t a) h.segments s listed
            (and_from (is_small_or_ephemeral s.kind) (stands_in s a) e stands)
        go false e =
            elim (cases_Bool (list_any (λ (t : SegInfo). is_small_or_ephemeral t.kind && stands_in t a) h.segments)) [
              | inl some ↦
                  let (t, i, passes) = any-in (λ (t : SegInfo). is_small_or_ephemeral t.kind && stands_in t a)
                  h.segments some in
                  let (kind, at) = and_parts (is_small_or_ephemeral t.kind) (stands_in t a) passes in
                  let same = one_segment s t a (disjoint-separate h.segments s t heap.disjoint listed i) stands at in
                  let e2 = ap (λ (u : SegInfo). is_small_or_ephemeral u.kind) same in
                  absurd cc
              | inr none ↦ none
            ]

    -- a place of a segment of another kind isn't in the ephemeral one
    not_young : (a : ℕ) → s.kind ≢ Ephemeral → stands_in s a ≡ true → stands_in (ephemeral (frame h)) a ≡ false
    not_young a other stands =
        let (j, young) = found-young h heap in
        elim (cases_Bool (stands_in (ephemeral (frame h)) a)) [
          | inl in_young ↦
              let there : IsIn (ephemeral (frame h)) h.segments =
              subst (λ t. IsIn t h.segments) young.is (at-in h.segments j empty_segment young.in_range) in
              let same = one_segment s (ephemeral (frame h)) a
              (disjoint-separate h.segments s (ephemeral (frame h)) heap.disjoint listed there) stands in_young in
              absurd (other (ap (λ (t : SegInfo). t.kind) (same ∙ sym young.is) ∙ kind-young h j heap young))
          | inr out ↦ out
        ]

    -- and the ephemeral one is that of its kind
    is_young : s.kind ≡ Ephemeral → s ≡ ephemeral (frame h)
    is_young kind =
        let (j, young) = found-young h heap in
        ap (segment_at h) (only-young h j heap young k inside kind) ∙ young.is

    -- so a free piece of the segment is an older item below where generation 2 ends there
    older_by : (p : Piece) (kind : SegKind) → s.kind ≡ kind → stands_in s p.place ≡ true → p.place < last_of h k
        → is_older_item layout p ≡ nat_lt p.place (older_end_of kind (last_of h k) h.start1)
    older_by p Small kind stands below =
        let some = small_there p.place stands ∙ ap is_small_or_ephemeral kind in
        let old = elsewhere-older layout p.place (not_young p.place (λ e. absurd cc) stands) in
        (λ i. some i && old i) ∙ sym (lt-ltb p.place (last_of h k) below)
    older_by p Ephemeral kind stands below =
        let some = small_there p.place stands ∙ ap is_small_or_ephemeral kind in
        let old = young-older layout p.place (subst (λ t. stands_in t p.place ≡ true) (is_young kind) stands) in
        λ i. some i && old i
    older_by p Large kind stands below =
        ap (λ (b : Bool). b && (generation layout p.place == 2))
        (small_there p.place stands ∙ ap is_small_or_ephemeral kind)
        ∙ sym (le-ltb p.place 0 (omega arith))
    older_by p Pinned kind stands below =
        ap (λ (b : Bool). b && (generation layout p.place == 2))
        (small_there p.place stands ∙ ap is_small_or_ephemeral kind)
        ∙ sym (le-ltb p.place 0 (omega arith))

    older_piece : (p : Piece) → IsIn p (free_among (listing rows h k))
        → is_older_item layout p ≡ nat_lt p.place (older_end h k)
    older_piece p m =
        let (i, j, e) = free-is (listing rows h k) p m in
        let is = all_at (IsItem rows (first_of h k) (last_of h k)) j (listing-are rows h held.walkable k inside) in
        let above = is.above in
        let below = is.below in
        let least = is.least in
        let end = (lawful_at h k heap inside).high in
        let at = ap (λ (q : Piece). q.place) e in
        older_by p s.kind refl (between-stands s p.place (omega (arith, above, at))
        (omega (arith, below, least, end, at))) (omega (arith, below, least, at))

    -- THE OLDER ITEMS of the segment from a place on
    pub older_here : (low : ℕ)
        → filter (λ (p : Piece). nat_le low p.place) (filter (is_older_item layout) (free_among (listing rows h k)))
        ≡ older_in rows h k low
    older_here low =
        filter-filter (is_older_item layout) (λ (p : Piece). nat_le low p.place) (free_among (listing rows h k))
        ∙ filter-on (λ (p : Piece). is_older_item layout p && nat_le low p.place) (is_between low (older_end h k))
        (free_among (listing rows h k)) (λ p m. ap (λ (b : Bool). b && nat_le low p.place) (older_piece p m))

  -- ---- the segments from one on

  -- those of segment k come first
  pub older_next : (low k : ℕ) → k < length h.segments
      → older_ahead rows h low k ≡ older_in rows h k low ++ older_ahead rows h low (k + 1)
  older_next low k inside =
      let one : length h.segments - k ≡ suc (length h.segments - (k + 1)) = omega arith in
      let rest = listings rows h (k + 1) (length h.segments - (k + 1)) in
      let here = free_among (listing rows h k) in
      ap (λ (n : ℕ). filter (λ (p : Piece). nat_le low p.place)
      (filter (is_older_item layout) (free_among (listings rows h k n)))) one
      ∙ ap (λ (ps : List Piece). filter (λ (p : Piece). nat_le low p.place) (filter (is_older_item layout) ps))
      (free-append (listing rows h k) rest)
      ∙ ap (filter (λ (p : Piece). nat_le low p.place)) (filter-append (is_older_item layout) here (free_among rest))
      ∙ filter-append (λ (p : Piece). nat_le low p.place) (filter (is_older_item layout) here)
      (filter (is_older_item layout) (free_among rest))
      ∙ ap (λ (ps : List Piece). ps ++ older_ahead rows h low (k + 1)) (older_here k inside low)

  -- a search in them begins with segment k
  pub find_next : (size low k : ℕ) → k < length h.segments
      → lowest_item size (older_ahead rows h low k)
      ≡ option_or (lowest_item size (older_in rows h k low)) (lowest_item size (older_ahead rows h low (k + 1)))
  find_next size low k inside =
      ap (lowest_item size) (older_next low k inside)
      ∙ find-append (λ p. fits size p.size) (older_in rows h k low) (older_ahead rows h low (k + 1))

  -- it ends there where that has one
  pub stops_at : (size low k : ℕ) → k < length h.segments → (o : Option Piece)
      → o ≡ lowest_item size (older_in rows h k low) → is_some o ≡ true
      → o ≡ lowest_item size (older_ahead rows h low k)
  stops_at size low k inside None e there = absurd cc
  stops_at size low k inside (Some p) e there =
      ap (λ (r : Option Piece). option_or r (lowest_item size (older_ahead rows h low (k + 1)))) e
      ∙ sym (find_next size low k inside)

  -- and else goes on with the next
  pub goes_past : (size low k : ℕ) → k < length h.segments → (o : Option Piece)
      → o ≡ lowest_item size (older_in rows h k low) → is_some o ≡ false
      → lowest_item size (older_ahead rows h low (k + 1)) ≡ lowest_item size (older_ahead rows h low k)
  goes_past size low k inside None e none =
      ap (λ (r : Option Piece). option_or r (lowest_item size (older_ahead rows h low (k + 1)))) e
      ∙ sym (find_next size low k inside)
  goes_past size low k inside (Some p) e none = absurd cc

-- behind the last segment there is none
pub nothing_ahead : (rows : List TypeRow) (h : HeapView) (size low k : ℕ) → length h.segments ≤ k
    → None ≡ lowest_item size (older_ahead rows h low k)
nothing_ahead rows h size low k past =
    let none : length h.segments - k ≡ 0 = omega arith in
    sym (ap (λ (n : ℕ). lowest_item size (filter (λ (p : Piece). nat_le low p.place)
    (filter (is_older_item (layout_in rows h)) (free_among (listings rows h k n))))) none)
