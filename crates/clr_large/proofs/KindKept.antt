-- The free items of segments of a kind whose objects are old from birth, and those of generation 0: what refills,
-- births
-- and new segments leave of them.
use Rattle.std.proofs.Common.{◌≡◌, ◌≢◌, inl, inr, ℕ, zero, suc, ◌+◌, ◌-◌, ◌<◌, ◌≤◌, ◌&&◌, ◌||◌, ◌==◌, Bool, true, false}
use Rattle.std.proofs.Common.{if◌then◌else◌, nat_le, nat_lt, List, [], ◌∷◌, ◌++◌, filter, map, refl, ap, sym, ◌∙◌}
use Rattle.std.proofs.Common.{subst, arith, Option, Some, None}
use Rattle.std.specs.Prelude.{slice_get}
use Rattle.std.specs.List.{AllByRecursion, list_any}
use Rattle.std.proofs.lemmas.Bool.{and_parts, cases_Bool, eqb-true, false≢true, ltb-true}
use Rattle.std.proofs.lemmas.List.{append-nil}
use Rattle.std.proofs.lemmas.List.Concat.{flat_map-cons}
use Rattle.std.proofs.lemmas.List.Elements.{filter-append}
use Rattle.std.proofs.lemmas.List.Folds.{list_any-append}
use Rattle.clr_types.specs.Rising.{changed_by, IsIn, first, later}
use Rattle.clr_types.specs.Types.{TypeRow}
use Rattle.clr_types.specs.Ranges.{by_place, fits, Piece, piece_end, range_piece}
use Rattle.clr_types.specs.Segments.{ended_at, ephemeral, first_place, fits_in_tail, flat_option, generation, Layout}
use Rattle.clr_types.specs.Segments.{opening_segment, reserved_end, rest_of, rest_pieces, same_kind}
use Rattle.clr_types.specs.Segments.{sealed_segment, segment_or_empty, segments_of, stands_in, with_end}
use Rattle.clr_types.specs.LawfulLayout.{IsLawfulLayout}
use Rattle.clr_types.specs.declared.segment.SegInfo.{SegInfo}
use Rattle.clr_types.specs.declared.segment.SegKind.{SegKind}
use Rattle.clr_types.specs.declared.segment.SegKind.TheVariants.{Ephemeral}
use Rattle.clr_types.proofs.ChangedLists.{all_members, filter-changed_by, filter-insert_out, out_of_filter}
use Rattle.clr_types.proofs.ChangedLists.{rising-sorted, sorted_by-among, sorted_by-done}
use Rattle.clr_types.proofs.ListMembers.{any-in, append_right, distinct_cross, distinct_of_sorted, filter-on, in_append}
use Rattle.clr_types.proofs.RisingLists.{all_at, in_cons}
use Rattle.clr_types.proofs.SegmentFacts.{between-stands, ephemeral-in, ephemeral-kind, lawful_segment, one_home}
use Rattle.clr_types.proofs.SegmentFacts.{stands-between}
use Rattle.clr_types.proofs.SortedLists.{into_sorted_by, out_of_sorted_by}
use Rattle.clr_types.proofs.TilePieces.{IsTile}
use Rattle.clr_heap.specs.View.{HeapView}
use Rattle.clr_model.specs.Allocation.{from_item, from_tail, front_taken, IsPlacedIn, IsRefilled, is_young_item}
use Rattle.clr_model.specs.Allocation.{sealed, stands_in_kind, taken_from, want, with_segment}
use Rattle.clr_model.specs.Lawful.{IsLawful}
use Rattle.clr_model.specs.Lookups.{object_piece, pieces}
use Rattle.clr_model.specs.Machine.{Machine}
use Rattle.clr_model.specs.Updates.{given_up, pieces_of_option}
use Rattle.clr_model.proofs.ContextChange.{young-is}
use Rattle.clr_model.proofs.LawfulPieces.{free-in-pieces, HasHome, piece-home, piece-tile, pieces-distinct}
use Rattle.clr_view.specs.View.{layout_in}
use Rattle.clr_large.specs.Places.{IsKindIndex, IsOldKind, kind_items}
use Rattle.clr_large.proofs.OldKinds.{kind-is, old-not_ephemeral, old-sealed, young-other}

-- the free items of generation 0, by rising place
abbrev young_items : Layout → List Piece
young_items layout = filter (is_young_item layout) layout.free

-- ---- pieces that a test of places doesn't see

module _ (test : ℕ → Bool) where
  abbrev sees : Piece → Bool
  sees p = test p.place

  range-unseen : (low high : ℕ) → (low < high → test low ≡ false) → filter sees (range_piece low high) ≡ []
  range-unseen low high off = go (nat_lt low high) refl
    where
      go : (b : Bool) → nat_lt low high ≡ b
          → filter sees (if b then record { place = low; size = high - low } ∷ [] else []) ≡ []
      go true e = ap (λ (c : Bool). if c then record { place = low; size = high - low } ∷ [] else [])
          (off (ltb-true low high e))
      go false e = refl

  -- bytes that an unseen item gives
  filter-taken : (at n : ℕ) (ps : List Piece) → test at ≡ false
      → ((p : Piece) → IsIn p ps → p.place ≡ at → (q : ℕ) → at ≤ q → q < piece_end p → test q ≡ false)
      → filter (λ p. test p.place) (taken_from at n ps) ≡ filter (λ p. test p.place) ps
  filter-taken at n [] off behind = refl
  filter-taken at n (p ∷ ps) off behind =
      ap (filter sees) (flat_map-cons (λ (i : Piece). if i.place == at then range_piece (i.place + n) (piece_end i)
      else i ∷ []) p ps)
      ∙ go (p.place == at) refl (filter-taken at n ps off (λ q i. behind q (later i)))
    where
      go : (b : Bool) → (p.place == at) ≡ b → filter sees (taken_from at n ps) ≡ filter sees ps
          → filter sees ((if b then range_piece (p.place + n) (piece_end p) else p ∷ []) ++ taken_from at n ps)
          ≡ filter sees (p ∷ ps)
      go true e rest =
          let same = eqb-true p.place at e in
          filter-append sees (range_piece (p.place + n) (piece_end p)) (taken_from at n ps)
          ∙ (λ k. range-unseen (p.place + n) (piece_end p)
          (λ l. behind p first same (p.place + n) (omega arith) l) k ++ rest k)
          ∙ sym (ap (λ (b : Bool). if b then p ∷ filter sees ps else filter sees ps) (ap test same ∙ off))
      go false e rest = ap (λ (qs : List Piece). if test p.place then p ∷ qs else qs) rest

-- ---- segments with other ends, and one segment more

-- a place stands in some of these segments
abbrev in_some : List SegInfo → ℕ → Bool
in_some ss place = list_any (λ s. stands_in s place) ss

-- which a new end leaves
any-ended : (base end place : ℕ) (ss : List SegInfo)
    → in_some (changed_by (λ s. s.base) base (ended_at end) ss) place ≡ in_some ss place
any-ended base end place [] = refl
any-ended base end place (s ∷ ss) = go (s.base == base) (any-ended base end place ss)
  where
    ended : List SegInfo
    ended = changed_by (λ (s : SegInfo). s.base) base (ended_at end) ss

    go : (b : Bool) → in_some ended place ≡ in_some ss place
        → in_some ((if b then ended_at end s else s) ∷ ended) place ≡ in_some (s ∷ ss) place
    go true rest = ap (λ (b : Bool). stands_in s place || b) rest
    go false rest = ap (λ (b : Bool). stands_in s place || b) rest

kind-ended : (kind : SegKind) (layout : Layout) (base end : ℕ)
    → segments_of kind (with_end layout base end)
    ≡ changed_by (λ s. s.base) base (ended_at end) (segments_of kind layout)
kind-ended kind layout base end =
    filter-changed_by (λ (s : SegInfo). s.base) base (ended_at end) (λ (s : SegInfo). same_kind kind s.kind) (λ s. refl)
    layout.segments

stands-ended : (kind : SegKind) (layout : Layout) (base end place : ℕ)
    → stands_in_kind kind (with_end layout base end) place ≡ stands_in_kind kind layout place
stands-ended kind layout base end place =
    ap (λ (ss : List SegInfo). in_some ss place) (kind-ended kind layout base end)
    ∙ any-ended base end place (segments_of kind layout)

young-ended : (layout : Layout) (base end place : ℕ)
    → stands_in (ephemeral (with_end layout base end)) place ≡ stands_in (ephemeral layout) place
young-ended layout base end place =
    ap (λ (ss : List SegInfo). stands_in (segment_or_empty ss) place) (kind-ended Ephemeral layout base end)
    ∙ front (segments_of Ephemeral layout)
  where
    go : (b : Bool) (s : SegInfo) → stands_in (if b then ended_at end s else s) place ≡ stands_in s place
    go true s = refl
    go false s = refl

    front : (ss : List SegInfo)
        → stands_in (segment_or_empty (changed_by (λ (s : SegInfo). s.base) base (ended_at end) ss)) place
        ≡ stands_in (segment_or_empty ss) place
    front [] = refl
    front (s ∷ ss) = go (s.base == base) s

-- those of the kind among segments
abbrev kind_ones : SegKind → List SegInfo → List SegInfo
kind_ones group = filter (λ s. same_kind group s.kind)

-- a place stands in one of them, once the ephemeral segment is sealed, where it did before
stands-sealed : (group : SegKind) → IsOldKind group → (ss : List SegInfo) (new : SegInfo) (place : ℕ)
    → same_kind group new.kind ≡ false
    → in_some (kind_ones group (map sealed_segment ss ++ new ∷ [])) place ≡ in_some (kind_ones group ss) place
stands-sealed group old [] new place other = ap (λ (b : Bool). in_some (if b then new ∷ [] else []) place) other
stands-sealed group old (s ∷ ss) new place other =
    ap (λ (b : Bool). in_some (if b then sealed_segment s ∷ now else now) place) (old-sealed group s.kind old)
    ∙ go (same_kind group s.kind) (stands-sealed group old ss new place other)
  where
    now : List SegInfo
    now = kind_ones group (map sealed_segment ss ++ new ∷ [])

    was : List SegInfo
    was = kind_ones group ss

    go : (b : Bool) → in_some now place ≡ in_some was place
        → in_some (if b then sealed_segment s ∷ now else now) place ≡ in_some (if b then s ∷ was else was) place
    go true rest = ap (λ (b : Bool). stands_in s place || b) rest
    go false rest = rest

-- and below the top, where there is one more of them
stands-added : (group kind : SegKind) (layout : Layout) (size place : ℕ) → place < layout.top
    → stands_in_kind group (with_segment layout kind size) place ≡ stands_in_kind group layout place
stands-added group kind layout size place low =
    let new = opening_segment layout.top kind size in
    ap (λ (ss : List SegInfo). in_some ss place)
    (filter-append (λ (s : SegInfo). same_kind group s.kind) layout.segments (new ∷ []))
    ∙ list_any-append (λ (s : SegInfo). stands_in s place) (segments_of group layout)
    (if same_kind group kind then new ∷ [] else [])
    ∙ ap (λ (b : Bool). stands_in_kind group layout place || b) (alone (same_kind group kind))
    ∙ or-false (stands_in_kind group layout place)
  where
    outside : stands_in (opening_segment layout.top kind size) place ≡ false
    outside = elim (cases_Bool (stands_in (opening_segment layout.top kind size) place)) [
      | inl there ↦
          let between = stands-between (opening_segment layout.top kind size) place there in
          let above = between.0 in
          absurd (omega arith)
      | inr away ↦ away
    ]

    or-false : (b : Bool) → (b || false) ≡ b
    or-false true = refl
    or-false false = refl

    alone : (b : Bool) → in_some (if b then opening_segment layout.top kind size ∷ [] else []) place ≡ false
    alone true = or-false (stands_in (opening_segment layout.top kind size) place) ∙ outside
    alone false = refl

-- ---- segments of such a kind and the ephemeral one

-- no kind is both
not-both : (group kind : SegKind) → IsOldKind group → same_kind group kind ≡ true → same_kind Ephemeral kind ≡ true → ⊥
not-both group kind old is young =
    false≢true (sym (old-not_ephemeral group old) ∙ ap (same_kind Ephemeral) (sym (kind-is group kind is)) ∙ young)

module _ (group : SegKind) (old : IsOldKind group) (layout : Layout) (lawful : IsLawfulLayout layout) where
  -- what stands in a segment of the kind doesn't stand in the ephemeral one
  kind-apart : (s : SegInfo) (place : ℕ) → IsIn s (segments_of group layout) → stands_in s place ≡ true
      → stands_in (ephemeral layout) place ≡ true → ⊥
  kind-apart s place i in_s in_young =
      let (kind, among) = out_of_filter (λ (u : SegInfo). same_kind group u.kind) s layout.segments i in
      let same = one_home layout lawful s (ephemeral layout) place among (ephemeral-in layout lawful) in_s in_young in
      not-both group (ephemeral layout).kind old (subst (λ (u : SegInfo). same_kind group u.kind ≡ true) same kind)
      (ephemeral-kind layout lawful)

  not-kind : (place : ℕ) → stands_in (ephemeral layout) place ≡ true → stands_in_kind group layout place ≡ false
  not-kind place in_young = elim (cases_Bool (stands_in_kind group layout place)) [
    | inl in_large ↦
        let (s, i, in_s) = any-in (λ (s : SegInfo). stands_in s place) (segments_of group layout) in_large in
        absurd (kind-apart s place i in_s in_young)
    | inr out ↦ out
  ]

  not-young : (s : SegInfo) (place : ℕ) → IsIn s (segments_of group layout) → stands_in s place ≡ true
      → (stands_in (ephemeral layout) place && nat_le layout.start0 place) ≡ false
  not-young s place i in_s = elim (cases_Bool (stands_in (ephemeral layout) place)) [
    | inl in_young ↦ absurd (kind-apart s place i in_s in_young)
    | inr out ↦ ap (λ (b : Bool). b && nat_le layout.start0 place) out
  ]

-- ---- the pieces of a lawful machine

-- what is left of a thread's context is among what is left of all
rest-in : (rests : List (Option Piece)) (i : ℕ) (r : Piece)
    → IsIn r (pieces_of_option (flat_option (slice_get rests i))) → IsIn r (rest_pieces rests)
rest-in [] i r at = elim at [ ]
rest-in (None ∷ rests) zero r at = elim at [ ]
rest-in (Some p ∷ rests) zero r at = elim (in_cons at) [
  | inl same ↦ subst (λ (q : Piece). IsIn q (p ∷ rest_pieces rests)) (sym same) first
  | inr none ↦ elim none [ ]
]
rest-in (None ∷ rests) (suc i) r at = rest-in rests i r at
rest-in (Some p ∷ rests) (suc i) r at = later (rest-in rests i r at)

module _ (m : Machine) (h : IsLawful m) where
  layout_is : IsLawfulLayout m.layout
  layout_is = h.laid.layout

  -- a piece stands wholly in its segment
  piece-within : (s : SegInfo) (p : Piece) (q : ℕ) → IsIn s m.layout.segments → IsIn p (pieces m)
      → stands_in s p.place ≡ true → p.place ≤ q → q < piece_end p → stands_in s q ≡ true
  piece-within s p q among i in_s low high =
      let k : HasHome m.layout p.place = piece-home m h.laid p i in
      let is : IsTile (first_place k.home) k.home.end p = piece-tile m h.laid p i k in
      let same : k.home ≡ s = one_home m.layout layout_is k.home s p.place k.among among k.stands in_s in
      let end : k.home.end ≤ reserved_end k.home = (lawful_segment m.layout layout_is k.home k.among).high in
      let tile : piece_end p ≤ k.home.end = is.high_end in
      let start : first_place k.home ≤ p.place = k.low in
      subst (λ (u : SegInfo). stands_in u q ≡ true) same (between-stands k.home q (omega arith) (omega arith))

  -- a rest stands in the ephemeral segment
  rest-young : (t : ℕ) (r : Piece) → IsIn r (pieces_of_option (rest_of m.layout t))
      → stands_in (ephemeral m.layout) r.place ≡ true
  rest-young t r i =
      (young-is m.layout r.place
      (all_at (λ (p : Piece). generation m.layout p.place ≡ 0) (rest-in m.layout.rests (t - 1) r i) h.rests_young)).0

  -- the free items after a context was given up are pieces
  given-piece : (t : ℕ) (p : Piece) → IsIn p (given_up m.layout t).free → IsIn p (pieces m)
  given-piece t p i =
      elim (in_append m.layout.free
      (out_of_sorted_by (λ (p : Piece). p.place) p (m.layout.free ++ pieces_of_option (rest_of m.layout t)) i)) [
        | inl free ↦ free-in-pieces m h.laid p free
        | inr rest ↦
            into_sorted_by (λ (p : Piece). p.place) p
            ((map (object_piece m.types) m.objects ++ m.layout.free) ++ rest_pieces m.layout.rests)
            (append_right (map (object_piece m.types) m.objects ++ m.layout.free)
            (rest-in m.layout.rests (t - 1) p rest))
      ]

  -- a rest has a place of its own
  rest-apart : (t : ℕ) (r : Piece) → IsIn r (pieces_of_option (rest_of m.layout t))
      → AllByRecursion (λ (p : Piece). p.place ≢ r.place) m.layout.free
  rest-apart t r i =
      all_members (λ (p : Piece). p.place ≢ r.place) m.layout.free
      (λ p j. distinct_cross (λ (p : Piece). p.place) (map (object_piece m.types) m.objects ++ m.layout.free)
      (rest_pieces m.layout.rests)
      (distinct_of_sorted (λ (p : Piece). p.place)
      ((map (object_piece m.types) m.objects ++ m.layout.free) ++ rest_pieces m.layout.rests)
      (pieces-distinct m h.laid)) p r (append_right (map (object_piece m.types) m.objects) j)
      (rest-in m.layout.rests (t - 1) r i))

  -- ---- a refill

  module _ (group : SegKind) (old : IsOldKind group) where
    abbrev is_there : Piece → Bool
    is_there p = stands_in_kind group m.layout p.place

    -- a context that is given up is no free item of a segment of the kind
    kind-given : (t : ℕ) → filter (λ p. stands_in_kind group m.layout p.place) (given_up m.layout t).free
        ≡ kind_items group m.layout
    kind-given t = go (rest_of m.layout t) (rest-young t) (rest-apart t)
      where
        sorted : by_place m.layout.free ≡ m.layout.free
        sorted = sorted_by-done (λ (p : Piece). p.place) m.layout.free
            (rising-sorted (λ (p : Piece). p.place) m.layout.free layout_is.free_rise)

        go : (rest : Option Piece)
            → ((r : Piece) → IsIn r (pieces_of_option rest) → stands_in (ephemeral m.layout) r.place ≡ true)
            → ((r : Piece) → IsIn r (pieces_of_option rest)
            → AllByRecursion (λ (p : Piece). p.place ≢ r.place) m.layout.free)
            → filter is_there (by_place (m.layout.free ++ pieces_of_option rest)) ≡ kind_items group m.layout
        go None young apart = ap (λ (ps : List Piece). filter is_there (by_place ps)) (append-nil m.layout.free)
            ∙ ap (filter is_there) sorted
        go (Some r) young apart =
            ap (filter is_there) (sorted_by-among (λ (p : Piece). p.place) m.layout.free r [] (apart r first))
            ∙ filter-insert_out (λ (p : Piece). p.place) is_there r (by_place (m.layout.free ++ []))
            (not-kind group old m.layout layout_is r.place (young r first))
            ∙ ap (λ (ps : List Piece). filter is_there (by_place ps)) (append-nil m.layout.free)
            ∙ ap (filter is_there) sorted

    kind-from_item : (t taken : ℕ) (item : Piece) → is_young_item (given_up m.layout t) item ≡ true
        → kind_items group (from_item (given_up m.layout t) t item taken) ≡ kind_items group m.layout
    kind-from_item t taken item young =
        let (in_young, high) =
        and_parts (stands_in (ephemeral m.layout) item.place) (nat_le m.layout.start0 item.place) young in
        filter-taken (stands_in_kind group m.layout) item.place taken (given_up m.layout t).free
        (not-kind group old m.layout layout_is item.place in_young)
        (λ p i same q low up. not-kind group old m.layout layout_is q
        (piece-within (ephemeral m.layout) p q (ephemeral-in m.layout layout_is) (given-piece t p i)
        (subst (λ n. stands_in (ephemeral m.layout) n ≡ true) (sym same) in_young) (omega arith) up))
        ∙ kind-given t

    kind-from_tail : (t taken : ℕ)
        → kind_items group (from_tail (given_up m.layout t) t taken) ≡ kind_items group m.layout
    kind-from_tail t taken =
        let begun = given_up m.layout t in
        let s = ephemeral begun in
        (λ k. filter (λ p. stands-ended group begun s.base (s.end + taken) p.place k) begun.free) ∙ kind-given t

    -- A REFILL leaves the free items of segments of the kind
    pub kind_refilled : (t size : ℕ) (new : Layout) → IsRefilled m.layout t size new
        → kind_items group new ≡ kind_items group m.layout
    kind_refilled t size new (inl (item, i, young, fit, is)) =
        ap (kind_items group) is
        ∙ kind-from_item t (if fits (want size) item.size then want size else item.size) item young
    kind_refilled t size new (inr (room, is)) =
        let wide = fits_in_tail (ephemeral m.layout) (want size) in
        ap (kind_items group) is ∙ kind-from_tail t (if wide then want size else size)

    -- ---- a birth in a segment of the kind

    -- A BIRTH THERE leaves the free items of generation 0
    pub young_placed : (size place : ℕ) (new : Layout) → IsPlacedIn group m.layout size place new
        → young_items new ≡ young_items m.layout
    young_placed size place new (inl (item, i, there, fit, at, is)) =
        let (s, of, in_s) =
        any-in (λ (s : SegInfo). stands_in s item.place) (segments_of group m.layout) there in
        let (kind, among) = out_of_filter (λ (u : SegInfo). same_kind group u.kind) s m.layout.segments of in
        ap young_items is
        ∙ filter-taken (λ n. stands_in (ephemeral m.layout) n && nat_le m.layout.start0 n) item.place size m.layout.free
        (not-young group old m.layout layout_is s item.place of in_s)
        (λ p j same q low up. not-young group old m.layout layout_is s q of
        (piece-within s p q among (free-in-pieces m h.laid p j)
        (subst (λ n. stands_in s n ≡ true) (sym same) in_s) (omega arith) up))
    young_placed size place new (inr (s, of, fit, at, is)) =
        ap young_items is
        ∙ (λ k. filter (λ p. young-ended m.layout s.base (s.end + size) p.place k && nat_le m.layout.start0 p.place)
        m.layout.free)

-- ---- a birth in a segment of another kind

-- segments of two kinds share no place
kinds-apart : (kind group : SegKind) (layout : Layout) → IsLawfulLayout layout → same_kind kind group ≡ false
    → (s : SegInfo) (place : ℕ) → IsIn s (segments_of group layout) → stands_in s place ≡ true
    → stands_in_kind kind layout place ≡ false
kinds-apart kind group layout lawful apart s place i in_s = elim (cases_Bool (stands_in_kind kind layout place)) [
  | inl both ↦
      let (u, j, in_u) = any-in (λ (u : SegInfo). stands_in u place) (segments_of kind layout) both in
      let (of_group, among) = out_of_filter (λ (u : SegInfo). same_kind group u.kind) s layout.segments i in
      let (of_kind, there) = out_of_filter (λ (u : SegInfo). same_kind kind u.kind) u layout.segments j in
      let same = one_home layout lawful u s place there among in_u in_s in
      let is : u.kind ≡ group = ap (λ (t : SegInfo). t.kind) same ∙ kind-is group s.kind of_group in
      absurd (false≢true (sym apart ∙ ap (same_kind kind) (sym is) ∙ of_kind))
  | inr out ↦ out
]

-- so it leaves the free items of the others
pub kind_placed : (kind group : SegKind) → same_kind kind group ≡ false → (m : Machine) → IsLawful m
    → (size place : ℕ) (new : Layout) → IsPlacedIn group m.layout size place new
    → kind_items kind new ≡ kind_items kind m.layout
kind_placed kind group apart m h size place new (inl (item, i, there, fit, at, is)) =
    let (s, of, in_s) = any-in (λ (s : SegInfo). stands_in s item.place) (segments_of group m.layout) there in
    let (of_group, among) = out_of_filter (λ (u : SegInfo). same_kind group u.kind) s m.layout.segments of in
    ap (kind_items kind) is
    ∙ filter-taken (stands_in_kind kind m.layout) item.place size m.layout.free
    (kinds-apart kind group m.layout h.laid.layout apart s item.place of in_s)
    (λ p j same q low up. kinds-apart kind group m.layout h.laid.layout apart s q of
    (piece-within m h s p q among (free-in-pieces m h.laid p j)
    (subst (λ n. stands_in s n ≡ true) (sym same) in_s) (omega arith) up))
kind_placed kind group apart m h size place new (inr (s, of, fit, at, is)) =
    ap (kind_items kind) is
    ∙ (λ k. filter (λ p. stands-ended kind m.layout s.base (s.end + size) p.place k) m.layout.free)

-- ---- what leaves them whatever is lawful

-- A BIRTH IN A CONTEXT
pub kind_front_taken : (group : SegKind) (layout : Layout) (t size : ℕ)
    → kind_items group (front_taken layout t size) ≡ kind_items group layout
kind_front_taken group layout t size = refl

-- SEALING
pub kind_sealed : (group : SegKind) → IsOldKind group → (layout : Layout) (size : ℕ)
    → kind_items group (sealed layout size) ≡ kind_items group layout
kind_sealed group old layout size =
    let new = opening_segment layout.top Ephemeral size in
    λ i. filter (λ p. stands-sealed group old layout.segments new p.place (young-other group old) i) layout.free

-- A NEW SEGMENT of any kind
pub kind_with_segment : (group kind : SegKind) (layout : Layout) (size : ℕ)
    → ((p : Piece) → IsIn p layout.free → p.place < layout.top)
    → kind_items group (with_segment layout kind size) ≡ kind_items group layout
kind_with_segment group kind layout size below =
    filter-on (λ (p : Piece). stands_in_kind group (with_segment layout kind size) p.place)
    (λ (p : Piece). stands_in_kind group layout p.place) layout.free
    (λ p i. stands-added group kind layout size p.place (below p i))

-- one of such a kind leaves the ephemeral one
pub ephemeral_added : (group : SegKind) → IsOldKind group → (layout : Layout) (size : ℕ)
    → ephemeral (with_segment layout group size) ≡ ephemeral layout
ephemeral_added group old layout size =
    ap segment_or_empty
    (filter-append (λ (s : SegInfo). same_kind Ephemeral s.kind) layout.segments
    (opening_segment layout.top group size ∷ [])
    ∙ ap (λ (b : Bool). segments_of Ephemeral layout ++ (if b then opening_segment layout.top group size ∷ [] else []))
    (old-not_ephemeral group old)
    ∙ append-nil (segments_of Ephemeral layout))

pub young_with_segment : (group : SegKind) → IsOldKind group → (layout : Layout) (size : ℕ)
    → young_items (with_segment layout group size) ≡ young_items layout
young_with_segment group old layout size =
    λ i. filter (λ p. stands_in (ephemeral_added group old layout size i) p.place && nat_le layout.start0 p.place)
    layout.free

-- ---- the index

-- it is the index of every heap of this layout
pub same_kind_index : (group : SegKind) (rows after : List TypeRow) (h new : HeapView) (index : Option (List Piece))
    → layout_in after new ≡ layout_in rows h → IsKindIndex group rows h index → IsKindIndex group after new index
same_kind_index group rows after h new None same is = is
same_kind_index group rows after h new (Some ps) same is = is ∙ ap (kind_items group) (sym same)
