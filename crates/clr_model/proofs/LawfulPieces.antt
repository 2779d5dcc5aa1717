-- The pieces of a lawful machine: in its segments, apart, at places of their own.
use Rattle.std.proofs.Common.{◌≡◌, ◌≢◌, ℕ, ◌<◌, ◌≤◌, inl, inr, List, [], ◌∷◌, ◌++◌, map, refl, sym, ap, subst, arith}
use Rattle.std.proofs.Common.{Bool, true, false, if◌then◌else◌, nat_le, nat_lt, Option, Some, None, IsSome, find}
use Rattle.std.proofs.Common.{true≢false}
use Rattle.std.proofs.lemmas.Bool.{and_parts, leb-true, ltb-true}
use Rattle.clr_types.specs.Rising.{IsIn, first, later, IsRisingBy}
use Rattle.clr_types.specs.Ranges.{Piece, piece_end, Tiles}
use Rattle.clr_types.proofs.RisingLists.{all_at}
use Rattle.clr_types.proofs.Tilings.{tiles-rise}
use Rattle.clr_types.proofs.SortedLists.{IsDistinctBy, into_sorted_by}
use Rattle.clr_model.specs.Machine.{Object, Machine}
use Rattle.clr_model.specs.Lookups.{pieces, object_piece}
use Rattle.clr_model.specs.Lawful.{IsLaid}
use Rattle.clr_model.specs.Sweep.{base_at}
use Rattle.clr_types.specs.declared.segment.SegInfo.{SegInfo}
use Rattle.clr_types.specs.Segments.{Layout, first_place, reserved_end, stands_in, pieces_in, segment_of, rest_pieces}
use Rattle.clr_types.specs.LawfulLayout.{IsTiled}
use Rattle.clr_types.proofs.ChangedLists.{IsIn-map, all_members, append_left, into_filter}
use Rattle.clr_types.proofs.PieceGaps.{IsGapped}
use Rattle.clr_types.proofs.SegmentFacts.{AreSeparate, separate, lawful_segment}
use Rattle.clr_types.proofs.ListMembers.{append_right, distinct_of_sorted, distinct_left, distinct_unmap}
use Rattle.clr_types.proofs.TilePieces.{IsTile, tile, tiles-apart}

-- ---- pieces in their segments

find-home : (ss : List SegInfo) (place : ℕ) (s : SegInfo) → find (λ (s : SegInfo). stands_in s place) ss ≡ Some s
    → IsIn s ss × (stands_in s place ≡ true) × (base_at ss place ≡ s.base)
find-home [] place s e = absurd cc
find-home (t ∷ ss) place s e = go (stands_in t place) refl e (find-home ss place s)
  where
    found : Some t ≡ Some s → t ≡ s
    found e = cc

    go : (b : Bool) → stands_in t place ≡ b
        → (if b then Some t else find (λ (s : SegInfo). stands_in s place) ss) ≡ Some s
        → (find (λ (s : SegInfo). stands_in s place) ss ≡ Some s
        → IsIn s ss × (stands_in s place ≡ true) × (base_at ss place ≡ s.base))
        → IsIn s (t ∷ ss) × (stands_in s place ≡ true) × ((if b then t.base else base_at ss place) ≡ s.base)
    go true f e more = let q : t ≡ s = found e in (
      subst (λ (u : SegInfo). IsIn u (t ∷ ss)) q first,
      subst (λ (u : SegInfo). stands_in u place ≡ true) q f,
      ap
          (λ (u : SegInfo). u.base) q,
    )
    go false f e more = let (i, a, b) = more e in (later i, a, b)

-- a segment in which a place stands
pub record HasHome (layout : Layout) (place : ℕ) : Type 0 where
  pub home : SegInfo
  pub among : IsIn home layout.segments
  pub stands : stands_in home place ≡ true
  pub base : base_at layout.segments place ≡ home.base
  pub low : first_place home ≤ place
  pub high : place < reserved_end home

home_of : (layout : Layout) (place : ℕ) → IsSome (segment_of layout place) → HasHome layout place
home_of layout place h = go (segment_of layout place) refl h
  where
    go : (o : Option SegInfo) → segment_of layout place ≡ o → IsSome o → HasHome layout place
    go None e h = absurd (true≢false (sym h))
    go (Some s) e h =
        let (i, t, b) = find-home layout.segments place s e in
        let (l, u) = and_parts (nat_le (first_place s) place) (nat_lt place (reserved_end s)) t in
        record {
          home = s;
          among = i;
          stands = t;
          base = b;
          low = leb-true (first_place s) place l;
          high = ltb-true place (reserved_end s) u;
        }

module _ (m : Machine) (h : IsLaid m) where
  pub piece-home : (p : Piece) → IsIn p (pieces m) → HasHome m.layout p.place
  piece-home p i = home_of m.layout p.place (all_at (λ (p : Piece). IsSome (segment_of m.layout p.place)) i h.housed)

  pub segment-tiled : (s : SegInfo) → IsIn s m.layout.segments → Tiles (first_place s) s.end (pieces_in s (pieces m))
  segment-tiled s i = all_at (IsTiled (pieces m)) i h.tiled

  piece-in : (p : Piece) → IsIn p (pieces m) → (s : SegInfo) → stands_in s p.place ≡ true
      → IsIn p (pieces_in s (pieces m))
  piece-in p i s t = into_filter (λ (p : Piece). stands_in s p.place) (pieces m) t i

  -- each piece is a tile of its segment
  pub piece-tile : (p : Piece) → IsIn p (pieces m) → (k : HasHome m.layout p.place)
      → IsTile (first_place k.home) k.home.end p
  piece-tile p i k = tile (first_place k.home) k.home.end (pieces_in k.home (pieces m)) p (segment-tiled k.home k.among)
      (piece-in p i k.home k.stands)

  -- any two lie apart
  pub pieces-apart : (p q : Piece) → IsIn p (pieces m) → IsIn q (pieces m) → p.place < q.place
      → IsGapped (piece_end p) q.place
  pieces-apart p q i j l = go (piece-home p i) (piece-home q j)
    where
      go : HasHome m.layout p.place → HasHome m.layout q.place → IsGapped (piece_end p) q.place
      go k n = by (separate m.layout h.layout k.home n.home k.among n.among)
        where
          low : first_place k.home ≤ p.place
          low = k.low

          high : q.place < reserved_end n.home
          high = n.high

          by : AreSeparate k.home n.home → IsGapped (piece_end p) q.place
          by (inl e) = tiles-apart (first_place k.home) k.home.end (pieces_in k.home (pieces m)) p q
              (segment-tiled k.home k.among) (piece-in p i k.home k.stands)
              (piece-in q j k.home (subst (λ (s : SegInfo). stands_in s q.place ≡ true) (sym e) n.stands)) l
          by (inr (inl b)) =
              let is : IsTile (first_place k.home) k.home.end p = piece-tile p i k in
              let a : piece_end p ≤ k.home.end = is.high_end in
              let c : k.home.end ≤ reserved_end k.home = (lawful_segment m.layout h.layout k.home k.among).high in
              let d : first_place n.home ≤ q.place = n.low in
              inr (omega arith)
          by (inr (inr b)) = let c = low in let d = high in absurd (omega arith)

  distinct-in : (ps : List Piece)
      → ((s : SegInfo) → IsIn s m.layout.segments → IsRisingBy (λ (p : Piece). p.place) (pieces_in s ps))
      → ((p : Piece) → IsIn p ps → HasHome m.layout p.place) → IsDistinctBy (λ (p : Piece). p.place) ps
  distinct-in [] rise home = tt
  distinct-in (p ∷ ps) rise home = (
    all_members (λ (q : Piece). p.place ≢ q.place) ps (λ q i e. differ (home p first) q i e),
    distinct-in ps
        (λ s i. tail s (stands_in s p.place) (rise s i)) (λ q i. home q (later i)),
  )
    where
      tail : (s : SegInfo) (b : Bool)
          → IsRisingBy (λ (p : Piece). p.place) (if b then p ∷ pieces_in s ps else pieces_in s ps)
          → IsRisingBy (λ (p : Piece). p.place) (pieces_in s ps)
      tail s true r = r.1
      tail s false r = r

      differ : HasHome m.layout p.place → (q : Piece) → IsIn q ps → p.place ≡ q.place → ⊥
      differ k q i e =
          let r : IsRisingBy (λ (p : Piece). p.place) (p ∷ pieces_in k.home ps) =
          subst (λ b. IsRisingBy (λ (p : Piece). p.place)
          (if b then p ∷ pieces_in k.home ps else pieces_in k.home ps)) k.stands (rise k.home k.among) in
          let j : IsIn q (pieces_in k.home ps) =
          into_filter (λ (p : Piece). stands_in k.home p.place) ps
          (subst (λ n. stands_in k.home n ≡ true) e k.stands) i in
          let l : p.place < q.place = all_at (λ (q : Piece). p.place < q.place) j r.0 in
          omega arith

  pub pieces-distinct : IsDistinctBy (λ (p : Piece). p.place) (pieces m)
  pieces-distinct = distinct-in (pieces m)
      (λ s i. tiles-rise (first_place s) s.end (pieces_in s (pieces m)) (segment-tiled s i)) piece-home

  -- no two objects have one place
  pub places-distinct : IsDistinctBy (λ (o : Object). o.place) m.objects
  places-distinct =
      distinct_unmap (object_piece m.types) (λ (p : Piece). p.place) m.objects
      (distinct_left (λ (p : Piece). p.place) (map (object_piece m.types) m.objects) m.layout.free
      (distinct_left (λ (p : Piece). p.place) (map (object_piece m.types) m.objects ++ m.layout.free)
      (rest_pieces m.layout.rests)
      (distinct_of_sorted (λ (p : Piece). p.place)
      ((map (object_piece m.types) m.objects ++ m.layout.free) ++ rest_pieces m.layout.rests) pieces-distinct)))

  pub object-in-pieces : (o : Object) → IsIn o m.objects → IsIn (object_piece m.types o) (pieces m)
  object-in-pieces o i =
      into_sorted_by (λ (p : Piece). p.place) (object_piece m.types o)
      ((map (object_piece m.types) m.objects ++ m.layout.free) ++ rest_pieces m.layout.rests)
      (append_left (rest_pieces m.layout.rests) (append_left m.layout.free (IsIn-map (object_piece m.types) i)))

  -- free items are pieces, and lie apart
  pub free-in-pieces : (p : Piece) → IsIn p m.layout.free → IsIn p (pieces m)
  free-in-pieces p i =
      into_sorted_by (λ (p : Piece). p.place) p
      ((map (object_piece m.types) m.objects ++ m.layout.free) ++ rest_pieces m.layout.rests)
      (append_left (rest_pieces m.layout.rests) (append_right (map (object_piece m.types) m.objects) i))

  pub free-apart : (p q : Piece) → IsIn p m.layout.free → IsIn q m.layout.free → p.place < q.place
      → piece_end p ≤ q.place
  free-apart p q i j l =
      let g : IsGapped (piece_end p) q.place = pieces-apart p q (free-in-pieces p i) (free-in-pieces q j) l in
      omega arith
