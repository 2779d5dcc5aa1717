-- A piece of a machine's memory that is cut in two: what the pieces fill, they still fill.
use Rattle.std.proofs.Common.{◌≡◌, ◌≢◌, ℕ, ◌+◌, ◌-◌, ◌<◌, ◌≤◌, ◌⊎◌, inl, inr, List, [], ◌∷◌, ◌++◌, map, refl, sym, ap}
use Rattle.std.proofs.Common.{subst, arith, Bool, true, false, if◌then◌else◌, ◌==◌, nat_le, IsSome, ne_eqb, eqb-true}
use Rattle.std.proofs.Common.{eq-eqb}
use Rattle.std.specs.List.{AllByRecursion}
use Rattle.std.proofs.lemmas.Bool.{leb-true, or_cases}
use Rattle.clr_types.specs.Rising.{IsIn, first, later, IsRisingBy}
use Rattle.clr_types.specs.Ranges.{Piece, piece_end, fits, range_piece, by_place, IsLawfulSize, Tiles}
use Rattle.clr_types.specs.Segments.{Layout, first_place, reserved_end, stands_in, segment_of, pieces_in, rest_pieces}
use Rattle.clr_types.specs.LawfulLayout.{IsTiled, DoesNotCross}
use Rattle.clr_types.specs.declared.segment.SegInfo.{SegInfo}
use Rattle.clr_types.proofs.RisingLists.{in_cons, all_at}
use Rattle.clr_types.proofs.SortedLists.{IsDistinctBy, rising_agree_by, sorted_by-rises, into_sorted_by}
use Rattle.clr_types.proofs.SortedLists.{out_of_sorted_by, same_by_key}
use Rattle.clr_types.proofs.ChangedLists.{all_members, into_filter, out_of_filter, append_left}
use Rattle.clr_types.proofs.ListMembers.{in_append, append_right, filter-rises, distinct_of_sorted, distinct_append}
use Rattle.clr_types.proofs.Tilings.{tiles-gap, tiles-rise}
use Rattle.clr_types.proofs.TilePieces.{IsTile, tile}
use Rattle.clr_types.proofs.PieceGaps.{IsGapped}
use Rattle.clr_types.proofs.Retiled.{refined, tiles-refined, out_of_refined, into_refined}
use Rattle.clr_types.proofs.Shuffles.{IsShuffled, shuffled-sym, shuffled-in, shuffled-distinct}
use Rattle.clr_types.proofs.SegmentFacts.{one_home, between-stands, lawful_segment, segment_of-home}
use Rattle.clr_model.specs.Machine.{Machine}
use Rattle.clr_model.specs.Lookups.{pieces, object_piece}
use Rattle.clr_model.specs.Lawful.{IsLaid}
use Rattle.clr_model.proofs.LawfulPieces.{HasHome, piece-home, piece-tile, pieces-apart, pieces-distinct, segment-tiled}
use Rattle.clr_model.proofs.RestLists.{in-range, range-distinct}

-- what fills memory, in no order
abbrev pub unsorted_pieces : Machine → List Piece
unsorted_pieces m = (map (object_piece m.types) m.objects ++ m.layout.free) ++ rest_pieces m.layout.rests

-- these pieces fill the segments of the layout, and cross no boundary
pub record FillSegments (layout : Layout) (ps : List Piece) : Type 0 where
  pub housed : AllByRecursion (λ (p : Piece). IsSome (segment_of layout p.place)) ps
  pub tiled : AllByRecursion (IsTiled ps) layout.segments
  pub whole1 : AllByRecursion (DoesNotCross layout.start1) ps
  pub whole0 : AllByRecursion (DoesNotCross layout.start0) ps

-- the front of a piece, and what is behind it
abbrev pub front_piece : Piece → ℕ → Piece
front_piece p size = record { place = p.place; size = size }

abbrev pub back_pieces : Piece → ℕ → List Piece
back_pieces p size = range_piece (p.place + size) (piece_end p)

-- a size fits where it fills the range or leaves 24 bytes at least
pub fits-is : (size bytes : ℕ) → fits size bytes ≡ true → (size ≡ bytes) ⊎ (size + 24 ≤ bytes)
fits-is size bytes e = elim (or_cases (size == bytes) (nat_le (size + 24) bytes) e) [
  | inl a
      ↦ inl (eqb-true size bytes a)
  | inr b ↦ inr (leb-true (size + 24) bytes b)
]

-- front and back fill the piece
pub halves-tile : (p : Piece) (size : ℕ) → IsLawfulSize p.size → IsLawfulSize size → fits size p.size ≡ true
    → Tiles p.place (piece_end p) (front_piece p size ∷ back_pieces p size)
halves-tile p size whole lawful room =
    (refl, lawful, tiles-gap (p.place + size) (piece_end p) (go (fits-is size p.size room)))
  where
    go : (size ≡ p.size) ⊎ (size + 24 ≤ p.size)
        → (p.place + size ≡ piece_end p)
        ⊎ ((p.place + size < piece_end p) × IsLawfulSize (piece_end p - (p.place + size)))
    go (inl e) = inl (ap (λ n. p.place + n) e)
    go (inr l) = let (a, b) = whole in let (c, d) = lawful in inr (omega arith, (omega arith, omega arith))

module _ (m : Machine) (h : IsLaid m) (p : Piece) (size : ℕ) (lawful : IsLawfulSize size)
    (room : fits size p.size ≡ true)
    (others after : List Piece) (was : IsShuffled (unsorted_pieces m) (p ∷ others))
    (now : IsShuffled after (front_piece p size ∷ (back_pieces p size ++ others)))
  where
    abbrev key : Piece → ℕ
    key q = q.place

    abbrev front : Piece
    front = front_piece p size

    abbrev back : List Piece
    back = back_pieces p size

    known : (q : Piece) → IsIn q (p ∷ others) → IsIn q (pieces m)
    known q i = into_sorted_by key q (unsorted_pieces m) (shuffled-in q (shuffled-sym was) i)

    here : IsIn p (pieces m)
    here = known p first

    one-of : (q : Piece) → IsIn q (pieces m) → (q ≡ p) ⊎ IsIn q others
    one-of q i = in_cons (shuffled-in q was (out_of_sorted_by key q (unsorted_pieces m) i))

    distinct_was : IsDistinctBy key (p ∷ others)
    distinct_was = shuffled-distinct key was (distinct_of_sorted key (unsorted_pieces m) (pieces-distinct m h))

    p-tile : (k : HasHome m.layout p.place) → IsTile (first_place k.home) k.home.end p
    p-tile k = piece-tile m h p here k

    back-is : (x : Piece) → IsIn x back
        → (x.place ≡ p.place + size) × (piece_end x ≡ piece_end p) × (p.place + size < piece_end p)
    back-is x i =
        let (l, e) = in-range (p.place + size) (piece_end p) x i in
        let a : x.place ≡ p.place + size = ap key e in
        let b : x.size ≡ piece_end p - (p.place + size) = ap (λ (q : Piece). q.size) e in
        (a, omega arith, l)

    -- all others lie apart from what is cut
    apart : (q : Piece) → IsIn q others → p.place < q.place → piece_end p ≤ q.place
    apart q i l = let g : IsGapped (piece_end p) q.place = pieces-apart m h p q here (known q (later i)) l in
        omega arith

    distinct_now : IsDistinctBy key (front ∷ (back ++ others))
    distinct_now =
        let (least, aligned) = lawful in (
          all_members (λ (q : Piece). p.place ≢ q.place) (back ++ others)
              (λ q i e. elim (in_append back i) [
                | inl j ↦ let (a, b, c) = back-is q j in omega arith
                | inr j ↦ all_at (λ (q : Piece). p.place ≢ q.place) j distinct_was.0 e
              ]),
          distinct_append key back others (range-distinct (p.place + size) (piece_end p)) distinct_was.1
              (λ x q i j e. let (a, b, c) = back-is x i in let d = apart q j (omega arith) in omega arith),
        )

    rise : IsRisingBy key (by_place after)
    rise = sorted_by-rises key after (shuffled-distinct key (shuffled-sym now) distinct_now)

    into : (x : Piece) → IsIn x (front ∷ (back ++ others)) → IsIn x (by_place after)
    into x i = into_sorted_by key x after (shuffled-in x (shuffled-sym now) i)

    out : (x : Piece) → IsIn x (by_place after) → (x ≡ front) ⊎ (IsIn x back ⊎ IsIn x others)
    out x i = elim (in_cons (shuffled-in x now (out_of_sorted_by key x after i))) [
      | inl e ↦ inl e
      | inr j
          ↦ inr (in_append back j)
    ]

    -- what holds of both halves and of all that was there holds of all
    all_now : (P : Piece → Type 0) → P front → ((x : Piece) → IsIn x back → P x) → AllByRecursion P (pieces m)
        → AllByRecursion P (by_place after)
    all_now P f b all = all_members P (by_place after) (λ x i. go x (out x i))
      where
        go : (x : Piece) → (x ≡ front) ⊎ (IsIn x back ⊎ IsIn x others) → P x
        go x (inl e) = subst P (sym e) f
        go x (inr (inl j)) = b x j
        go x (inr (inr j)) = all_at P (known x (later j)) all

    p-home : HasHome m.layout p.place
    p-home = piece-home m h p here

    -- what is behind the front stands in the same segment
    back-stands : (x : Piece) → IsIn x back → (k : HasHome m.layout p.place) → stands_in k.home x.place ≡ true
    back-stands x i k =
        let (a, b, c) = back-is x i in
        let t : IsTile (first_place k.home) k.home.end p = p-tile k in
        let end = t.high_end in
        let low : first_place k.home ≤ p.place = k.low in
        let high : k.home.end ≤ reserved_end k.home = (lawful_segment m.layout h.layout k.home k.among).high in
        between-stands k.home x.place (omega arith) (omega arith)

    home-is : (s : SegInfo) → IsIn s m.layout.segments → stands_in s p.place ≡ true → p-home.home ≡ s
    home-is s i e = one_home m.layout h.layout p-home.home s p.place p-home.among i p-home.stands e

    crossed : (boundary : ℕ) → DoesNotCross boundary p → (x : Piece) → p.place ≤ x.place → piece_end x ≤ piece_end p
        → DoesNotCross boundary x
    crossed boundary (inl l) x low high = inl (omega arith)
    crossed boundary (inr l) x low high = inr (omega arith)

    whole : (boundary : ℕ) → AllByRecursion (DoesNotCross boundary) (pieces m)
        → AllByRecursion (DoesNotCross boundary) (by_place after)
    whole boundary all =
        let there : DoesNotCross boundary p = all_at (DoesNotCross boundary) here all in
        all_now (DoesNotCross boundary)
        (crossed boundary there front (omega arith) (front-end (fits-is size p.size room)))
        (λ x i. let (a, b, c) = back-is x i in crossed boundary there x (omega arith) (omega arith)) all
      where
        front-end : (size ≡ p.size) ⊎ (size + 24 ≤ p.size) → p.place + size ≤ piece_end p
        front-end (inl e) = omega arith
        front-end (inr l) = omega arith

    -- ---- the tiling of one segment

    module _ (s : SegInfo) (among : IsIn s m.layout.segments) where
      abbrev old : List Piece
      old = pieces_in s (pieces m)

      abbrev parts_by : Bool → Piece → List Piece
      parts_by b q = if b then front ∷ back else q ∷ []

      abbrev parts : (q : Piece) → IsIn q old → List Piece
      parts q i = parts_by (q.place == p.place) q

      abbrev fine : List Piece
      fine = refined old parts

      was-old : (q : Piece) → IsIn q old → (stands_in s q.place ≡ true) × IsIn q (pieces m)
      was-old q i = out_of_filter (λ (p : Piece). stands_in s p.place) q (pieces m) i

      at-place : (q : Piece) → IsIn q old → q.place ≡ p.place → q ≡ p
      at-place q i e = same_by_key key (pieces m) q p (pieces-distinct m h) (was-old q i).1 here e

      old-tile : (q : Piece) → IsIn q old → IsTile (first_place s) s.end q
      old-tile q i = tile (first_place s) s.end old q (segment-tiled m h s among) i

      part-tiles : (q : Piece) (i : IsIn q old) (b : Bool) → (q.place == p.place) ≡ b
          → Tiles q.place (piece_end q) (parts_by b q)
      part-tiles q i true e =
          let same : q ≡ p = at-place q i (eqb-true q.place p.place e) in
          let sized : IsLawfulSize p.size = subst (λ (x : Piece). IsLawfulSize x.size) same (old-tile q i).size in
          subst (λ (x : Piece). Tiles x.place (piece_end x) (front ∷ back)) (sym same)
          (halves-tile p size sized lawful room)
      part-tiles q i false e = (refl, (old-tile q i).size, refl)

      fine-tiles : Tiles (first_place s) s.end fine
      fine-tiles = tiles-refined (first_place s) s.end old parts (segment-tiled m h s among)
          (λ q i. part-tiles q i (q.place == p.place) refl)

      into-old : stands_in s p.place ≡ true → IsIn p old
      into-old e = into_filter (λ (p : Piece). stands_in s p.place) (pieces m) e here

      into-halves : (x : Piece) → stands_in s p.place ≡ true → IsIn x (front ∷ back) → IsIn x fine
      into-halves x e i = into_refined old parts p (into-old e) x
          (subst (λ b. IsIn x (parts_by b p)) (sym (eq-eqb p.place p.place refl)) i)

      to-fine : (x : Piece) → stands_in s x.place ≡ true → (x ≡ front) ⊎ (IsIn x back ⊎ IsIn x others) → IsIn x fine
      to-fine x e (inl same) = into-halves x (subst (λ (q : Piece). stands_in s q.place ≡ true) same e)
          (subst (λ q. IsIn q (front ∷ back)) (sym same) first)
      to-fine x e (inr (inl j)) =
          let at : p-home.home ≡ s = one_home m.layout h.layout p-home.home s x.place p-home.among among
          (back-stands x j p-home) e in
          into-halves x (subst (λ (u : SegInfo). stands_in u p.place ≡ true) at p-home.stands) (later j)
      to-fine x e (inr (inr j)) =
          into_refined old parts x (into_filter (λ (p : Piece). stands_in s p.place) (pieces m) e (known x (later j))) x
          (subst (λ b. IsIn x (parts_by b x))
          (sym (ne_eqb x.place p.place (λ f. all_at (λ (q : Piece). p.place ≢ q.place) j distinct_was.0 (sym f))))
          first)

      half-in : (x : Piece) → stands_in s p.place ≡ true → (x ≡ front) ⊎ IsIn x back
          → IsIn x (pieces_in s (by_place after))
      half-in x e (inl same) = subst (λ q. IsIn q (pieces_in s (by_place after))) (sym same)
          (into_filter (λ (p : Piece). stands_in s p.place) (by_place after) e (into front first))
      half-in x e (inr j) =
          into_filter (λ (p : Piece). stands_in s p.place) (by_place after)
          (subst (λ (u : SegInfo). stands_in u x.place ≡ true) (home-is s among e) (back-stands x j p-home))
          (into x (later (append_left others j)))

      from-part : (x q : Piece) → IsIn q old → (b : Bool) → (q.place == p.place) ≡ b → IsIn x (parts_by b q)
          → IsIn x (pieces_in s (by_place after))
      from-part x q i true e j = half-in x
          (subst (λ n. stands_in s n ≡ true) (eqb-true q.place p.place e) (was-old q i).0) (in_cons j)
      from-part x q i false e j = alone (in_cons j) (one-of q (was-old q i).1)
        where
          alone : (x ≡ q) ⊎ IsIn x [] → (q ≡ p) ⊎ IsIn q others → IsIn x (pieces_in s (by_place after))
          alone (inr k) o = elim k [ ]
          alone (inl same) (inl at) = let hit : (q.place == p.place) ≡ true = eq-eqb q.place p.place (ap key at) in
              absurd cc
          alone (inl same) (inr o) =
              subst (λ y. IsIn y (pieces_in s (by_place after))) (sym same)
              (into_filter (λ (p : Piece). stands_in s p.place) (by_place after) (was-old q i).0
              (into q (later (append_right back o))))

      same : pieces_in s (by_place after) ≡ fine
      same =
          rising_agree_by key (pieces_in s (by_place after)) fine
          (filter-rises (λ (p : Piece). stands_in s p.place) key (by_place after) rise)
          (tiles-rise (first_place s) s.end fine fine-tiles)
          (λ x. (
            λ i. let (e, j) = out_of_filter (λ (p : Piece). stands_in s p.place) x (by_place after) i in
                to-fine x e (out x j),
            λ i. let (q, j, k) = out_of_refined old parts x i in from-part x q j (q.place == p.place) refl k,
          ))

      tiled-now : IsTiled (by_place after) s
      tiled-now = subst (Tiles (first_place s) s.end) (sym same) fine-tiles

    -- A piece of a lawful memory is cut in two: the pieces fill the same segments.
    pub split_fills : FillSegments m.layout (by_place after)
    split_fills = record {
      housed =
          all_now (λ (q : Piece). IsSome (segment_of m.layout q.place))
          (all_at (λ (q : Piece). IsSome (segment_of m.layout q.place)) here h.housed)
          (λ x i. subst IsSome (sym (segment_of-home m.layout h.layout p-home.home x.place p-home.among
          (back-stands x i p-home))) refl) h.housed;
      tiled = all_members (IsTiled (by_place after)) m.layout.segments tiled-now;
      whole1 = whole m.layout.start1 h.whole1;
      whole0 = whole m.layout.start0 h.whole0;
    }
