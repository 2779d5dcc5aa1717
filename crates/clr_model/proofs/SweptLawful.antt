-- A sweep of a lawful machine keeps the layout lawful.
use Rattle.std.proofs.Common.{◌≡◌, ℕ, ◌%◌, ◌<◌, ◌≤◌, inl, inr, List, [], ◌∷◌, ◌++◌, map, refl, sym, ap, subst, ◌∙◌}
use Rattle.std.proofs.Common.{arith, Bool, true, false, if◌then◌else◌, filter, ◌&&◌, ◌==◌, min}
use Rattle.std.proofs.lemmas.Bool.{and_parts, leb-true, eqb-true, eqb-false, eq-eqb, ne_eqb}
use Rattle.std.specs.List.{AllByRecursion, flat_map}
use Rattle.clr_types.specs.Rising.{IsIn, IsRisingBy}
use Rattle.clr_types.specs.Ranges.{Piece, piece_end, Tiles, gaps, by_place}
use Rattle.clr_types.proofs.RisingLists.{all_at}
use Rattle.clr_types.proofs.SortedLists.{sorted_by-rises, out_of_sorted_by}
use Rattle.clr_model.specs.Machine.{Object, Machine}
use Rattle.clr_model.specs.Lookups.{pieces, object_piece}
use Rattle.clr_model.specs.Sweep.{Survivor, survivor, survivors, survivor_piece, survivor_pieces, is_condemned}
use Rattle.clr_model.specs.Sweep.{part_start, Section, sections, pieces_between, swept_end, swept_free, base_at}
use Rattle.clr_types.specs.declared.segment.SegInfo.{SegInfo}
use Rattle.clr_types.specs.declared.segment.SegKind.TheVariants.{Ephemeral}
use Rattle.clr_types.specs.Segments.{first_place, stands_in, pieces_in, generation, ephemeral, same_kind}
use Rattle.clr_types.specs.LawfulLayout.{IsLawfulSegment, DoesNotCross}
use Rattle.clr_types.proofs.ListMembers.{from-map, filter-rises, distinct_map, distinct_filter}
use Rattle.clr_types.proofs.PieceGaps.{IsGapped}
use Rattle.clr_types.proofs.SegmentFacts.{AreSeparate, separate, lawful_segment}
use Rattle.clr_types.proofs.ChangedLists.{all_members, into_filter, out_of_filter}
use Rattle.clr_types.proofs.HighestSegment.{ephemeral-one}
use Rattle.clr_model.specs.Lawful.{IsLaid}
use Rattle.clr_model.proofs.LawfulPieces.{HasHome, piece-home, segment-tiled, places-distinct, object-in-pieces}
use Rattle.clr_types.proofs.TilePieces.{IsTile, tile}
use Rattle.clr_model.proofs.LawfulSurvivors.{above-start1, above-start0}
use Rattle.clr_model.proofs.SweptTiles.{AreKept, IsCut, AreCuts, chain, last_of, sections-tile, end-up, end-all}
use Rattle.clr_model.proofs.SweptTiles.{end-under}

-- a list whose images rise is mapped to a rising one
pub map-rises : {X Y : Type 0} (f : X → Y) (key : Y → ℕ) (xs : List X) → IsRisingBy (λ x. key (f x)) xs
    → IsRisingBy key (map f xs)
map-rises f key [] r = tt
map-rises f key (x ∷ xs) r = (all xs r.0, map-rises f key xs r.1)
  where
    all : (ys : List _) → AllByRecursion (λ y. key (f x) < key (f y)) ys
        → AllByRecursion (λ y. key (f x) < key y) (map f ys)
    all [] h = tt
    all (y ∷ ys) h = (h.0, all ys h.1)

module _ (m : Machine) (h : IsLaid m) (g : ℕ) (least : g ≤ 2) (keeps : ℕ
    → Bool) (s : SegInfo) (known : IsIn s m.layout.segments) where
  abbrev kept : List Survivor
  kept = survivors m g keeps

  abbrev qs : List Piece
  qs = survivor_pieces s kept

  abbrev ps : List Piece
  ps = pieces_in s (pieces m)

  abbrev start : ℕ
  start = part_start m.layout g s

  abbrev pub isCut : ℕ → Type 0
  isCut x = IsCut (first_place s) s.end ps x

  segment : IsLawfulSegment s
  segment = lawful_segment m.layout h.layout s known

  tiled : Tiles (first_place s) s.end ps
  tiled = segment-tiled m h s known

  is-eph : same_kind Ephemeral s.kind ≡ true → s ≡ ephemeral m.layout
  is-eph e = ephemeral-one m.layout h.layout s known e

  -- ---- the places that cut the segment

  pub first-cuts : isCut (first_place s)
  first-cuts =
      let b : s.base % 4096 ≡ 0 = segment.base in
      record {
        whole = all_members (DoesNotCross (first_place s)) ps
            (λ p i. let t : IsTile (first_place s) s.end p = tile (first_place s) s.end ps p tiled i in
            let l : IsGapped (first_place s) p.place = t.low_gap in inl (omega arith));
        low_end = omega arith;
        high_end = segment.low;
        aligned = omega arith;
      }

  pub end-cuts : isCut s.end
  end-cuts = record {
    whole = all_members (DoesNotCross s.end) ps
        (λ p i. inr (tile (first_place s) s.end ps p tiled i).high_end);
    low_end = segment.low;
    high_end = omega arith;
    aligned = segment.aligned;
  }

  part-of : (x : ℕ) → AllByRecursion (DoesNotCross x) (pieces m) → AllByRecursion (DoesNotCross x) ps
  part-of x w = all_members (DoesNotCross x) ps
      (λ p i. all_at (DoesNotCross x) (out_of_filter (λ (p : Piece). stands_in s p.place) p (pieces m) i).1 w)

  bounds : s ≡ ephemeral m.layout → (first_place s ≤ m.layout.start1) × (m.layout.start0 ≤ s.end)
  bounds e = (
    subst (λ (u : SegInfo). first_place u ≤ m.layout.start1) (sym e) h.layout.start1_low,
    subst
        (λ (u : SegInfo). m.layout.start0 ≤ u.end) (sym e) h.layout.start0_high,
  )

  pub start1-cuts : s ≡ ephemeral m.layout → isCut m.layout.start1
  start1-cuts e = let (a, b) = bounds e in let o = h.layout.start1_high in let (x, y) = h.layout.aligned in
      record { whole = part-of m.layout.start1 h.whole1; low_end = a; high_end = omega arith; aligned = x }

  pub start0-cuts : s ≡ ephemeral m.layout → isCut m.layout.start0
  start0-cuts e = let (a, b) = bounds e in let o = h.layout.start1_high in let (x, y) = h.layout.aligned in
      record { whole = part-of m.layout.start0 h.whole0; low_end = omega arith; high_end = b; aligned = y }

  -- ---- the sections

  -- the ends of the sections, by the segment and the generation
  abbrev highs : Bool → Bool → Bool → List ℕ
  highs eph zero_g one_g = if eph then
      (if zero_g then s.end ∷ [] else
      (if one_g then m.layout.start0 ∷ s.end ∷ [] else m.layout.start1 ∷ m.layout.start0 ∷ s.end ∷ [])) else s.end ∷ []

  abbrev low_of : Bool → Bool → Bool → ℕ
  low_of eph zero_g one_g = if eph then
      (if zero_g then m.layout.start0 else (if one_g then m.layout.start1 else first_place s)) else first_place s

  abbrev sections_by : Bool → Bool → Bool → List Section
  sections_by eph zero_g two_g =
      if eph
      then ((if two_g then record { low = first_place s; high = m.layout.start1 } ∷ [] else [])
      ++ (if zero_g then [] else record { low = m.layout.start1; high = m.layout.start0 } ∷ []))
      ++ (record { low = m.layout.start0; high = s.end } ∷ [])
      else record { low = first_place s; high = s.end } ∷ []

  same_sections : (eph zero_g one_g two_g : Bool) → (zero_g ≡ false → one_g ≡ false → two_g ≡ true)
      → (zero_g ≡ true → two_g ≡ false) → (one_g ≡ true → (zero_g ≡ false) × (two_g ≡ false))
      → sections_by eph zero_g two_g ≡ chain (low_of eph zero_g one_g) (highs eph zero_g one_g)
  same_sections false z o t a b c = refl
  same_sections true true o t a b c = ap (λ t. sections_by true true t) (b refl)
  same_sections true false true t a b c = ap (λ t. sections_by true false t) (c refl).1
  same_sections true false false t a b c = ap (λ t. sections_by true false t) (a refl refl)

  at_two : (g == 0) ≡ false → (g == 1) ≡ false → (g == 2) ≡ true
  at_two a b = eq-eqb g 2 (omega (arith, eqb-false g 0 a, eqb-false g 1 b))

  at_zero : (g == 0) ≡ true → (g == 2) ≡ false
  at_zero a = let z : g ≡ 0 = eqb-true g 0 a in ne_eqb g 2 (λ e. omega arith)

  at_one : (g == 1) ≡ true → ((g == 0) ≡ false) × ((g == 2) ≡ false)
  at_one a = let z : g ≡ 1 = eqb-true g 1 a in (ne_eqb g 0 (λ e. omega arith), ne_eqb g 2 (λ e. omega arith))

  sections-are : sections m.layout g s ≡ chain start (highs (same_kind Ephemeral s.kind) (g == 0) (g == 1))
  sections-are = same_sections (same_kind Ephemeral s.kind) (g == 0) (g == 1) (g == 2) at_two at_zero at_one

  pub start-cuts : isCut start
  start-cuts = go (same_kind Ephemeral s.kind) (g == 0) (g == 1) refl
    where
      go : (a b c : Bool) → same_kind Ephemeral s.kind ≡ a → isCut (low_of a b c)
      go false b c e = first-cuts
      go true true c e = start0-cuts (is-eph e)
      go true false true e = start1-cuts (is-eph e)
      go true false false e = first-cuts

  -- ---- what stays

  kept-rise : IsRisingBy (λ (k : Survivor). k.place) kept
  kept-rise =
      sorted_by-rises (λ (k : Survivor). k.place)
      (map (survivor m) (filter (λ (o : Object). is_condemned m g o && keeps o.name) m.objects))
      (distinct_map (survivor m) (λ (k : Survivor). k.place)
      (filter (λ (o : Object). is_condemned m g o && keeps o.name) m.objects)
      (distinct_filter (λ (o : Object). o.place) (λ (o : Object). is_condemned m g o && keeps o.name) m.objects
      (places-distinct m h)))

  pub record IsSwept (q : Piece) : Type 0 where
    pub object : Object
    pub present : IsIn object m.objects
    pub kept_on : keeps object.name ≡ true
    pub is : q ≡ object_piece m.types object
    pub age : generation m.layout object.place ≤ g
    pub among : IsIn q ps
    pub above : start ≤ q.place

  start-under : (place : ℕ) → first_place s ≤ place → generation m.layout place ≤ g → (a b c : Bool)
      → same_kind Ephemeral s.kind ≡ a → (g == 0) ≡ b → (g == 1) ≡ c → low_of a b c ≤ place
  start-under place l u false b c e f i = l
  start-under place l u true true c e f i = let z : g ≡ 0 = eqb-true g 0 f in let o = h.layout.start1_high in
      above-start0 m.layout place o (omega arith)
  start-under place l u true false true e f i = let z : g ≡ 1 = eqb-true g 1 i in
      above-start1 m.layout place (omega arith)
  start-under place l u true false false e f i = l

  pub swept-is : (q : Piece) → IsIn q qs → IsSwept q
  swept-is q i =
      let (k, e, j) = from-map survivor_piece q (filter (λ (k : Survivor). k.segment == s.base) kept) i in
      let (t, n) = out_of_filter (λ (k : Survivor). k.segment == s.base) k kept j in
      let (o, f, w) = from-map (survivor m) k (filter (λ (o : Object). is_condemned m g o && keeps o.name) m.objects)
      (out_of_sorted_by (λ (s : Survivor). s.place) k
      (map (survivor m) (filter (λ (o : Object). is_condemned m g o && keeps o.name) m.objects)) n) in
      let (c, present) = out_of_filter (λ (o : Object). is_condemned m g o && keeps o.name) o m.objects w in
      let l : generation m.layout o.place ≤ g =
      leb-true (generation m.layout o.place) g (and_parts (is_condemned m g o) (keeps o.name) c).0 in
      let is : q ≡ object_piece m.types o = e ∙ ap survivor_piece f in
      make o present (and_parts (is_condemned m g o) (keeps o.name) c).1 is l
      (piece-home m h (object_piece m.types o) (object-in-pieces m h o present))
      (sym (ap (λ (k : Survivor). k.segment) f) ∙ eqb-true k.segment s.base t)
    where
      make : (o : Object) → IsIn o m.objects → keeps o.name ≡ true → q ≡ object_piece m.types o
          → generation m.layout o.place ≤ g → (n : HasHome m.layout o.place)
          → base_at m.layout.segments o.place ≡ s.base → IsSwept q
      make o present stays is l n b =
          let same : n.home ≡ s = one (separate m.layout h.layout n.home s n.among known) (sym n.base ∙ b) in
          let stands : stands_in s o.place ≡ true = subst (λ (u : SegInfo). stands_in u o.place ≡ true) same n.stands in
          let low : first_place s ≤ o.place = subst (λ (u : SegInfo). first_place u ≤ o.place) same n.low in
          record {
            object = o;
            present = present;
            kept_on = stays;
            is = is;
            age = l;
            among = subst (λ (p : Piece). IsIn p ps) (sym is)
                (into_filter (λ (p : Piece). stands_in s p.place) (pieces m) stands (object-in-pieces m h o present));
            above = subst (λ (p : Piece). start ≤ p.place) (sym is)
                (start-under o.place low l (same_kind Ephemeral s.kind) (g == 0) (g == 1) refl refl refl);
          }
        where
          one : AreSeparate n.home s → n.home.base ≡ s.base → n.home ≡ s
          one (inl e) f = e
          one (inr (inl u)) f = let r : 262144 ≤ n.home.reserved =
              (lawful_segment m.layout h.layout n.home n.among).least in absurd (omega arith)
          one (inr (inr u)) f = let r : 262144 ≤ s.reserved = segment.least in absurd (omega arith)

  pub kept_are : AreKept (first_place s) s.end start ps qs
  kept_are = record {
    tiled = tiled;
    aligned = first-cuts.aligned;
    rise = map-rises survivor_piece (λ (p : Piece). p.place) (filter (λ (k : Survivor). k.segment == s.base) kept)
        (filter-rises (λ (k : Survivor). k.segment == s.base) (λ (k : Survivor). k.place) kept kept-rise);
    sub = λ q i. (swept-is q i).among;
    above = λ q i. (swept-is q i).above;
  }

  all-cuts : (a b c : Bool) → same_kind Ephemeral s.kind ≡ a
      → AreCuts (first_place s) s.end start ps qs kept_are start-cuts (low_of a b c) (highs a b c)
      × (last_of (low_of a b c) (highs a b c) ≡ s.end)
  all-cuts false b c e = ((first-cuts, segment.low, end-cuts), refl)
  all-cuts true true c e = let (x, y) = bounds (is-eph e) in ((start0-cuts (is-eph e), y, end-cuts), refl)
  all-cuts true false true e = let (x, y) = bounds (is-eph e) in
      ((start1-cuts (is-eph e), h.layout.start1_high, (start0-cuts (is-eph e), y, end-cuts)), refl)
  all-cuts true false false e = let (x, y) = bounds (is-eph e) in
      ((first-cuts, x, (start1-cuts (is-eph e), h.layout.start1_high, (start0-cuts (is-eph e), y, end-cuts))), refl)

  -- What a sweep keeps of a condemned part and its new free items tile the part up to its new end.
  pub sweep_tiles : Tiles start (swept_end m.layout g kept s) (by_place (qs ++ swept_free m.layout g kept s))
  sweep_tiles =
      let (cuts, top) = all-cuts (same_kind Ephemeral s.kind) (g == 0) (g == 1) refl in
      subst (λ ss. Tiles start (swept_end m.layout g kept s)
      (by_place (qs ++ flat_map (λ section. gaps section.low (min section.high (swept_end m.layout g kept s))
      (pieces_between section.low section.high qs)) ss))) (sym sections-are)
      (sections-tile (first_place s) s.end start ps qs kept_are start-cuts
      (highs (same_kind Ephemeral s.kind) (g == 0) (g == 1)) cuts top)

  -- the new end is between the start of the part and the old end, and no kept piece ends above it
  pub sweep_end : (start ≤ swept_end m.layout g kept s) × (swept_end m.layout g kept s ≤ s.end)
  sweep_end = (
    end-up (first_place s) s.end start ps qs kept_are start-cuts,
    end-under
        (first_place s) s.end start ps qs kept_are start-cuts,
  )

  pub sweep_below : (q : Piece) → IsIn q qs → piece_end q ≤ swept_end m.layout g kept s
  sweep_below = end-all (first_place s) s.end start ps qs kept_are start-cuts
