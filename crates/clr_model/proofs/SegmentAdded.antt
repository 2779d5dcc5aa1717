-- A new empty segment above all that ever were: as a large one it keeps a machine lawful.
use Rattle.std.proofs.Common.{◌≡◌, ℕ, ◌+◌, ◌%◌, ◌<◌, ◌≤◌, List, [], ◌∷◌, ◌++◌, length, find}
use Rattle.std.proofs.Common.{refl, sym, ap, subst, ◌∙◌, arith, true, false, if◌then◌else◌, ◌&&◌, nat_le, nat_lt}
use Rattle.std.proofs.Common.{Option, Some, None, IsSome, IfSome}
use Rattle.std.specs.List.{AllByRecursion}
use Rattle.std.specs.Option.{option_or}
use Rattle.std.proofs.lemmas.Bool.{leb-true, lt-leb}
use Rattle.std.proofs.lemmas.List.{append-nil}
use Rattle.std.proofs.lemmas.List.Elements.{filter-append}
use Rattle.std.proofs.lemmas.List.Folds.{find-append}
use Rattle.std.proofs.lemmas.List.Sums.{sum_by_push}
use Rattle.clr_types.specs.Ranges.{Piece, piece_end, Tiles}
use Rattle.clr_types.specs.declared.segment.SegInfo.{SegInfo}
use Rattle.clr_types.specs.declared.segment.SegKind.{SegKind}
use Rattle.clr_types.specs.declared.segment.SegKind.TheVariants.{Small, Ephemeral, Large}
use Rattle.clr_types.specs.Segments.{Layout, first_place, reserved_end, same_kind, stands_in}
use Rattle.clr_types.specs.Segments.{opening_segment, segment_or_empty, segments_of, segment_of, ephemeral}
use Rattle.clr_types.specs.Segments.{reserved_sum, generation, rest_pieces, pieces_in}
use Rattle.clr_types.specs.LawfulLayout.{AreDisjoint, IsLawfulSegment, IsLawfulLayout, IsTiled, IsBoundedSegment}
use Rattle.clr_types.proofs.RisingLists.{all_at}
use Rattle.clr_types.proofs.TableRows.{AllByRecursion-push}
use Rattle.clr_types.proofs.ChangedLists.{all_members, all_imply}
use Rattle.clr_types.proofs.SegmentFacts.{ephemeral-in, lawful_segment}
use Rattle.clr_types.proofs.TilePieces.{IsTile}
use Rattle.clr_model.specs.Machine.{Machine}
use Rattle.clr_model.specs.Lookups.{pieces}
use Rattle.clr_model.specs.Allocation.{with_segment, segment_for, allows, with_layout}
use Rattle.clr_model.specs.Lawful.{IsLawful, IsLaid, Suits, SuitsItsSegment}
use Rattle.clr_model.proofs.LawfulPieces.{HasHome, piece-home, piece-tile, object-in-pieces}
use Rattle.clr_model.proofs.ContextChange.{relaid_lawful}

-- ---- lists of segments

-- a new one above all is apart from them
pub disjoint_added : (ss : List SegInfo) (new : SegInfo) → AreDisjoint ss
    → AllByRecursion (λ (s : SegInfo). reserved_end s ≤ new.base) ss → AreDisjoint (ss ++ new ∷ [])
disjoint_added [] new apart below = (tt, tt)
disjoint_added (s ∷ ss) new apart below = (
  AllByRecursion-push (λ (r : SegInfo). reserved_end s ≤ r.base) ss new apart.0 below.0,
  disjoint_added ss new apart.1 below.1,
)

-- a place that stands in a segment is found in it still
pub home_added : (ss : List SegInfo) (new : SegInfo) (place : ℕ) → IsSome (find (λ (s : SegInfo). stands_in s place) ss)
    → find (λ (s : SegInfo). stands_in s place) (ss ++ new ∷ []) ≡ find (λ (s : SegInfo). stands_in s place) ss
home_added ss new place there =
    find-append (λ (s : SegInfo). stands_in s place) ss (new ∷ [])
    ∙ before (find (λ (s : SegInfo). stands_in s place) ss) (find (λ (s : SegInfo). stands_in s place) (new ∷ [])) there
  where
    before : (r q : Option SegInfo) → IsSome r → option_or r q ≡ r
    before None q there = absurd cc
    before (Some s) q there = refl

-- pieces that all end below it don't stand in it
pub none_within : (new : SegInfo) (ps : List Piece)
    → AllByRecursion (λ (p : Piece). piece_end p < first_place new) ps → pieces_in new ps ≡ []
none_within new [] all = refl
none_within new (p ∷ ps) all =
    let outside : nat_le (first_place new) p.place ≡ false =
    let low = all.0 in lt-leb (first_place new) p.place (omega arith) in
    ap (λ b. if b && nat_lt p.place (reserved_end new) then p ∷ pieces_in new ps else pieces_in new ps) outside
    ∙ none_within new ps all.1

-- one is there still where there is one more
some_more : (ss ts : List SegInfo) → 0 < length ss → 0 < length (ss ++ ts)
some_more [] ts some = absurd (omega (arith, some))
some_more (s ∷ ss) ts some = omega arith

-- ---- a new segment

module _ (m : Machine) (h : IsLawful m) where
  layout_is : IsLawfulLayout m.layout
  layout_is = h.laid.layout

  -- no segment begins lower than the first
  lowest : 0x10000000 ≤ m.layout.top
  lowest =
      let s = ephemeral m.layout in
      let i = ephemeral-in m.layout layout_is in
      let low : 0x10000000 ≤ s.base = (lawful_segment m.layout layout_is s i).lowest in
      let high = all_at (λ (s : SegInfo). reserved_end s ≤ m.layout.top) i layout_is.below_top in
      omega arith

  -- each piece ends below what was reserved
  pub pieces_below : AllByRecursion (λ (p : Piece). piece_end p ≤ m.layout.top) (pieces m)
  pieces_below =
      all_members (λ (p : Piece). piece_end p ≤ m.layout.top) (pieces m)
      (λ p i.
      let k : HasHome m.layout p.place = piece-home m h.laid p i in
      let is : IsTile (first_place k.home) k.home.end p = piece-tile m h.laid p i k in
      let end : piece_end p ≤ k.home.end = is.high_end in
      let high : k.home.end ≤ reserved_end k.home = (lawful_segment m.layout layout_is k.home k.among).high in
      let top = all_at (λ (s : SegInfo). reserved_end s ≤ m.layout.top) k.among layout_is.below_top in
      omega arith)

  module _ (kind : SegKind) (size : ℕ) where
    abbrev opened : SegInfo
    opened = opening_segment m.layout.top kind size

    -- the new segment is lawful
    pub opened_lawful : 262144 ≤ size → size % 4096 ≡ 0 → IsLawfulSegment (opening_segment m.layout.top kind size)
    opened_lawful least wide =
        let top = layout_is.top_aligned in
        let low = lowest in
        record {
          base = top;
          lowest = low;
          reserved = wide;
          least = least;
          low = omega arith;
          high = omega arith;
          aligned = omega arith;
        }

    -- and empty
    pub opened_tiled : IsTiled (pieces m) (opening_segment m.layout.top kind size)
    opened_tiled =
        subst (Tiles (first_place opened) opened.end)
        (sym (none_within opened (pieces m)
        (all_imply (λ (p : Piece). piece_end p ≤ m.layout.top) (λ (p : Piece). piece_end p < first_place opened)
        (pieces m) (λ p l. omega arith) pieces_below))) refl

  -- ---- a large one

  module _ (size : ℕ) (least : 262144 ≤ size) (wide : size % 4096 ≡ 0) where
    abbrev new : SegInfo
    new = opening_segment m.layout.top Large size

    abbrev next : Layout
    next = with_segment m.layout Large size

    abbrev segments : List SegInfo
    segments = m.layout.segments

    -- the segments of another kind stay
    ephemerals-added : segments_of Ephemeral next ≡ segments_of Ephemeral m.layout
    ephemerals-added =
        filter-append (λ (s : SegInfo). same_kind Ephemeral s.kind) segments (new ∷ [])
        ∙ append-nil (segments_of Ephemeral m.layout)

    -- so do those of small objects
    smalls-added : segments_of Small next ≡ segments_of Small m.layout
    smalls-added =
        filter-append (λ (s : SegInfo). same_kind Small s.kind) segments (new ∷ [])
        ∙ append-nil (segments_of Small m.layout)

    -- and there is one large one more
    larges-added : segments_of Large next ≡ segments_of Large m.layout ++ new ∷ []
    larges-added = filter-append (λ (s : SegInfo). same_kind Large s.kind) segments (new ∷ [])

    -- the ephemeral segment is what it was
    ephemeral-added : ephemeral next ≡ ephemeral m.layout
    ephemeral-added = ap segment_or_empty ephemerals-added

    -- and each place has the generation that it had
    generation-added : (place : ℕ) → generation next place ≡ generation m.layout place
    generation-added place =
        ap (λ (u : SegInfo). if stands_in u place then
        (if nat_lt place m.layout.start1 then 2 else (if nat_lt place m.layout.start0 then 1 else 0)) else 2)
        ephemeral-added

    -- the layout is lawful
    added_layout : IsLawfulLayout next
    added_layout =
        let top = layout_is.top_aligned in
        let same = sym ephemeral-added in
        record {
          segments = AllByRecursion-push IsLawfulSegment segments new layout_is.segments
              (opened_lawful Large size least wide);
          bounded = AllByRecursion-push IsBoundedSegment segments new layout_is.bounded (λ small. absurd cc);
          disjoint = disjoint_added segments new layout_is.disjoint layout_is.below_top;
          below_top =
              AllByRecursion-push (λ (s : SegInfo). reserved_end s ≤ m.layout.top + size) segments new
              (all_imply (λ (s : SegInfo). reserved_end s ≤ m.layout.top)
              (λ (s : SegInfo). reserved_end s ≤ m.layout.top + size) segments (λ s l. omega arith) layout_is.below_top)
              (omega arith);
          top_aligned = omega arith;
          one_ephemeral = ap length ephemerals-added ∙ layout_is.one_ephemeral;
          ephemeral_last =
              subst (λ (u : SegInfo). AllByRecursion (λ (s : SegInfo). s.base ≤ u.base) (segments_of Small next)) same
              (subst (AllByRecursion (λ (s : SegInfo). s.base ≤ (ephemeral m.layout).base)) (sym smalls-added)
              layout_is.ephemeral_last);
          some_large = subst (λ (ss : List SegInfo). 0 < length ss) (sym larges-added)
              (some_more (segments_of Large m.layout) (new ∷ []) layout_is.some_large);
          start1_low = subst (λ (u : SegInfo). first_place u ≤ m.layout.start1) same layout_is.start1_low;
          start1_high = layout_is.start1_high;
          start0_high = subst (λ (u : SegInfo). m.layout.start0 ≤ u.end) same layout_is.start0_high;
          aligned = layout_is.aligned;
          free_rise = layout_is.free_rise;
          threads = layout_is.threads;
        }

    -- and filled by the pieces
    added_laid : IsLaid (with_layout m next)
    added_laid = record {
      layout = added_layout;
      housed =
          all_imply (λ (p : Piece). IsSome (segment_of m.layout p.place))
          (λ (p : Piece). IsSome (segment_of next p.place)) (pieces m)
          (λ p there. subst IsSome (sym (home_added segments new p.place there)) there) h.laid.housed;
      tiled = AllByRecursion-push (IsTiled (pieces m)) segments new h.laid.tiled (opened_tiled Large size);
      whole1 = h.laid.whole1;
      whole0 = h.laid.whole0;
    }

    -- each object suits the segment in which it stands
    suited-added : AllByRecursion (SuitsItsSegment (with_layout m next)) m.objects
    suited-added =
        all_members (SuitsItsSegment (with_layout m next)) m.objects
        (λ o i.
        let there = all_at (λ (p : Piece). IsSome (segment_of m.layout p.place)) (object-in-pieces m h.laid o i)
        h.laid.housed in
        subst (λ (r : Option SegInfo). IfSome r (λ s. Suits m o s.kind)) (sym (home_added segments new o.place there))
        (all_at (SuitsItsSegment m) i h.suited))

    -- Where the limit allows it, a machine with a new large segment is lawful.
    pub added_lawful : allows m size ≡ true → IsLawful (with_layout m (with_segment m.layout Large size))
    added_lawful allowed =
        let more = sum_by_push (λ (s : SegInfo). s.reserved) segments new in
        let within = leb-true (reserved_sum m.layout + size) m.options.limit allowed in
        relaid_lawful m next h added_laid
        (all_imply (λ (p : Piece). generation m.layout p.place ≡ 0) (λ (p : Piece). generation next p.place ≡ 0)
        (rest_pieces m.layout.rests) (λ p e. generation-added p.place ∙ e) h.rests_young)
        suited-added (omega arith) h.rooms (λ o i. let same = generation-added o.place in omega arith)

  -- ---- the one for a large object

  -- what is reserved for it is a lawful segment's
  segment_for-lawful : (size : ℕ) → (262144 ≤ segment_for m size) × (segment_for m size % 4096 ≡ 0)
  segment_for-lawful size =
      let least = h.options.segment_least in
      let wide = h.options.segment_aligned in
      (omega arith, omega arith)

  -- Where the limit allows it, a machine with a new large segment for an object is lawful.
  pub acquired_lawful : (size : ℕ) → allows m (segment_for m size) ≡ true
      → IsLawful (with_layout m (with_segment m.layout Large (segment_for m size)))
  acquired_lawful size allowed =
      let (least, wide) = segment_for-lawful size in added_lawful (segment_for m size) least wide allowed
