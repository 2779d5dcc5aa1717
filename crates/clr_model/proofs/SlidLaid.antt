-- A slide of the large heap leaves the memory as lawful.
use Rattle.std.proofs.Common.{◌≡◌, ℕ, ◌+◌, ◌-◌, ◌%◌, ◌<◌, ◌≤◌, ◌⊎◌, inl, inr, List, [], ◌∷◌, ◌++◌, map, refl, sym, ap}
use Rattle.std.proofs.Common.{subst}
use Rattle.std.proofs.Common.{◌∙◌, arith, Bool, true, false, if◌then◌else◌, filter, ◌&&◌, not, nat_le, nat_lt, ◌==◌}
use Rattle.std.proofs.lemmas.Bool.{and_parts, and_from, and_left, le-leb, both_ways, cases_Bool}
use Rattle.std.specs.List.{flat_map, list_any}
use Rattle.clr_types.specs.Rising.{IsIn}
use Rattle.clr_types.specs.Ranges.{Piece, Tiles, by_place}
use Rattle.clr_types.specs.declared.segment.SegKind.TheVariants.{Ephemeral, Large}
use Rattle.clr_types.specs.declared.segment.SegInfo.{SegInfo}
use Rattle.clr_types.specs.Segments.{Layout, first_place, reserved_end, stands_in, pieces_in, same_kind, ephemeral}
use Rattle.clr_types.specs.Segments.{rest_pieces, generation}
use Rattle.clr_types.specs.LawfulLayout.{IsLawfulLayout, IsLawfulSegment, DoesNotCross}
use Rattle.clr_types.proofs.RisingLists.{all_at}
use Rattle.clr_types.proofs.ChangedLists.{all_members, into_filter, out_of_filter, IsIn-map}
use Rattle.clr_types.proofs.SortedLists.{IsDistinctBy}
use Rattle.clr_types.proofs.ListMembers.{from-map, any-from, any-in, map-on, distinct_map, distinct-by}
use Rattle.clr_types.proofs.TilePieces.{IsTile, tile}
use Rattle.clr_types.proofs.SegmentFacts.{one_home, stands-between, between-stands, lawful_segment, ephemeral-kind}
use Rattle.clr_types.proofs.SegmentFacts.{ephemeral-in, separate, AreSeparate}
use Rattle.clr_model.specs.Machine.{Machine, Object}
use Rattle.clr_model.specs.Lookups.{pieces, object_piece, object_size}
use Rattle.clr_model.specs.Lawful.{IsLaid}
use Rattle.clr_model.specs.Sweep.{part_start, has_condemned_part, is_in_part}
use Rattle.clr_model.specs.Compaction.{Move, moved_by, moved_pieces, survivors_in}
use Rattle.clr_model.specs.Collection.{object_after, objects_after}
use Rattle.clr_model.specs.Slide.{large_segments, large_plugs, slid_end, slid_free, slid_layout, IsLargeSlid}
use Rattle.clr_model.specs.Slide.{slid_object, all_survivors}
use Rattle.clr_model.proofs.LawfulPieces.{HasHome, piece-home, object-in-pieces, places-distinct}
use Rattle.clr_model.proofs.AfterLayout.{layout_after, ephemeral_after}
use Rattle.clr_model.proofs.CollectedFree.{after-is, from_part, into_parts}
use Rattle.clr_model.proofs.YoungMachine.{after-in}
use Rattle.clr_model.proofs.CollectedLayout.{ephemeral-other, large-either, large-not_ephemeral}
use Rattle.clr_model.proofs.CollectedPieces.{part_refilled, untouched}
use Rattle.clr_model.proofs.Relaid.{WasSegment, IsRefilled, piece-is, free-in-pieces, relaid, homes, segment_tiled}
use Rattle.clr_model.proofs.Refill.{IsRefill}
use Rattle.clr_model.proofs.MovedPlaces.{moved-is, moves-apart}
use Rattle.clr_model.proofs.Landings.{AreLandings, Covers, LandsAmong, lands_where, is_covered, covered_by}
use Rattle.clr_model.proofs.Landings.{IsCoveredBy}
use Rattle.clr_model.proofs.LandedParts.{landed_refill}
use Rattle.clr_model.proofs.LargeSurvivors.{all-take, large-is, is-large, IsLargePlug, large_plug-is, is_large-survivor}
use Rattle.clr_model.proofs.LargeSurvivors.{large-old}
use Rattle.clr_model.proofs.SlidPlugs.{slid_landings, slid_tiles, slid_end-in}

-- ---- objects of which none goes

all-in : {X : Type 0} (xs : List X) → filter (λ x. true) xs ≡ xs
all-in [] = refl
all-in (x ∷ xs) = ap (λ ys. x ∷ ys) (all-in xs)

-- where all stay, and all are alive, objects change their places alone
pub all_stay : (m : Machine) (moves : List Move)
    → objects_after m (λ name. true) (λ name. true) moves ≡ map (slid_object moves) m.objects
all_stay m moves =
    ap (map (object_after m (λ name. true) moves)) (all-in m.objects)
    ∙ map-on (object_after m (λ name. true) moves) (slid_object moves) m.objects (λ o i. same o)
  where
    flag : (a b : Bool) → (a && not (b && false)) ≡ a
    flag true true = refl
    flag true false = refl
    flag false b = refl

    same : (o : Object) → object_after m (λ name. true) moves o ≡ slid_object moves o
    same o = ap (λ b. record o { place = moved_by moves o.place; suppressed = b })
        (flag o.suppressed (list_any (λ e. e == o.name) m.entries))

module _ (m : Machine) (h : IsLaid m) (moves : List Move) (new : Layout)
    (c : IsLargeSlid m.layout (all_survivors m) moves new) where
  abbrev all : ℕ → Bool
  all = λ name. true

  abbrev parts : List SegInfo
  parts = large_segments m.layout

  abbrev objects : List Object
  objects = objects_after m all all moves

  abbrev pub change : SegInfo → SegInfo
  change s = if same_kind Large s.kind && has_condemned_part 2 s then record s { end = slid_end moves s } else s

  pub landings : AreLandings m (λ name. true) (large_segments m.layout) first_place
      (survivors_in (same_kind Large) m.layout (all_survivors m)) (large_plugs m.layout (all_survivors m)) moves
  landings = slid_landings m h all moves new c

  -- ---- the layout

  start-at : (layout : Layout) (s : SegInfo) → same_kind Large s.kind ≡ true → part_start layout 2 s ≡ first_place s
  start-at layout s kind =
      ap (λ b. if b then first_place s else first_place s) (large-not_ephemeral s.kind (large-either s.kind kind))

  tiles : (s : SegInfo) → IsIn s parts → Tiles (part_start m.layout 2 s) (slid_end moves s)
      (by_place (pieces_in s (moved_pieces moves) ++ slid_free moves s))
  tiles s i = subst (λ n. Tiles n (slid_end moves s) (by_place (pieces_in s (moved_pieces moves) ++ slid_free moves s)))
      (sym (start-at m.layout s (large-is m h s i).0)) (slid_tiles m h all moves new c s i)

  low : (s : SegInfo) → IsIn s parts
      → (first_place s ≤ part_start m.layout 2 s) × (part_start m.layout 2 s % 8 ≡ 0)
  low s i =
      let e : part_start m.layout 2 s ≡ first_place s = start-at m.layout s (large-is m h s i).0 in
      let b : s.base % 4096 ≡ 0 = (lawful_segment m.layout h.layout s (large-is m h s i).1).base in
      (omega arith, omega arith)

  not_large : (same_kind Large (ephemeral m.layout).kind && has_condemned_part 2 (ephemeral m.layout)) ≡ false
  not_large = ap (λ b. b && has_condemned_part 2 (ephemeral m.layout))
      (ephemeral-other (ephemeral m.layout).kind (ephemeral-kind m.layout h.layout))

  abbrev slid : Layout
  slid = slid_layout m.layout moves

  slid_lawful : IsLawfulLayout slid
  slid_lawful =
      layout_after m.layout h.layout (same_kind Large) 2 (slid_end moves)
      (λ s. pieces_in s (moved_pieces moves)) (slid_free moves) tiles
      (λ s i. (slid_end-in m h all moves new c s i).1) low slid refl refl refl refl
      h.layout.start1_low h.layout.start1_high
      (subst (λ b. m.layout.start0 ≤
      (if b then record (ephemeral m.layout) { end = slid_end moves (ephemeral m.layout) }
      else ephemeral m.layout).end) (sym not_large) h.layout.start0_high)
      h.layout.aligned

  -- The layout that a slide leaves is lawful.
  pub layout_slid : IsLawfulLayout new
  layout_slid = subst IsLawfulLayout (sym c.laid) slid_lawful

  -- the ephemeral segment, and with it the generations, stay
  pub ephemeral_stays : ephemeral slid ≡ ephemeral m.layout
  ephemeral_stays =
      ephemeral_after m.layout h.layout (same_kind Large) 2 (slid_end moves)
      (λ s. pieces_in s (moved_pieces moves)) (slid_free moves) tiles
      (λ s i. (slid_end-in m h all moves new c s i).1) low slid refl
      ∙ ap (λ b. if b then record (ephemeral m.layout) { end = slid_end moves (ephemeral m.layout) }
      else ephemeral m.layout) not_large

  -- ---- where objects go

  -- an object that moves stood in a large segment, and goes to one
  pub record GoesAmongLarge (o : Object) : Type 0 where
    pub from : SegInfo
    pub from_large : IsIn from (large_segments m.layout)
    pub from_stands : stands_in from o.place ≡ true
    pub into : SegInfo
    pub into_large : IsIn into (large_segments m.layout)
    pub into_stands : stands_in into (moved_by moves o.place) ≡ true

  pub still_or_large : (o : Object) → IsIn o m.objects → (moved_by moves o.place ≡ o.place) ⊎ GoesAmongLarge o
  still_or_large o i = go (moved-is moves o.place)
    where
      go : ((v : Move) × IsIn v moves × Covers v o.place × (moved_by moves o.place ≡ v.to + (o.place - v.start)))
          ⊎ (((v : Move) → IsIn v moves → Covers v o.place → ⊥) × (moved_by moves o.place ≡ o.place))
          → (moved_by moves o.place ≡ o.place) ⊎ GoesAmongLarge o
      go (inr (none, e)) = inl e
      go (inl (v, j, cover, e)) =
          let (t, among, lands, stands, above) =
          lands_where m h all parts first_place _ _ moves landings v j o.place cover in
          let is : IsCoveredBy m h all _ _ moves landings.going o v =
          covered_by m h all _ _ moves landings.going o i v j cover in
          let p : IsLargePlug m h all is.plug = large_plug-is m h all is.plug is.among in
          let s : v.start ≡ is.plug.start = is.of.start in let z : v.size ≡ is.plug.size = is.of.size in
          let (a, b) = cover in
          let g = p.gap in let k = p.high in
          inr (record {
            from = p.home;
            from_large = p.among;
            from_stands = between-stands p.home o.place (omega arith) (omega arith);
            into = t;
            into_large = among;
            into_stands = stands;
          })

  -- what stands in another segment stays, and nothing goes there
  pub other_still : (s : SegInfo) → IsIn s m.layout.segments → same_kind Large s.kind ≡ false → (o : Object)
      → IsIn o m.objects → (stands_in s o.place ≡ true) ⊎ (stands_in s (moved_by moves o.place) ≡ true)
      → moved_by moves o.place ≡ o.place
  other_still s known kind o i at = elim (still_or_large o i) [ inl e ↦ e | inr g ↦ absurd (by g at) ]
    where
      other : (x : ℕ) → stands_in s x ≡ true → (t : SegInfo) → IsIn t parts → stands_in t x ≡ true → ⊥
      other x stands t k stands_t =
          let (large, t_known) = large-is m h t k in
          both_ways (same_kind Large s.kind) kind (subst (λ (u : SegInfo). same_kind Large u.kind ≡ true)
          (one_home m.layout h.layout t s x t_known known stands_t stands) large)

      by : GoesAmongLarge o → (stands_in s o.place ≡ true) ⊎ (stands_in s (moved_by moves o.place) ≡ true) → ⊥
      by g (inl stands) = other o.place stands g.from g.from_large g.from_stands
      by g (inr stands) = other (moved_by moves o.place) stands g.into g.into_large g.into_stands

  -- ---- generations

  same-age : (place : ℕ) → generation slid place ≡ generation m.layout place
  same-age place = ap (λ (s : SegInfo). if stands_in s place
      then (if nat_lt place m.layout.start1 then 2 else (if nat_lt place m.layout.start0 then 1 else 0)) else 2)
      ephemeral_stays

  -- no object changes its generation
  pub age_stays : (q : Object) → IsIn q m.objects
      → generation (slid_layout m.layout moves) (moved_by moves q.place) ≡ generation m.layout q.place
  age_stays q i = elim (still_or_large q i) [
    | inl e ↦ same-age (moved_by moves q.place) ∙ ap (generation m.layout) e
    | inr g ↦
        same-age (moved_by moves q.place) ∙ large-old m h g.into g.into_large (moved_by moves q.place) g.into_stands
        ∙ sym (large-old m h g.from g.from_large q.place g.from_stands)
  ]

  -- ---- free items

  in-large_part : (f : Piece) → is_in_part (same_kind Large) m.layout 2 f ≡ true → (s : SegInfo)
      → IsIn s m.layout.segments → stands_in s f.place ≡ true → same_kind Large s.kind ≡ true
  in-large_part f e s known stands =
      let (t, i, a) = any-in (λ (s : SegInfo). same_kind Large s.kind &&
      (has_condemned_part 2 s && (stands_in s f.place && nat_le (part_start m.layout 2 s) f.place)))
      m.layout.segments e in
      let (kind, b) = and_parts (same_kind Large t.kind)
      (has_condemned_part 2 t && (stands_in t f.place && nat_le (part_start m.layout 2 t) f.place)) a in
      let (part, d) = and_parts (has_condemned_part 2 t)
      (stands_in t f.place && nat_le (part_start m.layout 2 t) f.place) b in
      let (stands_t, above) = and_parts (stands_in t f.place) (nat_le (part_start m.layout 2 t) f.place) d in
      subst (λ (u : SegInfo). same_kind Large u.kind ≡ true)
      (one_home m.layout h.layout t s f.place i known stands_t stands) kind

  into-large_part : (f : Piece) (s : SegInfo) → IsIn s m.layout.segments → stands_in s f.place ≡ true
      → same_kind Large s.kind ≡ true → is_in_part (same_kind Large) m.layout 2 f ≡ true
  into-large_part f s known stands kind =
      let (lo, hi) = stands-between s f.place stands in
      let from = start-at m.layout s kind in
      any-from (λ (s : SegInfo). same_kind Large s.kind &&
      (has_condemned_part 2 s && (stands_in s f.place && nat_le (part_start m.layout 2 s) f.place)))
      m.layout.segments s known
      (and_from (same_kind Large s.kind)
      (has_condemned_part 2 s && (stands_in s f.place && nat_le (part_start m.layout 2 s) f.place)) kind
      (and_from (has_condemned_part 2 s) (stands_in s f.place && nat_le (part_start m.layout 2 s) f.place) (all-take s)
      (and_from (stands_in s f.place) (nat_le (part_start m.layout 2 s) f.place) stands
      (le-leb (part_start m.layout 2 s) f.place (omega arith)))))

  -- a new free item stands in its segment
  fresh_stands : (s : SegInfo) → IsIn s parts → (f : Piece) → IsIn f (slid_free moves s) → stands_in s f.place ≡ true
  fresh_stands s i f j =
      let r : IsRefill m all moves s (first_place s) (slid_end moves s) (slid_free moves s) = refill s i in
      let is : IsTile (first_place s) (slid_end moves s) f =
      tile (first_place s) (slid_end moves s) r.more f r.tiled (r.fresh_more f j) in
      let (z, y) = is.size in let g = is.low_gap in let e = is.high_end in let top = r.high in
      between-stands s f.place (omega arith) (omega arith)
    where
      refill : (s : SegInfo) → IsIn s parts → IsRefill m all moves s (first_place s) (slid_end moves s)
          (slid_free moves s)
      refill s i = landed_refill m h all parts first_place _ _ moves landings s i (slid_end moves s)
          (slid_free moves s) (slid_tiles m h all moves new c s i) (slid_end-in m h all moves new c s i).1

  free_is : (f : Piece) → IsIn f slid.free
      → ((is_in_part (same_kind Large) m.layout 2 f ≡ false) × IsIn f m.layout.free)
      ⊎ ((s : SegInfo) × IsIn s parts × IsIn f (slid_free moves s))
  free_is f i = elim (after-is (same_kind Large) m.layout 2 (flat_map (slid_free moves) parts) f i) [
    | inl k ↦ inl k
    | inr k ↦ inr (from_part (slid_free moves) parts f k)
  ]

  -- in other segments free items stay
  pub other_free : (s : SegInfo) → IsIn s m.layout.segments → same_kind Large s.kind ≡ false → (f : Piece)
      → stands_in s f.place ≡ true → IsIn f slid.free → IsIn f m.layout.free
  other_free s known kind f stands i = elim (free_is f i) [
    | inl (away, j) ↦ j
    | inr (t, j, k) ↦
        let (large, t_known) = large-is m h t j in
        absurd (both_ways (same_kind Large s.kind) kind (subst (λ (u : SegInfo). same_kind Large u.kind ≡ true)
        (one_home m.layout h.layout t s f.place t_known known (fresh_stands t j f k) stands) large))
  ]

  other_stays : (s : SegInfo) → IsIn s m.layout.segments → same_kind Large s.kind ≡ false → (f : Piece)
      → stands_in s f.place ≡ true → IsIn f m.layout.free → IsIn f slid.free
  other_stays s known kind f stands i =
      after-in (same_kind Large) m.layout 2 (flat_map (slid_free moves) parts) f
      (inl (away (cases_Bool (is_in_part (same_kind Large) m.layout 2 f)), i))
    where
      away : (is_in_part (same_kind Large) m.layout 2 f ≡ true) ⊎ (is_in_part (same_kind Large) m.layout 2 f ≡ false)
          → is_in_part (same_kind Large) m.layout 2 f ≡ false
      away (inl e) = absurd (both_ways (same_kind Large s.kind) kind (in-large_part f e s known stands))
      away (inr e) = e

  -- in a large segment they are those that the slide leaves
  pub large_free : (s : SegInfo) → IsIn s m.layout.segments → same_kind Large s.kind ≡ true → (f : Piece)
      → stands_in s f.place ≡ true → IsIn f slid.free → IsIn f (slid_free moves s)
  large_free s known kind f stands i = elim (free_is f i) [
    | inl (away, j) ↦ absurd (both_ways (is_in_part (same_kind Large) m.layout 2 f) away
        (into-large_part f s known stands kind))
    | inr (t, j, k) ↦
        subst (λ (u : SegInfo). IsIn f (slid_free moves u))
        (one_home m.layout h.layout t s f.place (large-is m h t j).1 known (fresh_stands t j f k) stands) k
  ]

  -- ---- each segment is filled

  module _ (bare : rest_pieces m.layout.rests ≡ []) where
    large_filled : (s : SegInfo) → IsIn s m.layout.segments → same_kind Large s.kind ≡ true
        → IsRefilled m s (slid_end moves s) objects slid.free
    large_filled s known kind =
        let among : IsIn s parts = is-large m h s known kind in
        let lo : first_place s ≤ s.end = (lawful_segment m.layout h.layout s known).low in
        part_refilled m h bare all all moves slid.free s (first_place s) (slid_end moves s) (slid_free moves s)
        (landed_refill m h all parts first_place _ _ moves landings s among (slid_end moves s) (slid_free moves s)
        (slid_tiles m h all moves new c s among) (slid_end-in m h all moves new c s among).1)
        (omega arith) lo
        (all_members (DoesNotCross (first_place s)) (pieces_in s (pieces m))
        (λ x i. let (e, j) = out_of_filter (λ (p : Piece). stands_in s p.place) x (pieces m) i in
        inl (stands-between s x.place e).0))
        (λ o i stands l. let (a, b) = stands-between s o.place stands in absurd (omega arith))
        (λ f i stands l. let (a, b) = stands-between s f.place stands in absurd (omega arith))
        (λ f i. after-in (same_kind Large) m.layout 2 (flat_map (slid_free moves) parts) f
        (inr (into_parts (slid_free moves) s f parts among i)))
        (λ f i stands. inr (large_free s known kind f stands i))

    other_filled : (s : SegInfo) → IsIn s m.layout.segments → same_kind Large s.kind ≡ false
        → IsRefilled m s s.end objects slid.free
    other_filled s known kind =
        let is : IsLawfulSegment s = lawful_segment m.layout h.layout s known in
        untouched m h bare all all moves slid.free s known is.high is.low
        (λ o i stands. (refl, other_still s known kind o i (inl stands)))
        (λ o i stays stands. other_still s known kind o i (inr stands))
        (λ f i stands. other_stays s known kind f stands i)
        (λ f i stands. other_free s known kind f stands i)

    abbrev WasFilled : SegInfo → Type 0
    WasFilled t = WasSegment m t objects slid.free

    filled : (s : SegInfo) → IsIn s m.layout.segments → WasFilled (change s)
    filled s known = go (cases_Bool (same_kind Large s.kind))
      where
        go : (same_kind Large s.kind ≡ true) ⊎ (same_kind Large s.kind ≡ false) → WasFilled (change s)
        go (inl kind) =
            subst (λ b. WasFilled (if b then record s { end = slid_end moves s } else s))
            (sym (and_from (same_kind Large s.kind) (has_condemned_part 2 s) kind (all-take s)))
            (record {
              old = s;
              among = known;
              base = refl;
              reserved = refl;
              kind = refl;
              refilled = large_filled s known kind;
            })
        go (inr kind) =
            subst (λ b. WasFilled (if b then record s { end = slid_end moves s } else s))
            (sym (and_left (same_kind Large s.kind) (has_condemned_part 2 s) kind))
            (record {
              old = s;
              among = known;
              base = refl;
              reserved = refl;
              kind = refl;
              refilled = other_filled s known kind;
            })

    was : (t : SegInfo) → IsIn t slid.segments → WasSegment m t objects slid.free
    was t i = let (s, e, j) = from-map change t m.layout.segments i in subst WasFilled (sym e) (filled s j)

    -- a place stands in the changed segment just where it stood in the old one
    pub same-stands : (s : SegInfo) (x : ℕ) → stands_in (change s) x ≡ stands_in s x
    same-stands s x = go (same_kind Large s.kind && has_condemned_part 2 s)
      where
        go : (b : Bool) → stands_in (if b then record s { end = slid_end moves s } else s) x ≡ stands_in s x
        go true = refl
        go false = refl

    new_home : (s : SegInfo) → IsIn s m.layout.segments → (x : ℕ) → stands_in s x ≡ true
        → (t : SegInfo) × IsIn t slid.segments × (stands_in t x ≡ true)
    new_home s known x stands = (change s, IsIn-map change known, same-stands s x ∙ stands)

    object-from : (o : Object) → IsIn o objects
        → (q : Object) × IsIn q m.objects × (o ≡ slid_object moves q)
    object-from o i = let (q, e, j) =
        from-map (slid_object moves) o m.objects (subst (IsIn o) (all_stay m moves) i) in (q, j, e)

    landed : (q : Object) → IsIn q m.objects
        → (s : SegInfo) × IsIn s m.layout.segments × (stands_in s (moved_by moves q.place) ≡ true)
    landed q i = elim (still_or_large q i) [
      | inl e ↦
          let n : HasHome m.layout q.place = piece-home m h (object_piece m.types q) (object-in-pieces m h q i) in
          (n.home, n.among, subst (λ x. stands_in n.home x ≡ true) (sym e) n.stands)
      | inr g ↦ (g.into, (large-is m h g.into g.into_large).1, g.into_stands)
    ]

    object_home : (o : Object) → IsIn o objects → (t : SegInfo) × IsIn t slid.segments × (stands_in t o.place ≡ true)
    object_home o i =
        let (q, j, e) = object-from o i in
        let (s, known, stands) = landed q j in
        new_home s known o.place (subst (λ (w : Object). stands_in s w.place ≡ true) (sym e) stands)

    free_home : (f : Piece) → IsIn f slid.free → (t : SegInfo) × IsIn t slid.segments × (stands_in t f.place ≡ true)
    free_home f i = elim (free_is f i) [
      | inl (away, j) ↦
          let n : HasHome m.layout f.place = piece-home m h f (free-in-pieces m f j) in
          new_home n.home n.among f.place n.stands
      | inr (s, j, k) ↦ new_home s (large-is m h s j).1 f.place (fresh_stands s j f k)
    ]

    -- ---- places of their own

    injective : (a b : Object) → IsIn a m.objects → IsIn b m.objects
        → moved_by moves a.place ≡ moved_by moves b.place → a.place ≡ b.place
    injective a b i j e = go (moved-is moves a.place) (moved-is moves b.place)
      where
        -- an object that no move covers doesn't stand where a move lands
        apart : (v : Move) → IsIn v moves → (o : Object) → IsIn o m.objects
            → ((w : Move) → IsIn w moves → Covers w o.place → ⊥) → v.to ≤ o.place → o.place < v.to + v.size → ⊥
        apart v k o n none lo hi =
            let to : LandsAmong parts first_place v = landings.lands v k in
            let a = to.low in let b = to.high in
            is_covered m h all parts first_place _ _ moves landings o
            (is_large-survivor m h all o n refl to.segment to.among
            (between-stands to.segment o.place (omega arith) (omega arith))) none

        two : (v w : Move) → Covers v a.place → Covers w b.place
            → v.to + (a.place - v.start) ≡ w.to + (b.place - w.start)
            → (v ≡ w) ⊎ ((v.to + v.size ≤ w.to) ⊎ (w.to + w.size ≤ v.to)) → a.place ≡ b.place
        two v w (p0, p1) (q0, q1) f (inl same) =
            let s : v.start ≡ w.start = ap (λ (u : Move). u.start) same in
            let t : v.to ≡ w.to = ap (λ (u : Move). u.to) same in omega arith
        two v w (p0, p1) (q0, q1) f (inr (inl l)) = absurd (omega arith)
        two v w (p0, p1) (q0, q1) f (inr (inr l)) = absurd (omega arith)

        go : ((v : Move) × IsIn v moves × Covers v a.place × (moved_by moves a.place ≡ v.to + (a.place - v.start)))
            ⊎ (((v : Move) → IsIn v moves → Covers v a.place → ⊥) × (moved_by moves a.place ≡ a.place))
            → ((v : Move) × IsIn v moves × Covers v b.place × (moved_by moves b.place ≡ v.to + (b.place - v.start)))
            ⊎ (((v : Move) → IsIn v moves → Covers v b.place → ⊥) × (moved_by moves b.place ≡ b.place))
            → a.place ≡ b.place
        go (inl (v, x, p, f)) (inl (w, y, q, k)) =
            two v w p q (sym f ∙ e ∙ k) (moves-apart moves v w landings.scattered x y)
        go (inl (v, x, (p0, p1), f)) (inr (none, k)) =
            let r : v.to + (a.place - v.start) ≡ b.place = sym f ∙ e ∙ k in
            absurd (apart v x b j none (omega arith) (omega arith))
        go (inr (none, k)) (inl (w, y, (p0, p1), f)) =
            let r : w.to + (b.place - w.start) ≡ a.place = sym f ∙ sym e ∙ k in
            absurd (apart w y a i none (omega arith) (omega arith))
        go (inr (n1, k1)) (inr (n2, k2)) = sym k1 ∙ e ∙ k2

    distinct : IsDistinctBy (λ (o : Object). o.place) (map (slid_object moves) m.objects)
    distinct =
        distinct_map (slid_object moves) (λ (o : Object). o.place) m.objects
        (distinct-by (λ (o : Object). o.place) (λ (o : Object). moved_by moves o.place) m.objects injective
        (places-distinct m h))

    distinct_places : IsDistinctBy (λ (o : Object). o.place) objects
    distinct_places = subst (IsDistinctBy (λ (o : Object). o.place)) (sym (all_stay m moves)) distinct

    -- ---- boundaries

    abbrev next : Machine
    next = record m { objects = objects; layout = slid }

    crosses : (x : Piece) → IsIn x (pieces next)
        → DoesNotCross m.layout.start1 x × DoesNotCross m.layout.start0 x
    crosses x i =
        let (t, among, stands) = homes m h objects slid slid_lawful bare distinct_places was object_home free_home x i
        in by t among stands (was t among) (cases_Bool (same_kind Large (was t among).old.kind))
      where
        -- what stands in another segment is as it was
        old : (s : SegInfo) → IsIn s m.layout.segments → same_kind Large s.kind ≡ false → stands_in s x.place ≡ true
            → ((o : Object) × IsIn o objects × (x ≡ object_piece m.types o)) ⊎ IsIn x slid.free → IsIn x (pieces m)
        old s known kind stands (inr j) = free-in-pieces m x (other_free s known kind x stands j)
        old s known kind stands (inl (o, j, e)) =
            let (q, k, is) = object-from o j in
            let at : x ≡ object_piece m.types (slid_object moves q) = e ∙ ap (object_piece m.types) is in
            let still : moved_by moves q.place ≡ q.place = other_still s known kind q k
            (inr (subst (λ (y : Piece). stands_in s y.place ≡ true) at stands)) in
            subst (λ y. IsIn y (pieces m))
            (sym (at ∙ ap (λ n. record { place = n; size = object_size m.types q }) still))
            (object-in-pieces m h q k)

        by : (t : SegInfo) → IsIn t slid.segments → stands_in t x.place ≡ true → (w : WasSegment m t objects slid.free)
            → (same_kind Large w.old.kind ≡ true) ⊎ (same_kind Large w.old.kind ≡ false)
            → DoesNotCross m.layout.start1 x × DoesNotCross m.layout.start0 x
        by t among stands w (inr kind) =
            let (lo, hi) = stands-between t x.place stands in
            let b = w.base in let r = w.reserved in
            let here = old w.old w.among kind (between-stands w.old x.place (omega arith) (omega arith))
            (piece-is next bare x i) in
            (all_at (DoesNotCross m.layout.start1) here h.whole1, all_at (DoesNotCross m.layout.start0) here h.whole0)
        by t among stands w (inl kind) =
            apart (separate m.layout h.layout w.old (ephemeral m.layout) w.among (ephemeral-in m.layout h.layout))
          where
            is : IsTile (first_place t) t.end x
            is = tile (first_place t) t.end (pieces_in t (pieces next)) x
                (segment_tiled m h objects slid slid_lawful bare distinct_places was object_home free_home t among)
                (into_filter (λ (p : Piece). stands_in t p.place) (pieces next) stands i)

            high : t.end ≤ reserved_end t
            high = (lawful_segment slid slid_lawful t among).high

            young : (ephemeral m.layout).end ≤ reserved_end (ephemeral m.layout)
            young = (lawful_segment m.layout h.layout (ephemeral m.layout) (ephemeral-in m.layout h.layout)).high

            apart : AreSeparate w.old (ephemeral m.layout)
                → DoesNotCross m.layout.start1 x × DoesNotCross m.layout.start0 x
            apart (inl same) =
                absurd (both_ways (same_kind Ephemeral w.old.kind)
                (large-not_ephemeral w.old.kind (large-either w.old.kind kind))
                (subst (λ (u : SegInfo). same_kind Ephemeral u.kind ≡ true) (sym same)
                (ephemeral-kind m.layout h.layout)))
            apart (inr (inl l)) =
                let end = is.high_end in let up = high in let b = w.base in let r = w.reserved in
                let p = h.layout.start1_low in let q = h.layout.start1_high in
                (inr (omega arith), inr (omega arith))
            apart (inr (inr l)) =
                let (lo, hi) = stands-between t x.place stands in let y = young in let b = w.base in
                let p = h.layout.start1_high in let q = h.layout.start0_high in
                (inl (omega arith), inl (omega arith))

    slid_laid : IsLaid (record m { objects = objects; layout = slid })
    slid_laid = relaid m h objects slid slid_lawful bare distinct_places was object_home free_home crosses

    -- A slide leaves the memory as lawful.
    pub stays_laid : IsLaid (record m { objects = map (slid_object moves) m.objects; layout = new })
    stays_laid =
        subst (λ (l : Layout). IsLaid (record m { objects = map (slid_object moves) m.objects; layout = l }))
        (sym c.laid)
        (subst (λ (os : List Object). IsLaid (record m { objects = os; layout = slid })) (all_stay m moves) slid_laid)
