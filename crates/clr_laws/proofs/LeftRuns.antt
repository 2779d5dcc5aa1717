-- What stands lowest above a hole that a full compaction left: objects side by side, of one age, that weren't pinned
-- and were one plug, for which the hole was too small.
use Rattle.std.proofs.Common.{◌≡◌, ℕ, ◌+◌, ◌<◌, ◌≤◌, ◌⊎◌, inl, inr, List, [], ◌∷◌, ◌++◌, map, refl, sym, ap, subst}
use Rattle.std.proofs.Common.{◌∙◌, arith, Bool, true, false, min, Some}
use Rattle.std.proofs.lemmas.Bool.{both_ways, cases_Bool, cases_lt, cases_order}
use Rattle.clr_types.specs.Ranges.{Piece, piece_end, Tiles}
use Rattle.clr_types.specs.Rising.{IsIn, first, later}
use Rattle.clr_types.specs.Segments.{ephemeral, first_place, generation, is_small_or_ephemeral, pieces_in, rest_pieces}
use Rattle.clr_types.specs.Segments.{reserved_end, same_kind, stands_in}
use Rattle.clr_types.specs.declared.segment.SegInfo.{SegInfo}
use Rattle.clr_types.specs.declared.segment.SegKind.TheVariants.{Ephemeral}
use Rattle.clr_types.proofs.ChangedLists.{into_filter, out_of_filter, rising-distinct}
use Rattle.clr_types.proofs.ListMembers.{distinct_cross, distinct_left, distinct_of_sorted, from-map}
use Rattle.clr_types.proofs.ListMembers.{in_append}
use Rattle.clr_types.proofs.ChangedLists.{IsIn-map}
use Rattle.clr_types.proofs.SegmentFacts.{between-stands, ephemeral-kind, lawful_segment}
use Rattle.clr_types.proofs.SegmentFacts.{one_home, separate, stands-between}
use Rattle.clr_types.proofs.SortedLists.{find_by-member, out_of_sorted_by}
use Rattle.clr_types.proofs.TilePieces.{IsTile, tile}
use Rattle.clr_model.specs.declared.How.{How}
use Rattle.clr_model.specs.declared.Collected.{Collected}
use Rattle.clr_model.specs.Collection.{begun, Collects}
use Rattle.clr_model.specs.Compaction.{FitsAt, IsCompacted, Move, Plug}
use Rattle.clr_model.specs.Lawful.{IsLaid, IsLawful}
use Rattle.clr_model.specs.Laws.{IsUsual}
use Rattle.clr_model.specs.Lookups.{is_pinned, object_named, object_piece, object_size, pieces}
use Rattle.clr_model.specs.Machine.{Machine, Object}
use Rattle.clr_model.specs.Sweep.{survivors}
use Rattle.clr_model.proofs.CondemnedPlugs.{AreCondemned}
use Rattle.clr_model.proofs.CondemnedParts.{taking-is}
use Rattle.clr_model.proofs.LawfulPieces.{free-in-pieces, HasHome, object-in-pieces, piece-home, piece-tile}
use Rattle.clr_model.proofs.LawfulPieces.{pieces-apart, pieces-distinct, segment-tiled}
use Rattle.clr_model.proofs.LawfulSurvivors.{generation-least}
use Rattle.clr_model.proofs.MovedPlaces.{lands-in, LandsIn}
use Rattle.clr_model.proofs.PlugRoom.{one_plug}
use Rattle.clr_model.proofs.SlidLaws.{promotion}
use Rattle.clr_laws.proofs.FirstAbove.{IsOff}
use Rattle.clr_laws.proofs.Holes.{full_segments_of, stands_there}
use Rattle.clr_laws.proofs.LeftObjects.{IsLeft, laid, not_pinned, WasMoved}
use Rattle.clr_laws.proofs.LeftMoves.{behind, image, k, some-bytes, some-object, was-covered, was-segment, was-there}
use Rattle.clr_laws.proofs.LeftMoves.{WasSegment, within}
use Rattle.clr_laws.proofs.OneSegment.{bare}
use Rattle.clr_laws.proofs.Pins.{still_pinned}
use Rattle.clr_laws.proofs.SkippedHoles.{AreYoungPinned, IsHoleOf, IsSkipped, prepared, skipped}

-- before a piece of a tiling is another, or its low end
before-piece : (low high : ℕ) (ps : List Piece) → Tiles low high ps → (p : Piece) → IsIn p ps
    → (p.place ≡ low) ⊎ ((r : Piece) × IsIn r ps × (piece_end r ≡ p.place))
before-piece low high [] t p i = elim i [ ]
before-piece low high (q ∷ ps) t p first = inl t.0
before-piece low high (q ∷ ps) t p (later i) = elim (before-piece (piece_end q) high ps t.2 p i) [
  | inl at ↦ inr (q, first, sym at)
  | inr (r, j, at) ↦ inr (r, later j, at)
]

-- and at its high end is the end of one, or its low end
last-piece : (low high : ℕ) (ps : List Piece) → Tiles low high ps
    → (high ≡ low) ⊎ ((r : Piece) × IsIn r ps × (piece_end r ≡ high))
last-piece low high [] t = inl (sym t)
last-piece low high (q ∷ ps) t = elim (last-piece (piece_end q) high ps t.2) [
  | inl at ↦ inr (q, first, sym at)
  | inr (r, j, at) ↦ inr (r, later j, at)
]

-- the object is one of a run of objects of one age, in one segment, that aren't pinned, and stands over the place
pub record IsOfRun (w : Machine) (home : SegInfo) (place size age x : ℕ) (o : Object) : Type 0 where
  pub unpinned : is_pinned w o.name ≡ false
  pub age_is : generation w.layout o.place ≡ age
  pub stands : stands_in home o.place ≡ true
  pub from : place ≤ o.place
  pub to : o.place + object_size w.types o ≤ place + size
  pub under : o.place ≤ x
  pub over : x < o.place + object_size w.types o

-- such a run: the lowest above the hole between the two places, in which it has no room
pub record IsRunAbove (w : Machine) (Room : ℕ → Type 0) (low high : ℕ) : Type 0 where
  pub place : ℕ
  pub size : ℕ
  pub age : ℕ
  pub home : SegInfo
  pub among : IsIn home w.layout.segments
  pub small : is_small_or_ephemeral home.kind ≡ true
  pub above : high ≤ place
  pub some : 0 < size
  pub tight : Room (low + size) → ⊥
  pub filled : (x : ℕ) → place ≤ x → x < place + size
      → (o : Object) × IsIn o w.objects × IsOfRun w home place size age x o
  pub lowest : (o : Object) → IsIn o w.objects → is_pinned w o.name ≡ false → (s : SegInfo) → IsIn s w.layout.segments
      → is_small_or_ephemeral s.kind ≡ true → stands_in s o.place ≡ true → high ≤ o.place → place ≤ o.place

-- the object ends at the place
pub record EndsAt (w : Machine) (s : SegInfo) (place : ℕ) (o : Object) : Type 0 where
  pub present : IsIn o w.objects
  pub at : o.place + object_size w.types o ≡ place
  pub stands : stands_in s o.place ≡ true

-- No object stands between the two places of the segment. Right before them is one, or nothing.
pub record IsGapIn (w : Machine) (s : SegInfo) (low high : ℕ) : Type 0 where
  pub some : low < high
  pub start : first_place s ≤ low
  pub end : high ≤ reserved_end s
  pub apart : (o : Object) → IsIn o w.objects → (x : ℕ) → o.place ≤ x → x < o.place + object_size w.types o → low ≤ x
      → x < high → ⊥
  pub before : (low ≡ first_place s) ⊎ ((o : Object) × EndsAt w s low o)

module _ (m : Machine) (how : How) (usual : IsUsual 2 how) (one : Collected) (mid : Machine) (h : IsLawful m)
    (c : Collects m 2 how one mid) (lawful : IsLawful mid) (compacted : one.compacted ≡ true) (s : SegInfo)
    (among : IsIn s mid.layout.segments) (kind : is_small_or_ephemeral s.kind ≡ true) where
  abbrev pub two : 2 ≤ 2
  two = omega arith

  abbrev pub keeps : ℕ → Bool
  keeps = c.collects.kept

  abbrev pub moves : List Move
  moves = c.collects.moves

  abbrev pub laid-m : IsLaid (begun m)
  laid-m = laid m how usual one mid h c

  abbrev pub K : IsCompacted (begun m).layout 2 (survivors (begun m) 2 keeps) moves c.collects.small
  K = k m how usual one mid h c lawful compacted

  abbrev Left : Object → Object → Type 0
  Left = IsLeft m how usual one mid h c

  abbrev Was : Object → Type 0
  Was = WasMoved m how usual one mid h c

  abbrev P : AreCondemned (begun m).layout 2 K.segments K.plugs
  P = prepared (begun m) laid-m keeps moves c.collects.small K

  was-in : (w : Object) → IsIn w mid.objects → stands_in s w.place ≡ true → Was w
  was-in = was-there m how usual one mid h c lawful compacted s among kind

  least : (o : Object) → IsIn o mid.objects → 24 ≤ object_size mid.types o
  least = some-object m how usual one mid h c lawful compacted

  segment : (t : SegInfo) × WasSegment m how usual one mid h c lawful compacted s t
  segment = was-segment m how usual one mid h c lawful compacted s among kind

  s-tiled : Tiles (first_place s) s.end (pieces_in s (pieces mid))
  s-tiled = segment-tiled mid lawful.laid s among

  ends-in : s.end ≤ reserved_end s
  ends-in = (lawful_segment mid.layout lawful.laid.layout s among).high

  -- ---- gaps

  -- no context is left, so what ends where no object stands is an object's
  object-before : (low high : ℕ) → low < high
      → ((o : Object) → IsIn o mid.objects → (x : ℕ) → o.place ≤ x → x < o.place + object_size mid.types o → low ≤ x
      → x < high → ⊥)
      → (r : Piece) → IsIn r (pieces_in s (pieces mid)) → piece_end r ≡ low → (o : Object) × EndsAt mid s low o
  object-before low high some apart r i at =
      let (stands, j) = out_of_filter (λ (p : Piece). stands_in s p.place) r (pieces mid) i in by stands j
    where
      joined : stands_in s r.place ≡ true → IsIn r mid.layout.free → ⊥
      joined stands n =
          let (o, j, place, pinned) = behind m how usual one mid h c lawful compacted s among kind r n stands in
          let size = least o j in
          apart o j low (omega (arith, place, at)) (omega (arith, place, at, size)) (omega arith) some

      by : stands_in s r.place ≡ true → IsIn r (pieces mid) → (o : Object) × EndsAt mid s low o
      by stands j =
          elim (in_append (map (object_piece mid.types) mid.objects ++ mid.layout.free)
          (out_of_sorted_by (λ (p : Piece). p.place) r
          ((map (object_piece mid.types) mid.objects ++ mid.layout.free) ++ rest_pieces mid.layout.rests) j)) [
            | inl n ↦ elim (in_append (map (object_piece mid.types) mid.objects) n) [
              | inl q ↦
                  let (o, e, l) = from-map (object_piece mid.types) r mid.objects q in (
                    o,
                    record {
                      present = l;
                      at = ap piece_end (sym e) ∙ at;
                      stands = subst (λ (p : Piece). stands_in s p.place ≡ true) e stands;
                    },
                  )
              | inr q ↦ absurd (joined stands q)
            ]
            | inr n ↦ elim (subst (IsIn r) (bare m how usual one mid c) n) [ ]
          ]

  -- a free item is one
  pub free-gap : (f : Piece) → IsIn f mid.layout.free → stands_in s f.place ≡ true
      → IsGapIn mid s f.place (piece_end f)
  free-gap f free inside = record {
    some = let size = in-s.size.0 in omega (arith, size);
    start = (stands-between s f.place inside).0;
    end = let end = in-s.high_end in let ends = ends-in in omega (arith, end, ends);
    apart = apart;
    before = elim (before-piece (first_place s) s.end (pieces_in s (pieces mid)) s-tiled f in-pieces-in) [
      | inl at ↦ inl at
      | inr (r, i, at) ↦
          inr (object-before f.place (piece_end f) (let size = in-s.size.0 in omega (arith, size)) apart r i at)
    ];
  }
    where
      in-pieces : IsIn f (pieces mid)
      in-pieces = free-in-pieces mid lawful.laid f free

      in-pieces-in : IsIn f (pieces_in s (pieces mid))
      in-pieces-in = into_filter (λ (p : Piece). stands_in s p.place) (pieces mid) inside in-pieces

      in-s : IsTile (first_place s) s.end f
      in-s = tile (first_place s) s.end (pieces_in s (pieces mid)) f s-tiled in-pieces-in

      apart : (w : Object) → IsIn w mid.objects → (x : ℕ) → w.place ≤ x → x < w.place + object_size mid.types w
          → f.place ≤ x → x < piece_end f → ⊥
      apart w i x under over low up = elim (cases_order w.place f.place) [
        | inl same ↦
            distinct_cross (λ (p : Piece). p.place) (map (object_piece mid.types) mid.objects) mid.layout.free
            (distinct_left (λ (p : Piece). p.place) (map (object_piece mid.types) mid.objects ++ mid.layout.free)
            (rest_pieces mid.layout.rests)
            (distinct_of_sorted (λ (p : Piece). p.place)
            ((map (object_piece mid.types) mid.objects ++ mid.layout.free) ++ rest_pieces mid.layout.rests)
            (pieces-distinct mid lawful.laid))) (object_piece mid.types w) f
            (IsIn-map (object_piece mid.types) i) free same
        | inr (inl less) ↦
            let gap = pieces-apart mid lawful.laid (object_piece mid.types w) f
            (object-in-pieces mid lawful.laid w i) in-pieces less in
            omega (arith, gap, over, low)
        | inr (inr more) ↦
            let gap = pieces-apart mid lawful.laid f (object_piece mid.types w) in-pieces
            (object-in-pieces mid lawful.laid w i) more in
            omega (arith, gap, under, up)
      ]

  -- and so is what is reserved behind the segment's end
  pub tail-gap : s.end < reserved_end s → IsGapIn mid s s.end (reserved_end s)
  tail-gap some = record {
    some = some;
    start = (lawful_segment mid.layout lawful.laid.layout s among).low;
    end = omega arith;
    apart = apart;
    before = elim (last-piece (first_place s) s.end (pieces_in s (pieces mid)) s-tiled) [
      | inl at ↦ inl at
      | inr (r, i, at) ↦ inr (object-before s.end (reserved_end s) some apart r i at)
    ];
  }
    where
      apart : (w : Object) → IsIn w mid.objects → (x : ℕ) → w.place ≤ x → x < w.place + object_size mid.types w
          → s.end ≤ x → x < reserved_end s → ⊥
      apart w i x under over low up =
          let in-w = object-in-pieces mid lawful.laid w i in
          let n = piece-home mid lawful.laid (object_piece mid.types w) in-w in
          let t = piece-tile mid lawful.laid (object_piece mid.types w) in-w n in
          let end = t.high_end in
          let ends = (lawful_segment mid.layout lawful.laid.layout n.home n.among).high in
          let from = n.low in
          let first = (lawful_segment mid.layout lawful.laid.layout s among).low in
          elim (separate mid.layout lawful.laid.layout s n.home among n.among) [
            | inl same ↦ let at = ap (λ (u : SegInfo). u.end) same in omega (arith, end, over, low, at)
            | inr (inl below) ↦ omega (arith, below, from, under, up)
            | inr (inr above) ↦ omega (arith, above, end, ends, over, low, first)
          ]

  -- ---- what the moves left of a gap

  module _ (low high : ℕ) (gap : IsGapIn mid s low high) where
    hit : (v : Move) → IsIn v moves → (x : ℕ) → v.to ≤ x → x < v.to + v.size → low ≤ x → x < high → ⊥
    hit v i x from to over up =
        let (o, w, is) = image m how usual one mid h c lawful compacted v i x from to in
        gap.apart w is.known x is.under is.over over up

    pub off : (v : Move) → IsIn v moves → IsOff K.segments K.plugs low high v
    off v i = go (cases_lt low (v.to + v.size)) (cases_lt v.to high) (cases_lt low v.to)
      where
        go : (low < v.to + v.size) ⊎ (v.to + v.size ≤ low) → (v.to < high) ⊎ (high ≤ v.to)
            → (low < v.to) ⊎ (v.to ≤ low) → IsOff K.segments K.plugs low high v
        go (inr below) over from = inl below
        go (inl up) (inr above) from = inr above
        go (inl up) (inl under) (inl over) =
            let some = some-bytes m how usual one mid h c lawful compacted v i in
            absurd (hit v i v.to (omega arith) (omega (arith, some)) (omega (arith, over)) under)
        go (inl up) (inl under) (inr from) = absurd (hit v i low from up (omega arith) gap.some)

    base-is : (t : SegInfo) → WasSegment m how usual one mid h c lawful compacted s t
        → (low ≡ first_place t) ⊎ ((v : Move) × IsIn v moves × (v.to + v.size ≡ low))
    base-is t is = elim gap.before [
      | inl at ↦ inl (let base = is.base in omega (arith, at, base))
      | inr (o, ends) ↦ inr (by o ends (was-in o ends.present ends.stands))
    ]
      where
        by : (o : Object) → EndsAt mid s low o → Was o → (v : Move) × IsIn v moves × (v.to + v.size ≡ low)
        by o ends is =
            let (from, to) = within m how usual one mid h c lawful compacted o is in
            let size = least o ends.present in
            let at = ends.at in
            let some = gap.some in
            elim (off is.move is.among) [
              | inl below ↦ (is.move, is.among, omega (arith, below, to, at))
              | inr above ↦ absurd (omega (arith, above, from, at, size, some))
            ]

    -- ---- the run

    was-free : (w : Object) → is_pinned mid w.name ≡ false → is_pinned m w.name ≡ false
    was-free w out = elim (cases_Bool (is_pinned m w.name)) [
      | inr free ↦ free
      | inl pinned ↦ absurd (both_ways (is_pinned mid w.name) out (still_pinned m 2 how one mid c w.name pinned))
    ]

    -- the move of what isn't pinned and stands above the hole
    record IsAbove (w : Object) (v : Move) (q : Plug) : Type 0 where
      present : IsIn v moves
      known : IsIn q K.plugs
      start : v.start ≡ q.start
      unpinned : q.pinned ≡ false
      over : high ≤ v.to
      under : v.to ≤ w.place

    is-above : (w : Object) → IsIn w mid.objects → is_pinned mid w.name ≡ false → (u : SegInfo)
        → IsIn u mid.layout.segments → is_small_or_ephemeral u.kind ≡ true → stands_in u w.place ≡ true
        → high ≤ w.place → (v : Move) × (q : Plug) × IsAbove w v q
    is-above w j out u known small there over =
        by (was-there m how usual one mid h c lawful compacted u known small w j there)
      where
        by : Was w → (v : Move) × (q : Plug) × IsAbove w v q
        by is =
            let cover = was-covered m how usual one mid h c lawful compacted w is in
            let (from, to) = within m how usual one mid h c lawful compacted w is in
            let size = least w j in
            let some = gap.some in (
              is.move,
              cover.plug,
              record {
                present = is.among;
                known = cover.known;
                start = cover.landed.start;
                unpinned = sym cover.pinned ∙ ap (is_pinned m) (sym is.is.named) ∙ was-free w out;
                over = elim (off is.move is.among) [
                  | inl below ↦ absurd (omega (arith, below, to, over, size, some))
                  | inr up ↦ up
                ];
                under = from;
              },
            )

    module _ (Room : ℕ → Type 0) (room : (size : ℕ) → Room (low + size) → FitsAt K.segments K.plugs size low)
        (young : (s ≡ ephemeral mid.layout) ⊎ AreYoungPinned (begun m) laid-m keeps moves c.collects.small K) where
      hole : IsHoleOf (begun m) laid-m keeps moves c.collects.small K Room low high
      hole =
          let (t, is) = segment in
          let base = is.base in
          let reserved = is.reserved in
          let start = gap.start in
          let end = gap.end in
          record {
            some = gap.some;
            off = off;
            segment = t;
            among = is.among;
            start = omega (arith, start, base);
            end = omega (arith, end, base, reserved);
            young = elim young [ inl same ↦ inl (from-young t is same) | inr pinned ↦ inr pinned ];
            room = room;
            base = base-is t is;
          }
        where
          from-young : (t : SegInfo) → WasSegment m how usual one mid h c lawful compacted s t
              → s ≡ ephemeral mid.layout → first_place (ephemeral (begun m).layout) ≤ low
          from-young t is same =
              let base = is.base in
              let start = gap.start in
              let here = P.one t is.among (ap (same_kind Ephemeral) is.kind
              ∙ ap (λ (u : SegInfo). same_kind Ephemeral u.kind) same ∙ ephemeral-kind mid.layout lawful.laid.layout) in
              subst (λ (u : SegInfo). first_place u ≤ low) here (omega (arith, base, start))

      module _ (o : Object) (i : IsIn o mid.objects) (free_o : is_pinned mid o.name ≡ false) (u : SegInfo)
          (known : IsIn u mid.layout.segments) (small : is_small_or_ephemeral u.kind ≡ true)
          (stands : stands_in u o.place ≡ true) (above : high ≤ o.place) where
        first-run : IsSkipped (begun m) laid-m keeps moves c.collects.small K Room low high
        first-run =
            let (v, q, is) = is-above o i free_o u known small stands above in
            skipped (begun m) laid-m keeps moves c.collects.small K Room low high hole v is.present q is.known is.start
            is.unpinned is.over

        -- where the run stands
        record IsHome (n : SegInfo) : Type 0 where
          among_now : IsIn n mid.layout.segments
          small_kind : is_small_or_ephemeral n.kind ≡ true
          all : (x : ℕ) → first-run.move.to ≤ x → x < first-run.move.to + first-run.move.size → stands_in n x ≡ true

        home-of : (n : SegInfo) × IsHome n
        home-of =
            let some = some-bytes m how usual one mid h c lawful compacted first-run.move first-run.among in
            let (old, w, is) = image m how usual one mid h c lawful compacted first-run.move first-run.among
            first-run.move.to (omega arith) (omega (arith, some)) in
            let n = piece-home mid lawful.laid (object_piece mid.types w)
            (object-in-pieces mid lawful.laid w is.known) in
            let from = is.low in
            let at = is.under in
            by n (omega (arith, from, at))
            (lands-in (begun m) laid-m 2 two keeps moves c.collects.small K first-run.move first-run.among)
          where
            by : {place : ℕ} → HasHome mid.layout place → place ≡ first-run.move.to
                → LandsIn (begun m) laid-m 2 two keeps moves c.collects.small K first-run.move
                → (n : SegInfo) × IsHome n
            by n at l =
                let (small, part, among_then) = taking-is (begun m).layout laid-m.layout 2 two l.segment
                (subst (IsIn l.segment) K.segments_are l.among) in
                let some = some-bytes m how usual one mid h c lawful compacted first-run.move first-run.among in
                let low_is = l.low in
                let high_is = l.high in
                let (t, j, base, reserved, same) = full_segments_of m how usual one mid c n.home n.among in
                let one_is : l.segment ≡ t =
                one_home (begun m).layout laid-m.layout l.segment t first-run.move.to among_then j
                (between-stands l.segment first-run.move.to low_is (omega (arith, high_is, some)))
                (stands_there n.home t first-run.move.to base reserved
                (subst (λ x. stands_in n.home x ≡ true) at n.stands)) in (
                  n.home,
                  record {
                    among_now = n.among;
                    small_kind = sym (ap is_small_or_ephemeral same)
                        ∙ ap (λ (g : SegInfo). is_small_or_ephemeral g.kind)
                        (sym one_is) ∙ small;
                    all = λ x from to.
                        stands_there t n.home x (sym base) (sym reserved)
                        (subst (λ (g : SegInfo). stands_in g x ≡ true) one_is
                        (between-stands l.segment x (omega (arith, low_is, from)) (omega (arith, high_is, to))));
                  },
                )

        pub run-above : IsRunAbove mid Room low high
        run-above =
            let (n, home) = home-of in
            record {
              place = first-run.move.to;
              size = first-run.move.size;
              age = min 2 (first-run.plug.generation + 1);
              home = n;
              among = home.among_now;
              small = home.small_kind;
              above = first-run.over;
              some = let some = some-bytes m how usual one mid h c lawful compacted first-run.move first-run.among in
                  omega (arith, some);
              tight = first-run.tight;
              filled = filled n home;
              lowest = λ w j out t known_t small_t there over.
                  let (v, q, is) = is-above w j out t known_t small_t there over in
                  let down = first-run.lowest v is.present q is.known is.start is.unpinned is.over in
                  let under = is.under in omega (arith, down, under);
            }
          where
            aged : (w old : Object) → IsIn w mid.objects → Left old w → IsIn old m.objects → is_pinned m w.name ≡ false
                → generation m.layout old.place ≡ first-run.plug.generation
                → generation mid.layout w.place ≡ min 2 (first-run.plug.generation + 1)
            aged w old j is present out age =
                let rises = (promotion m 2 how one mid h usual c w.name (generation m.layout old.place)
                (generation mid.layout w.place) (
                  old,
                  subst (λ n. object_named m.objects n ≡ Some old) (sym is.named)
                      (find_by-member (λ (w : Object). w.name) old m.objects
                      (rising-distinct (λ (w : Object). w.name) m.objects h.names_rise) present),
                  refl,
                ) (
                  w,
                  find_by-member (λ (w : Object). w.name) w mid.objects
                      (rising-distinct (λ (w : Object). w.name) mid.objects lawful.names_rise) j,
                  refl,
                )).free_rises (generation-least m.layout old.place) out in
                rises ∙ ap (λ n. min 2 (n + 1)) age

            filled : (n : SegInfo) → IsHome n → (x : ℕ) → first-run.move.to ≤ x
                → x < first-run.move.to + first-run.move.size
                → (w : Object) × IsIn w mid.objects
                × IsOfRun mid n first-run.move.to first-run.move.size (min 2 (first-run.plug.generation + 1)) x w
            filled n home x from to =
                let (old, w, is) =
                image m how usual one mid h c lawful compacted first-run.move first-run.among x from to in
                let same = one_plug K.segments K.plugs P.plugs is.covers.plug first-run.plug is.covers.known
                first-run.known (sym is.covers.landed.start ∙ first-run.start) in
                let out : is_pinned m w.name ≡ false =
                ap (is_pinned m) is.left_is.named ∙ is.covers.pinned ∙ ap (λ (p : Plug). p.pinned) same
                ∙ first-run.unpinned in
                let first = is.low in
                let under = is.under in (
                  w,
                  is.known,
                  record {
                    unpinned = not_pinned m how usual one mid h c w.name out;
                    age_is = aged w old is.known is.left_is is.present out
                        (is.covers.age ∙ ap (λ (p : Plug). p.generation) same);
                    stands = home.all w.place first (omega (arith, under, to));
                    from = first;
                    to = is.high;
                    under = under;
                    over = is.over;
                  },
                )
