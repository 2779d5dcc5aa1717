-- What the moves of a full compaction leave: objects side by side, each where its move takes it.
use Rattle.std.proofs.Common.{◌≡◌, ℕ, ◌+◌, ◌<◌, ◌≤◌, inl, inr, List, refl, sym, ap, subst}
use Rattle.std.proofs.Common.{◌∙◌, arith, Bool, true, false, ◌&&◌, ◌||◌, ◌==◌}
use Rattle.std.proofs.lemmas.Bool.{cases_Bool}
use Rattle.clr_types.specs.Ranges.{Piece, piece_end}
use Rattle.clr_types.specs.Rising.{IsIn}
use Rattle.clr_types.specs.Segments.{generation, is_small_or_ephemeral}
use Rattle.clr_types.specs.Segments.{same_kind, stands_in}
use Rattle.clr_types.specs.declared.segment.SegInfo.{SegInfo}
use Rattle.clr_types.specs.declared.segment.SegKind.TheVariants.{Ephemeral}
use Rattle.clr_types.proofs.ListMembers.{any-from}
use Rattle.clr_types.proofs.Retiled.{tiles-cover}
use Rattle.clr_types.proofs.SegmentFacts.{between-stands}
use Rattle.clr_types.proofs.TilePieces.{IsTile, tile}
use Rattle.clr_model.specs.declared.How.{How}
use Rattle.clr_model.specs.declared.Collected.{Collected}
use Rattle.clr_model.specs.Collection.{begun, Collects}
use Rattle.clr_model.specs.Compaction.{IsCompacted, Move, moved_by, survivors_in}
use Rattle.clr_model.specs.Lawful.{IsLaid, IsLawful}
use Rattle.clr_model.specs.Laws.{IsUsual}
use Rattle.clr_model.specs.Lookups.{is_pinned, object_piece, object_size}
use Rattle.clr_model.specs.Machine.{Machine, Object}
use Rattle.clr_model.specs.Reach.{StartOf}
use Rattle.clr_model.specs.Sweep.{has_condemned_part, Survivor, survivors}
use Rattle.clr_model.proofs.CompactedPieces.{filled_by}
use Rattle.clr_model.proofs.CondemnedPlugs.{AreCondemned}
use Rattle.clr_model.proofs.CondemnedParts.{takes-part, taking-is}
use Rattle.clr_model.proofs.LawfulPieces.{object-in-pieces, piece-home, piece-tile}
use Rattle.clr_model.proofs.LawfulSurvivors.{IsSurvivor, survivor-is}
use Rattle.clr_model.proofs.MovedPlaces.{covered, IsCovered, landing, lands-in, LandsIn, survivor-under}
use Rattle.clr_model.proofs.SlidLaws.{free_before_pins}
use Rattle.clr_laws.proofs.Holes.{full_segments_of, small_part}
use Rattle.clr_laws.proofs.LeftObjects.{compacted-by, Covers, IsLeft, laid, left, was}
use Rattle.clr_laws.proofs.LeftObjects.{WasMoved}
use Rattle.clr_laws.proofs.SkippedHoles.{AreYoungPinned, prepared}

module _ (m : Machine) (how : How) (usual : IsUsual 2 how) (one : Collected) (mid : Machine) (h : IsLawful m)
    (c : Collects m 2 how one mid) (lawful : IsLawful mid) (compacted : one.compacted ≡ true) where
  pub two : 2 ≤ 2
  two = omega arith

  abbrev pub keeps : ℕ → Bool
  keeps = c.collects.kept

  abbrev pub moves : List Move
  moves = c.collects.moves

  pub laid-m : IsLaid (begun m)
  laid-m = laid m how usual one mid h c

  pub k : IsCompacted (begun m).layout 2 (survivors (begun m) 2 keeps) moves c.collects.small
  k = compacted-by (begun m) how usual one c.collected (StartOf (begun m) 2) c.collects compacted

  abbrev pub Left : Object → Object → Type 0
  Left = IsLeft m how usual one mid h c

  abbrev pub Covered : Object → Move → Type 0
  Covered = IsCovered (begun m) laid-m 2 two keeps moves c.collects.small k

  -- ---- what a move takes

  -- the object that is left over the place, where the move lands
  pub record IsImage (v : Move) (x : ℕ) (o w : Object) : Type 0 where
    pub present : IsIn o m.objects
    pub known : IsIn w mid.objects
    pub left_is : Left o w
    pub covers : Covered o v
    pub low : v.to ≤ w.place
    pub high : w.place + object_size mid.types w ≤ v.to + v.size
    pub under : w.place ≤ x
    pub over : x < w.place + object_size mid.types w

  pub image : (v : Move) → IsIn v moves → (x : ℕ) → v.to ≤ x → x < v.to + v.size
      → (o : Object) × (w : Object) × IsImage v x o w
  image v i x low high =
      let f = filled_by (begun m) laid-m 2 two keeps moves c.collects.small k v i in
      let (y, n, under, over) = tiles-cover v.to (v.to + v.size) f.pieces f.tiled x low high in
      let (o, present, stays, cover, is) = f.objects y n in
      let t = tile v.to (v.to + v.size) f.pieces y f.tiled n in
      go y o present stays cover is t under over (lands-in (begun m) laid-m 2 two keeps moves c.collects.small k v i)
    where
      go : (y : Piece) (o : Object) → IsIn o m.objects → keeps o.name ≡ true → Covers v o.place
          → y ≡ record { place = moved_by moves o.place; size = object_size m.types o } → IsTile v.to (v.to + v.size) y
          → y.place ≤ x → x < piece_end y → LandsIn (begun m) laid-m 2 two keeps moves c.collects.small k v
          → (o : Object) × (w : Object) × IsImage v x o w
      go y o present stays cover is t under over s =
          let (kind, part, known) = taking-is (begun m).layout laid-m.layout 2 two s.segment
          (subst (IsIn s.segment) k.segments_are s.among) in
          let at : y.place ≡ moved_by moves o.place = ap (λ (p : Piece). p.place) is in
          let size : y.size ≡ object_size m.types o = ap (λ (p : Piece). p.size) is in
          let gap = t.low_gap in
          let end = t.high_end in
          let least = t.size.0 in
          let from = s.low in
          let to = s.high in
          let (w, j, is_left) = left m how usual one mid h c o present stays s.segment known kind
          (between-stands s.segment (moved_by moves o.place) (omega (arith, at, gap, from))
          (omega (arith, at, gap, end, to, least))) in
          let place = is_left.place in
          let width = is_left.size in (
            o,
            w,
            record {
              present = present;
              known = j;
              left_is = is_left;
              covers = covered (begun m) laid-m 2 two keeps moves c.collects.small k o present v i cover;
              low = omega (arith, at, gap, place);
              high = omega (arith, at, size, end, place, width);
              under = omega (arith, at, place, under);
              over = omega (arith, at, size, place, width, over);
            },
          )

  -- an object ends within its move
  pub within : (w : Object) (is : WasMoved m how usual one mid h c w)
      → (is.move.to ≤ w.place) × (w.place + object_size mid.types w ≤ is.move.to + is.move.size)
  within w is =
      let f = filled_by (begun m) laid-m 2 two keeps moves c.collects.small k is.move is.among in
      let t = tile is.move.to (is.move.to + is.move.size) f.pieces
      (record { place = moved_by moves is.old.place; size = object_size m.types is.old }) f.tiled
      (f.all is.old is.present is.covers) in
      let gap = t.low_gap in
      let end = t.high_end in
      let place = is.is.place in
      let size = is.is.size in
      (omega (arith, gap, place), omega (arith, end, place, size))

  pub was-covered : (w : Object) (is : WasMoved m how usual one mid h c w) → Covered is.old is.move
  was-covered w is =
      covered (begun m) laid-m 2 two keeps moves c.collects.small k is.old is.present is.move is.among is.covers

  pub was-there : (s : SegInfo) → IsIn s mid.layout.segments → is_small_or_ephemeral s.kind ≡ true → (w : Object)
      → IsIn w mid.objects → stands_in s w.place ≡ true → WasMoved m how usual one mid h c w
  was-there s among kind = was m how usual one mid h c k s among kind

  -- behind a free item stands what was pinned
  pub behind : (s : SegInfo) → IsIn s mid.layout.segments → is_small_or_ephemeral s.kind ≡ true → (p : Piece)
      → IsIn p mid.layout.free → stands_in s p.place ≡ true
      → (o : Object) × IsIn o mid.objects × (o.place ≡ piece_end p) × (is_pinned m o.name ≡ true)
  behind s among kind p i stands =
      free_before_pins m 2 how one mid h usual c compacted p i
      (small_part m how usual one mid c p
      (any-from (λ (s : SegInfo). is_small_or_ephemeral s.kind && stands_in s p.place) mid.layout.segments s among
      (ap (λ b. b && stands_in s p.place) kind ∙ stands)))

  pub some-object : (o : Object) → IsIn o mid.objects → 24 ≤ object_size mid.types o
  some-object o i =
      let among = object-in-pieces mid lawful.laid o i in
      (piece-tile mid lawful.laid (object_piece mid.types o) among
      (piece-home mid lawful.laid (object_piece mid.types o) among)).size.0

  abbrev pub Prepared : AreCondemned (begun m).layout 2 k.segments k.plugs
  Prepared = prepared (begun m) laid-m keeps moves c.collects.small k

  pub some-bytes : (v : Move) → IsIn v moves → 24 ≤ v.size
  some-bytes v i =
      let (p, known, lands) = landing (begun m) laid-m 2 two keeps moves c.collects.small k v i in
      let least = (Prepared.plugs.each p known).size in
      let size = lands.size in omega (arith, least, size)

  -- a segment of the small heap, as it was
  pub record WasSegment (s t : SegInfo) : Type 0 where
    pub among : IsIn t k.segments
    pub known : IsIn t m.layout.segments
    pub base : t.base ≡ s.base
    pub reserved : t.reserved ≡ s.reserved
    pub kind : t.kind ≡ s.kind

  pub was-segment : (s : SegInfo) → IsIn s mid.layout.segments → is_small_or_ephemeral s.kind ≡ true
      → (t : SegInfo) × WasSegment s t
  was-segment s i small =
      let (t, j, base, reserved, kind) = full_segments_of m how usual one mid c s i in (
        t,
        record {
          among = subst (IsIn t) (sym k.segments_are)
              (takes-part (begun m).layout laid-m.layout 2 two t j (ap is_small_or_ephemeral kind ∙ small)
              (condemned t));
          known = j;
          base = base;
          reserved = reserved;
          kind = kind;
        },
      )
    where
      condemned : (t : SegInfo) → has_condemned_part 2 t ≡ true
      condemned t = go (same_kind Ephemeral t.kind)
        where
          go : (b : Bool) → (b || (2 == 2)) ≡ true
          go true = refl
          go false = refl

  -- where what wasn't pinned was of generation 1 or 2, the young plugs are pinned
  pub young-pinned : ((o : Object) → IsIn o m.objects → is_pinned m o.name ≡ false → 1 ≤ generation m.layout o.place)
      → AreYoungPinned (begun m) laid-m keeps moves c.collects.small k
  young-pinned aged p i young = elim (cases_Bool p.pinned) [
    | inl pinned ↦ pinned
    | inr out ↦
        let least = (Prepared.plugs.each p i).size in
        let (w, n, low, high, pin, age) = survivor-under
        (survivors_in is_small_or_ephemeral (begun m).layout (survivors (begun m) 2 keeps)) p
        (subst (IsIn p) k.plugs_are i) p.start (omega arith) (omega (arith, least)) in
        absurd (go w (survivor-is (begun m) laid-m 2 two keeps w n) (pin ∙ out) (age ∙ young))
  ]
    where
      go : (w : Survivor) → IsSurvivor (begun m) laid-m 2 two keeps w → w.pinned ≡ false → w.generation ≡ 0 → ⊥
      go w is out young =
          let old = aged is.object is.present (sym (ap (λ (u : Survivor). u.pinned) is.is) ∙ out) in
          let at = ap (λ (u : Survivor). u.generation) is.is in omega (arith, old, at, young)
