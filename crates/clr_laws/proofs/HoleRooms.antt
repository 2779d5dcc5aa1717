-- What stands above a free item, and above the end of a segment, of which a full compaction left nothing lower.
use Rattle.std.proofs.Common.{◌≡◌, ℕ, ◌+◌, ◌<◌, ◌≤◌, ◌⊎◌, inl, inr, List, sym, ap, subst}
use Rattle.std.proofs.Common.{◌∙◌, arith, Bool, true, false}
use Rattle.clr_types.specs.Ranges.{Piece, piece_end}
use Rattle.clr_types.specs.Rising.{IsIn}
use Rattle.clr_types.specs.Segments.{ephemeral, is_small_or_ephemeral}
use Rattle.clr_types.specs.Segments.{reserved_end, stands_in}
use Rattle.clr_types.specs.declared.segment.SegInfo.{SegInfo}
use Rattle.clr_types.proofs.PieceGaps.{IsGapped}
use Rattle.clr_types.proofs.SegmentFacts.{AreSeparate}
use Rattle.clr_types.proofs.SegmentFacts.{separate}
use Rattle.clr_model.specs.declared.How.{How}
use Rattle.clr_model.specs.declared.Collected.{Collected}
use Rattle.clr_model.specs.Collection.{begun, Collects}
use Rattle.clr_model.specs.Compaction.{FitsAt, IsCompacted, Move, Plug}
use Rattle.clr_model.specs.Lawful.{IsLaid, IsLawful}
use Rattle.clr_model.specs.Laws.{IsUsual}
use Rattle.clr_model.specs.Lookups.{is_pinned, object_piece}
use Rattle.clr_model.specs.Machine.{Machine, Object}
use Rattle.clr_model.specs.Sweep.{survivors}
use Rattle.clr_model.proofs.LawfulPieces.{HasHome, object-in-pieces, piece-home}
use Rattle.clr_laws.proofs.FirstAbove.{IsOff}
use Rattle.clr_laws.proofs.LeftObjects.{laid, WasMoved}
use Rattle.clr_laws.proofs.LeftMoves.{behind, k, was-covered, was-segment, was-there}
use Rattle.clr_laws.proofs.LeftMoves.{WasSegment}
use Rattle.clr_laws.proofs.Pins.{still_pinned}
use Rattle.clr_laws.proofs.SkippedHoles.{AreYoungPinned, room-before, room-within}
use Rattle.clr_laws.proofs.LeftRuns.{free-gap, IsGapIn, IsRunAbove, off, run-above, tail-gap}

-- the object begins at the place, and is pinned
pub record IsPinAt (w : Machine) (place : ℕ) (o : Object) : Type 0 where
  pub present : IsIn o w.objects
  pub at : o.place ≡ place
  pub pinned : is_pinned w o.name ≡ true

module _ (m : Machine) (how : How) (usual : IsUsual 2 how) (one : Collected) (mid : Machine) (h : IsLawful m)
    (c : Collects m 2 how one mid) (lawful : IsLawful mid) (compacted : one.compacted ≡ true) (s : SegInfo)
    (among : IsIn s mid.layout.segments) (kind : is_small_or_ephemeral s.kind ≡ true) where
  abbrev pub keeps : ℕ → Bool
  keeps = c.collects.kept

  abbrev pub moves : List Move
  moves = c.collects.moves

  abbrev pub laid-m : IsLaid (begun m)
  laid-m = laid m how usual one mid h c

  abbrev pub K : IsCompacted (begun m).layout 2 (survivors (begun m) 2 keeps) moves c.collects.small
  K = k m how usual one mid h c lawful compacted

  abbrev Was : Object → Type 0
  Was = WasMoved m how usual one mid h c

  segment : (t : SegInfo) × WasSegment m how usual one mid h c lawful compacted s t
  segment = was-segment m how usual one mid h c lawful compacted s among kind

  abbrev pub Young : Type 0
  Young = (s ≡ ephemeral mid.layout) ⊎ AreYoungPinned (begun m) laid-m keeps moves c.collects.small K

  -- ---- behind a free item

  module _ (f : Piece) (free : IsIn f mid.layout.free) (inside : stands_in s f.place ≡ true) where
    abbrev pub high : ℕ
    high = piece_end f

    gap : IsGapIn mid s f.place high
    gap = free-gap m how usual one mid h c lawful compacted s among kind f free inside

    off-free : (v : Move) → IsIn v moves → IsOff K.segments K.plugs f.place high v
    off-free = off m how usual one mid h c lawful compacted s among kind f.place high gap

    -- the object there
    record IsPin (o : Object) : Type 0 where
      present : IsIn o mid.objects
      at : o.place ≡ high
      pinned : is_pinned m o.name ≡ true
      stands : stands_in s o.place ≡ true

    pin : (o : Object) × IsPin o
    pin =
        let (o, i, at, pinned) = behind m how usual one mid h c lawful compacted s among kind f free inside in
        (o, record { present = i; at = at; pinned = pinned; stands = there o i at })
      where
        there : (o : Object) → IsIn o mid.objects → o.place ≡ high → stands_in s o.place ≡ true
        there o i at =
            let n = piece-home mid lawful.laid (object_piece mid.types o) (object-in-pieces mid lawful.laid o i) in
            by n (separate mid.layout lawful.laid.layout s n.home among n.among)
          where
            by : (n : HasHome mid.layout o.place) → AreSeparate s n.home → stands_in s o.place ≡ true
            by n (inl same) = subst (λ (s : SegInfo). stands_in s o.place ≡ true) (sym same) n.stands
            by n (inr (inl below)) =
                let low = n.low in
                let end = gap.end in absurd (omega (arith, at, low, end, below))
            by n (inr (inr above)) =
                let up = n.high in
                let start = gap.start in
                let some = gap.some in absurd (omega (arith, at, up, start, some, above))

    -- and its plug
    record IsPinPlug (p : Plug) : Type 0 where
      known : IsIn p K.plugs
      pinned : p.pinned ≡ true
      at : p.start ≡ high

    pin-plug : (p : Plug) × IsPinPlug p
    pin-plug =
        let (o, is) = pin in
        by o is (was-there m how usual one mid h c lawful compacted s among kind o is.present is.stands)
      where
        by : (o : Object) → IsPin o → Was o → (p : Plug) × IsPinPlug p
        by o is w =
            let cover = was-covered m how usual one mid h c lawful compacted o w in
            let pinned : cover.plug.pinned ≡ true =
            sym cover.pinned ∙ ap (is_pinned m) (sym w.is.named) ∙ is.pinned in
            let to = cover.landed.pinned pinned in
            let start = cover.landed.start in
            let (from, over) = w.covers in
            let moved = w.by in
            let place = w.is.place in
            let at = is.at in
            let some = gap.some in (
              cover.plug,
              record {
                known = cover.known;
                pinned = pinned;
                at = elim (off-free w.move w.among) [
                  | inl below ↦ absurd (omega (arith, below, to, start, from, over, moved, place, at, some))
                  | inr above ↦ omega (arith, above, to, start, from, moved, place, at)
                ];
              },
            )

    room : (size : ℕ) → IsGapped (f.place + size) high → FitsAt K.segments K.plugs size f.place
    room size fits =
        let (t, is) = segment in
        let (p, pins) = pin-plug in
        let start = gap.start in
        let end = gap.end in
        let base = is.base in
        let reserved = is.reserved in
        room-before (begun m) laid-m keeps moves c.collects.small K f.place high gap.some off-free t is.among
        (omega (arith, start, base)) (omega (arith, end, base, reserved)) p pins.known pins.pinned pins.at size fits

    -- what stands lowest above the item leaves too little of it
    pub free-run : Young → (o : Object) → IsIn o mid.objects → is_pinned mid o.name ≡ false → (u : SegInfo)
        → IsIn u mid.layout.segments → is_small_or_ephemeral u.kind ≡ true → stands_in u o.place ≡ true
        → high ≤ o.place → IsRunAbove mid (λ end. IsGapped end high) f.place high
    free-run =
        run-above m how usual one mid h c lawful compacted s among kind f.place high gap (λ end. IsGapped end high)
        room

    pub free-pin : (o : Object) × IsPinAt mid high o
    free-pin = let (o, is) = pin in (
      o,
      record { present = is.present; at = is.at; pinned = still_pinned m 2 how one mid c o.name is.pinned },
    )

  -- ---- behind the segment's end

  module _ (some : s.end < reserved_end s) where
    abbrev tail : IsGapIn mid s s.end (reserved_end s)
    tail = tail-gap m how usual one mid h c lawful compacted s among kind some

    tail-room : (size : ℕ) → s.end + size ≤ reserved_end s → FitsAt K.segments K.plugs size s.end
    tail-room size fits =
        let (t, is) = segment in
        let start = tail.start in
        let base = is.base in
        let reserved = is.reserved in
        room-within (begun m) laid-m keeps moves c.collects.small K s.end (reserved_end s) some
        (off m how usual one mid h c lawful compacted s among kind s.end (reserved_end s) tail) t is.among
        (omega (arith, start, base)) (omega (arith, base, reserved)) (omega (arith, base, reserved)) size fits

    -- what stands lowest above the end is too large for what is reserved behind it
    pub tail-run : Young → (o : Object) → IsIn o mid.objects → is_pinned mid o.name ≡ false → (u : SegInfo)
        → IsIn u mid.layout.segments → is_small_or_ephemeral u.kind ≡ true → stands_in u o.place ≡ true
        → reserved_end s ≤ o.place → IsRunAbove mid (λ end. end ≤ reserved_end s) s.end (reserved_end s)
    tail-run =
        run-above m how usual one mid h c lawful compacted s among kind s.end (reserved_end s) tail
        (λ end. end ≤ reserved_end s) tail-room
