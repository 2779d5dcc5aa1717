-- How many bytes the objects of a machine have: no more than its segments reserve, and so than the limit.
use Rattle.std.proofs.Common.{◌≡◌, ℕ, ◌+◌, ◌≤◌, List, [], ◌∷◌, ◌++◌, map, sym, ap, ◌∙◌, ◌⊎◌, inl, inr, arith, Bool}
use Rattle.std.proofs.Common.{true, false, if◌then◌else◌, sum_by}
use Rattle.std.proofs.lemmas.List.Sums.{sum_by-append, sum_by-cons}
use Rattle.clr_types.specs.Rising.{IsIn, first, later}
use Rattle.clr_types.specs.Ranges.{Piece, Tiles, piece_end}
use Rattle.clr_types.specs.Segments.{first_place, pieces_in, reserved_end, reserved_sum, rest_pieces, stands_in}
use Rattle.clr_types.specs.declared.segment.SegInfo.{SegInfo}
use Rattle.clr_types.proofs.RisingLists.{in_cons}
use Rattle.clr_types.proofs.ListMembers.{sum-mapped}
use Rattle.clr_types.proofs.ListSums.{counted, sum-both, sum-below, sum-filtered, sum-filter_below, sum-on}
use Rattle.clr_types.proofs.SegmentFacts.{lawful_segment}
use Rattle.clr_types.proofs.Shuffles.{shuffled-sorted, shuffled-sum}
use Rattle.clr_model.specs.Machine.{Machine}
use Rattle.clr_model.specs.Lookups.{bytes_of, object_piece, object_size, pieces}
use Rattle.clr_model.specs.Lawful.{IsLaid}
use Rattle.clr_model.specs.Laws.{BoundedSumsLaw}
use Rattle.clr_model.proofs.BoundedSums.{is_large}
use Rattle.clr_model.proofs.LawfulPieces.{HasHome, piece-home, segment-tiled}

abbrev piece_bytes : List Piece → ℕ
piece_bytes ps = sum_by (λ (p : Piece). p.size) ps

-- pieces that fill a range have its bytes
tiles-bytes : (low high : ℕ) (ps : List Piece) → Tiles low high ps → low + piece_bytes ps ≡ high
tiles-bytes low high [] same = omega (arith, same)
tiles-bytes low high (p ∷ ps) (at, size, rest) =
    let more = tiles-bytes (piece_end p) high ps rest in
    let sum = sum_by-cons (λ (p : Piece). p.size) p ps in
    omega arith

-- the bytes of a piece, where it stands in the segment
abbrev bytes_in : SegInfo → Piece → ℕ
bytes_in s = counted (λ p. stands_in s p.place) (λ (p : Piece). p.size)

-- a piece that stands in a segment counts there
counts-once : (ss : List SegInfo) (s : SegInfo) (p : Piece) → IsIn s ss → stands_in s p.place ≡ true
    → p.size ≤ sum_by (λ r. bytes_in r p) ss
counts-once [] s p i stands = elim i [ ]
counts-once (r ∷ ss) s p i stands =
    go (in_cons i) (sum_by-cons (λ r. bytes_in r p) r ss) (λ j. counts-once ss s p j stands)
  where
    here : (r : SegInfo) → s ≡ r → p.size ≤ bytes_in r p
    here r same = go (stands_in r p.place) (sym (ap (λ (q : SegInfo). stands_in q p.place) same) ∙ stands)
      where
        go : (b : Bool) → b ≡ true → p.size ≤ (if b then p.size else 0)
        go true e = omega arith
        go false e = absurd cc

    go : (s ≡ r) ⊎ IsIn s ss → sum_by (λ r. bytes_in r p) (r ∷ ss) ≡ bytes_in r p + sum_by (λ r. bytes_in r p) ss
        → (IsIn s ss → p.size ≤ sum_by (λ r. bytes_in r p) ss) → p.size ≤ sum_by (λ r. bytes_in r p) (r ∷ ss)
    go (inl same) sum more = let a = here r same in omega arith
    go (inr j) sum more = let a = more j in omega arith

-- pieces that stand in segments have no more bytes than they have there
housed-bytes : (ss : List SegInfo) (ps : List Piece)
    → ((p : Piece) → IsIn p ps → (s : SegInfo) × IsIn s ss × (stands_in s p.place ≡ true))
    → piece_bytes ps ≤ sum_by (λ s. sum_by (bytes_in s) ps) ss
housed-bytes ss [] homes = omega arith
housed-bytes ss (p ∷ ps) homes =
    let (s, i, stands) = homes p first in
    let here = counts-once ss s p i stands in
    let rest = housed-bytes ss ps (λ q j. homes q (later j)) in
    let both = sum-both (λ s. bytes_in s p) (λ s. sum_by (bytes_in s) ps) ss in
    let each : sum_by (λ s. sum_by (bytes_in s) (p ∷ ps)) ss ≡ sum_by (λ s. bytes_in s p + sum_by (bytes_in s) ps) ss =
    sum-on (λ s. sum_by (bytes_in s) (p ∷ ps)) (λ s. bytes_in s p + sum_by (bytes_in s) ps) ss
    (λ s j. sum_by-cons (bytes_in s) p ps) in
    let sum = sum_by-cons (λ (p : Piece). p.size) p ps in
    omega arith

module _ (m : Machine) (h : IsLaid m) where
  segment-bytes : (s : SegInfo) → IsIn s m.layout.segments → sum_by (bytes_in s) (pieces m) ≤ s.reserved
  segment-bytes s i =
      let is = lawful_segment m.layout h.layout s i in
      let high : s.end ≤ reserved_end s = is.high in
      let fill = tiles-bytes (first_place s) s.end (pieces_in s (pieces m)) (segment-tiled m h s i) in
      let same : piece_bytes (pieces_in s (pieces m)) ≡ sum_by (bytes_in s) (pieces m) =
      sum-filtered (λ p. stands_in s p.place) (λ (p : Piece). p.size) (pieces m) in
      omega arith

  -- the pieces have no more bytes than the segments reserve
  pub pieces_bounded : sum_by (λ (p : Piece). p.size) (pieces m) ≤ reserved_sum m.layout
  pieces_bounded =
      let housed =
      housed-bytes m.layout.segments (pieces m)
      (λ p i. let k : HasHome m.layout p.place = piece-home m h p i in (k.home, k.among, k.stands)) in
      let each = sum-below (λ s. sum_by (bytes_in s) (pieces m)) (λ (s : SegInfo). s.reserved) m.layout.segments
      segment-bytes in
      omega arith

  -- nor have the objects
  pub objects_bounded : bytes_of m ≤ reserved_sum m.layout
  objects_bounded =
      let held = map (object_piece m.types) m.objects in
      let rests = rest_pieces m.layout.rests in
      let bound = pieces_bounded in
      let objects : piece_bytes held ≡ bytes_of m =
      sum-mapped (object_piece m.types) (λ (p : Piece). p.size) m.objects in
      let front = sum_by-append (λ (p : Piece). p.size) held m.layout.free in
      let all = sum_by-append (λ (p : Piece). p.size) (held ++ m.layout.free) rests in
      let sorted : piece_bytes ((held ++ m.layout.free) ++ rests) ≡ piece_bytes (pieces m) =
      shuffled-sum (λ (p : Piece). p.size)
      (shuffled-sorted (λ (p : Piece). p.place) ((held ++ m.layout.free) ++ rests)) in
      omega arith

-- What a lawful machine counts stays within its limit.
pub sums_bounded : BoundedSumsLaw
sums_bounded m h =
    let bytes = objects_bounded m h.laid in let limit = h.limit in
    let spent0 = h.sums.spent0 in let spent_large = h.sums.spent_large in
    let promoted1 = h.sums.promoted1 in let promoted2 = h.sums.promoted2 in
    let large = sum-filter_below (is_large m) (object_size m.types) m.objects in
    record { spent0 = omega arith; spent_large = omega arith; promoted1 = omega arith; promoted2 = omega arith }
