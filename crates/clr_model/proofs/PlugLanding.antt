-- Where the plugs of a compaction stand afterwards: apart, each segment's with lawful gaps, and gaps before pins alone.
use Rattle.std.proofs.Common.{◌≡◌, ℕ, ◌+◌, ◌%◌, ◌<◌, ◌≤◌, ◌⊎◌, inl, inr, List, [], ◌∷◌, ◌++◌, map, refl, sym, ap}
use Rattle.std.proofs.Common.{subst, ◌∙◌, arith, Bool, true, false, filter, ◌&&◌, nat_le, nat_lt, ◌==◌, max}
use Rattle.std.proofs.lemmas.Bool.{cases_lt, leb-true, ltb-true, le-leb, lt-ltb, and_parts, and_from, eqb-true}
use Rattle.std.proofs.lemmas.Bool.{eq-eqb}
use Rattle.clr_types.specs.Rising.{IsIn, first, later, IsRisingBy}
use Rattle.clr_types.specs.Ranges.{Piece, piece_end, IsLawfulSize, Tiles, gaps, end_of_last, by_place}
use Rattle.clr_types.proofs.RisingLists.{in_cons, all_at}
use Rattle.clr_types.proofs.SortedLists.{sorted_by-rises, into_sorted_by, out_of_sorted_by}
use Rattle.clr_model.specs.Compaction.{Plug, plug_end, Move, FitsAt, moved_pieces, piece_of_plug, pinned_pieces}
use Rattle.clr_model.specs.Compaction.{raised_past_pins}
use Rattle.clr_types.specs.declared.segment.SegInfo.{SegInfo}
use Rattle.clr_types.specs.Segments.{first_place, reserved_end, stands_in, pieces_in}
use Rattle.clr_types.proofs.ChangedLists.{IsIn-map, into_filter, out_of_filter}
use Rattle.clr_types.proofs.ListMembers.{from-map, filter-rises}
use Rattle.clr_types.proofs.PieceGaps.{IsGapped, IsEnd, IsJoined, AreBlocks, IsGapPiece, last-is, gaps-are}
use Rattle.clr_types.proofs.PieceGaps.{blocks-and-gaps-tile}
use Rattle.clr_model.proofs.PlugRoom.{IsPlug, ArePlugs, IsOutside, IsClear, room-clear, fit-between, in_segment}
use Rattle.clr_types.proofs.SegmentFacts.{AreSeparate}
use Rattle.clr_model.proofs.PlugPointer.{IsEdge, edge-outside}
use Rattle.clr_model.proofs.PlugWalk.{Walk, AreInLine, IsLanded, IsWalked, IsSource, walked, each_both, plug_of_move}
use Rattle.clr_model.proofs.PlugWalk.{move_of_plug}
use Rattle.clr_model.proofs.PlugsApart.{AreScattered, landed-scattered, piece_of_move, raised_is, raised_up}
use Rattle.clr_model.proofs.PlugsApart.{scattered-apart, scattered-distinct}
use Rattle.clr_model.proofs.FirstPointer.{AreStarts, first-near, first-outside, first-aligned}

-- ---- in one segment

-- a lawful free item that ends where a pinned plug begins
pub record IsBeforePin (all : List Plug) (f : Piece) : Type 0 where
  pub plug : Plug
  pub known : IsIn plug all
  pub pinned : plug.pinned ≡ true
  pub ends : piece_end f ≡ plug.start
  pub lawful : IsLawfulSize f.size

module _ (segments : List SegInfo) (all : List Plug) (whole : List Move) (pointer : ℕ) where
  -- the end of a plug that was placed
  pub record IsPlacedEnd (place : ℕ) : Type 0 where
    pub plug : Plug
    pub move : Move
    pub known : IsIn plug all
    pub unpinned : plug.pinned ≡ false
    pub size : move.size ≡ plug.size
    pub fits : FitsAt segments all plug.size move.to
    pub among : IsIn move whole
    pub is : place ≡ move.to + move.size

  -- places from which a plug may start
  abbrev pub MayStart : ℕ → Type 0
  MayStart place = (place % 8 ≡ 0) × ((place ≡ pointer) ⊎ (IsEdge segments all place ⊎ IsPlacedEnd place))

module _ (segments : List SegInfo) (all : List Plug) (h : ArePlugs segments all) (start : SegInfo
    → ℕ) (pointer : ℕ) (st : AreStarts segments all start pointer)
    (ps : List Plug) (whole : List Move) (after : ℕ)
    (line : AreInLine all ps) (complete : (p : Plug) → IsIn p all → IsIn p ps)
    (walk : Walk segments all pointer ps whole after)
  where
    abbrev source : ℕ → Type 0
    source = MayStart segments all whole pointer

    edge-aligned : (place : ℕ) → IsEdge segments all place → place % 8 ≡ 0
    edge-aligned place (inl (p, i, pinned, e)) = let (a, b) = st.whole p i in omega arith
    edge-aligned place (inr (s, i, e)) = let (a, b) = st.aligned s i in omega arith

    pub sources : IsSource segments all whole source
    sources = record {
      edge = λ place e. (edge-aligned place e, inr (inl e));
      placed = λ p v i unpinned size fits j from. let (a, b) = st.whole p i in let at : v.to % 8 ≡ 0 = from.0 in (
        omega arith,
        inr (inr (record {
          plug = p;
          move = v;
          known = i;
          unpinned = unpinned;
          size = size;
          fits = fits;
          among = j;
          is = refl;
        })),
      );
    }

    pub done : IsWalked segments all source pointer ps whole after
    done = walked segments all h whole source sources pointer ps whole after walk line
        (first-near segments all h start pointer st ps line) (first-outside segments all h start pointer st)
        (first-aligned segments all h start pointer st, inl refl) (λ v i. i)

    abbrev pub blocks_in : SegInfo → List Piece
    blocks_in s = pieces_in s (moved_pieces whole)

    -- what stands in two segments stands in one
    one_home : (s t : SegInfo) (place : ℕ) → IsIn s segments → IsIn t segments → first_place s ≤ place
        → place ≤ reserved_end s → first_place t ≤ place → place ≤ reserved_end t → s ≡ t
    one_home s t place i j a b c d = go (h.separate s t i j)
      where
        go : AreSeparate s t → s ≡ t
        go (inl e) = e
        go (inr (inl l)) = absurd (omega arith)
        go (inr (inr l)) = absurd (omega arith)

    stands : (s : SegInfo) (place : ℕ) → first_place s ≤ place → place < reserved_end s → stands_in s place ≡ true
    stands s place a b = and_from (nat_le (first_place s) place) (nat_lt place (reserved_end s))
        (le-leb (first_place s) place a) (lt-ltb place (reserved_end s) b)

    block_of : (s : SegInfo) (v : Move) → IsIn v whole → first_place s ≤ v.to → v.to < reserved_end s
        → IsIn (piece_of_move v) (blocks_in s)
    block_of s v i a b =
        into_filter (λ (p : Piece). stands_in s p.place) (moved_pieces whole) (stands s v.to a b)
        (into_sorted_by (λ (p : Piece). p.place) (piece_of_move v) (map piece_of_move whole) (IsIn-map piece_of_move i))

    -- a place in the segment from which a plug may start is the start of its part or a piece's end
    pub source-end : (s : SegInfo) (place : ℕ) → IsIn s segments → first_place s ≤ place → place ≤ reserved_end s
        → start s ≤ place → source place → IsEnd (start s) (blocks_in s) place
    source-end s place i a b c (al, inl e) =
        let l : first_place st.base ≤ start st.base = st.low st.base st.among in
        let u : start st.base ≤ reserved_end st.base = st.high st.base st.among in
        let is : start st.base ≡ pointer = st.begins in
        let same : st.base ≡ s = one_home st.base s place st.among i (omega arith) (omega arith) a b in
        inl (e ∙ sym st.begins ∙ ap start same)
    source-end s place i a b c (al, inr (inl (inl (p, j, pinned, e)))) =
        let is : IsPlug segments p = h.each p j in
        let g : IsGapped (first_place is.home) p.start = is.low in
        let u : plug_end p ≤ reserved_end is.home = is.high in
        let z : 24 ≤ p.size = is.size in
        let same : is.home ≡ s = one_home is.home s place is.among i (omega arith) (omega arith) a b in
        let base : is.home.base ≡ s.base = ap (λ (t : SegInfo). t.base) same in
        let low : first_place s ≤ p.start = omega arith in
        let (v, k, landed) = move_of_plug (IsLanded segments all source) ps whole p done.landed (complete p j) in
        let at : v.to ≡ p.start = landed.pinned pinned in
        let size : v.size ≡ p.size = landed.size in
        inr (piece_of_move v, block_of s v k (omega arith) (omega arith), omega arith)
    source-end s place i a b c (al, inr (inl (inr (t, j, e)))) =
        let l : 0x2000 ≤ t.reserved = h.reserved t j in
        let same : t ≡ s = one_home t s place j i (omega arith) (omega arith) a b in
        let base : t.base ≡ s.base = ap (λ (t : SegInfo). t.base) same in
        let low : first_place s ≤ start s = st.low s i in
        inl (omega arith)
    source-end s place i a b c (al, inr (inr e)) =
        let t : SegInfo = e.fits.0 in
        let low : first_place t ≤ e.move.to = e.fits.2 in
        let clear : IsClear all t e.plug.size e.move.to =
        room-clear segments all h t e.plug.size e.move.to e.fits.1 e.fits.4 in
        let tail : e.move.to + e.plug.size ≤ reserved_end t = clear.tail in
        let size : e.move.size ≡ e.plug.size = e.size in
        let big : 24 ≤ e.plug.size = (h.each e.plug e.known).size in
        let is : place ≡ e.move.to + e.move.size = e.is in
        let same : t ≡ s = one_home t s place e.fits.1 i (omega arith) (omega arith) a b in
        let base : t.base ≡ s.base = ap (λ (t : SegInfo). t.base) same in
        let res : t.reserved ≡ s.reserved = ap (λ (t : SegInfo). t.reserved) same in
        inr (piece_of_move e.move, block_of s e.move e.among (omega arith) (omega arith), sym e.is)

    -- a piece after the compaction, with its plug
    pub record IsBlock (s : SegInfo) (b : Piece) : Type 0 where
      pub plug : Plug
      pub move : Move
      pub known : IsIn plug all
      pub among : IsIn move whole
      pub is : b ≡ piece_of_move move
      pub landed : IsLanded segments all source plug move
      pub above : plug.pinned ≡ false → pointer ≤ move.to
      pub below : plug.pinned ≡ false → move.to + move.size ≤ after
      pub low : first_place s ≤ move.to
      pub high : move.to < reserved_end s

    pub in_line-among : (qs : List Plug) (p : Plug) → AreInLine all qs → IsIn p qs → IsIn p all
    in_line-among [] p l i = elim i [ ]
    in_line-among (q ∷ qs) p l first = l.0
    in_line-among (q ∷ qs) p l (later i) = in_line-among qs p l.2 i

    pub block-is : (s : SegInfo) (b : Piece) → IsIn b (blocks_in s) → IsBlock s b
    block-is s b i =
        let (t, j) = out_of_filter (λ (p : Piece). stands_in s p.place) b (moved_pieces whole) i in
        let (v, e, k) = from-map piece_of_move b whole
        (out_of_sorted_by (λ (p : Piece). p.place) b (map piece_of_move whole) j) in
        let (p, m, (landed, (above, below))) =
        plug_of_move (λ p v. IsLanded segments all source p v
        × ((p.pinned ≡ false → pointer ≤ v.to) × (p.pinned ≡ false → v.to + v.size ≤ after))) ps whole v
        (each_both (IsLanded segments all source)
        (λ p v. (p.pinned ≡ false → pointer ≤ v.to)
        × (p.pinned ≡ false → v.to + v.size ≤ after)) ps whole done.landed
        (each_both (λ p v. p.pinned ≡ false → pointer ≤ v.to) (λ p v. p.pinned ≡ false
        → v.to + v.size ≤ after) ps whole done.above done.below)) k
        in
        let place : b.place ≡ v.to = ap (λ (p : Piece). p.place) e in
        let (l, u) = and_parts (nat_le (first_place s) b.place) (nat_lt b.place (reserved_end s)) t in
        let l' : first_place s ≤ b.place = leb-true (first_place s) b.place l in
        let u' : b.place < reserved_end s = ltb-true b.place (reserved_end s) u in
        record {
          plug = p;
          move = v;
          known = in_line-among ps p line m;
          among = k;
          is = e;
          landed = landed;
          above = above;
          below = below;
          low = omega arith;
          high = omega arith;
        }

    -- the segment of a pinned plug that stands in this one
    pin-home : (s : SegInfo) → IsIn s segments → (a : Piece) (b : IsBlock s a) → b.plug.pinned ≡ true
        → b.plug.segment ≡ s.base
    pin-home s i a b pinned =
        let is : IsPlug segments b.plug = h.each b.plug b.known in
        let at : b.move.to ≡ b.plug.start = b.landed.pinned pinned in
        let g : IsGapped (first_place is.home) b.plug.start = is.low in
        let u : plug_end b.plug ≤ reserved_end is.home = is.high in
        let l : first_place s ≤ b.move.to = b.low in
        let m : b.move.to < reserved_end s = b.high in
        let same : is.home ≡ s = one_home is.home s b.plug.start is.among i (omega arith) (omega arith) (omega arith)
        (omega arith) in
        is.of ∙ ap (λ (t : SegInfo). t.base) same

    block-above : (s : SegInfo) → IsIn s segments → (a : Piece) (b : IsBlock s a) → start s ≤ b.move.to
    block-above s i a b = go b.plug.pinned refl (st.each s i)
      where
        l : first_place s ≤ b.move.to
        l = b.low

        go : (t : Bool) → b.plug.pinned ≡ t → (start s ≡ pointer) ⊎ (start s ≡ first_place s) → start s ≤ b.move.to
        go true e k = let at : b.move.to ≡ b.plug.start = b.landed.pinned e in
            let g : IsGapped (start s) b.plug.start = st.plugs s b.plug i b.known (pin-home s i a b e) in omega arith
        go false e (inl k) = let up : pointer ≤ b.move.to = b.above e in omega arith
        go false e (inr k) = omega arith

    blocks-rise : (s : SegInfo) → IsRisingBy (λ (p : Piece). p.place) (blocks_in s)
    blocks-rise s =
        filter-rises (λ (p : Piece). stands_in s p.place) (λ (p : Piece). p.place) (moved_pieces whole)
        (sorted_by-rises (λ (p : Piece). p.place) (map piece_of_move whole)
        (scattered-distinct (map piece_of_move whole) scattered sized))
      where
        scattered : AreScattered (map piece_of_move whole)
        scattered = landed-scattered segments all h source ps whole line done.landed done.ordered

        sized : (a : Piece) → IsIn a (map piece_of_move whole) → 0 < a.size
        sized a i =
            let (v, e, k) = from-map piece_of_move a whole i in
            let (p, m, landed) = plug_of_move (IsLanded segments all source) ps whole v done.landed k in
            let z : 24 ≤ p.size = (h.each p (in_line-among ps p line m)).size in
            let size : v.size ≡ p.size = landed.size in
            let same : a.size ≡ v.size = ap (λ (p : Piece). p.size) e in
            omega arith

    block-size : (s : SegInfo) (a : Piece) → IsIn a (blocks_in s) → IsLawfulSize a.size × (a.place % 8 ≡ 0)
    block-size s a i =
        let b : IsBlock s a = block-is s a i in
        let z : 24 ≤ b.plug.size = (h.each b.plug b.known).size in
        let (x, y) = st.whole b.plug b.known in
        let size : b.move.size ≡ b.plug.size = b.landed.size in
        let same : a.size ≡ b.move.size = ap (λ (p : Piece). p.size) b.is in
        let at : a.place ≡ b.move.to = ap (λ (p : Piece). p.place) b.is in
        ((omega arith, omega arith), go b at b.plug.pinned refl)
      where
        go : (b : IsBlock s a) → a.place ≡ b.move.to → (t : Bool) → b.plug.pinned ≡ t → a.place % 8 ≡ 0
        go b at true e = let (x, y) = st.whole b.plug b.known in let k : b.move.to ≡ b.plug.start = b.landed.pinned e in
            omega arith
        go b at false e = let k : source b.move.to = b.landed.from e in let m : b.move.to % 8 ≡ 0 = k.0 in omega arith

    -- pieces of one segment are apart
    block-apart : (s : SegInfo) (a b : Piece) → IsIn a (blocks_in s) → IsIn b (blocks_in s) → a.place < b.place
        → piece_end a ≤ b.place
    block-apart s a b i j l =
        go (scattered-apart (map piece_of_move whole) a b
        (landed-scattered segments all h source ps whole line done.landed done.ordered) (back a i) (back b j))
      where
        back : (c : Piece) → IsIn c (blocks_in s) → IsIn c (map piece_of_move whole)
        back c k = out_of_sorted_by (λ (p : Piece). p.place) c (map piece_of_move whole)
            (out_of_filter (λ (p : Piece). stands_in s p.place) c (moved_pieces whole) k).1

        go : (a ≡ b) ⊎ ((piece_end a ≤ b.place) ⊎ (piece_end b ≤ a.place)) → piece_end a ≤ b.place
        go (inl e) = let same : a.place ≡ b.place = ap (λ (p : Piece). p.place) e in absurd (omega arith)
        go (inr (inl k)) = k
        go (inr (inr k)) = absurd (omega arith)

    -- up to a pinned plug is nothing, or room for a free item
    pin-gapped : (s : SegInfo) (a d : Piece) (b : IsBlock s d) → IsIn a (blocks_in s) → b.plug.pinned ≡ true
        → piece_end a ≤ b.move.to → IsGapped (piece_end a) b.move.to
    pin-gapped s a d b i pinned l = go (block-is s a i)
      where
        to : b.move.to ≡ b.plug.start
        to = b.landed.pinned pinned

        go : IsBlock s a → IsGapped (piece_end a) b.move.to
        go c = by_pin c.plug.pinned refl
          where
            size : c.move.size ≡ c.plug.size
            size = c.landed.size

            ends : piece_end a ≡ c.move.to + c.move.size
            ends = ap (λ (p : Piece). p.place + p.size) c.is

            z : 24 ≤ c.plug.size
            z = (h.each c.plug c.known).size

            by_fit : (plug_end b.plug ≤ c.move.to) ⊎ IsGapped (c.move.to + c.plug.size) b.plug.start
                → IsGapped (piece_end a) b.move.to
            by_fit (inl k) = let zb : 24 ≤ b.plug.size = (h.each b.plug b.known).size in let e = ends in let t = to in
                let sz = size in absurd (omega arith)
            by_fit (inr k) = let e = ends in let t = to in let sz = size in grind arith

            by_pin : (t : Bool) → c.plug.pinned ≡ t → IsGapped (piece_end a) b.move.to
            by_pin true e =
                let at : c.move.to ≡ c.plug.start = c.landed.pinned e in
                let t = to in let sz = size in let en = ends in let zz = z in
                let g : IsGapped (plug_end c.plug) b.plug.start = h.apart c.plug b.plug c.known b.known (omega arith) in
                grind arith
            by_pin false e = by_fit (fit-between segments all h c.plug.size c.move.to (c.landed.outside e)
                (c.landed.fits e) b.plug b.known pinned)

    pub blocks : (s : SegInfo) → IsIn s segments → AreBlocks (start s) (blocks_in s)
    blocks s i = record {
      rise = blocks-rise s;
      apart = block-apart s;
      lawful = λ a j. (block-size s a j).0;
      aligned = λ a j. (block-size s a j).1;
      above = λ a j. let b : IsBlock s a = block-is s a j in let l : start s ≤ b.move.to = block-above s i a b in
          let e : a.place ≡ b.move.to = ap (λ (p : Piece). p.place) b.is in omega arith;
      start = (st.aligned s i).1;
      joined = joined;
    }
      where
        joined : (a : Piece) → IsIn a (blocks_in s) → IsJoined (start s) (blocks_in s) a
        joined a j = go (block-is s a j)
          where
            go : IsBlock s a → IsJoined (start s) (blocks_in s) a
            go b = by_pin b.plug.pinned refl
              where
                at : a.place ≡ b.move.to
                at = ap (λ (p : Piece). p.place) b.is

                by_pin : (t : Bool) → b.plug.pinned ≡ t → IsJoined (start s) (blocks_in s) a
                by_pin true e =
                    let to : b.move.to ≡ b.plug.start = b.landed.pinned e in
                    inr (
                      subst (IsGapped (start s)) (sym (at ∙ to))
                          (st.plugs s b.plug i b.known (pin-home s i a b e)),
                      λ c k l. subst (IsGapped (piece_end c))
                          (sym at) (pin-gapped s c a b k e (subst (λ n. piece_end c ≤ n) at l)),
                    )
                by_pin false e =
                    let up : b.move.to < reserved_end s = b.high in
                    inl (subst (IsEnd (start s) (blocks_in s)) (sym at)
                    (source-end s b.move.to i b.low (omega arith) (block-above s i a b) (b.landed.from e)))

    -- the pieces of a segment and the gaps between them tile it from the start of its part to the end of its last piece
    pub segment-tiles : (s : SegInfo) → IsIn s segments
        → Tiles (start s) (end_of_last (start s) (blocks_in s))
        (by_place (blocks_in s ++ gaps (start s) (end_of_last (start s) (blocks_in s)) (blocks_in s)))
    segment-tiles s i = blocks-and-gaps-tile (start s) (blocks_in s) (blocks s i)

    -- each gap is followed directly by a pinned plug
    pub gap-before-pin : (s : SegInfo) → IsIn s segments → (g : Piece)
        → IsIn g (gaps (start s) (end_of_last (start s) (blocks_in s)) (blocks_in s)) → IsBeforePin all g
    gap-before-pin s i g j = go (gaps-are (start s) (blocks_in s) (blocks s i) g j)
      where
        go : IsGapPiece (start s) (blocks_in s) g → IsBeforePin all g
        go k = by_block (block-is s k.before k.among)
          where
            by_block : IsBlock s k.before → IsBeforePin all g
            by_block b = by_pin b.plug.pinned refl
              where
                at : k.before.place ≡ b.move.to
                at = ap (λ (p : Piece). p.place) b.is

                by_pin : (t : Bool) → b.plug.pinned ≡ t → IsBeforePin all g
                by_pin true e = record {
                  plug = b.plug;
                  known = b.known;
                  pinned = e;
                  ends = k.ends ∙ at ∙ b.landed.pinned e;
                  lawful = k.lawful;
                }
                by_pin false e =
                    let up : b.move.to < reserved_end s = b.high in
                    absurd (k.not_end (subst (IsEnd (start s) (blocks_in s)) (sym at)
                    (source-end s b.move.to i b.low (omega arith) (block-above s i k.before b) (b.landed.from e))))

    -- a piece of the segment ends in its reservation
    pub block-high : (s : SegInfo) → IsIn s segments → (a : Piece) → IsIn a (blocks_in s) → piece_end a ≤ reserved_end s
    block-high s i a j = go (block-is s a j)
      where
        go : IsBlock s a → piece_end a ≤ reserved_end s
        go b = by_pin b.plug.pinned refl
          where
            ends : piece_end a ≡ b.move.to + b.move.size
            ends = ap (λ (p : Piece). p.place + p.size) b.is

            size : b.move.size ≡ b.plug.size
            size = b.landed.size

            by_pin : (t : Bool) → b.plug.pinned ≡ t → piece_end a ≤ reserved_end s
            by_pin true e =
                let (g, u) = in_segment segments all h s b.plug i b.known (pin-home s i a b e) in
                let to : b.move.to ≡ b.plug.start = b.landed.pinned e in
                let en = ends in let sz = size in
                omega arith
            by_pin false e =
                let t = b.landed.fits e in
                let clear : IsClear all t.0 b.plug.size b.move.to =
                room-clear segments all h t.0 b.plug.size b.move.to t.1 t.4 in
                let tail : b.move.to + b.plug.size ≤ reserved_end t.0 = clear.tail in
                let m : first_place t.0 ≤ b.move.to = t.2 in
                let n : first_place s ≤ b.move.to = b.low in
                let o : b.move.to < reserved_end s = b.high in
                let same : t.0 ≡ s = one_home t.0 s b.move.to t.1 i (omega arith) (omega arith) (omega arith)
                (omega arith) in
                let base : reserved_end t.0 ≡ reserved_end s = ap (λ (u : SegInfo). u.base + u.reserved) same in
                let en = ends in let sz = size in
                omega arith

    -- a place from which a plug may start is crossed by no gap
    pub gap-outside : (s : SegInfo) → IsIn s segments → (g : Piece)
        → IsIn g (gaps (start s) (end_of_last (start s) (blocks_in s)) (blocks_in s)) → (place : ℕ)
        → IsEnd (start s) (blocks_in s) place → (place ≤ g.place) ⊎ (piece_end g ≤ place)
    gap-outside s i g j place end = go end (gaps-are (start s) (blocks_in s) (blocks s i) g j)
      where
        split : (a : Piece) → piece_end a ≡ place → (piece_end a ≤ g.place) ⊎ (piece_end g ≤ a.place)
            → (place ≤ g.place) ⊎ (piece_end g ≤ place)
        split a e (inl l) = inl (omega arith)
        split a e (inr l) = inr (omega arith)

        go : IsEnd (start s) (blocks_in s) place → IsGapPiece (start s) (blocks_in s) g
            → (place ≤ g.place) ⊎ (piece_end g ≤ place)
        go (inl e) k = let l : start s ≤ g.place = k.start in inl (omega arith)
        go (inr (a, m, e)) k = split a e (k.free a m)

    -- ---- the end of the segment in which the walk ended

    end-up : (low : ℕ) (qs : List Plug) → IsRisingBy (λ (p : Plug). p.start) qs → ((p : Plug) → IsIn p qs → IsIn p all)
        → ((p : Plug) → IsIn p qs → low ≤ p.start) → low ≤ end_of_last low (map piece_of_plug qs)
    end-up low [] rise sub above = omega arith
    end-up low (q ∷ qs) rise sub above =
        let l : low ≤ q.start = above q first in
        let m : plug_end q ≤ end_of_last (plug_end q) (map piece_of_plug qs) =
        end-up (plug_end q) qs rise.1 (λ r j. sub r (later j))
        (λ r j. let g : IsGapped (plug_end q) r.start =
        h.apart q r (sub q first) (sub r (later j)) (all_at (λ (w : Plug). q.start < w.start) j rise.0) in
        omega arith)
        in omega arith

    last-above : (low : ℕ) (qs : List Plug) → IsRisingBy (λ (p : Plug). p.start) qs
        → ((p : Plug) → IsIn p qs → IsIn p all) → (p : Plug) → IsIn p qs
        → plug_end p ≤ end_of_last low (map piece_of_plug qs)
    last-above low [] rise sub p i = elim i [ ]
    last-above low (q ∷ qs) rise sub p i =
        go (in_cons i) (last-above (plug_end q) qs rise.1 (λ r j. sub r (later j)) p)
        (end-up (plug_end q) qs rise.1 (λ r j. sub r (later j)) (λ r j. above r j))
      where
        above : (r : Plug) → IsIn r qs → plug_end q ≤ r.start
        above r j = let g : IsGapped (plug_end q) r.start =
            h.apart q r (sub q first) (sub r (later j)) (all_at (λ (w : Plug). q.start < w.start) j rise.0) in
            omega arith

        go : (p ≡ q) ⊎ IsIn p qs → (IsIn p qs → plug_end p ≤ end_of_last (plug_end q) (map piece_of_plug qs))
            → plug_end q ≤ end_of_last (plug_end q) (map piece_of_plug qs)
            → plug_end p ≤ end_of_last (plug_end q) (map piece_of_plug qs)
        go (inl e) more up = let same : plug_end p ≡ plug_end q = ap (λ (w : Plug). w.start + w.size) e in omega arith
        go (inr j) more up = more j

    -- where the last plug ends, or the low place where there is none
    last-is-one : (low : ℕ) (qs : List Plug)
        → (end_of_last low (map piece_of_plug qs) ≡ low)
        ⊎ ((p : Plug) × IsIn p qs × (end_of_last low (map piece_of_plug qs) ≡ plug_end p))
    last-is-one low [] = inl refl
    last-is-one low (q ∷ qs) = go (last-is-one (plug_end q) qs)
      where
        go : (end_of_last (plug_end q) (map piece_of_plug qs) ≡ plug_end q)
            ⊎ ((p : Plug) × IsIn p qs × (end_of_last (plug_end q) (map piece_of_plug qs) ≡ plug_end p))
            → (end_of_last (plug_end q) (map piece_of_plug qs) ≡ low)
            ⊎ ((p : Plug) × IsIn p (q ∷ qs) × (end_of_last (plug_end q) (map piece_of_plug qs) ≡ plug_end p))
        go (inl e) = inr (q, first, e)
        go (inr (p, i, e)) = inr (p, later i, e)

    pub raised-source : (qs : List Plug) → ((p : Plug) → IsIn p qs → IsIn p all) → (place : ℕ) → source place
        → source (raised_past_pins qs place)
    raised-source qs sub place s = go (raised_is qs place)
      where
        go : (raised_past_pins qs place ≡ place)
            ⊎ ((p : Plug) × IsIn p qs × (p.pinned ≡ true) × (raised_past_pins qs place ≡ plug_end p))
            → source (raised_past_pins qs place)
        go (inl e) = subst source (sym e) s
        go (inr (p, i, pinned, e)) = sources.edge (raised_past_pins qs place) (inl (p, sub p i, pinned, e))

    pub raised-outside : (qs : List Plug) → ((p : Plug) → IsIn p qs → IsIn p all) → (place : ℕ) → IsOutside all place
        → IsOutside all (raised_past_pins qs place)
    raised-outside qs sub place out = go (raised_is qs place)
      where
        go : (raised_past_pins qs place ≡ place)
            ⊎ ((p : Plug) × IsIn p qs × (p.pinned ≡ true) × (raised_past_pins qs place ≡ plug_end p))
            → IsOutside all (raised_past_pins qs place)
        go (inl e) = subst (IsOutside all) (sym e) out
        go (inr (p, i, pinned, e)) = edge-outside segments all h (raised_past_pins qs place)
            (inl (p, sub p i, pinned, e))

    -- a place from which a plug may start is at most the end of some reservation
    source-high : (place : ℕ) → source place → (t : SegInfo) × IsIn t segments × (place ≤ reserved_end t)
    source-high place (al, inl e) = let l : start st.base ≤ reserved_end st.base = st.high st.base st.among in
        let b : start st.base ≡ pointer = st.begins in (st.base, st.among, omega arith)
    source-high place (al, inr (inl (inl (p, i, pinned, e)))) = let is : IsPlug segments p = h.each p i in
        let l : plug_end p ≤ reserved_end is.home = is.high in (is.home, is.among, omega arith)
    source-high place (al, inr (inl (inr (s, i, e)))) = let l : 0x2000 ≤ s.reserved = h.reserved s i in
        (s, i, omega arith)
    source-high place (al, inr (inr e)) =
        let clear : IsClear all e.fits.0 e.plug.size e.move.to =
        room-clear segments all h e.fits.0 e.plug.size e.move.to e.fits.1 e.fits.4 in
        let tail : e.move.to + e.plug.size ≤ reserved_end e.fits.0 = clear.tail in
        let size : e.move.size ≡ e.plug.size = e.size in
        let is : place ≡ e.move.to + e.move.size = e.is in
        (e.fits.0, e.fits.1, omega arith)

    module _ (s : SegInfo) (i : IsIn s segments) (highest : (t : SegInfo) → IsIn t segments
        → reserved_end t ≤ reserved_end s) (reached : first_place s ≤ after) where
      pub source-under : (place : ℕ) → source place → place ≤ reserved_end s
      source-under place m = let (t, j, l) = source-high place m in
          let k : reserved_end t ≤ reserved_end s = highest t j in omega arith

      after-start : start s ≤ after
      after-start = let up : pointer ≤ after = done.rises in go (st.each s i) up
        where
          go : (start s ≡ pointer) ⊎ (start s ≡ first_place s) → pointer ≤ after → start s ≤ after
          go (inl e) up = omega arith
          go (inr e) up = omega arith

      abbrev pins : List Plug
      pins = filter (λ (p : Plug). p.pinned && (p.segment == s.base)) all

      abbrev pub start0 : ℕ
      start0 = raised_past_pins all after

      pub start0-up : after ≤ start0
      start0-up = raised_up all after

      pub start0-source : source start0
      start0-source = raised-source all (λ p j. j) after done.from

      pub start0-end : IsEnd (start s) (blocks_in s) start0
      start0-end = let l = start0-up in let m = after-start in
          source-end s start0 i (omega arith) (source-under start0 start0-source) (omega arith) start0-source

      abbrev pub top : ℕ
      top = max start0 (end_of_last start0 (pinned_pieces s.base all))

      pin-in : (p : Plug) → IsIn p pins → (p.pinned ≡ true) × (p.segment ≡ s.base) × IsIn p all
      pin-in p j = let (t, k) = out_of_filter (λ (p : Plug). p.pinned && (p.segment == s.base)) p all j in
          let (pinned, of) = and_parts p.pinned (p.segment == s.base) t in (pinned, eqb-true p.segment s.base of, k)

      top-end : IsEnd (start s) (blocks_in s) top
      top-end = go (last-is-one start0 pins)
        where
          at_pin : (p : Plug) → IsIn p pins → end_of_last start0 (map piece_of_plug pins) ≡ plug_end p
              → (start0 ≤ plug_end p) ⊎ (plug_end p < start0) → IsEnd (start s) (blocks_in s) top
          at_pin p j e (inr l) = subst (IsEnd (start s) (blocks_in s)) (omega arith) start0-end
          at_pin p j e (inl l) =
              let (pinned, of, k) = pin-in p j in
              let edge : IsEdge segments all (plug_end p) = inl (p, k, pinned, refl) in
              let from : source (plug_end p) = sources.edge (plug_end p) edge in
              let up = start0-up in
              let m = after-start in
              subst (IsEnd (start s) (blocks_in s)) (omega arith)
              (source-end s (plug_end p) i (omega arith) (source-under (plug_end p) from) (omega arith) from)

          order : (m n : ℕ) → (m < n) ⊎ (n ≤ m) → (n ≤ m) ⊎ (m < n)
          order m n (inl l) = inr l
          order m n (inr l) = inl l

          go : (end_of_last start0 (map piece_of_plug pins) ≡ start0)
              ⊎ ((p : Plug) × IsIn p pins × (end_of_last start0 (map piece_of_plug pins) ≡ plug_end p))
              → IsEnd (start s) (blocks_in s) top
          go (inl e) = subst (IsEnd (start s) (blocks_in s)) (omega arith) start0-end
          go (inr (p, j, e)) = at_pin p j e (order (plug_end p) start0 (cases_lt (plug_end p) start0))

      top-above : (a : Piece) → IsIn a (blocks_in s) → piece_end a ≤ top
      top-above a j = go (block-is s a j)
        where
          go : IsBlock s a → piece_end a ≤ top
          go b = by_pin b.plug.pinned refl
            where
              ends : piece_end a ≡ b.move.to + b.move.size
              ends = ap (λ (p : Piece). p.place + p.size) b.is

              by_pin : (t : Bool) → b.plug.pinned ≡ t → piece_end a ≤ top
              by_pin true e =
                  let k : IsIn b.plug pins = into_filter (λ (p : Plug). p.pinned && (p.segment == s.base)) all
                  (and_from b.plug.pinned (b.plug.segment == s.base) e
                  (eq-eqb b.plug.segment s.base (pin-home s i a b e))) b.known in
                  let l : plug_end b.plug ≤ end_of_last start0 (map piece_of_plug pins) =
                  last-above start0 pins (filter-rises (λ (p : Plug). p.pinned && (p.segment == s.base))
                  (λ (p : Plug). p.start) all h.rise) (λ p m. (pin-in p m).2) b.plug k in
                  let to : b.move.to ≡ b.plug.start = b.landed.pinned e in
                  let size : b.move.size ≡ b.plug.size = b.landed.size in
                  let en = ends in
                  omega arith
              by_pin false e = let l : b.move.to + b.move.size ≤ after = b.below e in let up = start0-up in
                  let en = ends in omega arith

      -- the segment's new end is where its last piece ends
      pub top-is : top ≡ end_of_last (start s) (blocks_in s)
      top-is = last-is (start s) (blocks_in s) top (blocks s i) top-end top-above
