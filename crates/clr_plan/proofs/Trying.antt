-- How a plug that isn't pinned finds its destination: the pointer tries its own place, then the ends of the pins that
-- the walk has met, and the first places of segments. What lies behind the plug doesn't matter: in the plug's own
-- stretch the plug fits at the pointer.
use Rattle.std.proofs.Common.{◌≡◌, ℕ, ◌+◌, ◌<◌, ◌≤◌, ◌⊎◌, inl, inr, List, [], ◌∷◌, ◌++◌, refl, sym, ap, subst, ◌∙◌}
use Rattle.std.proofs.Common.{arith, Bool, true, false, append_assoc}
use Rattle.std.proofs.lemmas.Bool.{both_ways, cases_lt}
use Rattle.clr_types.specs.Rising.{IsIn, first, later}
use Rattle.clr_types.specs.Ranges.{Piece, piece_end}
use Rattle.clr_types.specs.Segments.{first_place, reserved_end}
use Rattle.clr_types.specs.declared.segment.SegInfo.{SegInfo}
use Rattle.clr_types.proofs.RisingLists.{in_cons}
use Rattle.clr_types.proofs.ChangedLists.{append_left}
use Rattle.clr_types.proofs.ListMembers.{in_append, append_right}
use Rattle.clr_types.proofs.PieceGaps.{IsGapped}
use Rattle.clr_types.proofs.SegmentFacts.{AreSeparate}
use Rattle.clr_model.specs.Compaction.{Plug, plug_end, piece_of_plug, FitsAt, IsCandidate, IsDestination}
use Rattle.clr_model.proofs.PlugRoom.{IsPlug, ArePlugs, IsPinIn, IsOutside, IsClear, room-clear, clear-room}
use Rattle.clr_model.proofs.PlugRoom.{fit-between, in_segment}
use Rattle.clr_model.proofs.PlugPointer.{IsNear, IsEdge, edge-gapped, edge-outside, above-outside, near-placed}
use Rattle.clr_plan.specs.Pointing.{IsAt}
use Rattle.clr_plan.proofs.Pins.{before, behind as later_start, IsNextPin, next-pin, pins-past, pins-same, pins-none}
use Rattle.clr_plan.proofs.Pins.{pins-more, pins-fewer}

module _ (segments : List SegInfo) (done : List Plug) (q : Plug) (ahead : List Plug)
    (h : ArePlugs segments (done ++ q ∷ ahead)) (unpinned : q.pinned ≡ false) where
  abbrev all : List Plug
  all = done ++ q ∷ ahead

  known : IsIn q all
  known = append_right done first

  -- From the place `from` the pointer has come to this one for the plug q: all candidates below were tried.
  pub record IsTrying (from : ℕ) (s : SegInfo) (place : ℕ) (pins : List Piece) : Type 0 where
    pub at : IsAt segments done (q ∷ ahead) s place pins
    pub candidate : IsCandidate segments all from place
    pub up : from ≤ place
    pub lowest : (other : ℕ) → IsCandidate segments all from other → from ≤ other → FitsAt segments all q.size other
        → place ≤ other

  pub starts : (s : SegInfo) (place : ℕ) (pins : List Piece) → IsAt segments done (q ∷ ahead) s place pins
      → IsTrying place s place pins
  starts s place pins at = record { at = at; candidate = inl refl; up = omega arith; lowest = λ other c l f. l }

  -- ---- segments

  -- a place stands in one segment
  one_home : (s t : SegInfo) (place : ℕ) → IsIn s segments → IsIn t segments → first_place s ≤ place
      → place ≤ reserved_end s → first_place t ≤ place → place ≤ reserved_end t → t ≡ s
  one_home s t place i j a b c d = go (h.separate t s j i)
    where
      go : AreSeparate t s → t ≡ s
      go (inl e) = e
      go (inr (inl l)) = absurd (omega arith)
      go (inr (inr l)) = absurd (omega arith)

  -- a plug that begins in a segment is one of it
  pub segment_by_place : (s : SegInfo) (p : Plug) → IsIn s segments → IsIn p all → first_place s ≤ p.start
      → p.start < reserved_end s → p.segment ≡ s.base
  segment_by_place s p i j low high =
      let is : IsPlug segments p = h.each p j in
      let g : IsGapped (first_place is.home) p.start = is.low in
      let u : plug_end p ≤ reserved_end is.home = is.high in
      is.of ∙ ap (λ (t : SegInfo). t.base) (one_home s is.home p.start i is.among low (omega arith) (omega arith)
      (omega arith))

  -- where the plug stands: in the pointer's segment or above it
  pub home_above : (s : SegInfo) (place : ℕ) (pins : List Piece) → IsAt segments done (q ∷ ahead) s place pins
      → (q.segment ≡ s.base) ⊎ (reserved_end s ≤ q.start)
  home_above s place pins at = go (h.separate is.home s is.among at.among)
    where
      is : IsPlug segments q
      is = h.each q known

      go : AreSeparate is.home s → (q.segment ≡ s.base) ⊎ (reserved_end s ≤ q.start)
      go (inl e) = inl (is.of ∙ ap (λ (t : SegInfo). t.base) e)
      go (inr (inl l)) =
          let u : plug_end q ≤ reserved_end is.home = is.high in
          let z : 24 ≤ q.size = is.size in
          let (n, m) = at.near q first in
          let low : first_place s ≤ place = at.low in absurd (omega arith)
      go (inr (inr l)) = let g : IsGapped (first_place is.home) q.start = is.low in inr (omega arith)

  -- ---- at a pin in the pointer's segment

  module _ (from : ℕ) (s : SegInfo) (place : ℕ) (x : Piece) (rest : List Piece) (t : IsTrying from s place (x ∷ rest))
      (inside : x.place < reserved_end s) where
    pin : IsNextPin segments done (q ∷ ahead) h place x
    pin = next-pin segments done (q ∷ ahead) h place x rest t.at.waiting

    pin-known : IsIn pin.plug all
    pin-known = append_left (q ∷ ahead) pin.known

    pin-here : pin.plug.segment ≡ s.base
    pin-here =
        let start : x.place ≡ pin.plug.start = pin.start in
        let a : place ≤ pin.plug.start = pin.above in
        let b : first_place s ≤ place = t.at.low in
        segment_by_place s pin.plug t.at.among pin-known (omega arith) (omega arith)

    -- where the plug fits before the pin, it fits
    pub fits-before : IsGapped (place + q.size) x.place → FitsAt segments all q.size place
    fits-before g = (
      s,
      t.at.among,
      t.at.low,
      t.at.high,
      clear-room segments all h s q.size place
          (record { tail = omega arith; pins = λ p j p_in above. clear p (pin.least p j p_in.0 above) }),
    )
      where
        clear : (p : Plug) → (p ≡ pin.plug) ⊎ (plug_end pin.plug ≤ p.start) → IsGapped (place + q.size) p.start
        clear p (inl e) = subst (λ n. IsGapped (place + q.size) n) (pin.start ∙ sym (ap (λ (w : Plug). w.start) e)) g
        clear p (inr l) =
            let start : x.place ≡ pin.plug.start = pin.start in
            let size : 24 ≤ pin.plug.size = pin.size in
            inr (omega arith)

    -- and nowhere else
    not-before : FitsAt segments all q.size place → IsGapped (place + q.size) x.place
    not-before (u, j, low, high, room) =
        let same : u ≡ s = one_home s u place t.at.among j t.at.low t.at.high low high in
        let clear : IsClear all u q.size place = room-clear segments all h u q.size place j room in
        subst (λ n. IsGapped (place + q.size) n) (sym pin.start) (clear.pins pin.plug pin-known (
          pin.pinned,
          pin-here
              ∙ ap (λ (w : SegInfo). w.base) (sym same),
        ) pin.above)

    pin-behind : plug_end pin.plug ≤ q.start
    pin-behind = let l : pin.plug.start < q.start = before done (q ∷ ahead) h.rise pin.plug q pin.known first in
        let g : IsGapped (plug_end pin.plug) q.start = h.apart pin.plug q pin-known known l in omega arith

    -- no candidate lies between the pointer and the end of the pin
    pin-next : (other : ℕ) → IsCandidate segments all from other → place < other → plug_end pin.plug ≤ other
    pin-next other (inl e) l = let up : from ≤ place = t.up in absurd (omega arith)
    pin-next other (inr (inl (p, i, pinned, e))) l = go (t.at.outside p i (is_true pinned))
      where
        is_true : {b : Bool} → b ≡ true → b ≡ true
        is_true e = e

        behind : (p ≡ pin.plug) ⊎ (plug_end pin.plug ≤ p.start) → plug_end pin.plug ≤ other
        behind (inl same) = let at : plug_end p ≡ plug_end pin.plug = ap (λ (w : Plug). w.start + w.size) same in
            omega arith
        behind (inr far) = omega arith

        go : (place ≤ p.start) ⊎ (plug_end p ≤ place) → plug_end pin.plug ≤ other
        go (inl above) = behind (pin.least p i pinned above)
        go (inr below) = absurd (omega arith)
    pin-next other (inr (inr (u, j, e))) l = go (h.separate u s j t.at.among)
      where
        high : plug_end pin.plug ≤ reserved_end s
        high = (in_segment segments all h s pin.plug t.at.among pin-known pin-here).1

        low : first_place s ≤ place
        low = t.at.low

        go : AreSeparate u s → plug_end pin.plug ≤ other
        go (inl same) = let at : first_place u ≡ first_place s = ap first_place same in absurd (omega arith)
        go (inr (inl below)) = let r : 0x2000 ≤ u.reserved = h.reserved u j in absurd (omega arith)
        go (inr (inr above)) = let k = high in omega arith

    -- THE POINTER PASSES A PIN before which the plug doesn't fit
    pub passes-pin : (IsGapped (place + q.size) x.place → ⊥) → IsTrying from s (piece_end x) rest
    passes-pin not =
        let ends : piece_end x ≡ plug_end pin.plug = pin.ends in
        let edge : IsEdge segments all (piece_end x) = inl (pin.plug, pin-known, pin.pinned, pin.ends) in
        let size : 24 ≤ pin.plug.size = pin.size in
        let above : place ≤ pin.plug.start = pin.above in
        let high : plug_end pin.plug ≤ reserved_end s = (in_segment segments all h s pin.plug t.at.among pin-known
        pin-here).1 in
        let low : first_place s ≤ place = t.at.low in
        let up : from ≤ place = t.up in
        record {
          at = record {
            among = t.at.among;
            low = omega arith;
            high = omega arith;
            waiting = pins-past segments done (q ∷ ahead) h place x rest t.at.waiting;
            outside = edge-outside segments all h (piece_end x) edge;
            near = λ r i. near r i edge;
          };
          candidate = inr edge;
          up = omega arith;
          lowest = λ other c l f. lowest other c l f (cases_lt place other);
        }
      where
        near : (r : Plug) → IsIn r (q ∷ ahead) → IsEdge segments all (piece_end x) → IsNear segments all (piece_end x)
            r.start
        near r i edge =
            let l : pin.plug.start < r.start = before done (q ∷ ahead) h.rise pin.plug r pin.known i in
            let g : IsGapped (plug_end pin.plug) r.start = h.apart pin.plug r pin-known (append_right done i) l in
            let ends : piece_end x ≡ plug_end pin.plug = pin.ends in
            let m : piece_end x ≤ r.start = omega arith in
            (m, inl (edge-gapped segments all h (piece_end x) edge r (append_right done i) m))

        lowest : (other : ℕ) → IsCandidate segments all from other → from ≤ other → FitsAt segments all q.size other
            → (place < other) ⊎ (other ≤ place) → piece_end x ≤ other
        lowest other c l f (inl above) = let ends : piece_end x ≡ plug_end pin.plug = pin.ends in
            let k : plug_end pin.plug ≤ other = pin-next other c above in omega arith
        lowest other c l f (inr below) =
            let m : place ≤ other = t.lowest other c l f in
            absurd (not (not-before (subst (λ n. FitsAt segments all q.size n) (omega arith) f)))

  -- ---- without a pin ahead in the pointer's segment

  -- the pins all begin behind the pointer's segment
  abbrev pub AreBehind : SegInfo → List Piece → Type 0
  AreBehind s pins = (x : Piece) (rest : List Piece) → pins ≡ x ∷ rest → reserved_end s ≤ x.place

  module _ (from : ℕ) (s : SegInfo) (place : ℕ) (pins : List Piece) (t : IsTrying from s place pins)
      (behind : AreBehind s pins) where
    -- no pinned plug that the walk has passed stands in what is left of the segment
    none-passed : (p : Plug) → IsIn p done → p.pinned ≡ true → place ≤ p.start → reserved_end s ≤ p.start
    none-passed p i pinned above = go pins refl
      where
        go : (ps : List Piece) → pins ≡ ps → reserved_end s ≤ p.start
        go [] e = let l : p.start < place = pins-none segments done (q ∷ ahead) h place (sym t.at.waiting ∙ e) p i
            pinned in absurd (omega arith)
        go (x ∷ rest) e = least (next-pin segments done (q ∷ ahead) h place x rest (sym e ∙ t.at.waiting))
            (behind x rest e)
          where
            least : IsNextPin segments done (q ∷ ahead) h place x → reserved_end s ≤ x.place → reserved_end s ≤ p.start
            least is l = first_or (is.least p (append_left (q ∷ ahead) i) pinned above)
              where
                first_or : (p ≡ is.plug) ⊎ (plug_end is.plug ≤ p.start) → reserved_end s ≤ p.start
                first_or (inl same) = let start : x.place ≡ is.plug.start = is.start in let at : p.start
                    ≡ is.plug.start = ap (λ (w : Plug). w.start) same in omega arith
                first_or (inr far) = let start : x.place ≡ is.plug.start = is.start in omega arith

    not_here : (p : Plug) → IsIn p all → p.segment ≡ s.base → reserved_end s ≤ p.start → ⊥
    not_here p i of l =
        let (g, u) = in_segment segments all h s p t.at.among i of in
        let z : 24 ≤ p.size = (h.each p i).size in absurd (omega arith)

    -- THE KEY: at home the plug fits at the pointer. Between the pointer and the plug is nothing or room for a free
    -- item, and what lies behind the plug is behind it also where it goes.
    pub fits-at-home : q.segment ≡ s.base → FitsAt segments all q.size place
    fits-at-home here = (
      s,
      t.at.among,
      t.at.low,
      t.at.high,
      clear-room segments all h s q.size place
          (record { tail = tail; pins = λ p j p_in above. clear p p_in above (in_append done j) }),
    )
      where
        below : place ≤ q.start
        below = (t.at.near q first).0

        tail : place + q.size ≤ reserved_end s
        tail = let (g, u) = in_segment segments all h s q t.at.among known here in let b = below in omega arith

        gap : IsGapped place q.start
        gap = go (t.at.near q first).1
          where
            go : IsGapped place q.start ⊎ (((p : Plug) × IsIn p all × (p.pinned ≡ true) × (place ≤ p.start)
                × (plug_end p ≤ q.start)) ⊎ ((u : SegInfo) × IsIn u segments × (place < first_place u)
                × (first_place u ≤ q.start))) → IsGapped place q.start
            go (inl g) = g
            go (inr (inl (p, i, pinned, above, under))) = by_part (in_append done i)
              where
                by_part : IsIn p done ⊎ IsIn p (q ∷ ahead) → IsGapped place q.start
                by_part (inl j) =
                    let l : reserved_end s ≤ p.start = none-passed p j pinned above in
                    let (g, u) = in_segment segments all h s q t.at.among known here in
                    let z : 24 ≤ q.size = (h.each q known).size in absurd (omega arith)
                by_part (inr j) = ahead_of (in_cons j)
                  where
                    ahead_of : (p ≡ q) ⊎ IsIn p ahead → IsGapped place q.start
                    ahead_of (inl e) = let z : 24 ≤ q.size = (h.each q known).size in let at : plug_end p ≡ plug_end q =
                        ap (λ (w : Plug). w.start + w.size) e in absurd (omega arith)
                    ahead_of (inr k) = let l : q.start < p.start = later_start done q ahead h.rise p k in
                        absurd (omega arith)
            go (inr (inr (u, j, from_place, to))) = by_order (h.separate u s j t.at.among)
              where
                by_order : AreSeparate u s → IsGapped place q.start
                by_order (inl e) = let at : first_place u ≡ first_place s = ap first_place e in
                    let low : first_place s ≤ place = t.at.low in absurd (omega arith)
                by_order (inr (inl l)) = let r : 0x2000 ≤ u.reserved = h.reserved u j in
                    let low : first_place s ≤ place = t.at.low in absurd (omega arith)
                by_order (inr (inr l)) = let (g, high) = in_segment segments all h s q t.at.among known here in
                    let z : 24 ≤ q.size = (h.each q known).size in absurd (omega arith)

        clear : (p : Plug) → IsPinIn s p → place ≤ p.start → IsIn p done ⊎ IsIn p (q ∷ ahead)
            → IsGapped (place + q.size) p.start
        clear p (pinned, of) above (inl j) =
            absurd (not_here p (append_left (q ∷ ahead) j) of (none-passed p j pinned above))
        clear p (pinned, of) above (inr j) = ahead_of (in_cons j)
          where
            ahead_of : (p ≡ q) ⊎ IsIn p ahead → IsGapped (place + q.size) p.start
            ahead_of (inl e) = absurd (both_ways q.pinned unpinned (sym (ap (λ (w : Plug). w.pinned) e) ∙ pinned))
            ahead_of (inr k) =
                let l : q.start < p.start = later_start done q ahead h.rise p k in
                let far : IsGapped (plug_end q) p.start = h.apart q p known (append_right done (later k)) l in
                let g = gap in grind arith

    -- ---- where the plug's home is another segment

    module _ (away : reserved_end s ≤ q.start) where
      -- no pinned plug stands in what is left of the segment
      none-here : (p : Plug) → IsIn p all → IsPinIn s p → place ≤ p.start → ⊥
      none-here p i (pinned, of) above = go (in_append done i)
        where
          go : IsIn p done ⊎ IsIn p (q ∷ ahead) → ⊥
          go (inl j) = not_here p i of (none-passed p j pinned above)
          go (inr j) = not_here p i of (ahead_of (in_cons j))
            where
              ahead_of : (p ≡ q) ⊎ IsIn p ahead → reserved_end s ≤ p.start
              ahead_of (inl e) = let at : p.start ≡ q.start = ap (λ (w : Plug). w.start) e in omega arith
              ahead_of (inr k) = let l : q.start < p.start = later_start done q ahead h.rise p k in omega arith

      pub fits-in-tail : place + q.size ≤ reserved_end s → FitsAt segments all q.size place
      fits-in-tail l = (
        s,
        t.at.among,
        t.at.low,
        t.at.high,
        clear-room segments all h s q.size place
            (record { tail = l; pins = λ p j p_in above. absurd (none-here p j p_in above) }),
      )

      not-in-tail : FitsAt segments all q.size place → place + q.size ≤ reserved_end s
      not-in-tail (u, j, low, high, room) =
          let same : u ≡ s = one_home s u place t.at.among j t.at.low t.at.high low high in
          let clear : IsClear all u q.size place = room-clear segments all h u q.size place j room in
          subst (λ (w : SegInfo). place + q.size ≤ reserved_end w) same clear.tail

      -- the next segment that takes part
      module _ (n : SegInfo) (among : IsIn n segments) (higher : reserved_end s ≤ n.base) (next : (u : SegInfo)
          → IsIn u segments → (u.base ≤ s.base) ⊎ (n.base ≤ u.base)) where
        above_next : (p : Plug) → IsIn p all → reserved_end s ≤ p.start → first_place n ≤ p.start
        above_next p i l = go (next is.home is.among)
          where
            is : IsPlug segments p
            is = h.each p i

            go : (is.home.base ≤ s.base) ⊎ (n.base ≤ is.home.base) → first_place n ≤ p.start
            go (inr up) = let g : IsGapped (first_place is.home) p.start = is.low in omega arith
            go (inl down) = by_order (h.separate is.home s is.among t.at.among)
              where
                by_order : AreSeparate is.home s → first_place n ≤ p.start
                by_order (inl e) = absurd (not_here p i (is.of ∙ ap (λ (w : SegInfo). w.base) e) l)
                by_order (inr (inl below)) = let u : plug_end p ≤ reserved_end is.home = is.high in
                    let z : 24 ≤ p.size = is.size in absurd (omega arith)
                by_order (inr (inr above)) = let r : 0x2000 ≤ s.reserved = h.reserved s t.at.among in
                    absurd (omega arith)

        segment-next : (other : ℕ) → IsCandidate segments all from other → place < other → first_place n ≤ other
        segment-next other (inl e) l = let up : from ≤ place = t.up in absurd (omega arith)
        segment-next other (inr (inl (p, i, pinned, e))) l = go (t.at.outside p i pinned)
          where
            up : first_place n ≤ p.start → first_place n ≤ other
            up k = omega arith

            go : (place ≤ p.start) ⊎ (plug_end p ≤ place) → first_place n ≤ other
            go (inr below) = absurd (omega arith)
            go (inl above) = by_part (in_append done i)
              where
                by_part : IsIn p done ⊎ IsIn p (q ∷ ahead) → first_place n ≤ other
                by_part (inl j) = up (above_next p i (none-passed p j pinned above))
                by_part (inr j) = ahead_of (in_cons j)
                  where
                    ahead_of : (p ≡ q) ⊎ IsIn p ahead → first_place n ≤ other
                    ahead_of (inl e) = let at : p.start ≡ q.start = ap (λ (w : Plug). w.start) e in
                        up (above_next p i (omega arith))
                    ahead_of (inr k) = let m : q.start < p.start = later_start done q ahead h.rise p k in
                        up (above_next p i (omega arith))
        segment-next other (inr (inr (u, j, e))) l = go (next u j)
          where
            go : (u.base ≤ s.base) ⊎ (n.base ≤ u.base) → first_place n ≤ other
            go (inl down) = let low : first_place s ≤ place = t.at.low in absurd (omega arith)
            go (inr up) = omega arith

        -- THE POINTER GOES TO THE NEXT SEGMENT where the tail of its own is too short
        pub passes-segment : reserved_end s < place + q.size → IsTrying from n (first_place n) pins
        passes-segment short =
            let edge : IsEdge segments all (first_place n) = inr (n, among, refl) in
            let r : 0x2000 ≤ n.reserved = h.reserved n among in
            let high : place ≤ reserved_end s = t.at.high in
            let up : from ≤ place = t.up in
            record {
              at = record {
                among = among;
                low = omega arith;
                high = omega arith;
                waiting = t.at.waiting ∙ pins-same place (first_place n) done (omega arith)
                    (λ p i pinned above. above_next p (append_left (q ∷ ahead) i) (none-passed p i pinned above));
                outside = edge-outside segments all h (first_place n) edge;
                near = λ p i. near p i edge;
              };
              candidate = inr edge;
              up = omega arith;
              lowest = λ other c l f. lowest other c l f (cases_lt place other);
            }
          where
            near : (p : Plug) → IsIn p (q ∷ ahead) → IsEdge segments all (first_place n)
                → IsNear segments all (first_place n) p.start
            near p i edge =
                let m : first_place n ≤ p.start = above_next p (append_right done i) (ahead_of (in_cons i)) in
                (m, inl (edge-gapped segments all h (first_place n) edge p (append_right done i) m))
              where
                ahead_of : (p ≡ q) ⊎ IsIn p ahead → reserved_end s ≤ p.start
                ahead_of (inl e) = let at : p.start ≡ q.start = ap (λ (w : Plug). w.start) e in omega arith
                ahead_of (inr k) = let l : q.start < p.start = later_start done q ahead h.rise p k in omega arith

            lowest : (other : ℕ) → IsCandidate segments all from other → from ≤ other → FitsAt segments all q.size other
                → (place < other) ⊎ (other ≤ place) → first_place n ≤ other
            lowest other c l f (inl above) = segment-next other c above
            lowest other c l f (inr below) =
                let m : place ≤ other = t.lowest other c l f in
                let u : place + q.size ≤ reserved_end s =
                not-in-tail (subst (λ n. FitsAt segments all q.size n) (omega arith) f) in
                absurd (omega arith)

  -- ---- the plug lands

  fits-high : (s : SegInfo) (place : ℕ) → IsIn s segments → first_place s ≤ place → place ≤ reserved_end s
      → FitsAt segments all q.size place → place + q.size ≤ reserved_end s
  fits-high s place i low high (u, j, a, b, room) =
      let same : u ≡ s = one_home s u place i j low high a b in
      let clear : IsClear all u q.size place = room-clear segments all h u q.size place j room in
      subst (λ (w : SegInfo). place + q.size ≤ reserved_end w) same clear.tail

  abbrev pub IsLanding : (from : ℕ) (s : SegInfo) (place : ℕ) (pins : List Piece) → Type 0
  IsLanding from s place pins = IsDestination segments all from q.size place × IsAt segments (done ++ q ∷ []) ahead s
      (place + q.size) pins

  pub lands : (from : ℕ) (s : SegInfo) (place : ℕ) (pins : List Piece) → IsTrying from s place pins
      → FitsAt segments all q.size place → IsLanding from s place pins
  lands from s place pins t fit = (
    record { candidate = t.candidate; not_below = t.up; fits = fit; lowest = t.lowest },
    record {
      among = t.at.among;
      low = let l : first_place s ≤ place = t.at.low in omega arith;
      high = fits-high s place t.at.among t.at.low t.at.high fit;
      waiting = t.at.waiting ∙ pins-same place (place + q.size) done (omega arith) above
          ∙ sym (pins-fewer (place + q.size) done q unpinned);
      outside = subst (λ ps. IsOutside ps (place + q.size)) shifted (above-outside segments all h place q.size
          t.at.outside fit);
      near = λ r i. subst (λ ps. IsNear segments ps (place + q.size) r.start) shifted (near r i);
    },
  )
    where
      shifted : all ≡ (done ++ q ∷ []) ++ ahead
      shifted = sym (append_assoc done (q ∷ []) ahead)

      above : (p : Plug) → IsIn p done → p.pinned ≡ true → place ≤ p.start → place + q.size ≤ p.start
      above p i pinned l = go (fit-between segments all h q.size place t.at.outside fit p (append_left (q ∷ ahead) i)
          pinned)
        where
          go : (plug_end p ≤ place) ⊎ IsGapped (place + q.size) p.start → place + q.size ≤ p.start
          go (inl below) = let z : 24 ≤ p.size = (h.each p (append_left (q ∷ ahead) i)).size in absurd (omega arith)
          go (inr g) = omega arith

      near : (r : Plug) → IsIn r ahead → IsNear segments all (place + q.size) r.start
      near r i =
          let l : q.start < r.start = later_start done q ahead h.rise r i in
          near-placed segments all h place q r.start known t.at.outside fit (t.at.near q first)
          (h.apart q r known (append_right done (later i)) l)

-- A pinned plug stays, and its pin waits.
pub stays-at : (segments : List SegInfo) (done : List Plug) (q : Plug) (ahead : List Plug) → q.pinned ≡ true
    → (s : SegInfo) (place : ℕ) (pins : List Piece)
    → IsAt segments done (q ∷ ahead) s place pins → IsAt segments (done ++ q ∷ []) ahead s place
    (pins ++ piece_of_plug q ∷ [])
stays-at segments done q ahead pinned s place pins at = record {
  among = at.among;
  low = at.low;
  high = at.high;
  waiting = ap (λ ps. ps ++ piece_of_plug q ∷ []) at.waiting ∙ sym (pins-more place done q pinned (at.near q first).0);
  outside = subst (λ ps. IsOutside ps place) shifted at.outside;
  near = λ r i. subst (λ ps. IsNear segments ps place r.start) shifted (at.near r (later i));
}
  where
    shifted : done ++ q ∷ ahead ≡ (done ++ q ∷ []) ++ ahead
    shifted = sym (append_assoc done (q ∷ []) ahead)
