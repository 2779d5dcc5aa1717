-- The pointer of a compaction: it is near the next plug, so that this one fits at its own place or below.
use Rattle.std.proofs.Common.{◌≡◌, ℕ, ◌+◌, ◌<◌, ◌≤◌, ◌⊎◌, inl, inr, List, [], ◌∷◌, refl, sym, ap, subst, ◌∙◌, arith}
use Rattle.std.proofs.Common.{Bool, true, false}
use Rattle.std.proofs.lemmas.Bool.{cases_lt, cases_order, both_ways}
use Rattle.clr_types.specs.Rising.{IsIn, first, later}
use Rattle.clr_types.proofs.RisingLists.{in_cons}
use Rattle.clr_model.specs.Compaction.{Plug, plug_end, FitsAt, IsCandidate}
use Rattle.clr_types.specs.declared.segment.SegInfo.{SegInfo}
use Rattle.clr_types.specs.Segments.{first_place, reserved_end}
use Rattle.clr_types.proofs.PieceGaps.{IsGapped}
use Rattle.clr_model.proofs.PlugRoom.{IsPlug, ArePlugs, IsPinIn, IsOutside, IsClear, room-clear, clear-room}
use Rattle.clr_model.proofs.PlugRoom.{fit-between, one_plug}
use Rattle.clr_types.proofs.SegmentFacts.{AreSeparate}

-- a pinned plug stands between the two places, or a segment begins there
abbrev pub PinBetween : List Plug → ℕ → ℕ → Type 0
PinBetween all low high = (p : Plug) × IsIn p all × (p.pinned ≡ true) × (low ≤ p.start) × (plug_end p ≤ high)

abbrev pub SegmentBetween : List SegInfo → ℕ → ℕ → Type 0
SegmentBetween segments low high = (s : SegInfo) × IsIn s segments × (low < first_place s) × (first_place s ≤ high)

-- The pointer is never above the place. In the place's own stretch their distance is 0 or at least 24.
abbrev pub IsNear : List SegInfo → List Plug → ℕ → ℕ → Type 0
IsNear segments all pointer place = (pointer ≤ place)
    × (IsGapped pointer place ⊎ (PinBetween all pointer place ⊎ SegmentBetween segments pointer place))

-- the end of a pinned plug, or the first place of a segment
abbrev pub IsEdge : List SegInfo → List Plug → ℕ → Type 0
IsEdge segments all place = ((p : Plug) × IsIn p all × (p.pinned ≡ true) × (place ≡ plug_end p))
    ⊎ ((s : SegInfo) × IsIn s segments × (place ≡ first_place s))

-- ---- the greatest candidate below a place

module _ {X : Type 0} (f : X → ℕ) (test : X → Bool) (y : ℕ) where
  abbrev IsGreatest : ℕ → List X → ℕ → Type 0
  IsGreatest c0 xs c =
      ((c ≡ c0) ⊎ ((x : X) × IsIn x xs × (test x ≡ true) × (c ≡ f x)))
      × (c0 ≤ c) × (c ≤ y) × ((x : X) → IsIn x xs → test x ≡ true → f x ≤ y → f x ≤ c)

  one_more : (c0 : ℕ) (x : X) (xs : List X) (c : ℕ) → IsGreatest c0 xs c → (b : Bool) → test x ≡ b
      → (f x ≤ c) ⊎ ((c < f x) × ((f x ≤ y) ⊎ (y < f x))) → (d : ℕ) × IsGreatest c0 (x ∷ xs) d
  one_more c0 x xs c is b e low = go b e low
    where
      from : (c ≡ c0) ⊎ ((z : X) × IsIn z xs × (test z ≡ true) × (c ≡ f z))
          → (c ≡ c0) ⊎ ((z : X) × IsIn z (x ∷ xs) × (test z ≡ true) × (c ≡ f z))
      from (inl e) = inl e
      from (inr (z, i, t, e)) = inr (z, later i, t, e)

      keeps : (test x ≡ true → f x ≤ y → f x ≤ c) → (z : X) → (z ≡ x) ⊎ IsIn z xs → test z ≡ true → f z ≤ y → f z ≤ c
      keeps k z (inl same) = subst (λ (w : X). test w ≡ true → f w ≤ y → f w ≤ c) (sym same) k
      keeps k z (inr j) = is.3 z j

      rises : c < f x → (z : X) → (z ≡ x) ⊎ IsIn z xs → test z ≡ true → f z ≤ y → f z ≤ f x
      rises up z (inl same) t l = let at : f z ≡ f x = ap f same in omega arith
      rises up z (inr j) t l = let below : f z ≤ c = is.3 z j t l in omega arith

      go : (b : Bool) → test x ≡ b → (f x ≤ c) ⊎ ((c < f x) × ((f x ≤ y) ⊎ (y < f x)))
          → (d : ℕ) × IsGreatest c0 (x ∷ xs) d
      go false e low = (c, (from is.0, is.1, is.2, λ z i. keeps (λ t l. absurd (both_ways (test x) e t)) z (in_cons i)))
      go true e (inl l) = (c, (from is.0, is.1, is.2, λ z i. keeps (λ t k. l) z (in_cons i)))
      go true e (inr (up, inr past)) =
          (c, (from is.0, is.1, is.2, λ z i. keeps (λ t k. absurd (omega arith)) z (in_cons i)))
      go true e (inr (up, inl under)) = let base : c0 ≤ c = is.1 in
          (f x, (inr (x, first, e, refl), omega arith, under, λ z i. rises up z (in_cons i)))

  greatest : (c0 : ℕ) → c0 ≤ y → (xs : List X) → (c : ℕ) × IsGreatest c0 xs c
  greatest c0 l [] = (c0, (inl refl, omega arith, l, λ x i. elim i [ ]))
  greatest c0 l (x ∷ xs) = go (greatest c0 l xs)
    where
      order : (c : ℕ) → (f x < c) ⊎ (c ≤ f x) → (c < f x) ⊎ (f x ≤ c) → (f x < y) ⊎ (y ≤ f x) → (y < f x) ⊎ (f x ≤ y)
          → (f x ≤ c) ⊎ ((c < f x) × ((f x ≤ y) ⊎ (y < f x)))
      order c a (inr low) d e = inl low
      order c a (inl up) d (inl past) = inr (up, inr past)
      order c a (inl up) d (inr under) = inr (up, inl under)

      go : (c : ℕ) × IsGreatest c0 xs c → (d : ℕ) × IsGreatest c0 (x ∷ xs) d
      go (c, is) = one_more c0 x xs c is (test x) refl
          (order c (cases_lt (f x) c) (cases_lt c (f x)) (cases_lt (f x) y) (cases_lt y (f x)))

module _ (segments : List SegInfo) (all : List Plug) (h : ArePlugs segments all) where
  -- from the end of a plug, or the first place of a segment, up to a plug is nothing or room for a free item
  pub edge-gapped : (place : ℕ) → IsEdge segments all place → (q : Plug) → IsIn q all → place ≤ q.start
      → IsGapped place q.start
  edge-gapped place (inl (p, i, pinned, e)) q j l =
      let size : 24 ≤ p.size = (h.each p i).size in
      subst (λ n. IsGapped n q.start) (sym e) (h.apart p q i j (omega arith))
  edge-gapped place (inr (s, i, e)) q j l =
      subst (λ n. IsGapped n q.start) (sym e) (go (h.separate s is.home i is.among))
    where
      is : IsPlug segments q
      is = h.each q j

      go : AreSeparate s is.home → IsGapped (first_place s) q.start
      go (inl same) = subst (λ (t : SegInfo). IsGapped (first_place t) q.start) (sym same) is.low
      go (inr (inl below)) = let low : IsGapped (first_place is.home) q.start = is.low in
          let large : 0x2000 ≤ s.reserved = h.reserved s i in inr (omega arith)
      go (inr (inr above)) = let high : plug_end q ≤ reserved_end is.home = is.high in
          let size : 24 ≤ q.size = is.size in absurd (omega arith)

  -- an edge is outside of pins
  pub edge-outside : (place : ℕ) → IsEdge segments all place → IsOutside all place
  edge-outside place (inl (p, i, pinned, e)) q j pin = go (cases_order p.start q.start)
    where
      size : 24 ≤ q.size
      size = (h.each q j).size

      go : (p.start ≡ q.start) ⊎ ((p.start < q.start) ⊎ (q.start < p.start)) → (place ≤ q.start) ⊎ (plug_end q ≤ place)
      go (inl same) = let one : plug_end p
          ≡ plug_end q = ap (λ (w : Plug). w.start + w.size) (one_plug segments all h p q i j same) in inr (omega arith)
      go (inr (inl b)) = let far : IsGapped (plug_end p) q.start = h.apart p q i j b in inl (omega arith)
      go (inr (inr b)) = let far : IsGapped (plug_end q) p.start = h.apart q p j i b in inr (omega arith)
  edge-outside place (inr (s, i, e)) q j pin = go (h.separate s is.home i is.among)
    where
      is : IsPlug segments q
      is = h.each q j

      go : AreSeparate s is.home → (place ≤ q.start) ⊎ (plug_end q ≤ place)
      go (inl same) = let low : IsGapped (first_place is.home) q.start = is.low in
          let base : s.base ≡ is.home.base = ap (λ (t : SegInfo). t.base) same in inl (omega arith)
      go (inr (inl below)) = let low : IsGapped (first_place is.home) q.start = is.low in
          let large : 0x2000 ≤ s.reserved = h.reserved s i in inl (omega arith)
      go (inr (inr above)) = let high : plug_end q ≤ reserved_end is.home = is.high in inr (omega arith)

  pub above-outside : (place size : ℕ) → IsOutside all place → FitsAt segments all size place
      → IsOutside all (place + size)
  above-outside place size out fit p i pinned = go (fit-between segments all h size place out fit p i pinned)
    where
      go : (plug_end p ≤ place) ⊎ IsGapped (place + size) p.start
          → (place + size ≤ p.start) ⊎ (plug_end p ≤ place + size)
      go (inl below) = inr (omega arith)
      go (inr above) = inl (omega arith)

  edge-candidate : (pointer place : ℕ) → IsEdge segments all place → IsCandidate segments all pointer place
  edge-candidate pointer place e = inr e

  pub candidate-outside : (pointer place : ℕ) → IsOutside all pointer → IsCandidate segments all pointer place
      → IsOutside all place
  candidate-outside pointer place out (inl e) = subst (IsOutside all) (sym e) out
  candidate-outside pointer place out (inr edge) = edge-outside place edge

  pub candidate-near : (pointer place : ℕ) → IsCandidate segments all pointer place → (q : Plug) → IsIn q all
      → IsNear segments all pointer q.start → place ≤ q.start → IsNear segments all place q.start
  candidate-near pointer place (inl e) q j near l = subst (λ n. IsNear segments all n q.start) (sym e) near
  candidate-near pointer place (inr edge) q j near l = (l, inl (edge-gapped place edge q j l))

  -- a pointer near a plug is near what lies behind the plug
  pub near-behind : (pointer low high : ℕ) → IsNear segments all pointer low → IsGapped low high
      → IsNear segments all pointer high
  near-behind pointer low high (below, near) gap = (omega arith, go near)
    where
      go : IsGapped pointer low ⊎ (PinBetween all pointer low ⊎ SegmentBetween segments pointer low)
          → IsGapped pointer high ⊎ (PinBetween all pointer high ⊎ SegmentBetween segments pointer high)
      go (inl g) = inl (grind arith)
      go (inr (inl (p, i, pinned, from, to))) = inr (inl (p, i, pinned, from, omega arith))
      go (inr (inr (s, i, from, to))) = inr (inr (s, i, from, omega arith))

  -- The end of a plug that was placed is near what lies behind its old place.
  pub near-placed : (place : ℕ) (q : Plug) (high : ℕ) → IsIn q all → IsOutside all place
      → FitsAt segments all q.size place → IsNear segments all place q.start → IsGapped (plug_end q) high
      → IsNear segments all (place + q.size) high
  near-placed place q high j out fit (below, near) gap = (omega arith, go near)
    where
      go : IsGapped place q.start ⊎ (PinBetween all place q.start ⊎ SegmentBetween segments place q.start)
          → IsGapped (place + q.size) high
          ⊎ (PinBetween all (place + q.size) high ⊎ SegmentBetween segments (place + q.size) high)
      go (inl g) = inl (grind arith)
      go (inr (inl (p, i, pinned, from, to))) = past (fit-between segments all h q.size place out fit p i pinned)
        where
          past : (plug_end p ≤ place) ⊎ IsGapped (place + q.size) p.start
              → IsGapped (place + q.size) high
              ⊎ (PinBetween all (place + q.size) high ⊎ SegmentBetween segments (place + q.size) high)
          past (inl below) = let size : 24 ≤ p.size = (h.each p i).size in absurd (omega arith)
          past (inr above) = inr (inl (p, i, pinned, omega arith, omega arith))
      go (inr (inr (t, i, from, to))) = past (h.separate fit.0 t fit.1 i)
        where
          past : AreSeparate fit.0 t → IsGapped (place + q.size) high
              ⊎ (PinBetween all (place + q.size) high ⊎ SegmentBetween segments (place + q.size) high)
          past (inl same) = let low : first_place fit.0 ≤ place = fit.2 in
              let base : fit.0.base ≡ t.base = ap (λ (s : SegInfo). s.base) same in absurd (omega arith)
          past (inr (inl s_below)) =
              let clear : IsClear all fit.0 q.size place = room-clear segments all h fit.0 q.size place fit.1 fit.4 in
              let tail : place + q.size ≤ reserved_end fit.0 = clear.tail in
              inr (inr (t, i, omega arith, omega arith))
          past (inr (inr t_below)) = let low : first_place fit.0 ≤ place = fit.2 in
              let large : 0x2000 ≤ t.reserved = h.reserved t i in absurd (omega arith)

  -- ---- the plug fits at or below its own place

  -- the greatest candidate at or below a plug's place
  abbrev IsBest : ℕ → ℕ → ℕ → Type 0
  IsBest pointer place c = IsCandidate segments all pointer c × (pointer ≤ c) × (c ≤ place)
      × ((other : ℕ) → IsEdge segments all other → other ≤ place → other ≤ c)

  best : (pointer place : ℕ) → pointer ≤ place → (c : ℕ) × IsBest pointer place c
  best pointer place l =
      let (c, (from, above, below, pins)) = greatest (λ (p : Plug). plug_end p) (λ p. p.pinned) place pointer l all in
      let (d, (from', above', below', firsts)) =
      greatest (λ (s : SegInfo). first_place s) (λ s. true) place c below segments in
      (d, (candidate c d from from', omega arith, below', λ other edge at. covers c d above' pins firsts other edge at))
    where
      candidate : (c d : ℕ) → (c ≡ pointer) ⊎ ((p : Plug) × IsIn p all × (p.pinned ≡ true) × (c ≡ plug_end p))
          → (d ≡ c) ⊎ ((s : SegInfo) × IsIn s segments × (true ≡ true) × (d ≡ first_place s))
          → IsCandidate segments all pointer d
      candidate c d (inl e) (inl e') = inl (e' ∙ e)
      candidate c d (inr (p, i, pinned, e)) (inl e') = inr (inl (p, i, pinned, e' ∙ e))
      candidate c d from (inr (s, i, t, e)) = inr (inr (s, i, e))

      covers : (c d : ℕ) → c ≤ d → ((p : Plug) → IsIn p all → p.pinned ≡ true → plug_end p ≤ place → plug_end p ≤ c)
          → ((s : SegInfo) → IsIn s segments → true ≡ true → first_place s ≤ place → first_place s ≤ d)
          → (other : ℕ) → IsEdge segments all other → other ≤ place → other ≤ d
      covers c d up pins firsts other (inl (p, i, pinned, e)) at = let k : plug_end p ≤ c =
          pins p i pinned (omega arith) in omega arith
      covers c d up pins firsts other (inr (s, i, e)) at = let k : first_place s ≤ d = firsts s i refl (omega arith) in
          omega arith

  -- near its next plug the pointer has a candidate at or below the plug's place where the plug fits
  pub fits-below : (pointer : ℕ) (q : Plug) → IsIn q all → q.pinned ≡ false → IsNear segments all pointer q.start
      → (c : ℕ) × IsCandidate segments all pointer c × (pointer ≤ c) × (c ≤ q.start) × FitsAt segments all q.size c
  fits-below pointer q j unpinned near =
      let (c, (candidate, above, below, covers)) = best pointer q.start near.0 in
      (c, candidate, above, below, fit c candidate above below covers)
    where
      is : IsPlug segments q
      is = h.each q j

      gapped : (c : ℕ) → pointer ≤ c → ((other : ℕ) → IsEdge segments all other → other ≤ q.start → other ≤ c)
          → IsNear segments all c q.start → IsGapped c q.start
      gapped c above covers (below, inl g) = g
      gapped c above covers (below, inr (inl (p, i, pinned, from, to))) = let up : plug_end p ≤ c =
          covers (plug_end p) (inl (p, i, pinned, refl)) to in let size : 24 ≤ p.size = (h.each p i).size in
          absurd (omega arith)
      gapped c above covers (below, inr (inr (s, i, from, to))) = let up : first_place s ≤ c =
          covers (first_place s) (inr (s, i, refl)) to in absurd (omega arith)

      pin : (c : ℕ) → pointer ≤ c → c ≤ q.start
          → ((other : ℕ) → IsEdge segments all other → other ≤ q.start → other ≤ c) → IsGapped c q.start
          → (p : Plug) → IsIn p all → IsPinIn is.home p → c ≤ p.start
          → (p.start ≡ q.start) ⊎ ((p.start < q.start) ⊎ (q.start < p.start)) → IsGapped (c + q.size) p.start
      pin c above below covers g p i pinned at (inl same) =
          absurd (both_ways q.pinned unpinned
          (ap (λ (w : Plug). w.pinned) (one_plug segments all h q p j i (sym same)) ∙ pinned.0))
      pin c above below covers g p i pinned at (inr (inl low)) =
          let far : IsGapped (plug_end p) q.start = h.apart p q i j low in
          let up : plug_end p ≤ c = covers (plug_end p) (inl (p, i, pinned.0, refl)) (omega arith) in
          let size : 24 ≤ p.size = (h.each p i).size in absurd (omega arith)
      pin c above below covers g p i pinned at (inr (inr high)) = let far : IsGapped (plug_end q) p.start =
          h.apart q p j i high in grind arith

      fit : (c : ℕ) → IsCandidate segments all pointer c → pointer ≤ c → c ≤ q.start
          → ((other : ℕ) → IsEdge segments all other → other ≤ q.start → other ≤ c) → FitsAt segments all q.size c
      fit c candidate above below covers =
          let low : first_place is.home ≤ c =
          covers (first_place is.home) (inr (is.home, is.among, refl))
          (let l : IsGapped (first_place is.home) q.start = is.low in omega arith) in
          let high : plug_end q ≤ reserved_end is.home = is.high in
          let near_c : IsNear segments all c q.start = candidate-near pointer c candidate q j near below in
          let g : IsGapped c q.start = gapped c above covers near_c in (
            is.home,
            is.among,
            low,
            omega arith,
            clear-room segments all h is.home q.size c
                (record {
                  tail = omega arith;
                  pins =
                      λ p i pinned at. pin c above below covers g p i pinned at (cases_order p.start q.start);
                }),
          )
