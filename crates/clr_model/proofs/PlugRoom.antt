-- Plugs that lie apart in segments, and where a size fits between their pins.
use Rattle.std.proofs.Common.{◌≡◌, ℕ, ◌+◌, ◌-◌, ◌<◌, ◌≤◌, ◌⊎◌, inl, inr, List, [], ◌∷◌, refl, sym, ap, subst, ◌∙◌}
use Rattle.std.proofs.Common.{arith, Bool, true, false, nat_le, ◌==◌, ◌&&◌, IsTrue, Option, Some, None, MatchOption}
use Rattle.std.proofs.Common.{if◌then◌else◌}
use Rattle.std.proofs.lemmas.Bool.{leb-true, le-leb, eqb-true, eq-eqb, and_parts, and_from, cases_lt, cases_order}
use Rattle.std.proofs.lemmas.Bool.{both_ways}
use Rattle.clr_types.specs.Rising.{IsIn, first, later, IsRisingBy}
use Rattle.clr_types.specs.Ranges.{fits}
use Rattle.clr_types.proofs.RisingLists.{in_cons, all_at}
use Rattle.clr_model.specs.Compaction.{Plug, plug_end, next_pin, HasRoomAt, FitsAt}
use Rattle.clr_types.specs.declared.segment.SegInfo.{SegInfo}
use Rattle.clr_types.specs.Segments.{first_place, reserved_end}
use Rattle.clr_types.proofs.ListMembers.{rising_same}
use Rattle.clr_types.proofs.PieceGaps.{IsGapped}
use Rattle.clr_types.proofs.SegmentFacts.{AreSeparate}

-- a plug in one of the segments
pub record IsPlug (segments : List SegInfo) (p : Plug) : Type 0 where
  pub home : SegInfo
  pub among : IsIn home segments
  pub of : p.segment ≡ home.base
  pub low : IsGapped (first_place home) p.start
  pub high : plug_end p ≤ reserved_end home
  pub size : 24 ≤ p.size

-- plugs by rising place, with nothing or room for a free item between any two of them
pub record ArePlugs (segments : List SegInfo) (all : List Plug) : Type 0 where
  pub each : (p : Plug) → IsIn p all → IsPlug segments p
  pub rise : IsRisingBy (λ (p : Plug). p.start) all
  pub apart : (p q : Plug) → IsIn p all → IsIn q all → p.start < q.start → IsGapped (plug_end p) q.start
  pub reserved : (s : SegInfo) → IsIn s segments → 0x2000 ≤ s.reserved
  pub separate : (s t : SegInfo) → IsIn s segments → IsIn t segments → AreSeparate s t

abbrev pub IsPinIn : SegInfo → Plug → Type 0
IsPinIn s p = (p.pinned ≡ true) × (p.segment ≡ s.base)

-- the place is in no pinned plug
abbrev pub IsOutside : List Plug → ℕ → Type 0
IsOutside all place = (p : Plug) → IsIn p all → p.pinned ≡ true → (place ≤ p.start) ⊎ (plug_end p ≤ place)

-- ---- the next pin

abbrev IsNextPin : List Plug → SegInfo → ℕ → Option Plug → Type 0
IsNextPin all s place o =
    MatchOption o ((q : Plug) → IsIn q all → IsPinIn s q → q.start < place)
    (λ p. IsIn p all × IsPinIn s p × (place ≤ p.start)
    × ((q : Plug) → IsIn q all → IsPinIn s q → place ≤ q.start → p.start ≤ q.start))

abbrev pin_test : SegInfo → ℕ → Plug → Bool
pin_test s place p = p.pinned && ((p.segment == s.base) && nat_le place p.start)

pin_test-true : (s : SegInfo) (place : ℕ) (p : Plug) → pin_test s place p ≡ true → IsPinIn s p × (place ≤ p.start)
pin_test-true s place p e =
    let (pinned, rest) = and_parts p.pinned ((p.segment == s.base) && nat_le place p.start) e in
    let (of, above) = and_parts (p.segment == s.base) (nat_le place p.start) rest in
    ((pinned, eqb-true p.segment s.base of), leb-true place p.start above)

pin_test-false : (s : SegInfo) (place : ℕ) (p : Plug) → pin_test s place p ≡ false → IsPinIn s p → p.start < place
pin_test-false s place p e pin = go (cases_lt p.start place)
  where
    go : (p.start < place) ⊎ (place ≤ p.start) → p.start < place
    go (inl l) = l
    go (inr l) = absurd (both_ways (pin_test s place p) e
        (and_from p.pinned ((p.segment == s.base) && nat_le place p.start) pin.0
        (and_from (p.segment == s.base) (nat_le place p.start) (eq-eqb p.segment s.base pin.1)
        (le-leb place p.start l))))

next_pin-tail : (all : List Plug) (s : SegInfo) (place : ℕ) (p : Plug) (o : Option Plug) → pin_test s place p ≡ false
    → IsNextPin all s place o → IsNextPin (p ∷ all) s place o
next_pin-tail all s place p None e h = λ q i pin. go q pin (in_cons i)
  where
    go : (q : Plug) → IsPinIn s q → (q ≡ p) ⊎ IsIn q all → q.start < place
    go q pin (inl same) = subst (λ (w : Plug). IsPinIn s w
        → w.start < place) (sym same) (pin_test-false s place p e) pin
    go q pin (inr j) = h q j pin
next_pin-tail all s place p (Some r) e h = (later h.0, h.1, h.2, λ q i pin above. go q pin above (in_cons i))
  where
    go : (q : Plug) → IsPinIn s q → place ≤ q.start → (q ≡ p) ⊎ IsIn q all → r.start ≤ q.start
    go q pin above (inl same) = let low : p.start < place = pin_test-false s place p e (subst (IsPinIn s) same pin) in
        let at : q.start ≡ p.start = ap (λ (w : Plug). w.start) same in absurd (omega arith)
    go q pin above (inr j) = h.3 q j pin above

next_pin-is : (all : List Plug) (s : SegInfo) (place : ℕ) → IsRisingBy (λ (p : Plug). p.start) all
    → IsNextPin all s place (next_pin all s place)
next_pin-is [] s place r = λ q i pin. elim i [ ]
next_pin-is (p ∷ all) s place r = go (next_pin-is all s place r.1) (pin_test s place p) refl
  where
    head : (q : Plug) → (q ≡ p) ⊎ IsIn q all → p.start ≤ q.start
    head q (inl e) = let at : q.start ≡ p.start = ap (λ (w : Plug). w.start) e in omega arith
    head q (inr j) = let above : p.start < q.start = all_at (λ (w : Plug). p.start < w.start) j r.0 in omega arith

    go : IsNextPin all s place (next_pin all s place) → (b : Bool) → pin_test s place p ≡ b
        → IsNextPin (p ∷ all) s place (if b then Some p else next_pin all s place)
    go rest true e = let is = pin_test-true s place p e in (first, is.0, is.1, λ q i pin above. head q (in_cons i))
    go rest false e = next_pin-tail all s place p (next_pin all s place) e rest

-- in a list that rises, elements of one key are one
-- ---- room

-- from the place to each pinned plug of the segment above it the size fits, and below the end of the reservation
pub record IsClear (all : List Plug) (s : SegInfo) (size place : ℕ) : Type 0 where
  pub tail : place + size ≤ reserved_end s
  pub pins : (p : Plug) → IsIn p all → IsPinIn s p → place ≤ p.start → IsGapped (place + size) p.start

fits-gapped : (size place start : ℕ) → place ≤ start → fits size (start - place) ≡ true → IsGapped (place + size) start
fits-gapped size place start l e = grind arith

gapped-fits : (size place start : ℕ) → place ≤ start → IsGapped (place + size) start → fits size (start - place) ≡ true
gapped-fits size place start l e = grind arith

module _ (segments : List SegInfo) (all : List Plug) (h : ArePlugs segments all) where
  -- plugs of one start are one
  pub one_plug : (p q : Plug) → IsIn p all → IsIn q all → p.start ≡ q.start → p ≡ q
  one_plug p q = rising_same (λ (w : Plug). w.start) all p q h.rise

  -- segments of one base are one
  pub one_segment : (s t : SegInfo) → IsIn s segments → IsIn t segments → s.base ≡ t.base → s ≡ t
  one_segment s t i j e = go (h.separate s t i j)
    where
      go : AreSeparate s t → s ≡ t
      go (inl same) = same
      go (inr (inl below)) = let large : 0x2000 ≤ s.reserved = h.reserved s i in absurd (omega arith)
      go (inr (inr below)) = let large : 0x2000 ≤ t.reserved = h.reserved t j in absurd (omega arith)

  -- a plug of the segment stands in it
  pub in_segment : (s : SegInfo) (p : Plug) → IsIn s segments → IsIn p all → p.segment ≡ s.base
      → IsGapped (first_place s) p.start × (plug_end p ≤ reserved_end s)
  in_segment s p i j e =
      let is : IsPlug segments p = h.each p j in
      let same : is.home ≡ s = one_segment is.home s is.among i (sym is.of ∙ e) in
      subst (λ (t : SegInfo). IsGapped (first_place t) p.start × (plug_end p ≤ reserved_end t)) same (is.low, is.high)

  pub room-clear : (s : SegInfo) (size place : ℕ) → IsIn s segments → HasRoomAt all s size place
      → IsClear all s size place
  room-clear s size place i = go (next_pin all s place) (next_pin-is all s place h.rise)
    where
      go : (o : Option Plug) → IsNextPin all s place o
          → MatchOption o (place + size ≤ reserved_end s) (λ p. IsTrue (fits size (p.start - place)))
          → IsClear all s size place
      go None none room = record {
        tail = room;
        pins = λ p j pin above. let below : p.start < place = none p j pin in
            absurd (omega arith);
      }
      go (Some q) is room =
          let gap : IsGapped (place + size) q.start = fits-gapped size place q.start is.2 room in
          let size_of : 24 ≤ q.size = (h.each q is.0).size in
          let inside : plug_end q ≤ reserved_end s = (in_segment s q i is.0 is.1.1).1 in
          record {
            tail = omega arith;
            pins =
                λ p j pin above. pins p j (is.3 p j pin above) (cases_order q.start p.start);
          }
        where
          gap' : IsGapped (place + size) q.start
          gap' = fits-gapped size place q.start is.2 room

          pins : (p : Plug) → IsIn p all → q.start ≤ p.start
              → (q.start ≡ p.start) ⊎ ((q.start < p.start) ⊎ (p.start < q.start)) → IsGapped (place + size) p.start
          pins p j l (inl e) = subst (λ n. IsGapped (place + size) n) e gap'
          pins p j l (inr (inl b)) = let size_of : 24 ≤ q.size = (h.each q is.0).size in
              let far : IsGapped (plug_end q) p.start = h.apart q p is.0 j b in let g = gap' in inr (omega arith)
          pins p j l (inr (inr b)) = absurd (omega arith)

  pub clear-room : (s : SegInfo) (size place : ℕ) → IsClear all s size place → HasRoomAt all s size place
  clear-room s size place clear = go (next_pin all s place) (next_pin-is all s place h.rise)
    where
      go : (o : Option Plug) → IsNextPin all s place o
          → MatchOption o (place + size ≤ reserved_end s) (λ p. IsTrue (fits size (p.start - place)))
      go None none = clear.tail
      go (Some q) is = gapped-fits size place q.start is.2 (clear.pins q is.0 is.1 is.2)

  -- where a size fits at a place outside of pins, each pin ends below the place, or begins where the size ends or with
  -- room for a free item
  pub fit-between : (size place : ℕ) → IsOutside all place → FitsAt segments all size place → (p : Plug) → IsIn p all
      → p.pinned ≡ true → (plug_end p ≤ place) ⊎ IsGapped (place + size) p.start
  fit-between size place out fit p j pinned =
      go (out p j pinned) (h.separate fit.0 (h.each p j).home fit.1 (h.each p j).among)
    where
      is : IsPlug segments p
      is = h.each p j

      clear : IsClear all fit.0 size place
      clear = room-clear fit.0 size place fit.1 fit.4

      go : (place ≤ p.start) ⊎ (plug_end p ≤ place) → AreSeparate fit.0 is.home
          → (plug_end p ≤ place) ⊎ IsGapped (place + size) p.start
      go (inr below) sep = inl below
      go (inl above) (inl same) = inr (clear.pins p j (pinned, is.of ∙ sym (ap (λ (s : SegInfo). s.base) same)) above)
      go (inl above) (inr (inl low)) = let tail : place + size ≤ reserved_end fit.0 = clear.tail in
          let from : IsGapped (first_place is.home) p.start = is.low in inr (inr (omega arith))
      go (inl above) (inr (inr high)) = let low : first_place fit.0 ≤ place = fit.2 in
          let to : plug_end p ≤ reserved_end is.home = is.high in inl (omega arith)
