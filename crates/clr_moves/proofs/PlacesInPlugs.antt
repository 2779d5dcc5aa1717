-- A place in a plug: its part, the plug that is nearest to it, and where it goes.
use Rattle.std.proofs.Common.{◌≡◌, inl, inr, ℕ, ◌+◌, ◌-◌, ◌<◌, ◌≤◌, true, List, [], ◌∷◌, ◌++◌, length, refl}
use Rattle.std.proofs.Common.{ap, sym, ◌∙◌, arith}
use Rattle.std.proofs.lemmas.Bool.{cases_lt}
use Rattle.clr_types.specs.Rising.{first, IsIn, later}
use Rattle.clr_types.specs.Types.{TypeRow}
use Rattle.clr_types.proofs.ChangedLists.{IsIn-map}
use Rattle.clr_types.proofs.RisingLists.{in_cons}
use Rattle.clr_heap.specs.View.{first_of, HeapView, IsHeap, last_of, SameShape, segment_at}
use Rattle.clr_heap.proofs.Framing.{lawful_at}
use Rattle.clr_heap.proofs.Staying.{segment_order}
use Rattle.clr_model.specs.Compaction.{Move, moved_by}
use Rattle.clr_model.proofs.MovedPlaces.{moved-is}
use Rattle.clr_pinq.specs.declared.entry.PinEntry.{PinEntry}
use Rattle.clr_plugs.specs.BrickEntries.{BricksView}
use Rattle.clr_plugs.specs.Plans.{back_number, PlannedPart, PlannedPlug}
use Rattle.clr_moves.proofs.ToldMoves.{in_moves, IsPlugMove, number_of, number_plug, plug_number}
use Rattle.clr_moves.proofs.Reading.{back_is}
use Rattle.clr_moves.specs.Going.{IsNearest, IsNearPlug}
use Rattle.clr_moves.specs.Moves.{AreInLine, IsInPart, IsInPlug, move_at, part_of, plug_stop, room_end, takes}
use Rattle.clr_moves.specs.Overlaid.{HoldsPlan, MayGo}
use Rattle.clr_moves.specs.Told.{end_before, IsPartPlanned, moves_of, TellMoves}
use Rattle.clr_moves.specs.declared.condemned.Condemned.{Condemned}

-- ---- where plugs end

-- no plug of a part ends above what all start at or below, and the last one ends at or below
stops_below : (ps : List PlannedPlug) (last high : ℕ) → ((p : PlannedPlug) → IsIn p ps → p.start ≤ high) → last ≤ high
    → (v : Move) → IsIn v (moves_of ps last) → plug_stop v ≤ high
stops_below [] last high starts ends v i = elim i [ ]
stops_below (p ∷ ps) last high starts ends v i = elim (in_cons i) [
  | inl e ↦
      let start = ap (λ (w : Move). w.start) e in
      let size = ap (λ (w : Move). w.size) e in
      let own = starts p first in
      let end : end_before ps last ≤ high = before ps (λ q k. starts q (later k)) in
      omega (arith, start, size, own, end)
  | inr more ↦ stops_below ps last high (λ q k. starts q (later k)) ends v more
] where
  before : (qs : List PlannedPlug) → ((q : PlannedPlug) → IsIn q qs → q.start ≤ high) → end_before qs last ≤ high
  before [] h = ends
  before (q ∷ qs) h = let at = h q first in omega (arith, at)

-- a list with an element has a last one
last_split : (p : PlannedPlug) (ps : List PlannedPlug)
    → (qs : List PlannedPlug) × (q : PlannedPlug) × ((p ∷ ps) ≡ qs ++ q ∷ [])
last_split p [] = ([], p, refl)
last_split p (r ∷ ps) =
    let (qs, q, e) = last_split r ps in (p ∷ qs, q, ap (λ (xs : List PlannedPlug). p ∷ xs) e)

-- where a plug is, the last one of its part ends within the segment
last_within : (rows : List TypeRow) (h : HeapView) (bricks : BricksView) (g : Condemned) (t : ℕ) (part : PlannedPart)
    (last : ℕ)
    → IsPartPlanned rows h bricks g t part last → (p : PlannedPlug) → IsIn p part.plugs → last ≤ last_of h t
last_within rows h bricks g t part last plan p i = go part.plugs refl i where
  go : (ps : List PlannedPlug) → part.plugs ≡ ps → IsIn p ps → last ≤ last_of h t
  go [] e k = elim k [ ]
  go (r ∷ ps) e k = let (qs, q, is) = last_split r ps in (plan.run qs q (e ∙ is)).ends

-- ---- places that go

-- a place of a plug goes with it
pub moved_in_plug : (vs : List Move) → AreInLine vs → (k place : ℕ) → IsInPlug vs k place
    → moved_by vs place ≡ (move_at vs k).to + (place - (move_at vs k).start)
moved_in_plug vs line k place i =
    let low = i.low in
    let high = i.high in
    elim (moved-is vs place) [
      | inr (uncovered, still) ↦ absurd (uncovered (move_at vs k) (in_moves vs k i.within) (low, high))
      | inl (v, j, (v_low, v_high), e) ↦
          let (n, l, is) = number_of vs v j in
          let v_start = ap (λ (w : Move). w.start) is in
          let v_size = ap (λ (w : Move). w.size) is in
          let v_to = ap (λ (w : Move). w.to) is in
          elim (cases_lt n k) [
            | inl less ↦
                let order = line.line n k less i.within in
                absurd (omega (arith, order, v_start, v_size, v_high, low))
            | inr not_less ↦ elim (cases_lt k n) [
              | inl more ↦ let order = line.line k n more l in absurd (omega (arith, order, v_start, v_low, high))
              | inr not_more ↦
                  let same : n ≡ k = omega (arith, not_less, not_more) in
                  let both_start = ap (λ (x : ℕ). (move_at vs x).start) same in
                  let both_to = ap (λ (x : ℕ). (move_at vs x).to) same in
                  omega (arith, e, v_start, v_to, both_start, both_to)
            ]
          ]
    ]

-- a place is in the part of one segment at most
pub one_part : (h : HeapView) (g : Condemned) (t u place : ℕ) → IsHeap h → first_of h t ≤ place → first_of h u ≤ place
    → IsInPart h g t place → IsInPart h g u place → t ≡ u
one_part h g t u place heap low_t low_u a b =
    let high_t = a.high in
    let high_u = b.high in
    elim (cases_lt t u) [
      | inl less ↦
          let order = segment_order h t u heap less b.in_range in absurd (omega (arith, order, high_t, low_u))
      | inr not_less ↦ elim (cases_lt u t) [
        | inl more ↦
            let order = segment_order h u t heap more a.in_range in absurd (omega (arith, order, high_u, low_t))
        | inr not_more ↦ omega (arith, not_less, not_more)
      ]
    ]

module _ (rows : List TypeRow) (h : HeapView) (bricks : BricksView) (g : Condemned) (vs : List Move) (heap : IsHeap h)
    (tell : TellMoves rows h bricks g vs) where
  -- the plug whose move has a number
  abbrev pub plug_of : (k : ℕ) → k < length vs → IsPlugMove h g tell.parts tell.lasts (length h.segments) (move_at vs k)
  plug_of k l = number_plug h g tell.parts tell.lasts (length h.segments) vs tell.moves k l

  -- where plug k lies: in the part of this segment, up to the segment's end
  pub record LiesIn (k t : ℕ) : Type 0 where
    pub in_range : t < length h.segments
    pub takes : takes g (segment_at h t) ≡ true
    pub first : first_of h t ≤ part_of h g t
    pub low : part_of h g t ≤ (move_at vs k).start
    pub high : plug_stop (move_at vs k) ≤ last_of h t

  pub plug_lies : (k : ℕ) (l : k < length vs) → LiesIn k (plug_of k l).segment
  plug_lies k l =
      let m = plug_of k l in
      let t = m.segment in
      let plan = tell.each t m.within m.takes in
      let part = tell.parts t in
      let at = m.is.start in
      let lies = plan.planned.lies in
      let start = (lies.places m.plug.start (IsIn-map (λ (p : PlannedPlug). p.start) m.among)).low in
      let last = last_within rows h bricks g t part (tell.lasts t) plan m.plug m.among in
      let end = plan.high in
      let low_is = plan.low in
      let first_is = ap (λ (n : ℕ). first_of h n) plan.segment in
      let base = lies.low in
      let stop = stops_below part.plugs (tell.lasts t) part.high
      (λ p j. let high = (lies.places p.start (IsIn-map (λ (q : PlannedPlug). q.start) j)).high in omega (arith, high))
      (omega (arith, last, end)) (move_at vs k) m.among_moves in
      record {
        in_range = m.within;
        takes = m.takes;
        first = omega (arith, base, first_is, low_is);
        low = omega (arith, start, at, low_is);
        high = omega (arith, stop, end);
      }

  -- the part in which a place of a plug is
  pub record HasPartAt (place t : ℕ) : Type 0 where
    pub in_range : t < length h.segments
    pub takes : takes g (segment_at h t) ≡ true
    pub low : (tell.parts t).low ≤ place
    pub high : place < (tell.parts t).high

  pub part_at : (k place : ℕ) (i : IsInPlug vs k place) → HasPartAt place (plug_of k i.within).segment
  part_at k place i =
      let a = plug_lies k i.within in
      let plan = tell.each (plug_of k i.within).segment a.in_range a.takes in
      let low = i.low in
      let high = i.high in
      let start = a.low in
      let stop = a.high in
      let low_is = plan.low in
      let high_is = plan.high in
      record {
        in_range = a.in_range;
        takes = a.takes;
        low = omega (arith, low, start, low_is);
        high = omega (arith, high, stop, high_is);
      }

  -- a place of a plug is in a part
  pub plug_in_part : (k place : ℕ) (i : IsInPlug vs k place) → IsInPart h g (plug_of k i.within).segment place
  plug_in_part k place i =
      let a = plug_lies k i.within in
      let low = i.low in
      let high = i.high in
      let start = a.low in
      let stop = a.high in
      let end = (lawful_at h (plug_of k i.within).segment heap a.in_range).high in
      record {
        in_range = a.in_range;
        takes = a.takes;
        low = omega (arith, low, start);
        high = omega (arith, high, stop, end);
      }

  -- a place in no part stays
  pub outside_stays : (place : ℕ) → ((t : ℕ) → IsInPart h g t place → ⊥) → place ≡ moved_by vs place
  outside_stays place outside = elim (moved-is vs place) [
    | inr (uncovered, still) ↦ sym still
    | inl (v, i, (low, high), e) ↦
        let (k, l, is) = number_of vs v i in
        let start = ap (λ (w : Move). w.start) is in
        let size = ap (λ (w : Move). w.size) is in
        let in_plug : IsInPlug vs k place = record {
          within = l;
          low = omega (arith, start, low);
          high = omega (arith, start, size, high);
        } in
        absurd (outside (plug_of k l).segment (plug_in_part k place in_plug))
  ]

  module _ (line : AreInLine vs) (k place : ℕ) (i : IsInPlug vs k place) where
    -- the nearest plug at a place of a plug or below it is this plug
    pub nearest_here : IsNearest (tell.parts (plug_of k i.within).segment).plugs place (plug_of k i.within).plug
    nearest_here =
        let m = plug_of k i.within in
        let at = m.is.start in
        let low = i.low in
        let high = i.high in
        record {
          among = m.among;
          below = omega (arith, at, low);
          nearest = λ p j under.
              (let (n, l, is) = plug_number h g tell.parts tell.lasts (length h.segments) vs tell.moves m.segment
              m.within m.takes p j in
              let start = is.start in
              elim (cases_lt n k) [
                | inl less ↦ let order = line.line n k less i.within in omega (arith, order, start, at)
                | inr not_less ↦ elim (cases_lt k n) [
                  | inl more ↦ let order = line.line k n more l in absurd (omega (arith, order, start, under, high))
                  | inr not_more ↦
                      let same : n ≡ k = omega (arith, not_less, not_more) in
                      let both = ap (λ (x : ℕ). (move_at vs x).start) same in
                      omega (arith, both, start, at)
                ]
              ]);
        }

    pub near_plug : IsNearPlug h bricks place (back_number (plug_of k i.within).plug.distance)
    near_plug =
        let m = plug_of k i.within in
        let a = part_at k place i in
        let plan = tell.each m.segment m.within m.takes in
        record {
          part = tell.parts m.segment;
          planned = plan.planned;
          low = a.low;
          high = a.high;
          plug = m.plug;
          near = nearest_here;
          goes = plan.down m.plug m.among;
          back_is = refl;
        }

    -- the place goes with it
    pub goes_down : place - back_number (plug_of k i.within).plug.distance ≡ moved_by vs place
    goes_down =
        let m = plug_of k i.within in
        let plan = tell.each m.segment m.within m.takes in
        let within = (back_is m.plug (plan.down m.plug m.among)).1 in
        let low = i.low in
        let start = m.is.start in
        let to = m.is.to in
        let moved = moved_in_plug vs line k place i in
        omega (arith, moved, start, to, within, low)

-- ---- in the heap and in the view

-- parts are the same in heaps of the same shape
pub in_part-same : (view h : HeapView) (g : Condemned) (t place : ℕ) → SameShape view h → IsInPart h g t place
    → IsInPart view g t place
in_part-same view h g t place shape i =
    let count = ap (λ (v : HeapView). length v.segments) shape.others in
    let part = ap (λ (v : HeapView). part_of v g t) shape.others in
    let end = ap (λ (v : HeapView). room_end v t) shape.others in
    let within = i.in_range in
    let low = i.low in
    let high = i.high in
    record {
      in_range = omega (arith, within, count);
      takes = sym (ap (λ (v : HeapView). takes g (segment_at v t)) shape.others) ∙ i.takes;
      low = omega (arith, low, part);
      high = omega (arith, high, end);
    }

module _ (rows : List TypeRow) (view h : HeapView) (bricks : BricksView) (entries : List PinEntry) (g : Condemned)
    (vs : List Move) (start1 start0 : ℕ) (heap : IsHeap h)
    (plan : HoldsPlan rows view h bricks entries g vs start1 start0) (place : ℕ) where
  -- parts start within their segments
  pub parts_start : (t : ℕ) → t < length h.segments → takes g (segment_at h t) ≡ true → first_of h t ≤ part_of h g t
  parts_start t l on =
      let shape = plan.overlaid.shape in
      let count = ap (λ (v : HeapView). length v.segments) shape.others in
      let part = ap (λ (v : HeapView). part_of v g t) shape.others in
      let low = ap (λ (v : HeapView). first_of v t) shape.others in
      let start = (plan.overlaid.moves.starts t (omega (arith, l, count))
      (sym (ap (λ (v : HeapView). takes g (segment_at v t)) shape.others) ∙ on)).0 in
      omega (arith, part, low, start)

  -- so the place 0 is in none
  pub none_at_zero : place ≡ 0 → (t : ℕ) → IsInPart h g t place → ⊥
  none_at_zero is t i =
      let start = parts_start t i.in_range i.takes in
      let low = i.low in
      omega (arith, start, low, is)

  -- a place that may go, in a part, is in a plug
  pub plug_at_place : MayGo view g vs place → (t : ℕ) × IsInPart h g t place → (k : ℕ) × IsInPlug vs k place
  plug_at_place may (t, inside) = elim may [
    | inl none ↦ absurd (none t (in_part-same view h g t place plan.overlaid.shape inside))
    | inr some ↦ some
  ]

  -- and goes as far down as the nearest plug
  pub goes_near : MayGo view g vs place → (t : ℕ) × IsInPart h g t place
      → (back : ℕ) × IsNearPlug h bricks place back × (place - back ≡ moved_by vs place)
  goes_near may inside =
      let (k, i) = plug_at_place may inside in (
        back_number (plug_of rows h bricks g vs heap plan.told k i.within).plug.distance,
        near_plug rows h bricks g vs heap plan.told plan.overlaid.line k place i,
        goes_down rows h bricks g vs heap plan.told plan.overlaid.line k place i,
      )
