-- The pointer past pins that begin at it, and at a higher place behind the pins that begin below that.
use Rattle.std.proofs.Common.{◌≡◌, ◌≢◌, ℕ, ◌+◌, ◌<◌, ◌≤◌, ◌⊎◌, inl, inr, List, [], ◌∷◌, ◌++◌, filter, length}
use Rattle.std.proofs.Common.{refl, sym, ap, subst, ◌∙◌, arith, true, false, nat_le, ◌&&◌, ◌==◌, if◌then◌else◌}
use Rattle.std.proofs.lemmas.Bool.{and_left, and_right, and_from, le-leb, lt-leb, eq-eqb, ne_eqb, cases_Bool}
use Rattle.std.specs.List.{AllByRecursion}
use Rattle.clr_types.specs.Rising.{IsIn, first, later, IsRisingBy}
use Rattle.clr_types.specs.Ranges.{Piece, piece_end}
use Rattle.clr_pinq.specs.declared.entry.PinEntry.{PinEntry}
use Rattle.clr_plan.specs.Waiting.{ranges_from}
use Rattle.clr_types.specs.Segments.{reserved_end}
use Rattle.clr_types.specs.declared.segment.SegInfo.{SegInfo}
use Rattle.clr_types.proofs.ChangedLists.{append_left}
use Rattle.clr_types.proofs.ListMembers.{append_right}
use Rattle.clr_types.proofs.PieceGaps.{IsGapped}
use Rattle.clr_types.proofs.RisingLists.{all_at}
use Rattle.clr_types.proofs.SegmentFacts.{AreSeparate}
use Rattle.clr_heap.specs.View.{HeapView, segment_at}
use Rattle.clr_model.specs.Compaction.{Plug, plug_end, raised_past_pins}
use Rattle.clr_model.proofs.PlugRoom.{IsPlug, ArePlugs}
use Rattle.clr_model.proofs.PlugPointer.{IsEdge, edge-gapped, edge-outside}
use Rattle.clr_plan.specs.Pointing.{IsAt}
use Rattle.clr_plan.specs.Parts.{Around}
use Rattle.clr_plan.specs.Raises.{CanRaise, HasRaised}
use Rattle.clr_plan.specs.declared.pointer.Pointer.{Pointer}
use Rattle.clr_plan.proofs.Pins.{before, IsNextPin, next-pin, pins-past, pins-none}

-- ---- the machine's words

-- where no pinned plug begins at the place, it stays
raised-none : (ps : List Plug) (place : ℕ) → ((p : Plug) → IsIn p ps → p.pinned ≡ true → p.start ≢ place)
    → raised_past_pins ps place ≡ place
raised-none [] place none = refl
raised-none (p ∷ ps) place none =
    ap (λ b. raised_past_pins ps (if b then plug_end p else place)) (off (cases_Bool p.pinned))
    ∙ raised-none ps place (λ q i. none q (later i))
  where
    off : (p.pinned ≡ true) ⊎ (p.pinned ≡ false) → (p.pinned && (p.start == place)) ≡ false
    off (inl e) = and_right p.pinned (p.start == place) (ne_eqb p.start place (none p first e))
    off (inr e) = and_left p.pinned (p.start == place) e

-- where one does, it goes to that one's end
raised-step : (ps : List Plug) (p : Plug) → IsRisingBy (λ (q : Plug). q.start) ps → IsIn p ps → p.pinned ≡ true
    → 0 < p.size → raised_past_pins ps p.start ≡ raised_past_pins ps (plug_end p)
raised-step [] p r i pinned size = elim i [ ]
raised-step (q ∷ ps) p r first pinned size =
    ap (λ b. raised_past_pins ps (if b then plug_end p else p.start)) (and_from p.pinned (p.start == p.start) pinned
    (eq-eqb p.start p.start refl))
    ∙ sym (ap (λ b. raised_past_pins ps (if b then plug_end p else plug_end p))
    (and_right p.pinned (p.start == plug_end p) (ne_eqb p.start (plug_end p) (λ e. absurd (omega arith)))))
raised-step (q ∷ ps) p r (later i) pinned size =
    let l : q.start < p.start = all_at (λ (w : Plug). q.start < w.start) i r.0 in
    ap (λ b. raised_past_pins ps (if b then plug_end q else p.start)) (and_right q.pinned (q.start == p.start)
    (ne_eqb q.start p.start (λ e. absurd (omega arith))))
    ∙ raised-step ps p r.1 i pinned size
    ∙ sym (ap (λ b. raised_past_pins ps (if b then plug_end q else plug_end p))
    (and_right q.pinned (q.start == plug_end p) (ne_eqb q.start (plug_end p) (λ e. absurd (omega arith)))))

-- ---- past a pin

module _ (segments : List SegInfo) (done ahead : List Plug) (h : ArePlugs segments (done ++ ahead)) (s : SegInfo)
    (place : ℕ) where
  abbrev all : List Plug
  all = done ++ ahead

  pub past-pin : (x : Piece) (rest : List Piece) → IsAt segments done ahead s place (x ∷ rest) → x.place ≡ place
      → IsAt segments done ahead s (piece_end x) rest
  past-pin x rest at here =
      let pin : IsNextPin segments done ahead h place x = next-pin segments done ahead h place x rest at.waiting in
      let known : IsIn pin.plug all = append_left ahead pin.known in
      let ends : piece_end x ≡ plug_end pin.plug = pin.ends in
      let edge : IsEdge segments all (piece_end x) = inl (pin.plug, known, pin.pinned, pin.ends) in
      let low : s.base + 0x1000 ≤ place = at.low in
      record {
        among = at.among;
        low = omega arith;
        high = high pin known ends (h.separate (h.each pin.plug known).home s (h.each pin.plug known).among at.among);
        waiting = pins-past segments done ahead h place x rest at.waiting;
        outside = edge-outside segments all h (piece_end x) edge;
        near = λ r i.
            let l : pin.plug.start < r.start = before done ahead h.rise pin.plug r pin.known i in
            let g : IsGapped (plug_end pin.plug) r.start = h.apart pin.plug r known (append_right done i) l in
            let m : piece_end x ≤ r.start = omega arith in
            (m, inl (edge-gapped segments all h (piece_end x) edge r (append_right done i) m));
      }
    where
      high : (pin : IsNextPin segments done ahead h place x) (known : IsIn pin.plug all) → piece_end x
          ≡ plug_end pin.plug → AreSeparate (h.each pin.plug known).home s → piece_end x ≤ reserved_end s
      high pin known ends sep = go sep
        where
          is : IsPlug segments pin.plug
          is = h.each pin.plug known

          start : x.place ≡ pin.plug.start
          start = pin.start

          go : AreSeparate is.home s → piece_end x ≤ reserved_end s
          go (inl e) = let u : plug_end pin.plug ≤ reserved_end is.home = is.high in let same : reserved_end is.home
              ≡ reserved_end s = ap reserved_end e in omega arith
          go (inr (inl l)) = let u : plug_end pin.plug ≤ reserved_end is.home = is.high in
              let low : s.base + 0x1000 ≤ place = at.low in let b = start in let z : 24 ≤ pin.plug.size = pin.size in
              absurd (omega arith)
          go (inr (inr l)) = let g : IsGapped (is.home.base + 0x1000) pin.plug.start = is.low in
              let top : place ≤ reserved_end s = at.high in let b = start in absurd (omega arith)

  -- the machine's pointer goes along
  pub past-raised : (x : Piece) (rest : List Piece) → IsAt segments done ahead s place (x ∷ rest) → x.place ≡ place
      → raised_past_pins done place ≡ raised_past_pins done (piece_end x)
  past-raised x rest at here =
      let pin : IsNextPin segments done ahead h place x = next-pin segments done ahead h place x rest at.waiting in
      let size : 24 ≤ pin.plug.size = pin.size in
      ap (raised_past_pins done) (sym here ∙ pin.start)
      ∙ raised-step done pin.plug (front done ahead h.rise) pin.known pin.pinned (omega arith)
      ∙ ap (raised_past_pins done) (sym pin.ends)
    where
      front : (xs ys : List Plug) → IsRisingBy (λ (p : Plug). p.start) (xs ++ ys) → IsRisingBy (λ (p : Plug). p.start)
          xs
      front [] ys r = tt
      front (x ∷ xs) ys r = (fronts xs r.0, front xs ys r.1)
        where
          fronts : (xs : List Plug) → AllByRecursion (λ (q : Plug). x.start < q.start) (xs ++ ys)
              → AllByRecursion (λ (q : Plug). x.start < q.start) xs
          fronts [] a = tt
          fronts (q ∷ qs) a = (a.0, fronts qs a.1)

  -- at the last it stays
  pub none-here : (pins : List Piece) → IsAt segments done ahead s place pins
      → ((x : Piece) (rest : List Piece) → pins ≡ x ∷ rest → x.place ≢ place) → raised_past_pins done place ≡ place
  none-here pins at off = raised-none done place (λ p i pinned e. go pins refl p i pinned e)
    where
      go : (ps : List Piece) → pins ≡ ps → (p : Plug) → IsIn p done → p.pinned ≡ true → p.start ≡ place → ⊥
      go [] is p i pinned e = let l : p.start < place = pins-none segments done ahead h place (sym at.waiting ∙ is) p i
          pinned in absurd (omega arith)
      go (x ∷ rest) is p i pinned e = least (next-pin segments done ahead h place x rest (sym is ∙ at.waiting))
        where
          least : IsNextPin segments done ahead h place x → ⊥
          least pin = by (pin.least p (append_left ahead i) pinned (omega arith))
            where
              by : (p ≡ pin.plug) ⊎ (plug_end pin.plug ≤ p.start) → ⊥
              by (inl same) = off x rest is (pin.start ∙ sym (ap (λ (w : Plug). w.start) same) ∙ e)
              by (inr far) = let a : place ≤ pin.plug.start = pin.above in let z : 24 ≤ pin.plug.size = pin.size in
                  absurd (omega arith)

-- ---- the loop

pub record IsRaising (w : Around) (h : HeapView) (entries : List PinEntry) (from at : Pointer) : Type 0 where
  pub segment : at.segment ≡ from.segment
  pub high : at.high ≡ from.high
  pub place : raised_past_pins w.done at.place ≡ raised_past_pins w.done from.place
  pub stands : IsAt w.segments w.done w.ahead (segment_at h at.segment) at.place (ranges_from at.passed entries)

pub raise-starts : (w : Around) (h : HeapView) (entries : List PinEntry) (from : Pointer) → CanRaise w h entries from
    → IsRaising w h entries from from
raise-starts w h entries from can = record { segment = refl; high = refl; place = refl; stands = can.stands }

module _ (w : Around) (h : HeapView) (entries : List PinEntry) (from at : Pointer) (can : CanRaise w h entries from)
    (s : IsRaising w h entries from at) where
  pub raise-more : (x : Piece) (n : ℕ) → x ∷ ranges_from n entries ≡ ranges_from at.passed entries → x.place ≡ at.place
      → (end : ℕ) → end ≡ piece_end x → IsRaising w h entries from (record at { place = end; passed = n })
  raise-more x n e here end is =
      let stands : IsAt w.segments w.done w.ahead (segment_at h at.segment) at.place (x ∷ ranges_from n entries) =
      subst (IsAt w.segments w.done w.ahead (segment_at h at.segment) at.place) (sym e) s.stands in
      record {
        segment = s.segment;
        high = s.high;
        place = ap (raised_past_pins w.done) is
            ∙ sym (past-raised w.segments w.done w.ahead can.plugs (segment_at h at.segment) at.place x
            (ranges_from n entries) stands here) ∙ s.place;
        stands = subst (λ m. IsAt w.segments w.done w.ahead (segment_at h at.segment) m (ranges_from n entries))
            (sym is) (past-pin w.segments w.done w.ahead can.plugs (segment_at h at.segment) at.place x
            (ranges_from n entries) stands here);
      }

  raised : at.passed ≤ length entries → ((x : Piece) (rest : List Piece) → ranges_from at.passed entries ≡ x ∷ rest
      → x.place ≢ at.place) → HasRaised w h entries from at
  raised behind off = record {
    segment = s.segment;
    high = s.high;
    place = sym (none-here w.segments w.done w.ahead can.plugs (segment_at h at.segment) at.place
        (ranges_from at.passed entries) s.stands off) ∙ s.place;
    behind = behind;
    stands = s.stands;
  }

  pub raised-at-end : at.passed ≤ length entries → ranges_from at.passed entries ≡ [] → HasRaised w h entries from at
  raised-at-end behind none = raised behind (λ x rest e. absurd (nil x rest (sym none ∙ e)))
    where
      nil : (x : Piece) (rest : List Piece) → [] ≡ x ∷ rest → ⊥
      nil x rest e = absurd cc

  pub raised-before : at.passed ≤ length entries → (x : Piece) (n : ℕ) → x ∷ ranges_from n entries
      ≡ ranges_from at.passed entries → x.place ≢ at.place → HasRaised w h entries from at
  raised-before behind x n e off = raised behind (λ y rest f. subst (λ (z : Piece). z.place ≢ at.place) (heads (e ∙ f))
      off)
    where
      heads : {y z : Piece} {ys zs : List Piece} → y ∷ ys ≡ z ∷ zs → y ≡ z
      heads e = cc

-- ---- pins below a place

pub filter-all : (place : ℕ) (x : Piece) (xs : List Piece) → IsRisingBy (λ (y : Piece). y.place) (x ∷ xs)
    → place ≤ x.place → filter (λ (y : Piece). nat_le place y.place) (x ∷ xs) ≡ x ∷ xs
filter-all place x xs r l =
    ap (λ b. if b then x ∷ filter (λ (y : Piece). nat_le place y.place) xs else filter
    (λ (y : Piece). nat_le place y.place) xs) (le-leb place x.place l)
    ∙ ap (λ ys. x ∷ ys) (rest xs r.0)
  where
    rest : (ys : List Piece) → AllByRecursion (λ (y : Piece). x.place < y.place) ys
        → filter (λ (y : Piece). nat_le place y.place) ys ≡ ys
    rest [] a = refl
    rest (y ∷ ys) a =
        let m : x.place < y.place = a.0 in
        ap (λ b. if b then y ∷ filter (λ (z : Piece). nat_le place z.place) ys else filter
        (λ (z : Piece). nat_le place z.place) ys) (le-leb place y.place (omega arith))
        ∙ ap (λ zs. y ∷ zs) (rest ys a.1)

pub filter-skip : (place : ℕ) (x : Piece) (xs : List Piece) → x.place < place
    → filter (λ (y : Piece). nat_le place y.place) (x ∷ xs) ≡ filter (λ (y : Piece). nat_le place y.place) xs
filter-skip place x xs l = ap (λ b. if b then x ∷ filter (λ (y : Piece). nat_le place y.place) xs else filter
    (λ (y : Piece). nat_le place y.place) xs) (lt-leb place x.place l)

-- from a pin at the place or above it all are left
pub filter-at : (place : ℕ) (pins rest : List Piece) (x : Piece) → IsRisingBy (λ (y : Piece). y.place) pins → x ∷ rest
    ≡ pins → place ≤ x.place → filter (λ (y : Piece). nat_le place y.place) pins ≡ pins
filter-at place pins rest x r e l =
    ap (filter (λ (y : Piece). nat_le place y.place)) (sym e)
    ∙ filter-all place x rest (subst (IsRisingBy (λ (y : Piece). y.place)) (sym e) r) l ∙ e
