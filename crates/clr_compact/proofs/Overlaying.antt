-- The loop over plugs and parts of a heap that holds information of plugs: where it starts, what it keeps, and what
-- stands at its end.
use Rattle.std.proofs.Common.{◌≡◌, ◌⊎◌, inl, inr, ℕ, ◌+◌, ◌-◌, ◌%◌, ◌<◌, ◌≤◌, Bool, true, false, ◌&&◌, leb, ltb, List}
use Rattle.std.proofs.Common.{length, set, refl, ap, sym, ◌∙◌, subst, arith, if◌then◌else◌, Option, None, Some}
use Rattle.std.specs.Prelude.{IsSome}
use Rattle.std.proofs.lemmas.Bool.{and_from, cases_lt, cases_order, le-leb, le-ltb, lt-leb, lt-ltb, true≢false}
use Rattle.std.proofs.lemmas.List.{get_or-set_other}
use Rattle.clr_types.specs.Segments.{empty_segment, ended_at, Layout, reserved_end}
use Rattle.clr_types.specs.declared.segment.SegInfo.{SegInfo}
use Rattle.clr_heap.specs.View.{first_of, frame, HeapView, SameShape, segment_at, word_of}
use Rattle.clr_heap.proofs.Framing.{below_top_at}
use Rattle.clr_heap.proofs.Staying.{segment_order}
use Rattle.clr_model.specs.Compaction.{Move}
use Rattle.clr_plugs.specs.Info.{IsInfoWord}
use Rattle.clr_pinq.specs.Queue.{logical, or_else, queue_word}
use Rattle.clr_pinq.specs.declared.entry.PinEntry.{PinEntry}
use Rattle.clr_moves.specs.Moves.{IsInPart, IsMove, landing_end, move_at, part_of, plug_stop, room_end, takes, start_of}
use Rattle.clr_compact.specs.Order.{cursor, HasPassed, IsLeft, IsOrder, next_of}
use Rattle.clr_compact.specs.Slides.{AreSlid, HasLanded, HasSlid}
use Rattle.clr_moves.specs.Overlaid.{IsOutside}
use Rattle.clr_compact.specs.Fronts.{IsFrontFrom}
use Rattle.clr_compact.specs.Landings.{EndsUnderInfo, HasLandedWhole}
use Rattle.clr_compact.specs.Overlaid.{AreSavedBefore, IsPartWord}
use Rattle.clr_moves.specs.Overlaid.{IsOverlaid}
use Rattle.clr_compact.specs.Order.{Order}
use Rattle.clr_compact.specs.declared.fronts.Front.{Front}
use Rattle.clr_compact.proofs.SlidingFronts.{IsSliding, next_here, sliding_more, sliding_on, sliding_starts, slid_all}
use Rattle.clr_compact.proofs.Placing.{outside_sides, IsNext, IsTop, next_gap, top_more}
use Rattle.clr_moves.specs.declared.condemned.Condemned.{Condemned}
use Rattle.clr_moves.specs.declared.condemned.Condemned.TheVariants.{Generations, LargeSegments}

-- the words of one function from `low` up to `high`, and those of another elsewhere
abbrev pub within : ℕ → ℕ → (ℕ → ℕ) → (ℕ → ℕ) → ℕ → ℕ
within low high inner outer b = if leb low (b + 8) && ltb (b + 8) high then inner b else outer b

within_in : (low high : ℕ) (inner outer : ℕ → ℕ) (b : ℕ) → low ≤ b + 8 → b + 8 < high
    → within low high inner outer b ≡ inner b
within_in low high inner outer b l h =
    ap (λ t. if t then inner b else outer b)
    (and_from (leb low (b + 8)) (ltb (b + 8) high) (le-leb low (b + 8) l) (lt-ltb (b + 8) high h))

within_out : (low high : ℕ) (inner outer : ℕ → ℕ) (b : ℕ) → (b + 8 < low) ⊎ (high ≤ b + 8)
    → within low high inner outer b ≡ outer b
within_out low high inner outer b (inl l) =
    ap (λ t. if t && ltb (b + 8) high then inner b else outer b) (lt-leb low (b + 8) l)
within_out low high inner outer b (inr h) =
    ap (λ t. if leb low (b + 8) && t then inner b else outer b) (le-ltb (b + 8) high h) ∙ go (leb low (b + 8))
  where
    go : (t : Bool) → (if t && false then inner b else outer b) ≡ outer b
    go true = refl
    go false = refl

-- a segment that ends elsewhere has its part where it had it
pub ended_start : (layout : Layout) (g : Condemned) (e : ℕ) (s : SegInfo) → start_of layout g (ended_at e s)
    ≡ start_of layout g s
ended_start layout (Generations g) e s = refl
ended_start layout LargeSegments e s = refl

pub ended_takes : (g : Condemned) (e : ℕ) (s : SegInfo) → takes g (ended_at e s) ≡ takes g s
ended_takes (Generations g) e s = refl
ended_takes LargeSegments e s = refl

-- The loop's words are those of `view` that count. Below the front the heap holds them in the parts, and from it on the
-- heap is as it was.
pub record IsSlidingWhole (view before now : HeapView) (g : Condemned) (vs : List Move) (q : Order)
    (f : Front) : Type 0 where
  pub words : ℕ → ℕ
  pub sliding : IsSliding view now words g vs q f
  pub below : (b : ℕ) → b % 8 ≡ 0 → b + 8 < f.top → IsPartWord view g b → word_of now b ≡ words b
  pub above : (b : ℕ) → b % 8 ≡ 0 → f.top ≤ b + 8 → word_of now b ≡ word_of before b
  pub outside : (b : ℕ) → b % 8 ≡ 0 → IsOutside view g b → word_of now b ≡ word_of before b

module _ (view before : HeapView) (es : List PinEntry) (g : Condemned) (vs : List Move)
    (o : IsOverlaid view before es g vs) where
  -- ---- what is saved in the cells of a plug

  pub ends_under : (k : ℕ) → k < length vs → EndsUnderInfo es (move_at vs k)
  ends_under k l b z low high = go (queue_word es b) refl
    where
      same_plug : IsInfoWord (move_at vs k).start b ⊎ IsInfoWord (plug_stop (move_at vs k)) b → ⊥
      same_plug (inl (a, c)) = absurd (omega (arith, a, c, low))
      same_plug (inr (a, c)) = absurd (omega (arith, a, high))

      lower_info : (j : ℕ) → plug_stop (move_at vs j) ≤ (move_at vs k).start → 24 ≤ (move_at vs j).size
          → IsInfoWord (move_at vs j).start b ⊎ IsInfoWord (plug_stop (move_at vs j)) b → ⊥
      lower_info j line least (inl (a, c)) = absurd (omega (arith, c, low, line))
      lower_info j line least (inr (a, c)) = absurd (omega (arith, c, low, line))

      higher_info : (j : ℕ) → plug_stop (move_at vs k) ≤ (move_at vs j).start → 24 ≤ (move_at vs j).size
          → IsInfoWord (move_at vs j).start b ⊎ IsInfoWord (plug_stop (move_at vs j)) b → ⊥
      higher_info j line least (inl (a, c)) = absurd (omega (arith, a, high, line))
      higher_info j line least (inr (a, c)) = absurd (omega (arith, a, high, line, least))

      no : IsSome (queue_word es b) → ⊥
      no some =
          let (j, lj, info) = o.saved b z some in
          elim (cases_order j k) [
            | inl e ↦ let same = ap (λ i. move_at vs i) e in
                same_plug (subst (λ (v : Move). IsInfoWord v.start b ⊎ IsInfoWord (plug_stop v) b) same info)
            | inr (inl less) ↦ let line = o.line.line j k less l in let least = (o.moves.each j lj).least in
                lower_info j line least info
            | inr (inr more) ↦ let line = o.line.line k j more lj in let least = (o.moves.each j lj).least in
                higher_info j line least info
          ]

      go : (w : Option ℕ) → queue_word es b ≡ w → queue_word es b ≡ None
      go None e = e
      go (Some w) e = absurd (no (subst IsSome (sym e) refl))

  -- ---- the start

  -- a front is at or below the parts from its segment on
  front_under : (start : ℕ) (f : Front) → (f.segment < length view.segments → f.top ≡ part_of view g f.segment)
      → (f.segment < length view.segments → takes g (segment_at view f.segment) ≡ true)
      → ((t : ℕ) → start ≤ t → t < f.segment → t < length view.segments → takes g (segment_at view t) ≡ false)
      → (t : ℕ) → start ≤ t → t < length view.segments → takes g (segment_at view t) ≡ true → f.top ≤ part_of view g t
  front_under start f top is_part none t from lt on = elim (cases_order t f.segment) [
    | inl e ↦ let at = top (omega arith) in let same = ap (part_of view g) e in omega arith
    | inr (inl l) ↦ absurd (true≢false (sym on ∙ none t from l lt))
    | inr (inr l) ↦
        let inside : f.segment < length view.segments = omega arith in
        let at = top inside in
        let (a, b, c) = o.moves.starts f.segment inside (is_part inside) in
        let (d, e, n) = o.moves.starts t lt on in
        let s = segment_order view f.segment t o.heap l lt in
        omega arith
  ]

  segments_same : before.segments ≡ view.segments
  segments_same = ap (λ (h : HeapView). h.segments) o.shape.others

  at_same : (t : ℕ) → segment_at before t ≡ segment_at view t
  at_same t = ap (λ (h : HeapView). segment_at h t) o.shape.others

  -- the same words and shapes, in the heap as it stands
  sliding_under : (words : ℕ → ℕ) (q : Order) (f : Front) → IsSliding view view words g vs q f
      → IsSliding view before words g vs q f
  sliding_under words q f s = record {
    memories = o.shape.memories;
    others = o.shape.others ∙ ap (λ (ss : List SegInfo). record view { memories = before.memories; segments = ss })
        (sym segments_same);
    count = ap length segments_same;
    order = s.order;
    within = s.within;
    is_part = s.is_part;
    here = s.here;
    last = s.last;
    left = s.left;
    placed = s.placed;
    slid = s.slid;
    ahead = λ t a l. at_same t ∙ s.ahead t a l;
    closed = λ t a l on. let (e, ends, is) = s.closed t a l on in (e, ends, at_same t ∙ is);
    skipped = λ t a l off. at_same t ∙ s.skipped t a l off;
  }

  pub front_same : (start : ℕ) (f : Front) → IsFrontFrom before g start f → IsFrontFrom view g start f
  front_same start f from =
      let n = ap length segments_same in
      record {
        heap = o.heap;
        above = from.above;
        within = let w = from.within in omega arith;
        is_part = λ l. subst (λ (s : SegInfo). takes g s ≡ true) (at_same f.segment) (from.is_part (omega arith));
        none = λ t a b. subst (λ (s : SegInfo). takes g s ≡ false) (at_same t) (from.none t a b);
        part = λ l. from.part (omega arith) ∙ ap (λ (h : HeapView). part_of h g f.segment) o.shape.others;
        last = λ l. from.last (omega arith) ∙ ap (λ (h : HeapView). h.top) o.shape.others;
      }

  pub whole_starts : (q : Order) (f : Front) → IsOrder vs q → ((k : ℕ) → k < length vs → IsLeft vs q k)
      → IsFrontFrom before g 0 f → IsSlidingWhole view before before g vs q f
  whole_starts q f order all from_before =
      let from = front_same 0 f from_before in
      record {
        words = word_of view;
        sliding = sliding_under (word_of view) q f (sliding_starts view g vs o.heap o.moves q f order all from);
        below = λ b z low part.
            let up = front_under 0 f from.part from.is_part (λ i a c l. from.none i a c) part.segment (omega arith)
            part.in_range part.takes in
            let from_low = part.low in
            absurd (omega arith);
        above = λ b z high. refl;
        outside = λ b z out. refl;
      }

  module _ (now : HeapView) (q : Order) (f : Front) (w : IsSlidingWhole view before now g vs q f)
      (inside : f.segment < length view.segments) where
    abbrev words : ℕ → ℕ
    words = w.words

    abbrev s : IsSliding view now words g vs q f
    s = w.sliding

    -- ---- one plug more

    module _ (within_vs : next_of vs q < length vs)
        (lands : (move_at vs (next_of vs q)).to < room_end view f.segment) where
      abbrev k : ℕ
      k = next_of vs q

      abbrev v : Move
      v = move_at vs k

      next : IsNext view g vs f.segment f.top k
      next = next_here view g vs o.heap o.moves now words q f s inside within_vs lands

      pub whole_more : (new : HeapView) (r : Order) → SameShape now new
          → HasLandedWhole v f.top (logical es (word_of now)) (word_of now) (word_of new) → 8 ≤ f.top
          → HasPassed vs q r k
          → IsSlidingWhole view before new g vs r (record { segment = f.segment; top = landing_end v })
      whole_more new r shape l up8 passed = record {
        words = more;
        sliding = sliding_more view g vs o.heap o.moves now words q f s inside within_vs lands new more r shape.memories
            shape.others landed passed;
        below = λ b z low part. elim (cases_lt (b + 8) f.top) [
          | inl under ↦
              l.others b z (inl under) ∙ w.below b z under part
              ∙ sym (within_out f.top (landing_end v) (word_of new) words b (inl under))
          | inr over ↦ sym (within_in f.top (landing_end v) (word_of new) words b over low)
        ];
        above = λ b z high. let a = next.above in l.others b z (inr high) ∙ w.above b z (omega arith);
        outside = λ b z out. l.others b z (sides b out) ∙ w.outside b z out;
      }
        where
          more : ℕ → ℕ
          more = within f.top (landing_end v) (word_of new) words

          is : IsMove view g v
          is = o.moves.each k within_vs

          source : (c : ℕ) → c % 8 ≡ 0 → v.start ≤ c + 8 → c + 8 < v.start + v.size
              → logical es (word_of now) c ≡ words c
          source c z low high =
              let a = next.above in
              let lower = is.lower in
              ap (λ (x : ℕ). or_else (queue_word es c) x) (w.above c z (omega arith))
              ∙ o.cells k c z (record { within = within_vs; low = low; high = high })
              ∙ sym (s.slid.above c z (omega arith))

          landed : HasLanded v f.top words more
          landed = record {
            cells = λ b z low high.
                let a = next.above in
                let lower = is.lower in
                let (zs, zn, zt) = is.aligned in
                within_in f.top (landing_end v) (word_of new) words b (omega arith) high ∙ l.cells b z low high
                ∙ source (b + (v.start - v.to)) (omega arith) (omega arith) (omega arith);
            free = λ some.
                let least = is.least in
                let h = l.free some in
                let gap = next_gap view g vs o.heap o.moves f.segment f.top k (s.here inside) next in
                let room : f.top + 24 ≤ v.to = elim gap [ inl e ↦ absurd (omega arith) | inr far ↦ far ] in
                record {
                  header = within_in f.top (landing_end v) (word_of new) words (f.top - 8) (omega arith) (omega arith)
                      ∙ h.header;
                  mt = within_in f.top (landing_end v) (word_of new) words f.top (omega arith) (omega arith) ∙ h.mt;
                  len = within_in f.top (landing_end v) (word_of new) words (f.top + 8) (omega arith) (omega arith)
                      ∙ h.len;
                };
            others = λ b z out. within_out f.top (landing_end v) (word_of new) words b out;
          }

          top : IsTop view g vs f.segment (landing_end v)
          top = top_more view g vs o.heap o.moves (word_of view) words more f.segment f.top k (s.here inside)
              next s.slid landed

          sides : (b : ℕ) → IsOutside view g b → (b + 8 < f.top) ⊎ (landing_end v ≤ b + 8)
          sides b out =
              let low = (s.here inside).low in
              let high = top.high in
              elim (outside_sides view g f.segment b inside (s.is_part inside)
              (o.moves.starts f.segment inside (s.is_part inside)).0 out)
              [ inl under ↦ inl (omega arith) | inr over ↦ inr (omega arith) ]

    -- ---- no plug is left that lands in this part

    module _ (beyond : next_of vs q < length vs → room_end view f.segment ≤ (move_at vs (next_of vs q)).to) where
      abbrev ended : HeapView
      ended = record now { segments = set now.segments f.segment (ended_at f.top (segment_at now f.segment)) }

      pub whole_on : (r : Front) → IsFrontFrom ended g (f.segment + 1) r → IsSlidingWhole view before ended g vs q r
      whole_on r from = record {
        words = more;
        sliding = record {
          memories = on.memories;
          others = on.others;
          count = on.count;
          order = on.order;
          within = on.within;
          is_part = on.is_part;
          here = on.here;
          last = on.last;
          left = on.left;
          placed = on.placed;
          slid = slid;
          ahead = on.ahead;
          closed = on.closed;
          skipped = on.skipped;
        };
        below = λ b z low part. elim (cases_lt (b + 8) f.top) [
          | inl under ↦
              w.below b z under part
              ∙ sym (within_out f.top (room_end view f.segment) (word_of now) words b (inl under))
          | inr over ↦ elim (cases_lt (b + 8) (room_end view f.segment)) [
            | inl tail ↦ sym (within_in f.top (room_end view f.segment) (word_of now) words b over tail)
            | inr past ↦ absurd (between b past low part)
          ]
        ];
        above = λ b z high. let up = room_up in let here = (s.here inside).high in w.above b z (omega arith);
        outside = w.outside;
      }
        where
          on : IsSliding view ended words g vs q r
          on = sliding_on view g vs o.heap o.moves now words q f s inside beyond r from

          more : ℕ → ℕ
          more = within f.top (room_end view f.segment) (word_of now) words

          next_up : f.segment + 1 ≤ r.segment
          next_up = from.above

          part_is : r.segment < length view.segments → r.top ≡ part_of view g r.segment
          part_is l =
              let n = on.count in
              from.part (omega arith) ∙ ap (λ (h : HeapView). start_of (frame h) g (segment_at ended r.segment))
              s.others ∙ ap (start_of (frame view) g) (on.ahead r.segment (omega arith) l)

          none_between : (t : ℕ) → f.segment + 1 ≤ t → t < r.segment → t < length view.segments
              → takes g (segment_at view t) ≡ false
          none_between t a b l =
              subst (λ (u : SegInfo). takes g u ≡ false)
              (get_or-set_other now.segments f.segment t (ended_at f.top (segment_at now f.segment)) empty_segment
              (λ e. omega arith) ∙ s.ahead t (omega arith) l) (from.none t a b)

          room_up : room_end view f.segment ≤ r.top
          room_up = elim (cases_lt r.segment (length view.segments)) [
            | inl l ↦
                let at = part_is l in
                let (a, b, c) = o.moves.starts r.segment l (on.is_part l) in
                let e = segment_order view f.segment r.segment o.heap (omega arith) l in
                omega arith
            | inr l ↦ let at = on.last l in let below = below_top_at view f.segment o.heap inside in omega arith
          ]

          -- no part stands between the end of this room and the next front
          between : (b : ℕ) → room_end view f.segment ≤ b + 8 → b + 8 < r.top → IsPartWord view g b → ⊥
          between b past low part = elim (cases_order part.segment f.segment) [
            | inl e ↦ let same = ap (room_end view) e in let high = part.high in absurd (omega arith)
            | inr (inl less) ↦
                let c = segment_order view part.segment f.segment o.heap less inside in
                let d : (segment_at view f.segment).base ≤ room_end view f.segment = omega arith in
                let high = part.high in
                absurd (omega arith)
            | inr (inr above) ↦
                let up = front_under (f.segment + 1) r part_is on.is_part none_between part.segment (omega arith)
                part.in_range part.takes in
                let from_low = part.low in
                absurd (omega arith)
          ]

          -- what lands below the new front was placed before
          done : (k : ℕ) → k < length vs → landing_end (move_at vs k) ≤ r.top → landing_end (move_at vs k) ≤ f.top
          done k l low = elim (cases_lt k (cursor q (move_at vs k))) [
            | inl placed ↦ s.placed k l (λ left. omega arith)
            | inr left ↦ let up = on.left k l left in let least = (o.moves.each k l).least in absurd (omega arith)
          ]

          slid : AreSlid view g vs (word_of view) more r.top
          slid = record {
            cells = λ k l low b z lo hi. let d = done k l low in
                within_out f.top (room_end view f.segment) (word_of now) words b (inl (omega arith))
                ∙ s.slid.cells k l d b z lo hi;
            free = λ k l low t e into edge some bare.
                let d = done k l low in
                let least = (o.moves.each k l).least in
                let h = s.slid.free k l d t e into edge some bare in
                record {
                  header = within_out f.top (room_end view f.segment) (word_of now) words (e - 8) (inl (omega arith))
                      ∙ h.header;
                  mt = within_out f.top (room_end view f.segment) (word_of now) words e (inl (omega arith)) ∙ h.mt;
                  len = within_out f.top (room_end view f.segment) (word_of now) words (e + 8) (inl (omega arith))
                      ∙ h.len;
                };
            above = λ b z high. let up = room_up in
                within_out f.top (room_end view f.segment) (word_of now) words b (inr (omega arith))
                ∙ on.slid.above b z high;
            outside = λ b z out.
                let low = (s.here inside).low in
                within_out f.top (room_end view f.segment) (word_of now) words b
                (elim (outside_sides view g f.segment b inside (s.is_part inside)
                (o.moves.starts f.segment inside (s.is_part inside)).0 out)
                [ inl under ↦ inl (omega arith) | inr over ↦ inr over ]) ∙ s.slid.outside b z out;
          }

  -- ---- the end

  module _ (now : HeapView) (q : Order) (f : Front) (w : IsSlidingWhole view before now g vs q f)
      (high : length view.segments ≤ f.segment) where
    abbrev ws : ℕ → ℕ
    ws = w.words

    -- a segment's part begins where it began
    part_same : (t : ℕ) → t < length view.segments
        → (part_of now g t ≡ part_of view g t) × (room_end now t ≡ room_end view t)
        × (takes g (segment_at now t) ≡ takes g (segment_at view t))
        × ((segment_at now t).base ≡ (segment_at view t).base)
    part_same t l = go (takes g (segment_at view t)) refl
      where
        frame_part : (c : SegInfo) → start_of (frame now) g c ≡ start_of (frame view) g c
        frame_part c = ap (λ (h : HeapView). start_of (frame h) g c) w.sliding.others

        go : (b : Bool) → takes g (segment_at view t) ≡ b
            → (part_of now g t ≡ part_of view g t) × (room_end now t ≡ room_end view t)
            × (takes g (segment_at now t) ≡ takes g (segment_at view t))
            × ((segment_at now t).base ≡ (segment_at view t).base)
        go true e =
            let (x, ends, is) = w.sliding.closed t (omega arith) l e in (
              frame_part (segment_at now t) ∙ ap (start_of (frame view) g) is
                  ∙ ended_start (frame view) g x (segment_at view t),
              ap reserved_end is,
              ap (takes g) is ∙ ended_takes g x (segment_at view t),
              ap (λ (c : SegInfo). c.base) is,
            )
        go false e =
            let is = w.sliding.skipped t (omega arith) l e in (
              frame_part (segment_at now t) ∙ ap (start_of (frame view) g) is,
              ap reserved_end is,
              ap (takes g) is,
              ap (λ (c : SegInfo). c.base) is,
            )

    abbrev Sides : HeapView → ℕ → ℕ → Type 0
    Sides h t b = (b + 8 < (segment_at h t).base)
        ⊎ (((first_of h t ≤ b + 8) × (b + 8 < part_of h g t)) ⊎ (room_end h t ≤ b + 8))

    sides : (h k : HeapView) (t b : ℕ) → Sides h t b → part_of h g t ≡ part_of k g t → room_end h t ≡ room_end k t
        → (segment_at h t).base ≡ (segment_at k t).base → Sides k t b
    sides h k t b (inl under) p r base = inl (omega arith)
    sides h k t b (inr (inl (low, high))) p r base = inr (inl (omega arith, omega arith))
    sides h k t b (inr (inr over)) p r base = inr (inr (omega arith))

    outside_back : (b : ℕ) → IsOutside now g b → IsOutside view g b
    outside_back b out t l on =
        let (p, r, k, base) = part_same t l in
        let n = w.sliding.count in
        sides now view t b (out t (omega arith) (k ∙ on)) p r base

    outside_on : (b : ℕ) → IsOutside view g b → IsOutside now g b
    outside_on b out t l on =
        let n = w.sliding.count in
        let lv : t < length view.segments = omega arith in
        let (p, r, k, base) = part_same t lv in
        sides view now t b (out t lv (sym k ∙ on)) (sym p) (sym r) (sym base)

    -- a plug that starts in a part ends in its room
    stop_in : (j : ℕ) → j < length vs → (t : ℕ) → IsInPart view g t (move_at vs j).start
        → plug_stop (move_at vs j) ≤ room_end view t
    stop_in j lj t into =
        let is = o.moves.each j lj in
        let from_low = is.from_low in
        let from_high = is.from_high in
        let least = is.least in
        let low = into.low in
        let up = into.high in
        let (a, b, z) = o.moves.starts t into.in_range into.takes in
        elim (cases_order is.from t) [
          | inl e ↦ subst (λ n. plug_stop (move_at vs j) ≤ room_end view n) e from_high
          | inr (inl less) ↦ let s = segment_order view is.from t o.heap less into.in_range in absurd (omega arith)
          | inr (inr above) ↦ let s = segment_order view t is.from o.heap above is.from_in in absurd (omega arith)
        ]

    -- what is saved outside of the parts lies before the start of its part, and not before the end of a plug
    before_part : (j : ℕ) → j < length vs → (t b : ℕ)
        → IsInfoWord (move_at vs j).start b ⊎ IsInfoWord (plug_stop (move_at vs j)) b
        → IsInPart view g t (move_at vs j).start → part_of now g t ≡ part_of view g t
        → (b + 8 < part_of view g t) ⊎ (room_end view t ≤ b + 8) → IsInfoWord (part_of now g t) b
    before_part j lj t b (inl (i, i2)) into p (inl under) =
        let low = into.low in (omega (arith, i, low, p), omega (arith, under, p))
    before_part j lj t b (inl (i, i2)) into p (inr over) = let high = into.high in
        absurd (omega (arith, over, i2, high))
    before_part j lj t b (inr (i, i2)) into p (inl under) =
        let low = into.low in let least = (o.moves.each j lj).least in absurd (omega (arith, i, low, least, under))
    before_part j lj t b (inr (i, i2)) into p (inr over) =
        let move = o.moves.each j lj in
        let high = into.high in
        absurd (omega (arith, over, i2, stop_in j lj t into))

    pub saved_before : AreSavedBefore now es g
    saved_before = record {
      starts = λ t l on.
          let n = w.sliding.count in
          let lv : t < length view.segments = omega arith in
          let (p, r, k, base) = part_same t lv in
          let (a, b, z) = o.moves.starts t lv (sym k ∙ on) in
          record { aligned = omega arith; low = omega arith; high = omega arith };
      saved = λ b z out some.
          let (j, lj, info) = o.saved b z some in
          let (t, into) = o.starts j lj in
          let (p, r, k, base) = part_same t into.in_range in
          let n = w.sliding.count in
          let out_view = outside_sides view g t b into.in_range into.takes (o.moves.starts t into.in_range into.takes).0
          (outside_back b out) in
          record {
            segment = t;
            in_range = (let lt = into.in_range in omega (arith, n, lt));
            takes = k ∙ into.takes;
            info = before_part j lj t b info into p out_view;
          };
    }

    pub whole_ends : (new : HeapView) → SameShape now new
        → ((b : ℕ) → b % 8 ≡ 0 → IsOutside now g b → word_of new b ≡ logical es (word_of now) b)
        → ((b : ℕ) → b % 8 ≡ 0 → IsPartWord now g b → word_of new b ≡ word_of now b) → HasSlid view new g vs
    whole_ends new shape out part = slid_all view g vs o.heap o.moves new ws q f (still new shape) high all
      where
        still : (new : HeapView) → SameShape now new → IsSliding view new ws g vs q f
        still new shape =
            let s = w.sliding in
            let segments : new.segments ≡ now.segments = ap (λ (h : HeapView). h.segments) shape.others in
            let same : (t : ℕ) → segment_at new t ≡ segment_at now t =
            λ t. ap (λ (h : HeapView). segment_at h t) shape.others in
            record {
              memories = shape.memories ∙ s.memories;
              others = shape.others ∙ ap (λ (h : HeapView). record h { memories = new.memories }) s.others
                  ∙ ap (λ (ss : List SegInfo). record view { memories = new.memories; segments = ss }) (sym segments);
              count = ap length segments ∙ s.count;
              order = s.order;
              within = s.within;
              is_part = s.is_part;
              here = s.here;
              last = s.last;
              left = s.left;
              placed = s.placed;
              slid = s.slid;
              ahead = λ t a l. same t ∙ s.ahead t a l;
              closed = λ t a l on. let (e, ends, is) = s.closed t a l on in (e, ends, same t ∙ is);
              skipped = λ t a l off. same t ∙ s.skipped t a l off;
            }

        from_out : (b : ℕ) → b % 8 ≡ 0 → IsOutside view g b → word_of new b ≡ ws b
        from_out b z x =
            out b z (outside_on b x) ∙ ap (λ (n : ℕ). or_else (queue_word es b) n) (w.outside b z x) ∙ o.outside b z x
            ∙ sym (w.sliding.slid.outside b z x)

        all : (b : ℕ) → b % 8 ≡ 0 → IsOutside view g b ⊎ IsPartWord view g b → word_of new b ≡ ws b
        all b z (inl x) = from_out b z x
        all b z (inr p) =
            let (a, r, k, base) = part_same p.segment p.in_range in
            let n = w.sliding.count in
            let l = p.in_range in
            let lo = p.low in
            let hi = p.high in
            let top = w.sliding.last high in
            let below = below_top_at view p.segment o.heap l in
            part b z (record {
              segment = p.segment;
              in_range = omega (arith, n, l);
              takes = k ∙ p.takes;
              low = omega (arith, a, lo);
              high = omega (arith, r, hi);
            })
            ∙ w.below b z (omega arith) p
