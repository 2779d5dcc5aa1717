-- Parts that are whole segments, laid one after the other.
use Rattle.std.proofs.Common.{◌≡◌, ◌⊎◌, ℕ, suc, ◌+◌, ◌-◌, ◌*◌, ◌/◌, ◌^◌, ◌<◌, ◌≤◌, List, [], ◌∷◌, ◌++◌}
use Rattle.std.proofs.Common.{length, map, sym, ap, subst, ◌∙◌, arith, true, false, if◌then◌else◌}
use Rattle.std.specs.List.{AllByRecursion}
use Rattle.clr_types.specs.Types.{TypeRow}
use Rattle.clr_types.specs.Segments.{reserved_end}
use Rattle.clr_types.proofs.ChangedLists.{append_left}
use Rattle.clr_types.proofs.ListMembers.{append_right}
use Rattle.clr_covers.specs.Covers.{spans}
use Rattle.clr_heap.specs.View.{first_of, HeapView, last_of, SameShape, segment_at}
use Rattle.clr_heap.proofs.Framing.{lawful_at}
use Rattle.clr_model.specs.Compaction.{Plug, plug_end}
use Rattle.clr_pinq.specs.Queue.{last_end, QueueView}
use Rattle.clr_plugs.specs.BrickEntries.{BricksView}
use Rattle.clr_plugs.specs.Plans.{IsPlanned}
use Rattle.clr_moves.specs.Moves.{part_of, takes}
use Rattle.clr_moves.specs.declared.condemned.Condemned.{Condemned}
use Rattle.clr_plan.specs.Counts.{HasCounted, HaveCounted, no_counts, plus}
use Rattle.clr_plan.specs.Firsts.{IsLowest}
use Rattle.clr_plan.specs.LaidParts.{CanLaySegment, end_behind, HasLaidSegment, opened_by, planned_plugs, pushes_for}
use Rattle.clr_plan.specs.PartLists.{AreFor, AreLaid, opened_in, plan_in, plugs_in}
use Rattle.clr_plan.specs.Parts.{Around, plugs_around}
use Rattle.clr_plan.specs.Planned.{pinned_count}
use Rattle.clr_plan.specs.Scans.{CanScan, plugs_between, survivors_between}
use Rattle.clr_plan.specs.States.{state}
use Rattle.clr_plan.specs.WholeParts.{AreLaidWhole, CanLayWhole, Wholes, wholes}
use Rattle.clr_plan.specs.Writes.{AreSavedAt, HasWritten}
use Rattle.clr_plan.specs.declared.counts.Counts.{Counts}
use Rattle.clr_plan.specs.declared.pointer.Pointer.{Pointer}
use Rattle.clr_plan.proofs.Ages.{end-within, plugs-of, rise-behind}
use Rattle.clr_plan.proofs.CountingParts.{counted-by, counted-fits}
use Rattle.clr_plan.proofs.Covering.{brick-there}
use Rattle.clr_plan.proofs.Fitting.{placed-for}
use Rattle.clr_plan.proofs.LaidBelow.{laid-more, laid-over, nothing-laid}
use Rattle.clr_plan.proofs.Pins.{front_rises}
use Rattle.clr_plan.proofs.PushCount.{AreOf, pinned-append, pushes-one-age}
use Rattle.clr_plan.proofs.Seen.{LiesUpTo, plugs-lie}
use Rattle.clr_plan.proofs.WholePlan.{reached, rest, whole-around, whole-can, whole-done, whole-more, whole-over}
use Rattle.clr_plan.proofs.WholePlan.{whole-starts}

-- the plugs of a stretch end in it
plugs-end : (c : ℕ) (ps : List Plug) → AllByRecursion (λ (q : Plug). LiesUpTo c q.start (plug_end q)) ps
    → AllByRecursion (λ (q : Plug). q.start + q.size ≤ c) ps
plugs-end c [] a = tt
plugs-end c (p ∷ ps) a = (a.0.high, plugs-end c ps a.1)

module _ (w : Wholes) (rows : List TypeRow) (old : HeapView) (bricks0 : BricksView) (queue0 : QueueView) (g : Condemned)
    (count : ℕ) (lay : CanLayWhole w rows old bricks0 queue0 g count) where
  pub whole-laid-starts : (at : Pointer) → IsLowest old g at.segment → at.place ≡ first_of old at.segment
      → at.high ≡ reserved_end (segment_at old at.segment) → at.passed ≡ 0
      → AreLaidWhole w (state old bricks0 queue0) (state old bricks0 queue0) g count 0 at
  whole-laid-starts at is place high passed = record {
    moves = [];
    reached = whole-starts w rows old g count lay.can queue0.entries lay.empty at is place high passed;
    laid = nothing-laid old bricks0 queue0 g w.plugs 0 lay.empty (λ t l. absurd (omega arith));
    left = omega arith;
  }

  module _ (now : HeapView) (bricks : BricksView) (queue : QueueView) (k : ℕ) (at : Pointer) (below : k < count)
      (s : AreLaidWhole w (state old bricks0 queue0) (state now bricks queue) g count k at) where
    inside : k < length old.segments
    inside = let i = lay.can.inside in omega (arith, below, i)

    next-is : suc k ≡ k + 1
    next-is = omega arith

    -- a segment without a part is passed over
    pub whole-laid-over : takes g (segment_at old k) ≡ false
        → AreLaidWhole w (state old bricks0 queue0) (state now bricks queue) g count (k + 1) at
    whole-laid-over off =
        let laid : AreLaid (state old bricks0 queue0) (state now bricks queue) g w.plugs (suc k) s.moves =
        laid-over old now bricks0 bricks queue0 queue g w.plugs k s.moves s.laid off in
        let reached = whole-over w rows old g count lay.can queue.entries s.moves at k below s.reached off in
        let more = s.left in
        let own = if takes g (segment_at old k) then w.plugs k else [] in
        let both : pinned_count (plugs_in old g w.plugs (suc k)) ≡ pinned_count (plugs_in old g w.plugs k)
        + pinned_count own = pinned-append (plugs_in old g w.plugs k) own in
        let same : pinned_count (plugs_in old g w.plugs (suc k)) ≡ pinned_count (plugs_in old g w.plugs (k + 1)) =
        ap (λ j. pinned_count (plugs_in old g w.plugs j)) next-is in
        record {
          moves = s.moves;
          reached = reached;
          laid = subst (λ j. AreLaid (state old bricks0 queue0) (state now bricks queue) g w.plugs j s.moves) next-is
              laid;
          left = omega (arith, more, both, same);
        }

    module _ (on : takes g (segment_at old k) ≡ true) where
      abbrev mine : List Plug
      mine = plugs_between rows old k (first_of old k) (last_of old k)

      abbrev starts : List ℕ
      starts = map (λ q. q.start) (plugs_in old g w.plugs k)

      abbrev free : List ℕ
      free = opened_in old g w.plugs k

      abbrev here : Around
      here = whole-around w rows old g count lay.can queue.entries s.moves at k below s.reached on

      own : w.plugs k ≡ mine
      own = lay.can.plugs_are k below on

      part : part_of old g k ≡ first_of old k
      part = lay.can.starts k below on

      scan : CanScan rows old k (first_of old k) (last_of old k)
      scan = lay.can.scans k below on

      split : wholes w old g count ≡ plugs_around here mine
      split = (reached w rows old g count lay.can queue.entries s.moves at k below s.reached on).split

      of-one-age : AreOf (segment_at old k).base 2 2 mine
      of-one-age =
          let plan = whole-can w rows old g count lay.can queue.entries s.moves at k below s.reached on in
          let facts = plugs-of rows old k (first_of old k) (last_of old k) scan (λ n. n ≡ 2)
          (λ x low high. lay.can.ages k x below on low high) in
          record {
            segments = λ q i. (facts q i).1;
            ages = λ q i. (let age = (facts q i).0 in (omega (arith, age), omega (arith, age)));
            rise = front_rises mine here.ahead (rise-behind here.done (mine ++ here.ahead) plan.plugs.rise);
            fall = λ q r i j l. (let a = (facts q i).0 in let b = (facts r j).0 in omega (arith, a, b));
            sized = λ q i. (plan.plugs.each q (append_right here.done (append_left here.ahead i))).size;
          }

      few : (last : ℕ) → pushes_for last (first_of old k) (first_of old k) mine ≤ pinned_count mine
      few last = pushes-one-age (segment_at old k).base 2 last (first_of old k)
          (survivors_between rows old k (first_of old k) (last_of old k)) of-one-age

      -- what is left serves for all pins
      room : pinned_count mine + 4 ≤ queue.spare
      room =
          let others = rest w rows old g count lay.can queue.entries s.moves at k below s.reached in
          let a = ap pinned_count split ∙ pinned-append (plugs_in old g w.plugs k) (mine ++ others) in
          let b = pinned-append mine others in
          let more = s.left in
          let spare = lay.spare in
          omega (arith, spare, more, a, b)

      pub whole-lays : CanLaySegment here rows old (state now bricks queue) at starts free k s.laid.low
      whole-lays =
          let lawful = lawful_at old k lay.can.heap inside in
          let base = lawful.base in
          let low = lawful.low in
          let high = lawful.high in
          let least = lawful.least in
          let lowest = lawful.lowest in
          record {
            plan = whole-can w rows old g count lay.can queue.entries s.moves at k below s.reached on;
            words = s.laid.words;
            behind = s.laid.behind k (omega arith) inside;
            ends = low;
            covered = λ brick is. brick-there old k lay.can.heap inside bricks0 bricks lay.bricks_of s.laid.spans_are
                brick (let a = is.0 in omega (arith, a, base)) (let b = is.1 in omega (arith, b, high));
            covered_below = brick-there old k lay.can.heap inside bricks0 bricks lay.bricks_of s.laid.spans_are
                (first_of old k / 4096 - 1) (omega (arith, base, lowest)) (omega (arith, base, lowest, least));
            spare = let n = few (last_end 0 queue.entries) in let r = room in omega (arith, n, r);
          }

      module _ (now2 : HeapView) (bricks2 : BricksView) (queue2 : QueueView) (at2 : Pointer)
          (laid : HasLaidSegment here rows old (state now bricks queue) (state now2 bricks2 queue2) at starts free k
          at2)
          (shape : SameShape now now2) (spans_are : spans bricks2 ≡ spans bricks) where
        plan-here : IsPlanned now2 bricks2 (plan_in old g w.plugs k laid.planned.moves)
        plan-here =
            subst (λ ps. IsPlanned now2 bricks2 (record {
              segment = k;
              low = part_of old g k;
              high = last_of old k;
              plugs = planned_plugs (part_of old g k) ps laid.planned.moves;
            })) (sym own)
            (subst (λ n. IsPlanned now2 bricks2 (record {
              segment = k;
              low = n;
              high = last_of old k;
              plugs = planned_plugs n mine laid.planned.moves;
            })) (sym part) laid.plan)

        words-here : HasWritten old now2 queue2.entries (starts ++ map (λ q. q.start) (w.plugs k))
            (opened_by free (first_of old k) (part_of old g k) (w.plugs k)) (end_behind (first_of old k) mine)
        words-here =
            subst (λ (ps : List Plug). HasWritten old now2 queue2.entries (starts ++ map (λ q. q.start) ps)
            (opened_by free (first_of old k) (part_of old g k) ps) (end_behind (first_of old k) mine))
            (sym own)
            (subst (λ n. HasWritten old now2 queue2.entries (starts ++ map (λ q. q.start) mine)
            (opened_by free (first_of old k) n mine) (end_behind (first_of old k) mine)) (sym part) laid.words)

        within-here : end_behind (first_of old k) mine ≤ last_of old k
        within-here =
            let ends = (lawful_at old k lay.can.heap inside).low in
            end-within (last_of old k) (first_of old k) mine ends
            (plugs-end (last_of old k) mine (plugs-lie rows old k (first_of old k) (last_of old k) scan))

        lows : (t : ℕ) → t < k → takes g (segment_at old t) ≡ true → part_of old g t ≤ last_of old t
        lows t l taken =
            let p = lay.can.starts t (omega (arith, l, below)) taken in
            let u = (lawful_at old t lay.can.heap (omega (arith, l, inside))).low in
            omega (arith, p, u)

        laid-here : AreLaid (state old bricks0 queue0) (state now2 bricks2 queue2) g w.plugs (suc k)
            (s.moves ++ laid.planned.moves)
        laid-here =
            laid-more old now bricks0 bricks queue0 queue g w.plugs k s.moves s.laid lay.can.heap inside on now2 bricks2
            queue2 laid.planned.moves (end_behind (first_of old k) mine)
            (subst (λ ps. AreFor ps laid.planned.moves) (sym own) (placed-for w.segments (plugs_around here mine)
            at.place mine laid.planned.moves at2.place laid.planned.placed))
            plan-here words-here within-here (omega (arith, part)) lows
            (subst (λ (ps : List Plug). AreSavedAt queue2.entries (plugs_in old g w.plugs k ++ ps)) (sym own)
            (laid.saved (plugs_in old g w.plugs k) s.laid.saved))
            laid.count laid.outside (λ i out. laid.entries i
            (subst (λ m. (i + 1 < m / 4096) ⊎ (last_of old k ≤ i * 4096)) part out)) shape spans_are

        -- THE NEXT SEGMENT is laid
        pub whole-laid-more : AreLaidWhole w (state old bricks0 queue0) (state now2 bricks2 queue2) g count (k + 1) at2
        whole-laid-more =
            let more = s.left in
            let used = laid.spare in
            let n = few (last_end 0 queue.entries) in
            let m = ap pinned_count (whole-done w rows old g count lay.can queue.entries s.moves at k below s.reached
            on) ∙ pinned-append (plugs_in old g w.plugs k) mine in
            record {
              moves = s.moves ++ laid.planned.moves;
              reached = whole-more w rows old g count lay.can queue.entries s.moves at k below s.reached on
                  queue2.entries at2 laid.planned;
              laid = subst (λ j. AreLaid (state old bricks0 queue0) (state now2 bricks2 queue2) g w.plugs j
                  (s.moves ++ laid.planned.moves)) next-is laid-here;
              left = omega (arith, more, used, n, m);
            }

      -- both, as a call takes and gives them
      pub whole-segment : (v : HeapView) × (u : Around) × (xs ys : List ℕ) × (low : ℕ)
          × CanLaySegment u rows v (state now bricks queue) at xs ys k low
      whole-segment = (old, here, starts, free, s.laid.low, whole-lays)

      pub whole-laid-by : (now2 : HeapView) (bricks2 : BricksView) (queue2 : QueueView) (at2 : Pointer)
          → ((v : HeapView) (u : Around) (xs ys : List ℕ) (low : ℕ)
          → CanLaySegment u rows v (state now bricks queue) at xs ys k low
          → HasLaidSegment u rows v (state now bricks queue) (state now2 bricks2 queue2) at xs ys k at2)
          → SameShape now now2
          → spans bricks2 ≡ spans bricks
          → AreLaidWhole w (state old bricks0 queue0) (state now2 bricks2 queue2) g count (k + 1) at2
      whole-laid-by now2 bricks2 queue2 at2 lays shape spans_are = whole-laid-more now2 bricks2 queue2 at2
          (lays old here starts free s.laid.low whole-lays) shape spans_are

      -- its objects are counted
      module _ (c more : Counts) (counted : HaveCounted rows old g k c)
          (adds : (v : HeapView) (u : Around) (xs ys : List ℕ) (low : ℕ)
          → CanLaySegment u rows v (state now bricks queue) at xs ys k low
          → HasCounted rows v k (last_of v k) (first_of v k) no_counts (last_of v k) more) where
        pub whole-counted-by : HaveCounted rows old g (k + 1) (plus c more)
        whole-counted-by = counted-by rows old g k c counted lay.can.heap inside on part
            (lawful_at old k lay.can.heap inside).low more (adds old here starts free s.laid.low whole-lays)

        pub whole-counted-fits : (c.kept + more.kept < 2 ^ 64) × (c.freed + more.freed < 2 ^ 64)
        whole-counted-fits = counted-fits rows old g k c counted lay.can.heap inside more
            (adds old here starts free s.laid.low whole-lays) scan.high
