-- The large segments, as parts that are whole segments, and the plan of their slide.
use Rattle.std.proofs.Common.{◌≡◌, ℕ, ◌+◌, ◌<◌, ◌≤◌, List, [], ◌++◌, length, refl, sym, ap, subst, ◌∙◌, arith}
use Rattle.std.proofs.Common.{Bool, true, false, ◌&&◌}
use Rattle.std.proofs.lemmas.Bool.{and_from}
use Rattle.std.proofs.lemmas.List.{append-nil}
use Rattle.clr_types.specs.Rising.{IsIn}
use Rattle.clr_types.specs.Types.{TypeRow}
use Rattle.clr_types.specs.Segments.{empty_segment, first_place, Layout, reserved_end, same_kind}
use Rattle.clr_types.specs.Segments.{segment_or_empty}
use Rattle.clr_types.specs.declared.segment.SegInfo.{SegInfo}
use Rattle.clr_types.specs.declared.segment.SegKind.TheVariants.{Large}
use Rattle.clr_types.proofs.SegmentFacts.{between-stands}
use Rattle.clr_heap.specs.View.{first_of, frame, HeapView, IsHeap, last_of, no_rests, segment_at}
use Rattle.clr_heap.proofs.Framing.{lawful_at}
use Rattle.clr_model.specs.Compaction.{Move, Placed, Plug}
use Rattle.clr_model.specs.Lawful.{IsLaid}
use Rattle.clr_model.specs.Machine.{Machine}
use Rattle.clr_model.specs.Slide.{IsLargeSlid, large_plugs, large_segments, lowest_place, slid_layout}
use Rattle.clr_model.specs.Sweep.{has_condemned_part, survivors}
use Rattle.clr_model.proofs.LargeSurvivors.{all-take, are_large-plugs, are_large-starts, is-large, large-is, large-old}
use Rattle.clr_model.proofs.PlugRoom.{ArePlugs}
use Rattle.clr_view.specs.Memory.{IsMemoryOf, TestsMarks}
use Rattle.clr_view.specs.View.{AreFreeHeads, IsHeld, layout_in}
use Rattle.clr_sweep.proofs.SurvivorsSwept.{at-in, seen}
use Rattle.clr_generations.specs.Tables.{AreBricksOf}
use Rattle.clr_pinq.specs.Queue.{QueueView}
use Rattle.clr_plugs.specs.BrickEntries.{BricksView}
use Rattle.clr_moves.specs.Moves.{takes}
use Rattle.clr_moves.specs.Overlaid.{IsCompactionOf}
use Rattle.clr_moves.specs.declared.condemned.Condemned.TheVariants.{LargeSegments}
use Rattle.clr_moves.proofs.PlannedMoves.{memory-seen}
use Rattle.clr_plan.specs.Firsts.{IsLowest}
use Rattle.clr_plan.specs.PartLists.{AreLaid, plugs_in, whole_plugs}
use Rattle.clr_plan.specs.Pinned.{TellsPins}
use Rattle.clr_plan.specs.Planned.{HasPlanned, pinned_count, pinned_marked}
use Rattle.clr_plan.specs.Pointing.{IsAt}
use Rattle.clr_plan.specs.Stages.{are_alike, IsAmong, IsListed}
use Rattle.clr_plan.specs.States.{state}
use Rattle.clr_plan.specs.WholeParts.{AreLaidWhole, CanLayWhole, CanPlanWhole, Wholes}
use Rattle.clr_plan.specs.declared.pointer.Pointer.{Pointer}
use Rattle.clr_plan.proofs.Alike.{alike-large}
use Rattle.clr_plan.proofs.Beginning.{begins-at, head-at, in-at}
use Rattle.clr_plan.proofs.Homes.{HaveHomes, in-plugs, in-stretch}
use Rattle.clr_plan.proofs.LaidBelow.{no-plugs, nothing-laid}
use Rattle.clr_plan.proofs.LargePlugs.{large-plugs-are}
use Rattle.clr_plan.proofs.MarkedPins.{by_mark, marks-test, pins-marked, seen-alike}
use Rattle.clr_plan.proofs.PartFacts.{whole-facts}
use Rattle.clr_plan.proofs.SplitScans.{scan-segment}
use Rattle.clr_plan.proofs.Whole.{planned-in}

-- the large parts, behind which nothing comes
abbrev pub large_wholes : List TypeRow → HeapView → Wholes
large_wholes rows h = record {
  segments = large_segments (layout_in rows h);
  pointer = lowest_place (layout_in rows h);
  plugs = whole_plugs rows h;
  behind = [];
}

-- all their plugs
abbrev pub plugs_of_large : List TypeRow → HeapView → List Plug
plugs_of_large rows h = plugs_in h LargeSegments (whole_plugs rows h) (length h.segments)

-- the parts of all large segments are laid, and their plugs placed
pub record HasLaidLarge (rows : List TypeRow) (old now : HeapView) (bricks bricks_now : BricksView)
    (queue queue_now : QueueView) : Type 0 where
  pub moves : List Move
  pub after : ℕ
  pub placed : Placed (large_segments (layout_in rows old)) (plugs_of_large rows old)
      (lowest_place (layout_in rows old)) (plugs_of_large rows old) moves after
  pub laid : AreLaid (state old bricks queue) (state now bricks_now queue_now) LargeSegments (whole_plugs rows old)
      (length old.segments) moves

module _ (rows : List TypeRow) (h : HeapView) (heap : IsHeap h) (held : IsHeld rows h) (none : h.rests ≡ no_rests) where
  module _ (base : Machine) (laid : IsLaid (seen rows h base)) (pins : TellsPins rows h base) where
    abbrev m : Machine
    m = seen rows h base

    abbrev layout : Layout
    layout = layout_in rows h

    abbrev all : List Plug
    all = plugs_of_large rows h

    plugs-are : large_plugs layout (survivors m 2 (by_mark h)) ≡ all
    plugs-are = large-plugs-are rows h base heap held laid (by_mark h) (marks-test rows h 2) pins

    lie : ArePlugs (large_segments layout) all
    lie = subst (ArePlugs (large_segments layout)) plugs-are (are_large-plugs m laid (by_mark h))

    large-in : (t : ℕ) → t < length h.segments → takes LargeSegments (segment_at h t) ≡ true
        → IsIn (segment_at h t) (large_segments layout)
    large-in t l on = is-large m laid (segment_at h t) (at-in h.segments t empty_segment l) on

    among : (at : Pointer) (k : ℕ) → k < length h.segments → takes LargeSegments (segment_at h k) ≡ true
        → at.segment ≤ k → at.high ≡ reserved_end (segment_at h at.segment) → IsAmong h (large_segments layout) at k
    among at k l on order high = record {
      heap = heap;
      in_range = l;
      order = order;
      high = high;
      listed = listed;
      between = λ j low most t. large-in j (omega (arith, most, l)) (sym (alike j) ∙ t);
    }
      where
        alike : (j : ℕ) → are_alike h k j ≡ same_kind Large (segment_at h j).kind
        alike j = alike-large (segment_at h k).kind (segment_at h j).kind on

        listed : (s : SegInfo) → IsIn s (large_segments layout) → IsListed h k s
        listed s i =
            let (kind, known) = large-is m laid s i in
            let (j, u, same) = in-at h.segments s known in
            record {
              index = j;
              in_range = u;
              is = same;
              alike = alike j ∙ subst (λ (t : SegInfo). same_kind Large t.kind ≡ true) same kind;
            }

    module _ (n : ℕ) (is : IsLowest h LargeSegments n) where
      lowest-is : segment_or_empty (large_segments layout) ≡ segment_at h n
      lowest-is = head-at (λ (s : SegInfo). same_kind Large s.kind && has_condemned_part 2 s) h.segments n is.in_range
          (and_from (same_kind Large (segment_at h n).kind) (has_condemned_part 2 (segment_at h n)) is.taken
          (all-take (segment_at h n)))
          (λ j l. ap (λ b. b && has_condemned_part 2 (segment_at h j)) (is.below j l))

      pointer-is : lowest_place layout ≡ first_of h n
      pointer-is = ap first_place lowest-is

      opens : IsAt (large_segments layout) [] all (segment_at h n) (lowest_place layout) []
      opens =
          subst (λ ps. IsAt (large_segments layout) [] ps (segment_at h n) (lowest_place layout) []) plugs-are
          (begins-at (large_segments layout) (large_plugs layout (survivors m 2 (by_mark h)))
          (are_large-plugs m laid (by_mark h)) first_place (lowest_place layout)
          (are_large-starts m laid (by_mark h) (segment_at h n) (large-in n is.in_range is.taken)) (segment_at h n)
          (large-in n is.in_range is.taken) (sym pointer-is))

    large-can : (t : ℕ) → t < length h.segments → takes LargeSegments (segment_at h t) ≡ true
        → CanPlanWhole (large_wholes rows h) rows h LargeSegments (length h.segments)
    large-can t inside taken = record {
      heap = heap;
      inside = omega arith;
      some = (t, inside, taken);
      lie = subst (ArePlugs (large_segments layout)) (sym (append-nil all)) lie;
      opens = λ n is. (
        pointer-is n is,
        subst (λ ps. IsAt (large_segments layout) [] ps (segment_at h n) (lowest_place layout) [])
            (sym (append-nil all)) (opens n is),
      );
      among = among;
      plugs_are = λ k l on. refl;
      starts = λ k l on. refl;
      scans = λ k l on. scan-segment rows h k heap l (held.walkable k l) none;
      ages = λ k x l on low high. (let up = (lawful_at h k heap l).high in
          large-old m laid (segment_at h k) (large-in k l on) x
          (between-stands (segment_at h k) x low (omega (arith, high, up))));
    }

    few : pinned_count all ≤ pinned_marked rows h
    few = subst (λ ps. pinned_count ps ≤ pinned_marked rows h) plugs-are
        (pins-marked rows h base heap held laid 2 pins (same_kind Large))

    homes : HaveHomes h LargeSegments (whole_plugs rows h) (length h.segments)
    homes = record {
      heap = heap;
      inside = omega arith;
      above = λ t l u. absurd (omega (arith, l, u));
      segments = large_segments layout;
      lie = lie;
      from_first = λ t l on. omega arith;
      lies = λ t l on q i. in-stretch rows h LargeSegments t (first_of h t) (last_of h t)
          (scan-segment rows h t heap l (held.walkable t l) none) q i (omega arith) (omega arith);
      gapped = λ t l on q i. (are_large-starts m laid (by_mark h) (segment_at h t) (large-in t l on)).plugs
          (segment_at h t) q (large-in t l on) (subst (IsIn q) (sym plugs-are)
          (in-plugs h LargeSegments (whole_plugs rows h) (length h.segments) t q l on i))
          (in-stretch rows h LargeSegments t (first_of h t) (last_of h t)
          (scan-segment rows h t heap l (held.walkable t l) none) q i (omega arith) (omega arith)).segment;
    }

  -- ---- as a call has them

  abbrev IsLawfulMemory : Type 0
  IsLawfulMemory = (m : Machine) × IsMemoryOf rows h m × IsLaid m × TellsPins rows h m

  abbrev large : List SegInfo
  large = large_segments (layout_in rows h)

  abbrev pointer : ℕ
  pointer = lowest_place (layout_in rows h)

  abbrev plugs : List Plug
  plugs = plugs_of_large rows h

  pub large-lays : IsLawfulMemory → (bricks : BricksView) (queue : QueueView) → AreBricksOf (frame h) bricks
      → queue.entries ≡ [] → pinned_marked rows h + 4 ≤ queue.spare → (count : ℕ) → count ≡ length h.segments → (t : ℕ)
      → t < count → (t < length h.segments → takes LargeSegments (segment_at h t) ≡ true)
      → CanLayWhole (large_wholes rows h) rows h bricks queue LargeSegments count
  large-lays (m, memory, laid, pins) bricks queue of empty spare count all t below taken =
      let laid_seen : IsLaid (seen rows h m) = subst IsLaid (memory-seen rows h m memory) laid in
      let pinned = few m laid_seen pins in
      let same : pinned_count (plugs ++ []) ≡ pinned_count plugs = ap pinned_count (append-nil plugs) in
      let inside : t < length h.segments = omega (arith, below, all) in
      subst (λ n. CanLayWhole (large_wholes rows h) rows h bricks queue LargeSegments n) (sym all) (record {
        can = large-can m laid_seen pins t inside (taken inside);
        bricks_of = of;
        empty = empty;
        spare = omega (arith, pinned, same, spare);
      })

  module _ (now : HeapView) (bricks0 bricks : BricksView) (queue0 queue : QueueView) where
    pub large-laid : (at : Pointer) (count : ℕ) → count ≡ length h.segments
        → AreLaidWhole (large_wholes rows h) (state h bricks0 queue0) (state now bricks queue) LargeSegments count count
        at → HasLaidLarge rows h now bricks0 bricks queue0 queue
    large-laid at count all laid =
        whole (subst (λ n. AreLaidWhole (large_wholes rows h) (state h bricks0 queue0)
        (state now bricks queue) LargeSegments n n at) all laid)
      where
        whole : AreLaidWhole (large_wholes rows h) (state h bricks0 queue0) (state now bricks queue) LargeSegments
            (length h.segments) (length h.segments) at → HasLaidLarge rows h now bricks0 bricks queue0 queue
        whole s = record {
          moves = s.moves;
          after = at.place;
          placed = subst (λ ps. Placed large ps pointer plugs s.moves at.place) (append-nil plugs)
              s.reached.reached.placed;
          laid = s.laid;
        }

    -- THE PLAN of the slide
    pub large-planned : IsLawfulMemory → HasLaidLarge rows h now bricks0 bricks queue0 queue → (m : Machine)
        (kept : ℕ → Bool) → IsMemoryOf rows h m → TestsMarks rows h 2 kept → TellsPins rows h m → AreFreeHeads rows h
        → HasPlanned rows h now bricks queue.entries LargeSegments m kept h.start1 h.start0
    large-planned (base, memory_base, laid_base, pins_base) is m kept memory tests pins heads =
        let laid_seen : IsLaid (seen rows h base) = subst IsLaid (memory-seen rows h base memory_base) laid_base in
        let laid_too : IsLaid (seen rows h m) = seen-alike rows h base m laid_seen in
        let same : large_plugs (layout_in rows h) (survivors (seen rows h m) 2 kept) ≡ plugs =
        large-plugs-are rows h m heap held laid_too kept tests pins in
        let slid : IsLargeSlid (layout_in rows h) (survivors (seen rows h m) 2 kept) is.moves
        (slid_layout (layout_in rows h) is.moves) = record {
          after = is.after;
          placed = subst (λ ps. Placed large ps pointer ps is.moves is.after) (sym same) is.placed;
          laid = refl;
        } in
        let here : seen rows h m ≡ m = sym (memory-seen rows h m memory) in
        let compaction : IsCompactionOf rows h LargeSegments is.moves m kept (slid_layout m.layout is.moves) = record {
          memory = memory;
          laid = subst IsLaid here laid_too;
          tests = tests;
          compacted = subst (λ (x : Machine). IsLargeSlid x.layout (survivors x 2 kept) is.moves
              (slid_layout x.layout is.moves)) here slid;
        } in
        let planned : HasPlanned rows h now bricks queue.entries LargeSegments m kept m.layout.start1 m.layout.start0 =
        planned-in rows h now bricks0 bricks queue0 queue LargeSegments (whole_plugs rows h) (length h.segments)
        (homes base laid_seen pins_base) is.moves is.laid m kept (slid_layout m.layout is.moves) compaction
        (omega arith) (λ t l on. whole-facts rows h LargeSegments (whole_plugs rows h) t l refl refl
        (scan-segment rows h t heap l (held.walkable t l) none)) heads in
        subst (λ (x : Layout). HasPlanned rows h now bricks queue.entries LargeSegments m kept x.start1 x.start0)
        memory.layout planned

  -- where there is no large segment
  pub none-laid : (bricks : BricksView) (queue : QueueView) → queue.entries ≡ [] → ((t : ℕ) → t < length h.segments
      → takes LargeSegments (segment_at h t) ≡ false) → HasLaidLarge rows h h bricks bricks queue queue
  none-laid bricks queue empty off =
      let no_plugs : plugs ≡ [] = no-plugs h bricks queue LargeSegments (whole_plugs rows h) (length h.segments) empty
      off (length h.segments) (omega arith) in
      record {
        moves = [];
        after = pointer;
        placed = subst (λ ps. Placed large ps pointer ps [] pointer) (sym no_plugs) refl;
        laid = nothing-laid h bricks queue LargeSegments (whole_plugs rows h) (length h.segments) empty off;
      }
