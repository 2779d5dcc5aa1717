-- A heap that is the memory of a lawful machine can be planned, and its plan is the machine's.
use Rattle.std.proofs.Common.{◌≡◌, ◌≢◌, ℕ, suc, ◌<◌, ◌≤◌, Bool, List, length, arith, sym, ap, subst, ◌∙◌, true}
use Rattle.clr_types.specs.Types.{TypeRow}
use Rattle.clr_types.specs.Segments.{ephemeral, is_small_or_ephemeral}
use Rattle.clr_heap.specs.View.{first_of, frame, HeapView, IsHeap, last_of, no_rests, segment_at}
use Rattle.clr_model.specs.Lawful.{IsLaid}
use Rattle.clr_model.specs.Machine.{Machine}
use Rattle.clr_model.specs.Sweep.{Survivor, survivors}
use Rattle.clr_model.specs.Compaction.{IsCompacted, Move, plugs_of, survivors_in}
use Rattle.clr_model.proofs.CondemnedPlugs.{AreCondemned}
use Rattle.clr_model.proofs.LawfulSurvivors.{condemned}
use Rattle.clr_view.specs.Memory.{IsMemoryOf, TestsMarks}
use Rattle.clr_view.specs.View.{IsHeld, layout_in}
use Rattle.clr_sweep.specs.Swept.{tally_of}
use Rattle.clr_sweep.specs.SweptItems.{young_start}
use Rattle.clr_sweep.proofs.Counted.{young-counted}
use Rattle.clr_sweep.proofs.SurvivorsSwept.{seen}
use Rattle.clr_sweep.proofs.YoungPart.{below_two, start-cases}
use Rattle.clr_moves.specs.Moves.{part_of, takes}
use Rattle.clr_moves.specs.declared.condemned.Condemned.TheVariants.{Generations}
use Rattle.clr_moves.proofs.PlannedMoves.{memory-seen}
use Rattle.clr_plan.specs.Compactions.{compacted_layout, small_heap_plugs}
use Rattle.clr_plan.specs.Counts.{counts_between, counts_in, counts_of}
use Rattle.clr_plan.specs.Heaps.{part_plugs}
use Rattle.clr_plan.specs.Pinned.{TellsPins}
use Rattle.clr_plan.specs.Planned.{pinned_count, pinned_marked}
use Rattle.clr_plan.specs.Plans.{CanPlanHeap, condemned_plugs, HasPlannedHeap, parts_in}
use Rattle.clr_plan.proofs.Compacting.{plans}
use Rattle.clr_plan.proofs.CountedHeaps.{young-counts}
use Rattle.clr_plan.proofs.HeapPlugs.{last-small, older-ages, plugs-are, young-ages}
use Rattle.clr_plan.proofs.MarkedPins.{by_mark, marks-test, pins-marked, seen-alike}
use Rattle.clr_plan.proofs.PartFacts.{facts, HasFacts}
use Rattle.clr_plan.proofs.SplitScans.{IsSplit, scan-segment}
use Rattle.clr_plan.proofs.YoungParts.{at-start, at-young, start-at}

module _ (rows : List TypeRow) (h : HeapView) (heap : IsHeap h) (held : IsHeld rows h) (none : h.rests ≡ no_rests)
    (g : ℕ) (least : g ≤ 2) (e : ℕ) (inside : e < length h.segments) (young : segment_at h e
    ≡ ephemeral (frame h)) where
  -- the same segment by the layout with its free items
  young_too : segment_at h e ≡ ephemeral (layout_in rows h)
  young_too = young

  module _ (base : Machine) (laid : IsLaid (seen rows h base)) (pins : TellsPins rows h base) where
    abbrev m : Machine
    m = seen rows h base

    abbrev kept : List Survivor
    kept = survivors m g (by_mark h)

    same-plugs : plugs_of (survivors_in is_small_or_ephemeral (layout_in rows h) kept) ≡ condemned_plugs rows h g e
    same-plugs = plugs-are rows h base heap held none laid g least (by_mark h) (marks-test rows h g) pins e inside
        young_too

    can : CanPlanHeap rows h g e
    can = record {
      heap = heap;
      inside = inside;
      young = young_too;
      last = last-small rows h base heap held none laid g least (by_mark h) (marks-test rows h g) pins e inside
          young_too;
      least = least;
      laid = laid.layout;
      condemned = subst (AreCondemned (layout_in rows h) g (parts_in rows h g)) same-plugs
          (condemned m laid g least (by_mark h));
      scans = λ k l. scan-segment rows h k heap (omega arith) (held.walkable k (omega arith)) none;
      older_scan = (at-young rows h base heap held none laid g least e inside young_too).below;
      young_scan = (at-young rows h base heap held none laid g least e inside young_too).above;
    }

    few : pinned_count (condemned_plugs rows h g e) ≤ pinned_marked rows h
    few = subst (λ ps. pinned_count ps ≤ pinned_marked rows h) same-plugs
        (pins-marked rows h base heap held laid g pins is_small_or_ephemeral)

    part-facts : (t : ℕ) → t < suc e → takes (Generations g) (segment_at h t) ≡ true
        → HasFacts rows h (Generations g) (part_plugs rows h g e) t
    part-facts = facts rows h g e can (at-start rows h base heap held none laid g least e inside young_too)
        (at-young rows h base heap held none laid g least e inside young_too)

  -- ---- as a call has them

  abbrev IsLawfulMemory : Type 0
  IsLawfulMemory = (m : Machine) × IsMemoryOf rows h m × IsLaid m × TellsPins rows h m

  pub can-plan-heap : IsLawfulMemory → CanPlanHeap rows h g e
  can-plan-heap (m, memory, laid, pins) = can m (subst IsLaid (memory-seen rows h m memory) laid) pins

  pub planned-for : IsLawfulMemory → (moves : List Move) (start1 start0 : ℕ) → HasPlannedHeap rows h g e moves start1
      start0
      → (m : Machine) (keep : ℕ → Bool) → IsMemoryOf rows h m → TestsMarks rows h g keep → TellsPins rows h m
      → IsLaid m × IsCompacted m.layout g (survivors m g keep) moves
      (compacted_layout m.layout g (small_heap_plugs m.layout (survivors m g keep)) moves start1 start0)
  planned-for (base, memory, laid, pins) moves start1 start0 is m keep memory_too tests pins_too =
      let seen_laid : IsLaid (seen rows h base) = subst IsLaid (memory-seen rows h base memory) laid in
      let laid_too : IsLaid (seen rows h m) = seen-alike rows h base m seen_laid in
      subst (λ (x : Machine). IsLaid x × IsCompacted x.layout g (survivors x g keep) moves
      (compacted_layout x.layout g (small_heap_plugs x.layout (survivors x g keep)) moves start1 start0))
      (sym (memory-seen rows h m memory_too)) (
        laid_too,
        plans rows h g e (can base seen_laid pins)
            (older-ages rows h base heap held none seen_laid g least (by_mark h) (marks-test rows h g) pins e inside
            young_too)
            (young-ages rows h base heap held none seen_laid g least (by_mark h) (marks-test rows h g) pins e inside
            young_too)
            moves start1 start0 is (survivors (seen rows h m) g keep)
            (plugs-are rows h m heap held none laid_too g least keep tests pins_too e inside young_too),
      )

  pub pins-few : IsLawfulMemory → pinned_count (condemned_plugs rows h g e) ≤ pinned_marked rows h
  pins-few (m, memory, laid, pins) = few m (subst IsLaid (memory-seen rows h m memory) laid) pins

  pub split-for : IsLawfulMemory → IsSplit rows h e (part_of h (Generations g) e) h.start0 (last_of h e)
  split-for (m, memory, laid, pins) = at-young rows h m heap held none (subst IsLaid (memory-seen rows h m memory) laid)
      g least e inside young_too

  -- in a collection of generation 0 or 1 they are counted as a sweep counts
  pub young-tally : IsLawfulMemory → g ≢ 2
      → counts_in rows h (Generations g) (length h.segments) ≡ counts_of (tally_of rows h g)
  young-tally (m, memory, is, pins) ne =
      let laid : IsLaid (seen rows h m) = subst IsLaid (memory-seen rows h m memory) is in
      let start : part_of h (Generations g) e ≡ young_start h g = start-at rows h m heap held none laid g least e inside
      young_too ∙ start-cases h.start0 h.start1 (first_of h e) g (below_two g least ne) in
      young-counts rows h g e (can m laid pins) ne
      ∙ ap (λ (n : ℕ). counts_between rows h e n (last_of h e)) start
      ∙ ap counts_of (young-counted rows h m heap held none laid g (below_two g least ne) e inside young)

  pub facts-for : IsLawfulMemory → (t : ℕ) → t < suc e → takes (Generations g) (segment_at h t) ≡ true
      → HasFacts rows h (Generations g) (part_plugs rows h g e) t
  facts-for (m, memory, laid, pins) = part-facts m (subst IsLaid (memory-seen rows h m memory) laid) pins
