-- What was laid is the plan of a machine's compaction.
use Rattle.std.proofs.Common.{◌≡◌, ℕ, suc, ◌+◌, ◌<◌, ◌≤◌, Bool, List, [], ◌∷◌, length, refl, subst}
use Rattle.std.proofs.Common.{arith, true}
use Rattle.clr_types.specs.Segments.{ephemeral, Layout}
use Rattle.clr_types.specs.Types.{TypeRow}
use Rattle.clr_heap.specs.View.{frame, HeapView, IsHeap, no_rests, segment_at}
use Rattle.clr_model.specs.Compaction.{Move, Plug}
use Rattle.clr_model.specs.Lawful.{IsLaid}
use Rattle.clr_model.specs.Machine.{Machine}
use Rattle.clr_model.specs.Sweep.{survivors}
use Rattle.clr_view.specs.Memory.{IsMemoryOf, TestsMarks}
use Rattle.clr_view.specs.View.{AreFreeHeads, IsHeld}
use Rattle.clr_pinq.specs.Queue.{QueueView}
use Rattle.clr_plugs.specs.BrickEntries.{BricksView}
use Rattle.clr_moves.specs.Moves.{age_of, move_at, takes}
use Rattle.clr_moves.specs.Overlaid.{IsCompactionOf}
use Rattle.clr_moves.specs.declared.condemned.Condemned.{Condemned}
use Rattle.clr_moves.specs.declared.condemned.Condemned.TheVariants.{Generations}
use Rattle.clr_plan.specs.Compactions.{compacted_layout, small_heap_plugs}
use Rattle.clr_plan.specs.Heaps.{HasLaidHeap, IsLaidBelow, part_plugs}
use Rattle.clr_plan.specs.PartLists.{AreLaid}
use Rattle.clr_plan.specs.Pinned.{TellsPins}
use Rattle.clr_plan.specs.Planned.{HasPlanned}
use Rattle.clr_plan.specs.States.{state}
use Rattle.clr_plan.proofs.Assembled.{overlaid, tells}
use Rattle.clr_plan.proofs.GenerationHomes.{generations-homes}
use Rattle.clr_plan.proofs.Homes.{HaveHomes}
use Rattle.clr_plan.proofs.PartFacts.{HasFacts}
use Rattle.clr_moves.proofs.PlannedMoves.{are-in-line, are-moves}
use Rattle.clr_plan.proofs.Ready.{can-plan-heap, facts-for, planned-for}
use Rattle.clr_plan.proofs.Telling.{AreDown}
use Rattle.clr_plan.proofs.ToldGaps.{gaps}

pub all-down : (vs : List Move) → ((k : ℕ) → k < length vs → (move_at vs k).to ≤ (move_at vs k).start) → AreDown vs
all-down [] down = tt
all-down (v ∷ vs) down = (down 0 (omega arith), all-down vs (λ k l. down (suc k) (omega (arith, l))))

-- the plan of any parts, where its moves are those of a compaction
pub planned-in : (rows : List TypeRow) (old now : HeapView) (bricks0 bricks : BricksView) (queue0 queue : QueueView)
    (g : Condemned) (plugs : ℕ → List Plug) (count : ℕ) (homes : HaveHomes old g plugs count) (moves : List Move)
    → AreLaid (state old bricks0 queue0) (state now bricks queue) g plugs count moves → (m : Machine) (kept : ℕ → Bool)
    (after : Layout) → IsCompactionOf rows old g moves m kept after → age_of g ≤ 2 → ((t : ℕ) → t < count
    → takes g (segment_at old t) ≡ true → HasFacts rows old g plugs t) → AreFreeHeads rows old
    → HasPlanned rows old now bricks queue.entries g m kept after.start1 after.start0
planned-in rows old now bricks0 bricks queue0 queue g plugs count homes moves laid m kept after compaction least facts
    heads =
    let line = are-in-line rows old g moves m kept after compaction least in
    record {
      moves = moves;
      after = after;
      compaction = compaction;
      start1_is = refl;
      start0_is = refl;
      overlaid = overlaid rows old now bricks0 bricks queue0 queue g plugs count homes moves laid
          (are-moves rows old g moves m kept after compaction least) line;
      told = tells rows old now bricks0 bricks queue0 queue g plugs count homes moves laid (all-down moves line.lower)
          facts heads;
      gaps = gaps rows old now bricks0 bricks queue0 queue g plugs count homes moves laid;
    }

module _ (rows : List TypeRow) (old : HeapView) (heap : IsHeap old) (held : IsHeld rows old) (none : old.rests
    ≡ no_rests) (g : ℕ) (least : g ≤ 2) (e : ℕ) (inside : e < length old.segments) (young : segment_at old e
    ≡ ephemeral (frame old))
    (lawful : (m : Machine) × IsMemoryOf rows old m × IsLaid m × TellsPins rows old m) (now : HeapView)
    (bricks0 bricks : BricksView) (queue0 queue : QueueView) (start1 start0 : ℕ)
    (laid : HasLaidHeap rows (state old bricks0 queue0) (state now bricks queue) g e start1 start0)
    (m : Machine) (kept : ℕ → Bool) (memory : IsMemoryOf rows old m) (tests : TestsMarks rows old g kept)
    (pins : TellsPins rows old m) (heads : AreFreeHeads rows old)
  where
    compaction : IsCompactionOf rows old (Generations g) laid.moves m kept
        (compacted_layout m.layout g (small_heap_plugs m.layout (survivors m g kept)) laid.moves start1 start0)
    compaction =
        let (good, compacted) = planned-for rows old heap held none g least e inside young lawful laid.moves start1
        start0 laid.planned m kept memory tests pins in
        record { memory = memory; laid = good; tests = tests; compacted = compacted }

    all-laid : IsLaidBelow rows (state old bricks0 queue0) (state now bricks queue) g e (suc e) laid.moves
    all-laid = let next : e + 1 ≡ suc e = omega arith in
        subst (λ k. IsLaidBelow rows (state old bricks0 queue0) (state now bricks queue) g e k laid.moves) next
        laid.laid

    homes : HaveHomes old (Generations g) (part_plugs rows old g e) (suc e)
    homes = generations-homes rows old g e (can-plan-heap rows old heap held none g least e inside young lawful)

    pub has-planned : HasPlanned rows old now bricks queue.entries (Generations g) m kept start1 start0
    has-planned = planned-in rows old now bricks0 bricks queue0 queue (Generations g) (part_plugs rows old g e) (suc e)
        homes laid.moves all-laid m kept (compacted_layout m.layout g
        (small_heap_plugs m.layout (survivors m g kept)) laid.moves start1 start0) compaction least
        (facts-for rows old heap held none g least e inside young lawful) heads
