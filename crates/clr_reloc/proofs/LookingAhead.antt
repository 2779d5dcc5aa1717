-- Stretches that were found for references that come next.
use Rattle.std.proofs.Common.{ℕ, List, arith, replicate}
use Rattle.std.specs.List.{All}
use Rattle.std.proofs.lemmas.List.Elements.{All-replicate, All-weaker}
use Rattle.clr_types.specs.Types.{TypeRow}
use Rattle.clr_covers.specs.Covers.{CoverView}
use Rattle.clr_heap.specs.View.{HeapView}
use Rattle.clr_model.specs.Compaction.{Move}
use Rattle.clr_pinq.specs.Queue.{QueueView}
use Rattle.clr_pinq.specs.declared.entry.PinEntry.{PinEntry}
use Rattle.clr_moves.specs.Going.{IsStretchOf}
use Rattle.clr_moves.specs.Overlaid.{HoldsPlan}
use Rattle.clr_moves.specs.declared.stretch.Stretch.{Stretch}
use Rattle.clr_reloc.specs.Relocations.{IsObjectAhead, IsRelocatingBy}
use Rattle.clr_reloc.specs.declared.relocation.LeftObject.{LeftObject}
use Rattle.clr_reloc.specs.declared.relocation.Relocation.{Relocation}
use Rattle.clr_reloc.proofs.ObjectLoops.{HasPassed}
use Rattle.clr_reloc.proofs.Seen.{plan_now, stretch_before, stretch_now}

abbrev pub no_stretch : Stretch
no_stretch = record { low = 0; stop = 0; down = 0 }

module _ (work : Relocation) (object : LeftObject) (h : HeapView) (pins : QueueView) (cards : List (CoverView ℕ))
    (last : Stretch) where
  -- the stretches are some of the moves
  abbrev pub AreAhead : List Stretch → Type 0
  AreAhead ahead =
      (view now : HeapView) (vs : List Move) → IsRelocatingBy work view now h pins.entries vs last
      → IsObjectAhead work view now vs cards object → All (IsStretchOf view work.g vs) ahead

  pub none_ahead : (n : ℕ) → AreAhead (replicate n no_stretch)
  none_ahead n view now vs r there =
      All-replicate (IsStretchOf view work.g vs) n no_stretch (λ x low high may. absurd (omega (arith, high)))

  module _ (after : HeapView) (queue : QueueView) (flags : List (CoverView ℕ)) (near : Stretch) (offsets : List ℕ)
      (passed : HasPassed work object h pins cards last after queue flags near offsets) where
    -- while the loop goes on, the plan is held
    pub told_on : ((view : HeapView) × (now : HeapView) × (vs : List Move)
        × IsRelocatingBy work view now h pins.entries vs last × IsObjectAhead work view now vs cards object)
        → (rows : List TypeRow) × (view : HeapView) × (entries : List PinEntry) × (vs : List Move) × (start1 : ℕ)
        × (start0 : ℕ) × HoldsPlan rows view after work.bricks.now entries work.g vs start1 start0
    told_on can =
        let (view, now, vs, r, there) = can in
        let (next, q, keeps, gone) = passed.gone view now vs r there in (
          work.types.now,
          next,
          queue.entries,
          vs,
          work.planned.start1,
          work.planned.start0,
          plan_now work.types.now view next after work.bricks.now queue.entries work.g vs work.planned.start1
              work.planned.start0 q.0,
        )

    module _ (ahead found : List Stretch) (nearer : Stretch) (before : AreAhead ahead)
        (come : (rows : List TypeRow) (view : HeapView) (entries : List PinEntry) (vs : List Move)
        (start1 start0 : ℕ) → HoldsPlan rows view after work.bricks.now entries work.g vs start1 start0
        → All (IsStretchOf view work.g vs) ahead → IsStretchOf view work.g vs near
        → All (IsStretchOf view work.g vs) found × IsStretchOf view work.g vs nearer) where
      -- what is found then, of what is seen before and after what has been relocated
      pub come_by : (view now : HeapView) (vs : List Move) → IsRelocatingBy work view now h pins.entries vs last
          → IsObjectAhead work view now vs cards object
          → All (IsStretchOf view work.g vs) found × IsStretchOf view work.g vs nearer
      come_by view now vs r there =
          let (next, q, keeps, gone) = passed.gone view now vs r there in
          let shape = q.0.underway.shape in
          let plan = plan_now work.types.now view next after work.bricks.now queue.entries work.g vs
          work.planned.start1 work.planned.start0 q.0 in
          let known = All-weaker (IsStretchOf view work.g vs) (IsStretchOf next work.g vs)
          (λ s is. stretch_now view next shape work.g vs s is) ahead (before view now vs r there) in
          let both = come work.types.now next queue.entries vs work.planned.start1 work.planned.start0 plan known
          (stretch_now view next shape work.g vs near q.1) in (
            All-weaker (IsStretchOf next work.g vs) (IsStretchOf view work.g vs)
                (λ s is. stretch_before view next shape work.g vs s is) found both.0,
            stretch_before view next shape work.g vs nearer both.1,
          )

      pub found_ahead : AreAhead found
      found_ahead view now vs r there = (come_by view now vs r there).0

      pub passed_near : HasPassed work object h pins cards last after queue flags nearer offsets
      passed_near = record {
        gone = λ view now vs r there.
            let (next, q, keeps, gone) = passed.gone view now vs r there in
            (next, (q.0, (come_by view now vs r there).1), keeps, gone);
        beside = passed.beside;
      }
