-- The bytes that became older, in the layout that is left.
use Rattle.std.proofs.Common.{◌≡◌, ℕ, ◌≤◌, Bool, map, refl, ap, sym, ◌∙◌}
use Rattle.clr_types.specs.Segments.{ended_at, generation, is_small_or_ephemeral, Layout}
use Rattle.clr_generations.proofs.SameBounds.{generation-same, HasSameBounds}
use Rattle.clr_heap.specs.View.{frame, HeapView}
use Rattle.clr_model.specs.Collection.{bytes_promoted}
use Rattle.clr_model.specs.Compaction.{compacted_end}
use Rattle.clr_model.specs.Machine.{Machine}
use Rattle.clr_view.specs.View.{layout_in}
use Rattle.clr_moves.specs.Promoted.{bytes_between}
use Rattle.clr_survivors.specs.Phases.{HasSettled}
use Rattle.clr_survivors.proofs.Course.{IsCourse, Stages}
use Rattle.clr_survivors.proofs.EndedTables.{same-but-ends, segments-ended, start0-ended, start1-ended}
use Rattle.clr_survivors.proofs.Promoting.{promoted-told}

module _ (s : Stages) (m : Machine) (kept : ℕ → Bool) (c : IsCourse s m kept) (new : HeapView)
    (e : HasSettled s.rows s.moved.heap new s.roots_after.handles s.low s.g) where
  -- the layout that is left has the bounds of the compacted one
  bounds-ended : HasSameBounds c.begun.plan.after (layout_in s.rows new)
  bounds-ended = record {
    segments = segments-ended s m kept c new e (ended_at 0) (λ end u. refl)
        ∙ sym (ap (map (ended_at 0)) c.begun.plan.compaction.compacted.ends
        ∙ same-but-ends (ended_at 0) (λ end u. refl) is_small_or_ephemeral s.g
        (compacted_end c.begun.plan.after.start0 c.begun.plan.compaction.compacted.plugs c.begun.plan.moves)
        m.layout.segments
        ∙ ap (λ (l : Layout). map (ended_at 0) l.segments) c.memory.layout);
    start1 = start1-ended s m kept c new e ∙ sym c.begun.plan.start1_is;
    start0 = start0-ended s m kept c new e ∙ sym c.begun.plan.start0_is;
  }

  pub promoted-ended : (age : ℕ) → age ≤ 1 → bytes_between (frame c.begun.view) s.planned c.begun.plan.moves age
      ≡ bytes_promoted m (layout_in s.rows new) kept c.begun.plan.moves age
  promoted-ended age low =
      promoted-told s.rows c.begun.view s.g c.begun.plan.moves m kept c.begun.plan.after c.begun.plan.compaction
      c.run.given.generation s.planned c.begun.plan.start1_is c.begun.plan.start0_is (layout_in s.rows new)
      (generation-same c.begun.plan.after (layout_in s.rows new) bounds-ended) age low
