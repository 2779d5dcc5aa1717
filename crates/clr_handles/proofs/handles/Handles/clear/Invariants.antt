use Rattle.std.proofs.Common.{◌≡◌, ◌*◌}
use Rattle.clr_handles.specs.Places.{IsCleared}
use Rattle.clr_handles.specs.Changes.{BecomesWithin}
use Rattle.clr_handles.specs.Tops.{AreCounts, AreTops}
use Rattle.clr_handles.proofs.handles.Handles.clear.Given as goal

abbrev pub invariant-loop-chunk : goal.invariant-loop-chunk
invariant-loop-chunk g l = record {
  cleared : BecomesWithin (IsCleared l.kind (λ place answer. goal.F-post g l.kept place answer) l.low)
      l.initial.self-inside.rows l.self-inside.rows 0 (64 * l.chunk);
  same : l.self-inside.tops ≡ l.initial.self-inside.tops;
  tops : AreTops l.self-inside.rows l.self-inside.tops.items;
  counts : AreCounts l.self-inside.rows l.self-inside.counts;
}
