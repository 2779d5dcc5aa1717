use Rattle.clr_handles.specs.Places.{IsCleared}
use Rattle.clr_handles.specs.Changes.{BecomesWithin}
use Rattle.clr_handles.specs.Tops.{KeepsCounts}
use Rattle.clr_handles.proofs.clearing.clear_chunk.Given as goal

abbrev pub invariant-loop-h : goal.invariant-loop-h
invariant-loop-h g l = record {
  cleared : BecomesWithin (IsCleared l.kind (λ place answer. goal.F-post g l.kept place answer) l.low) l.initial.rows
      l.rows l.first l.h;
  counts : KeepsCounts l.initial.rows l.rows;
}
