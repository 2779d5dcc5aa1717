use Rattle.clr_handles.specs.Places.{IsFollowed}
use Rattle.clr_handles.specs.Changes.{BecomesWithin}
use Rattle.clr_handles.specs.Tops.{IsTopBetween, KeepsCounts}
use Rattle.clr_handles.proofs.moving.follow_in_chunk.Given as goal

abbrev pub invariant-loop-h : goal.invariant-loop-h
invariant-loop-h g l = record {
  moved : BecomesWithin (IsFollowed l.spares (λ place moved. goal.F-post g l.to place moved) l.low) l.initial.rows
      l.rows l.first l.h;
  counts : KeepsCounts l.initial.rows l.rows;
  top : IsTopBetween l.rows l.first l.h l.new_top;
}
