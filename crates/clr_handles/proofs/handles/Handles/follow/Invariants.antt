use Rattle.std.proofs.Common.{◌≡◌, ◌*◌, vec_len}
use Rattle.clr_handles.specs.Places.{IsFollowed}
use Rattle.clr_handles.specs.Changes.{BecomesWithin}
use Rattle.clr_handles.specs.Tops.{AreCounts, AreTops}
use Rattle.clr_handles.proofs.handles.Handles.follow.Given as goal

abbrev pub invariant-loop-chunk : goal.invariant-loop-chunk
invariant-loop-chunk g l = record {
  moved : BecomesWithin (IsFollowed l.spares (λ place moved. goal.F-post g l.to place moved) l.low)
      l.initial.self-inside.rows l.self-inside.rows 0 (64 * l.chunk);
  same : vec_len l.self-inside.tops ≡ vec_len l.initial.self-inside.tops;
  tops : AreTops l.self-inside.rows l.self-inside.tops.items;
  counts : AreCounts l.self-inside.rows l.self-inside.counts;
}
