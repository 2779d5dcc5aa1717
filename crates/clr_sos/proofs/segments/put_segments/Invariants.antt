use Rattle.std.proofs.Common.{◌≡◌, ◌++◌, take}
use Rattle.std.specs.Prelude.{sum_by}
use Rattle.std.specs.List.{flat_map}
use Rattle.clr_types.specs.declared.segment.SegInfo.{SegInfo}
use Rattle.clr_heap.specs.View.{frame}
use Rattle.clr_model.specs.Sos.{segment_line}
use Rattle.clr_sos.proofs.segments.put_segments.Given as goal

abbrev pub invariant-loop-k : goal.invariant-loop-k
invariant-loop-k l = record {
  text : l.text.items ≡ l.initial.text.items ++ flat_map (segment_line (frame l.heap)) (take l.k l.heap.segments);
  reserved : l.reserved ≡ sum_by (λ (s : SegInfo). s.reserved) (take l.k l.heap.segments);
}
