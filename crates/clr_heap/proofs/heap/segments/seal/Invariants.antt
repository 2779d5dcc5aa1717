use Rattle.std.proofs.Common.{◌≡◌, ◌++◌, map, take, drop, vec_len, vec_capacity}
use Rattle.clr_types.specs.Segments.{sealed_segment}
use Rattle.clr_heap.proofs.heap.segments.seal.Given as goal

abbrev pub invariant-loop-i : goal.invariant-loop-i
invariant-loop-i l = record {
  items : l.segments.items ≡ map sealed_segment (take l.i l.initial.segments.items)
      ++ drop l.i l.initial.segments.items;
  len : vec_len l.segments ≡ vec_len l.initial.segments;
  room : vec_capacity l.segments ≡ vec_capacity l.initial.segments;
}
