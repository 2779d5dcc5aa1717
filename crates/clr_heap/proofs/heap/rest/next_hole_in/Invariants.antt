use Rattle.std.proofs.Common.{◌≡◌, ◌-◌, ◌<◌, ◌^◌, ℕ, drop}
use Rattle.std.specs.Prelude.{IsSome}
use Rattle.clr_heap.specs.Parts.{hole_from}
use Rattle.clr_heap.proofs.heap.rest.next_hole_in.Given as goal

abbrev pub invariant-loop-slot : goal.invariant-loop-slot
invariant-loop-slot l = record {
  none_before : (q : ℕ) → l.p < q → q < l.next
      → hole_from (drop l.slot-index l.rests.items) q ≡ hole_from l.rests.items q;
  ahead : l.p < 2 ^ 64 - 1 → l.p < l.next;
  starts : l.next < 2 ^ 64 - 1 → IsSome (hole_from l.rests.items l.next);
}
