use Rattle.std.proofs.Common.{◌≡◌}
use Rattle.clr_heap.specs.View.{item_with_place, listing}
use Rattle.clr_heap.proofs.heap.Heap.item_in.Given as goal

abbrev pub invariant-loop-found : goal.invariant-loop-found
invariant-loop-found l = item_with_place l.found-iterator l.a ≡ item_with_place (listing l.types l.self l.k) l.a
