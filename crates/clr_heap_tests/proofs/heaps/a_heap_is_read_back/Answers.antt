use Rattle.std.proofs.Common.{refl}
use Rattle.clr_heap.proofs.Acquiring.{nothing_in}
use Rattle.clr_heap.specs.View.{opening_heap}
use Rattle.clr_heap_tests.proofs.heaps.a_heap_is_read_back.Goals as goal

pub append-requires-clause-walkable : goal.append-requires-clause-walkable
append-requires-clause-walkable g c =
    rw c.in_ok-heap.ensures (nothing_in _ (opening_heap 262144 1048576) 0 refl refl).walkable
