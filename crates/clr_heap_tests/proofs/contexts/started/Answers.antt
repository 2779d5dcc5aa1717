use Rattle.std.proofs.Common.{refl}
use Rattle.clr_heap_tests.proofs.Opening.{started_held, started_index}
use Rattle.clr_heap_tests.proofs.contexts.started.Goals as goal

pub returns-clause-held : goal.returns-clause-held
returns-clause-held c = started_held c.in_ok-types.types c.in_ok-heap.heap 262144 1048576 refl c.in_ok-heap.ensures

pub returns-clause-index : goal.returns-clause-index
returns-clause-index c = started_index c.in_ok-types.types c.in_ok-heap.heap c.new-young.result 262144 1048576 refl
    c.in_ok-heap.ensures c.new-young.ensures
