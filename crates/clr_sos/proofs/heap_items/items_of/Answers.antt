-- The first segment is walked over, and all others follow.
use Rattle.clr_sos.proofs.Walking.{some-segment}
use Rattle.clr_sos.proofs.heap_items.items_of.Goals as goal

pub walk-requires-clause-in_range : goal.walk-requires-clause-in_range
walk-requires-clause-in_range c = some-segment c.args.heap.now c.segments-count.ensures.heap
