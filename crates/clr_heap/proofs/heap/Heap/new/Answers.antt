use Rattle.clr_heap.proofs.Changing.{kept_opening}
use Rattle.clr_heap.proofs.heap.Heap.new.Goals as goal

pub invariant_of-result : goal.invariant_of-result
invariant_of-result c =
    rw (c.in_ok-memories.ensures, c.in_ok-segments.ensures, c.in_ok-rests.ensures)
    (kept_opening c.args.segment c.args.limit c.requires.aligned c.requires.least c.requires.most c.requires.room
    c.requires.limit_small)
