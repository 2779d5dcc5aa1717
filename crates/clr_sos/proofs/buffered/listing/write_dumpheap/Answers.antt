-- The items of a heap can be listed.
use Rattle.std.proofs.Common.{subst, sym}
use Rattle.clr_sos.specs.Dumping.{AreListed}
use Rattle.clr_sos.proofs.HeapListed.{heap-listed}
use Rattle.clr_sos.proofs.buffered.listing.write_dumpheap.Goals as goal

pub write_items-requires : goal.write_items-requires
write_items-requires g c =
    subst (AreListed c.args.view.now.types.now) (sym c.items_of-items.ensures.items)
    (heap-listed c.args.view.now.types.now c.args.view.now.heap.now c.items_of-items.ensures.heap c.requires.walkable)
