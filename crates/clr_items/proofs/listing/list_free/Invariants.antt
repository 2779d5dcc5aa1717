use Rattle.std.proofs.Common.{◌-◌}
use Rattle.clr_heap.specs.ObjectKinds.{IsObjectKind}
use Rattle.clr_heap.specs.View.{last_of}
use Rattle.clr_items.proofs.ListedItems.{IsListing}
use Rattle.clr_items.proofs.listing.list_free.Given as goal

abbrev pub invariant-loop-place : goal.invariant-loop-place
invariant-loop-place l = record {
  listing : IsListing l.types l.heap l.k l.from (last_of l.heap l.k) l.place l.initial.items.items l.items.items;
  known : IsObjectKind l.types l.known;
}

abbrev pub decreases-loop-place : goal.decreases-loop-place
decreases-loop-place l = l.end - l.place
