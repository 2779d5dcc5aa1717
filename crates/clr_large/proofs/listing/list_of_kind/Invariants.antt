use Rattle.std.proofs.Common.{◌≡◌, ◌++◌}
use Rattle.clr_view.specs.View.{layout_in}
use Rattle.clr_large.specs.Places.{kind_items}
use Rattle.clr_large.proofs.KindLists.{kind_ahead}
use Rattle.clr_large.proofs.listing.list_of_kind.Given as goal

abbrev pub invariant-loop-k : goal.invariant-loop-k
invariant-loop-k l =
    l.items.items ++ kind_ahead l.kind l.types l.heap l.k ≡ l.initial.items.items
    ++ kind_items l.kind (layout_in l.types l.heap)
