use Rattle.std.proofs.Common.{◌≡◌}
use Rattle.clr_view.specs.View.{layout_in}
use Rattle.clr_items.specs.Items.{first_fitting}
use Rattle.clr_large.specs.Searches.{first_of_kind}
use Rattle.clr_large.proofs.KindLists.{kind_ahead}
use Rattle.clr_large.proofs.places.first_walked.Given as goal

abbrev pub invariant-loop-k : goal.invariant-loop-k
invariant-loop-k l =
    first_fitting l.size (kind_ahead l.kind l.types l.heap l.k) ≡ first_of_kind l.kind (layout_in l.types l.heap) l.size
