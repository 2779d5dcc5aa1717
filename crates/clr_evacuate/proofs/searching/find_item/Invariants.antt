use Rattle.std.proofs.Common.{◌≡◌}
use Rattle.clr_model.specs.Fitting.{lowest_item}
use Rattle.clr_view.specs.View.{layout_in}
use Rattle.clr_evacuate.specs.Searching.{older_from}
use Rattle.clr_evacuate.proofs.OlderItems.{older_ahead}
use Rattle.clr_evacuate.proofs.searching.find_item.Given as goal

abbrev pub invariant-loop-k : goal.invariant-loop-k
invariant-loop-k l =
    lowest_item l.size (older_ahead l.types l.heap l.from l.k)
    ≡ lowest_item l.size (older_from l.from (layout_in l.types l.heap))
