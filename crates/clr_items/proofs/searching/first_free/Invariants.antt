use Rattle.std.proofs.Common.{◌≡◌}
use Rattle.std.specs.List.{AllByRecursion}
use Rattle.clr_items.proofs.FoundItems.{EndsWithin, first_found}
use Rattle.clr_items.proofs.searching.first_free.Given as goal

abbrev pub invariant-loop-found : goal.invariant-loop-found
invariant-loop-found l =
    (first_found l.from l.size l.found-iterator ≡ first_found l.from l.size l.initial.found-iterator)
    × AllByRecursion EndsWithin l.found-iterator
