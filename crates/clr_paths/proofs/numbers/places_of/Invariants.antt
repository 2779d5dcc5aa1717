use Rattle.std.proofs.Common.{◌≡◌, ◌++◌}
use Rattle.clr_paths.proofs.HeapNumbers.{addresses}
use Rattle.clr_paths.proofs.numbers.places_of.Given as goal

abbrev pub invariant-loop-item : goal.invariant-loop-item
invariant-loop-item l = record {
  walked : l.yielded ++ l.item-iterator ≡ l.initial.item-iterator;
  places : l.places.items ≡ addresses l.yielded;
}
