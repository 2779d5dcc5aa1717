use Rattle.std.proofs.Common.{◌≡◌, ◌++◌}
use Rattle.clr_paths.specs.Incoming.{HasListed}
use Rattle.clr_paths.proofs.EdgesByItem.{IsEdgeAmong}
use Rattle.clr_paths.proofs.incoming.Incoming.add_each.Given as goal

abbrev pub invariant-loop-offset : goal.invariant-loop-offset
invariant-loop-offset l = record {
  walked : l.yielded ++ l.offset-iterator ≡ l.initial.offset-iterator;
  listed : HasListed l.view l.numbers.places.items l.initial.self l.self
      (IsEdgeAmong l.view l.numbers.places.items l.from l.item.place l.yielded);
}
