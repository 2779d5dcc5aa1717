use Rattle.clr_types.specs.Descriptors.{offsets_from}
use Rattle.clr_paths.specs.Incoming.{HasListed}
use Rattle.clr_paths.proofs.EdgesByItem.{IsEdgeAmong}
use Rattle.clr_paths.proofs.incoming.Incoming.add_run.Given as goal

abbrev pub invariant-loop-j : goal.invariant-loop-j
invariant-loop-j l = HasListed l.view l.numbers.places.items l.initial.self l.self
    (IsEdgeAmong l.view l.numbers.places.items l.from l.item.place (offsets_from l.run.offset l.j))
