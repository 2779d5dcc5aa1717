use Rattle.std.proofs.Common.{◌<◌}
use Rattle.clr_paths.specs.Incoming.{HasListed, IsSlotEdge}
use Rattle.clr_paths.proofs.incoming.Incoming.add_slots.Given as goal

abbrev pub invariant-loop-from : goal.invariant-loop-from
invariant-loop-from l = HasListed l.view l.numbers.places.items l.initial.self l.self
    (λ from to. (from < l.from) × IsSlotEdge l.view l.numbers.places.items from to)
