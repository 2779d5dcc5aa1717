use Rattle.clr_paths.specs.Incoming.{HasListed}
use Rattle.clr_paths.proofs.LeadingObjects.{IsTieBelow}
use Rattle.clr_paths.proofs.incoming.Incoming.add_ties.Given as goal

abbrev pub invariant-loop-i : goal.invariant-loop-i
invariant-loop-i l = HasListed l.view l.numbers.places.items l.initial.self l.self
    (IsTieBelow l.numbers.places.items l.ties.items l.i)
