-- So many steps are read.
use Rattle.clr_fields.proofs.Turns.{IsAtTurn}
use Rattle.clr_format.specs.TableFields.{more_places}
use Rattle.clr_load.proofs.tables.read_places.Given as goal

abbrev pub invariant-loop-turn : goal.invariant-loop-turn
invariant-loop-turn l = IsAtTurn more_places l.n l._turn l.initial.places.items l.places.items l.initial.reader l.reader
