-- So many steps are read.
use Rattle.clr_fields.proofs.Turns.{IsAtTurn}
use Rattle.clr_format.specs.TableFields.{more_steps}
use Rattle.clr_load.proofs.tables.read_steps.Given as goal

abbrev pub invariant-loop-turn : goal.invariant-loop-turn
invariant-loop-turn l =
    IsAtTurn (more_steps l.head l.types) 16 l._turn l.initial.steps.items l.steps.items l.initial.reader l.reader
