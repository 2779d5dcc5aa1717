-- So many steps are read.
use Rattle.clr_fields.proofs.Turns.{IsAtTurn}
use Rattle.clr_format.specs.TableFields.{more_handles}
use Rattle.clr_load.proofs.tables.read_so_many_handles.Given as goal

abbrev pub invariant-loop-turn : goal.invariant-loop-turn
invariant-loop-turn l =
    IsAtTurn more_handles l.n l._turn l.initial.handles.items l.handles.items l.initial.reader l.reader
