use Rattle.std.proofs.Common.{◌+◌, length}
use Rattle.clr_mark.specs.Markings.{HasGrayedBy, unmarked_count}
use Rattle.clr_mark.specs.TieLists.{LeadsBy}
use Rattle.clr_mark.proofs.marker.Marker.empty_tied.Given as goal

abbrev pub invariant-loop-obj : goal.invariant-loop-obj
invariant-loop-obj l =
    HasGrayedBy l.types (LeadsBy l.types l.ties) l.initial.heap l.heap l.initial.self l.self

abbrev pub decreases-loop-obj : goal.decreases-loop-obj
decreases-loop-obj l = length l.self.stack + unmarked_count l.types l.heap
