use Rattle.std.proofs.Common.{◌++◌, take}
use Rattle.std.specs.List.{flat_map}
use Rattle.clr_view.specs.View.{objects_in}
use Rattle.clr_sos.specs.Buffered.{IsPut}
use Rattle.clr_sos.specs.TextPieces.{queued_line}
use Rattle.clr_sos.proofs.buffered.queue.write_queue.Given as goal

abbrev pub invariant-loop-place : goal.invariant-loop-place
invariant-loop-place g l =
    IsPut (g.K.Sink.written l.initial.sink) (g.K.Sink.written l.sink) (g.K.Sink.faults l.initial.sink)
    (g.K.Sink.faults l.sink) (l.initial.buffer.items
    ++ flat_map (queued_line l.types (objects_in l.types l.heap) l.word) (take l.place-index l.places)) l.buffer.items
