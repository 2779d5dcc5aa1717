use Rattle.std.proofs.Common.{◌≡◌, ◌++◌, take}
use Rattle.std.specs.List.{flat_map}
use Rattle.clr_view.specs.View.{objects_in}
use Rattle.clr_sos.specs.TextPieces.{queued_line}
use Rattle.clr_sos.proofs.queues.put_queue.Given as goal

abbrev pub invariant-loop-place : goal.invariant-loop-place
invariant-loop-place l =
    l.text.items ≡ l.initial.text.items
    ++ flat_map (queued_line l.types (objects_in l.types l.heap) l.word) (take l.place-index l.places)
