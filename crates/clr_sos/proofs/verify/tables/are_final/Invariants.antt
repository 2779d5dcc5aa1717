use Rattle.std.proofs.Common.{◌≡◌, drop}
use Rattle.clr_heap.specs.View.{heap_items}
use Rattle.clr_sos.specs.JudgedTables.{are_final_in}
use Rattle.clr_sos.proofs.verify.tables.are_final.Given as goal

abbrev pub invariant-loop-place : goal.invariant-loop-place
invariant-loop-place l =
    are_final_in l.judge.types.now (heap_items l.judge.types.now l.judge.heap.now) l.judge.window
    (drop l.place-index l.places)
    ≡ are_final_in l.judge.types.now (heap_items l.judge.types.now l.judge.heap.now) l.judge.window l.places
