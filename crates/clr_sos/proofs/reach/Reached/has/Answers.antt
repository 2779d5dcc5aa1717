-- The segment of a word is there, and begins below it.
use Rattle.clr_sos.proofs.Seen.{word-low, word-segment}
use Rattle.clr_sos.proofs.reach.Reached.has.Goals as goal

pub info-base-requires : goal.info-base-requires
info-base-requires c =
    rw c.segment_of-k.ensures (word-segment c.args.heap.now c.requires.heap c.args.place c.requires.word)

pub overflow_sub-place : goal.overflow_sub-place
overflow_sub-place c =
    rw (c.info-base.ensures.value, c.segment_of-k.ensures)
    (word-low c.args.heap.now c.requires.heap c.args.place c.requires.word)
