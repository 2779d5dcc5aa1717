use Rattle.std.proofs.Common.{◌+◌, arith}
use Rattle.clr_sos.proofs.ScanLimits.{cell_words}
use Rattle.clr_sos.proofs.verify.cells.typed_item.Goals as goal

pub word_at-len-requires-clause-word : goal.word_at-len-requires-clause-word
word_at-len-requires-clause-word c =
    let z = c.requires.place.aligned in
    let room = c.requires.room in
    (cell_words c.args.scan.now.heap.now c.args.scan.now.k c.args.place (c.args.place + 8)
    c.requires.place (omega arith) (omega arith) (omega arith)).0

pub word_at-len-requires-clause-segment : goal.word_at-len-requires-clause-segment
word_at-len-requires-clause-segment c =
    let z = c.requires.place.aligned in
    let room = c.requires.room in
    (cell_words c.args.scan.now.heap.now c.args.scan.now.k c.args.place (c.args.place + 8)
    c.requires.place (omega arith) (omega arith) (omega arith)).1
