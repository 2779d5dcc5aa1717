-- The references are checked, and there is one ephemeral segment above all small ones.
use Rattle.clr_load.proofs.WholeTests.{one_young, young_last}
use Rattle.clr_load.proofs.whole.make_whole.Goals as goal

pub finish-heap-requires-clause-one_ephemeral : goal.finish-heap-requires-clause-one_ephemeral
finish-heap-requires-clause-one_ephemeral c =
    let r = c.requires in one_young c.args.bytes.now c.args.kept r.0 r.1 r.2 r.3

pub finish-heap-requires-clause-ephemeral_last : goal.finish-heap-requires-clause-ephemeral_last
finish-heap-requires-clause-ephemeral_last c =
    let r = c.requires in young_last c.args.bytes.now c.args.kept r.0 r.1 r.2 r.3
