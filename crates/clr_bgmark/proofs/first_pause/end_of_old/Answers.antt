use Rattle.clr_bgmark.proofs.FirstTaken.{far_below, other_old}
use Rattle.clr_bgmark.proofs.first_pause.end_of_old.Goals as goal

pub returns-else-k-ephemeral : goal.returns-else-k-ephemeral
returns-else-k-ephemeral c = λ a low below.
    let h = c.args.heap.now in
    let e = c.ephemeral.ensures in
    other_old h e.heap c.args.k c.ephemeral.result c.requires e.in_range e.segment a low below c.if-k-ephemeral.false
    18446744073709551615 (far_below h e.heap c.args.k c.ephemeral.result c.requires e.in_range e.segment a low below)
