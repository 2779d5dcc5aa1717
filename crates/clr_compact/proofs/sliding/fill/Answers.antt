use Rattle.clr_compact.proofs.Landing.{filled_range}
use Rattle.clr_compact.proofs.sliding.fill.Goals as goal

pub returns-then-top-to-clause-words : goal.returns-then-top-to-clause-words
returns-then-top-to-clause-words c =
    rw c.make_free.ensures.words
    (filled_range c.args.heap.now c.args.top c.args.to c.requires.gap c.if-top-to.true
    (c.requires.head c.if-top-to.true))
