-- Each thread has its line.
use Rattle.clr_sos.proofs.ContextLines.{contexts-all, contexts-more}
use Rattle.clr_sos.proofs.segments.put_contexts.Goals as goal

pub loop-k-preserved : goal.loop-k-preserved
loop-k-preserved c = rw (c.in_ok-put_context.ensures, c.loop-k.invariant)
    (contexts-more c.args.heap.now c.args.text.now.items c.loop-k.k c.requires c.loop-k-test.true)

pub returns : goal.returns
returns c = rw c.loop-k.invariant
    (contexts-all c.args.heap.now c.args.text.now.items c.loop-k.k c.requires c.loop-k-test.false)
