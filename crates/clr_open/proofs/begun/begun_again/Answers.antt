-- Thread by thread.
use Rattle.clr_open.proofs.BegunThreads.{begun-all, begun-more}
use Rattle.clr_open.proofs.begun.begun_again.Goals as goal

pub loop-i-init : goal.loop-i-init
loop-i-init c = c.held_by-safe.ensures

pub loop-i-preserved : goal.loop-i-preserved
loop-i-preserved c =
    begun-more c.args.types.now c.args.holder c.args.steps.now c.requires.count c.loop-i.i _ _ _ c.loop-i-test.true
    c.loop-i.invariant c.begun_of.ensures c.begin.ensures

pub returns : goal.returns
returns c =
    begun-all c.args.types.now c.args.holder c.args.steps.now c.requires.count c.loop-i.i c.loop-i.safe
    c.loop-i-test.false c.loop-i.invariant
