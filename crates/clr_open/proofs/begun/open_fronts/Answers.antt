-- Thread by thread.
use Rattle.clr_open.proofs.BegunHeaps.{all-opened, next-front, next-opened, none-opened}
use Rattle.clr_open.proofs.begun.open_fronts.Goals as goal

pub loop-i-init : goal.loop-i-init
loop-i-init c =
    none-opened c.args.types.now c.args.heap.now c.args.steps.now c.requires.alone c.requires.count c.requires.stand
    c.lawful.ensures c.requires.held

pub open_front-requires-clause-front : goal.open_front-requires-clause-front
open_front-requires-clause-front c =
    next-front c.args.types.now c.args.heap.now c.args.steps.now c.requires.alone c.requires.count c.requires.stand
    c.loop-i.i c.loop-i-test.true _ c.loop-i.invariant

pub loop-i-preserved : goal.loop-i-preserved
loop-i-preserved c =
    next-opened c.args.types.now c.args.heap.now c.args.steps.now c.requires.alone c.requires.count c.requires.stand
    c.loop-i.i c.loop-i-test.true _ _ c.loop-i.invariant c.open_front.ensures

pub returns : goal.returns
returns c =
    all-opened c.args.types.now c.args.heap.now c.args.steps.now c.requires.alone c.requires.count c.requires.stand
    c.loop-i.i _ c.loop-i-test.false c.loop-i.invariant
