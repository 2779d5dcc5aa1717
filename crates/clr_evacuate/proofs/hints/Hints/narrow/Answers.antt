use Rattle.std.proofs.Common.{None}
use Rattle.clr_evacuate.proofs.HintFacts.{starts-found}
use Rattle.clr_evacuate.proofs.hints.Hints.narrow.Goals as goal

pub find_item-requires-clause-begins : goal.find_item-requires-clause-begins
find_item-requires-clause-begins c =
    (c.start_for-from.ensures c.args.types.now c.args.heap.now c.requires.hints).begins

pub returns-in-None : goal.returns-in-None
returns-in-None c =
    let start = c.start_for-from.ensures c.args.types.now c.args.heap.now c.requires.hints in
    c.learn_none-in-None.ensures c.args.types.now c.args.heap.now c.requires.hints
    (starts-found c.args.types.now c.args.heap.now c.find_item.ensures.heap c.requires.held c.requires.order
    c.halfway-half.result None (c.in-None.ensures.lowest start.none_below))

pub returns-in-Some : goal.returns-in-Some
returns-in-Some c =
    c.learn_none-in-Some.ensures c.args.types.now c.args.heap.now c.requires.hints c.requires.none

pub returns-then-self-eq0 : goal.returns-then-self-eq0
returns-then-self-eq0 c =
    c.learn_none.ensures c.args.types.now c.args.heap.now c.requires.hints c.requires.none
