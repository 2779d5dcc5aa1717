use Rattle.std.proofs.Common.{◌∙◌}
use Rattle.clr_evacuate.proofs.HintFacts.{starts-found}
use Rattle.clr_evacuate.proofs.hints.find_lowest.Goals as goal

pub find_item-found-requires-clause-begins : goal.find_item-found-requires-clause-begins
find_item-found-requires-clause-begins c =
    (c.start_for-from.ensures c.args.types.now c.args.heap.now c.requires.hints).begins

pub learn_found-requires-clause-found : goal.learn_found-requires-clause-found
learn_found-requires-clause-found c =
    let start = c.start_for-from.ensures c.args.types.now c.args.heap.now c.requires.hints in
    starts-found c.args.types.now c.args.heap.now c.find_item-found.ensures.heap c.requires.held c.requires.order
    c.args.size c.find_item-found.result (c.find_item-found.ensures.lowest start.none_below)

pub returns-clause-lowest : goal.returns-clause-lowest
returns-clause-lowest c =
    c.learn_found.ensures.same
    ∙ c.find_item-found.ensures.lowest
    (c.start_for-from.ensures c.args.types.now c.args.heap.now c.requires.hints).none_below

pub returns-clause-hints : goal.returns-clause-hints
returns-clause-hints c = c.learn_found.ensures.hints

pub returns-clause-heap : goal.returns-clause-heap
returns-clause-heap c = c.find_item-found.ensures.heap
