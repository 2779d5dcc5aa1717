use Rattle.std.proofs.Common.{◌<◌, ◌^◌, arith, rules}
use Rattle.clr_plugs.proofs.StepByStep.{at_node, gone_left, gone_right, node_begun}
use Rattle.clr_plugs.proofs.plug_search.PlugSearch.advanced.Goals as goal

pub overflow_add-plug : goal.overflow_add-plug
overflow_add-plug c =
    let (bricks, searching) = c.requires in
    let some = c.if-self-eq0.false in
    let at = at_node c.args.heap.now bricks c.args.self (searching (node_begun c.args.self some)) some in
    let fits : c.args.self.place < 2 ^ 64 = search rules in
    let high = at.high in
    let limit = at.limit in
    let place = at.place in
    omega (arith, fits, high, limit, place)

pub children_of-left-requires : goal.children_of-left-requires
children_of-left-requires c =
    let (bricks, searching) = c.requires in
    let some = c.if-self-eq0.false in
    let at = at_node c.args.heap.now bricks c.args.self (searching (node_begun c.args.self some)) some in
    rw at.place (let w = at.words in let above = w.above in
    record { above = omega (arith, above); word = w.children; segment = w.children_in })

pub returns-then-plug-self-clause-searching : goal.returns-then-plug-self-clause-searching
returns-then-plug-self-clause-searching c = λ bricks searching begun.
    let some = c.if-self-eq0.false in
    gone_right c.args.heap.now bricks c.args.self (searching (node_begun c.args.self some)) some c.if-plug-self.true
    c.children_of-left.result c.children_of-left.ensures

pub returns-else-plug-self-clause-searching : goal.returns-else-plug-self-clause-searching
returns-else-plug-self-clause-searching c = λ bricks searching begun.
    let some = c.if-self-eq0.false in
    gone_left c.args.heap.now bricks c.args.self (searching (node_begun c.args.self some)) some c.if-plug-self.false
    c.children_of-left.result c.children_of-left.ensures
