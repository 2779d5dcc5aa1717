use Rattle.std.proofs.Common.{◌<◌, length, sym, ◌∙◌, arith}
use Rattle.clr_model.specs.Fitting.{older_items}
use Rattle.clr_view.specs.View.{layout_in}
use Rattle.clr_evacuate.proofs.FirstBetween.{begins_there}
use Rattle.clr_evacuate.proofs.OlderItems.{goes_past, nothing_ahead, stops_at}
use Rattle.clr_evacuate.proofs.searching.find_item.Goals as goal

pub returns-then-is_some-clause-from_there : goal.returns-then-is_some-clause-from_there
returns-then-is_some-clause-from_there c =
    let h = c.args.heap.now in
    let inside : c.loop-k.k < length h.segments = omega (arith, c.segments-count.ensures.count, c.loop-k-test.true) in
    stops_at c.args.types.now h c.segments-count.ensures.heap c.requires.held c.args.size c.args.from c.loop-k.k inside
    c.find_in-found.result c.find_in-found.ensures (sym c.is_some.ensures ∙ c.if-is_some.true)
    ∙ c.loop-k.invariant

pub returns-then-is_some-clause-lowest : goal.returns-then-is_some-clause-lowest
returns-then-is_some-clause-lowest c =
    let h = c.args.heap.now in
    let inside : c.loop-k.k < length h.segments = omega (arith, c.segments-count.ensures.count, c.loop-k-test.true) in
    λ none.
    stops_at c.args.types.now h c.segments-count.ensures.heap c.requires.held c.args.size c.args.from c.loop-k.k inside
    c.find_in-found.result c.find_in-found.ensures (sym c.is_some.ensures ∙ c.if-is_some.true)
    ∙ c.loop-k.invariant
    ∙ begins_there c.args.size c.args.from (older_items (layout_in c.args.types.now h)) none

pub loop-k-preserved : goal.loop-k-preserved
loop-k-preserved c =
    let h = c.args.heap.now in
    let inside : c.loop-k.k < length h.segments = omega (arith, c.segments-count.ensures.count, c.loop-k-test.true) in
    goes_past c.args.types.now h c.segments-count.ensures.heap c.requires.held c.args.size c.args.from c.loop-k.k
    inside c.find_in-found.result c.find_in-found.ensures (sym c.is_some.ensures ∙ c.if-is_some.false)
    ∙ c.loop-k.invariant

pub returns-clause-lowest : goal.returns-clause-lowest
returns-clause-lowest c =
    let h = c.args.heap.now in
    λ none.
    nothing_ahead c.args.types.now h c.args.size c.args.from c.loop-k.k
    (omega (arith, c.segments-count.ensures.count, c.loop-k-test.false))
    ∙ c.loop-k.invariant
    ∙ begins_there c.args.size c.args.from (older_items (layout_in c.args.types.now h)) none

pub find_in-found-requires-clause-heap : goal.find_in-found-requires-clause-heap
find_in-found-requires-clause-heap c = c.segments-count.ensures.heap

pub returns-then-is_some-clause-heap : goal.returns-then-is_some-clause-heap
returns-then-is_some-clause-heap c = c.segments-count.ensures.heap

pub returns-clause-heap : goal.returns-clause-heap
returns-clause-heap c = c.segments-count.ensures.heap
