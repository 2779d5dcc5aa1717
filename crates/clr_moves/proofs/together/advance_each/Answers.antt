use Rattle.std.proofs.Common.{arith}
use Rattle.std.proofs.lemmas.List.Elements.{All-set}
use Rattle.clr_moves.specs.Together.{IsSearchIn}
use Rattle.clr_moves.proofs.SearchesTogether.{no_search, search_on}
use Rattle.clr_moves.proofs.together.advance_each.Goals as goal

pub advanced-next-requires : goal.advanced-next-requires
advanced-next-requires c =
    let (bricks, g, all) = c.requires in
    let test = c.loop-search-test.true in
    let length = c.loop-search.auto.searches in
    let here = c.loop-search.invariant bricks g all c.loop-search.search-index no_search (omega (arith, test, length)) in
    (bricks, here.searching)

pub loop-search-preserved : goal.loop-search-preserved
loop-search-preserved c = λ bricks g all.
    let test = c.loop-search-test.true in
    let length = c.loop-search.auto.searches in
    let so_far = c.loop-search.invariant bricks g all in
    let next = c.advanced-next in
    All-set (IsSearchIn c.args.heap.now bricks g) c.loop-search.searches c.loop-search.search-index next.result
    (search_on c.args.heap.now bricks g _ next.result
    (so_far c.loop-search.search-index no_search (omega (arith, test, length))) (next.ensures.searching bricks)
    next.ensures.place next.ensures.segment next.ensures.begun) so_far
