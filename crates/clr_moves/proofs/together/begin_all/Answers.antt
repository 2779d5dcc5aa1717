use Rattle.std.proofs.lemmas.List.Elements.{All-set}
use Rattle.clr_moves.specs.Together.{IsSearchIn}
use Rattle.clr_moves.proofs.together.begin_all.Goals as goal

pub loop-i-preserved : goal.loop-i-preserved
loop-i-preserved c = λ all.
    All-set (IsSearchIn c.args.heap.now c.args.bricks.now c.args.g) c.loop-i.searches c.loop-i.i c.search_for-search.result
    c.search_for-search.ensures (c.loop-i.invariant all)
