use Rattle.std.proofs.Common.{arith}
use Rattle.std.proofs.lemmas.List.Elements.{All-set}
use Rattle.clr_moves.specs.Going.{IsStretchOf}
use Rattle.clr_moves.proofs.SearchesTogether.{no_search}
use Rattle.clr_moves.proofs.together.put_all.Goals as goal

pub stretch_of-requires : goal.stretch_of-requires
stretch_of-requires c =
    let (bricks, g, all) = c.requires.searches in
    let test = c.loop-i-test.true in
    let length = c.requires.found in
    (bricks, (all c.loop-i.i no_search (omega (arith, test, length))).searching)

pub loop-i-preserved : goal.loop-i-preserved
loop-i-preserved c = λ rows view bricks entries g vs start1 start0 plan all before.
    let test = c.loop-i-test.true in
    let length = c.requires.found in
    All-set (IsStretchOf view g vs) c.loop-i.stretches c.loop-i.i c.stretch_of.result
    (c.stretch_of.ensures rows view bricks entries g vs start1 start0 plan
    (all c.loop-i.i no_search (omega (arith, test, length))))
    (c.loop-i.invariant rows view bricks entries g vs start1 start0 plan all before)
