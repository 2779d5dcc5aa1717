use Rattle.std.proofs.Common.{◌∙◌}
use Rattle.clr_moves.proofs.SearchesTogether.{none_begun}
use Rattle.clr_moves.proofs.together.stretches_near.Goals as goal

pub advance_all-requires : goal.advance_all-requires
advance_all-requires c = (
  c.args.bricks.now,
  c.args.g,
  c.begin_all.ensures (none_begun c.args.heap.now c.args.bricks.now c.args.g 8),
)

pub put_all-requires : goal.put_all-requires
put_all-requires c =
    let begun = c.begin_all.ensures (none_begun c.args.heap.now c.args.bricks.now c.args.g 8) in
    record {
      searches = (c.args.bricks.now, c.args.g, c.advance_all.ensures c.args.bricks.now c.args.g begun);
      found = c.advance_all.auto.searches ∙ c.begin_all.auto.searches;
      stretches = c.requires.stretches;
    }

pub returns : goal.returns
returns c = λ rows view entries vs start1 start0 plan before.
    let begun = c.begin_all.ensures (none_begun c.args.heap.now c.args.bricks.now c.args.g 8) in
    c.put_all.ensures rows view c.args.bricks.now entries c.args.g vs start1 start0 plan
    (c.advance_all.ensures c.args.bricks.now c.args.g begun) before
