use Rattle.clr_plugs.proofs.Nearest.{bricks_of_place, found_first, found_second, one_search, starts_positive}
use Rattle.clr_plugs.proofs.Nearest.{none_between, two_searches}
use Rattle.clr_plugs.proofs.search.greatest_start.Goals as goal

pub returns-then-start-ne0 : goal.returns-then-start-ne0
returns-then-start-ne0 g c = record {
  found = λ part plan low high. found_first _ c.args.a c.find_from-start.result.0
      (c.find_from-start.ensures.found part plan (bricks_of_place part c.args.a low high c.requires.some).0)
      c.if-start-ne0.true;
  alone = λ part plan low high. none_between _ c.args.a c.find_from-start.result.1
      (c.find_from-start.ensures.alone part plan (bricks_of_place part c.args.a low high c.requires.some).0)
      c.find_from-start.ensures.stop;
  stop = c.find_from-start.ensures.stop;
  steps = λ part plan low high. one_search _ c.args.steps.now c.find_from-start.new.steps
      (c.find_from-start.ensures.steps part plan (bricks_of_place part c.args.a low high c.requires.some).0);
}

pub returns : goal.returns
returns g c = record {
  found = λ part plan low high.
      let near = bricks_of_place part c.args.a low high c.requires.some in
      found_second _ c.args.a c.find_from-start.result.0 c.find_from-lower.result.0
      (starts_positive c.args.heap.now c.args.bricks.now part plan) c.requires.some
      (c.find_from-start.ensures.found part plan near.0) c.if-start-ne0.false
      (c.find_from-lower.ensures.found part plan near.1);
  alone = λ part plan low high. none_between _ c.args.a c.find_from-start.result.1
      (c.find_from-start.ensures.alone part plan (bricks_of_place part c.args.a low high c.requires.some).0)
      c.find_from-start.ensures.stop;
  stop = c.find_from-start.ensures.stop;
  steps = λ part plan low high.
      let near = bricks_of_place part c.args.a low high c.requires.some in
      two_searches _ c.args.steps.now c.find_from-start.new.steps c.find_from-lower.new.steps
      (c.find_from-start.ensures.steps part plan near.0) (c.find_from-lower.ensures.steps part plan near.1);
}
