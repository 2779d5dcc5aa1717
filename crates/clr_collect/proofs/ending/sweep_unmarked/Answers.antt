-- What is kept is marked in the heap, and the rest is swept.
use Rattle.std.proofs.Common.{arith}
use Rattle.clr_survivors.specs.Survivors.{world_of}
use Rattle.clr_collect.proofs.TidySpaces.{tidy_swept}
use Rattle.clr_collect.proofs.WholeCollection.{memory_laid}
use Rattle.clr_collect.proofs.ending.sweep_unmarked.Goals as goal

pub mark_found_kept-requires-clause-world : goal.mark_found_kept-requires-clause-world
mark_found_kept-requires-clause-world c = let (m, w, named, idle) = c.requires.world in (m, w, named)

pub sweep-requires-clause-laid : goal.sweep-requires-clause-laid
sweep-requires-clause-laid c =
    memory_laid (world_of c.args.types.now c.args.space.now.heap c.args.roots.now)
    c.mark_found_kept.new.space.heap c.mark_found_kept.new.roots.handles c.mark_found_kept.new.roots.finals 2 (omega
    arith) c.mark_found_kept.ensures.kept c.requires.world

pub returns-clause-ended : goal.returns-clause-ended
returns-clause-ended c = record {
  marked = c.mark_found_kept.new.space.heap;
  kept = c.mark_found_kept.ensures.kept;
  swept = c.sweep.ensures.swept;
  counted = c.sweep.ensures.tally;
  tidy =
      tidy_swept (world_of c.args.types.now c.args.space.now.heap c.args.roots.now) c.mark_found_kept.new.space
      c.mark_found_kept.new.roots.handles c.mark_found_kept.new.roots.finals 2 (omega arith)
      c.mark_found_kept.ensures.kept c.sweep.new.heap c.sweep.ensures.swept c.requires.world
      c.mark_found_kept.ensures.tidy c.sweep.new.bricks c.sweep.ensures.spans c.sweep.ensures.brick_law;
}
