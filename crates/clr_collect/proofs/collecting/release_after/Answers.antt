-- Segments are given back, or aren't.
use Rattle.clr_collect.proofs.TidySpaces.{tidy_released}
use Rattle.clr_collect.proofs.collecting.release_after.Goals as goal

pub returns-then-g-eq2-clause-tidy : goal.returns-then-g-eq2-clause-tidy
returns-then-g-eq2-clause-tidy c =
    tidy_released c.args.types.now c.args.space.now
    (record { heap = c.release_empty.new.heap; cards = c.release_empty.new.cards; bricks = c.release_empty.new.bricks })
    2 c.requires.tidy c.release_empty.ensures.released c.release_empty.ensures.tables
