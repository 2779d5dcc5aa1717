-- The two indexes are quotients, and the units between them are those that meet the range.
use Rattle.clr_nums.proofs.Units.{meets_between, between_meets}
use Rattle.clr_nums.proofs.grid.Grid.cover.Goals as goal

pub returns-clause-exact : goal.returns-clause-exact
returns-clause-exact g c = λ i. rw (c.index.ensures.value, c.index-2.ensures.value) (
  meets_between g.row.UNIT i c.args.lo c.args.hi c.requires.positive c.requires.some,
  between_meets g.row.UNIT i c.args.lo c.args.hi c.requires.positive c.requires.some,
)
