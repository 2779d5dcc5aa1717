use Rattle.std.proofs.Common.{rules}
use Rattle.clr_covers.specs.Covers.{same_values}
use Rattle.clr_covers.proofs.covers.values_of.Goals as goal

pub returns-clause-items : goal.returns-clause-items
unfolding same_values
returns-clause-items g c = search rules
