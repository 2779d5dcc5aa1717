use Rattle.clr_model.proofs.TopGrowsByLine.{line_reserves}
use Rattle.clr_model.proofs.laws.a_line_reserves_little.Goals as goal

pub returns : goal.returns
returns c = line_reserves
