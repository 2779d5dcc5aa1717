use Rattle.clr_fitting.proofs.FitLists.{lowest_behind}
use Rattle.clr_fitting.proofs.laws.a_search_may_begin_behind.Goals as goal

pub returns : goal.returns
returns c = lowest_behind
