use Rattle.clr_fitting.proofs.Copies.{copied_laid}
use Rattle.clr_fitting.proofs.laws.a_copying_fit_leaves_a_lawful_memory.Goals as goal

pub returns : goal.returns
returns c = copied_laid
