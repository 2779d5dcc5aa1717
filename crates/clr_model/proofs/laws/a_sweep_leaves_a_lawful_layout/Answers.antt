use Rattle.clr_model.proofs.LayoutLaws.{sweep_lawful}
use Rattle.clr_model.proofs.laws.a_sweep_leaves_a_lawful_layout.Goals as goal

pub returns : goal.returns
returns c m g kept laid least = sweep_lawful m laid g least kept
