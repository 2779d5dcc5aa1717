use Rattle.clr_model.proofs.SeenStands.{sound_stands}
use Rattle.clr_model.proofs.laws.a_lawful_picture_is_stood_for.Goals as goal

pub returns : goal.returns
returns c = sound_stands
