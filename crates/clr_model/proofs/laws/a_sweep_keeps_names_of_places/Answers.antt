-- No object moves.
use Rattle.clr_model.proofs.CollectFollows.{after_sweep_is_sound}
use Rattle.clr_model.proofs.laws.a_sweep_keeps_names_of_places.Goals as goal

pub returns : goal.returns
returns c = λ m g answer new named idle least unslid collected. after_sweep_is_sound m named idle g least unslid answer
    new collected
