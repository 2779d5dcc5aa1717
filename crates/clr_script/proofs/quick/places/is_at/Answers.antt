-- What stands from a place on begins with its byte.
use Rattle.std.proofs.Common.{◌∙◌, ◌+◌, ◌∷◌, ℕ, ap, drop, refl}
use Rattle.std.proofs.lemmas.Bool.{eqb-true}
use Rattle.clr_script.proofs.Places.{one_byte}
use Rattle.clr_script.proofs.quick.places.is_at.Goals as goal

pub returns : goal.returns
returns c same =
    one_byte c.args.text.now c.args.at (c.args.at + 1) refl c.requires
    ∙ ap (λ (n : ℕ). n ∷ drop (c.args.at + 1) c.args.text.now) (eqb-true _ _ same)
