-- What stands from a place on begins with its digit.
use Rattle.std.proofs.Common.{◌≡◌, ◌<◌, ◌∙◌, ◌+◌, ◌∷◌, ℕ, ap, arith, drop, get_or, refl}
use Rattle.clr_script.proofs.Places.{one_byte}
use Rattle.clr_script.proofs.quick.places.digit_at.Goals as goal

pub returns : goal.returns
returns c low =
    let text = c.args.text.now in
    let at = c.args.at in
    let value = c.from.ensures in
    let byte : get_or text at 0 < 256 = (c.type_inv.text at).fits in
    let back : get_or text at 0 ≡ 48 + c.from.result = omega (arith, low, value, byte) in
    one_byte text at (at + 1) refl c.requires ∙ ap (λ (n : ℕ). n ∷ drop (at + 1) text) back
