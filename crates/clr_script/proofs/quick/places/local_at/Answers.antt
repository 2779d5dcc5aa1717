-- A space and the letter of locals stand before the number.
use Rattle.std.proofs.Common.{◌+◌, [], ◌∷◌, arith}
use Rattle.clr_script.proofs.Places.{word_told}
use Rattle.clr_script.proofs.quick.places.local_at.Goals as goal

pub returns-then-two_bytes-eq-LOCAL-clause-read : goal.returns-then-two_bytes-eq-LOCAL-clause-read
returns-then-two_bytes-eq-LOCAL-clause-read c =
    let same = c.if-two_bytes-eq-LOCAL.true in
    word_told c.args.text.now c.args.at (c.args.at + 2) (32 ∷ 108 ∷ []) c.short_number.result
    (c.two_bytes.ensures 32 108 (omega arith) (omega arith) (omega (arith, same))) c.short_number.ensures.read
