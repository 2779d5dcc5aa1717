-- One bit of one word is set.
use Rattle.std.proofs.Common.{◌≡◌, ◌/◌, ◌%◌, ◌*◌, ◌^◌, ◌∙◌, ℕ, List, ap, bit_or, length, length-set}
use Rattle.clr_sos.proofs.Bits.{bit_more}
use Rattle.clr_sos.proofs.reach.bits.Bits.add.Goals as goal

pub returns-clause-added : goal.returns-clause-added
returns-clause-added c i =
    bit_more c.args.self.now c.args.n c.word-word.result c.set_word.new.self c.requires.room c.word-word.ensures
    c.set_word.ensures i

pub returns-clause-room : goal.returns-clause-room
returns-clause-room c =
    let n = c.args.n in
    ap (λ (ws : List ℕ). length ws) c.set_word.ensures
    ∙ length-set c.args.self.now (n / 64) (bit_or c.word-word.result (1 * 2 ^ (n % 64) % 2 ^ 64))
