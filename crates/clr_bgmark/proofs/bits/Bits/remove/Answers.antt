use Rattle.std.proofs.Common.{ap, sym, ◌≡◌, ◌∙◌, ◌<◌, ◌*◌, ◌/◌, ◌%◌, ◌^◌, length, arith, not, ◌&&◌, nat_eq, ℕ, get_or}
use Rattle.std.proofs.Common.{bit_and, set, w64}
use Rattle.std.specs.Int.{bit_not}
use Rattle.std.proofs.lemmas.List.{get_or_default}
use Rattle.clr_bgmark.specs.Bits.{has_bit}
use Rattle.clr_bgmark.proofs.MoreBits.{bit_removed}
use Rattle.clr_bgmark.proofs.bits.Bits.remove.Goals as goal

pub returns-clause-bits : goal.returns-clause-bits
returns-clause-bits c i =
    let words = c.self.inside.words.items in
    let n = c.args.n in
    let h = c.index_mut.ensures.value in
    let count = ap length c.self.view_is in
    let room = c.requires.room in
    let inside : n / 64 < length words = omega (arith, room, count) in
    let is : get_or words (n / 64) 0 ≡ c.index_mut.result.now =
    cc (get_or_default words (n / 64) c.index_mut.result.now 0 inside) in
    ap (λ (w : ℕ). has_bit (set words (n / 64) (bit_and w (bit_not w64 (1 * 2 ^ (n % 64) % 2 ^ 64)))) i) (sym is)
    ∙ bit_removed words n (omega (arith, room, count)) i
    ∙ ap (λ ws. not (nat_eq i n) && has_bit ws i) c.self.view_is
