use Rattle.std.proofs.Common.{◌≡◌, ◌/◌, nat_lt, false, get_or, sym, ◌∙◌, arith}
use Rattle.std.proofs.lemmas.List.{get_or_past, get_or_read}
use Rattle.clr_sos.proofs.StartBits.{bit_clear, bit_read}
use Rattle.clr_load.proofs.starts.has_bit.Goals as goal

pub returns-then-i-len : goal.returns-then-i-len
returns-then-i-len c =
    let e : c.index.result.now ≡ get_or c.args.bits.now.items (c.args.i / 64) 0 =
    get_or_read c.args.bits.now.items _ _ (omega arith) c.index.ensures 0 in
    rw e (bit_read c.args.bits.now.items c.args.i)

pub returns-else-i-len : goal.returns-else-i-len
returns-else-i-len c =
    let past = c.if-i-len.false in
    let off : nat_lt (c.args.i / 64) c.len.result ≡ false = grind (arith, past) in
    off ∙ sym (bit_clear c.args.bits.now.items c.args.i
    (get_or_past c.args.bits.now.items (c.args.i / 64) 0 (omega (arith, past, c.len.ensures))))
