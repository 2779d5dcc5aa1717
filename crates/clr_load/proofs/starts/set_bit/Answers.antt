use Rattle.std.proofs.Common.{◌≡◌, ◌/◌, get_or}
use Rattle.std.proofs.lemmas.List.{get_or_read}
use Rattle.clr_sos.proofs.StartBits.{bit_set}
use Rattle.clr_load.proofs.starts.set_bit.Goals as goal

pub returns-clause-bits : goal.returns-clause-bits
returns-clause-bits c j =
    let e : c.index_mut.result.now ≡ get_or c.args.bits.now.items (c.args.i / 64) 0 =
    get_or_read c.args.bits.now.items _ _ c.requires c.index_mut.ensures.value 0 in
    rw e (bit_set c.args.bits.now.items c.args.i j c.requires)
