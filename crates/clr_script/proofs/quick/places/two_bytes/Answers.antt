-- The number tells both bytes.
use Rattle.std.proofs.Common.{◌<◌, ◌+◌, arith, get_or}
use Rattle.clr_script.proofs.Places.{two_known}
use Rattle.clr_script.proofs.quick.places.two_bytes.Goals as goal

pub returns : goal.returns
returns c a b low high is =
    let text = c.args.text.now in
    let at = c.args.at in
    let told = c.from_le_bytes.ensures in
    let first : get_or text at 0 < 256 = (c.type_inv.text at).fits in
    let second : get_or text (at + 1) 0 < 256 = (c.type_inv.text (at + 1)).fits in
    two_known text at a b c.requires (omega (arith, told, is, low, high, first, second))
    (omega (arith, told, is, low, high, first, second))
