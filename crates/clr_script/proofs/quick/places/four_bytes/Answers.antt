-- The number tells all four bytes.
use Rattle.std.proofs.Common.{◌<◌, ◌+◌, arith, get_or}
use Rattle.clr_script.proofs.Places.{first_four, four_known}
use Rattle.clr_script.proofs.quick.places.four_bytes.Goals as goal

pub returns : goal.returns
returns c p q r s p-low q-low r-low s-low is =
    let text = c.args.text.now in
    let at = c.args.at in
    let bytes = first_four text c.in-Some.bytes.now at c.requires c.in-Some.ensures.cases.same in
    let told = rw bytes at c.from_le_bytes.ensures in
    let first : get_or text at 0 < 256 = (c.type_inv.text at).fits in
    let second : get_or text (at + 1) 0 < 256 = (c.type_inv.text (at + 1)).fits in
    let third : get_or text (at + 2) 0 < 256 = (c.type_inv.text (at + 2)).fits in
    let fourth : get_or text (at + 3) 0 < 256 = (c.type_inv.text (at + 3)).fits in
    four_known text at p q r s c.requires
    (omega (arith, told, is, p-low, q-low, r-low, s-low, first, second, third, fourth))
    (omega (arith, told, is, p-low, q-low, r-low, s-low, first, second, third, fourth))
    (omega (arith, told, is, p-low, q-low, r-low, s-low, first, second, third, fourth))
    (omega (arith, told, is, p-low, q-low, r-low, s-low, first, second, third, fourth))
