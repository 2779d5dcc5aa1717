use Rattle.std.proofs.Common.{ap, ◌∙◌, set}
use Rattle.clr_bgmark.specs.Shades.{ShadeView, covers, with_set}
use Rattle.clr_bgmark.proofs.Lookups.{at_covers, at_changed}
use Rattle.clr_bgmark.proofs.shades.set_bit_in.Goals as goal

pub set_bit-requires : goal.set_bit-requires
set_bit-requires c =
    ap (λ (s : ShadeView). covers s c.args.a) c.index_mut-shade.ensures.value
    ∙ at_covers c.args.shades.now.items c.args.k c.args.a c.index_mut-shade.result.now c.requires.at

pub returns : goal.returns
returns c =
    let ss = c.args.shades.now.items in
    let bit = c.args.bit in
    ap (λ (s : ShadeView). set ss c.args.k s)
    (c.set_bit.ensures ∙ ap (λ (s : ShadeView). with_set bit c.args.a s) c.index_mut-shade.ensures.value)
    ∙ at_changed (with_set bit c.args.a) ss c.args.k c.args.a c.index_mut-shade.result.now c.requires.at
