use Rattle.std.proofs.Common.{◌-◌, get_or, ap, sym, ◌∙◌}
use Rattle.clr_covers.specs.Covers.{CoverView}
use Rattle.clr_covers.proofs.Values.{value_in}
use Rattle.clr_covers.proofs.covers.value_in.Goals as goal

pub returns : goal.returns
returns g c d =
    let cs = c.args.covers.now.items in
    let m = c.index-cover.result.now in
    let at = c.requires.at in
    c.get.ensures d ∙ ap (λ (n : CoverView _). get_or n.values (c.args.i - n.first) d) c.index-cover.ensures
    ∙ sym (value_in cs c.args.k c.args.i m d c.requires.apart at.in_range (at.here m))
