use Rattle.std.proofs.Common.{sym, ap, ◌∙◌}
use Rattle.clr_bgmark.specs.Bits.{has_bit}
use Rattle.clr_bgmark.specs.Shades.{ShadeView, card_of, covers}
use Rattle.clr_bgmark.proofs.Lookups.{at_covers, at_told}
use Rattle.clr_bgmark.proofs.shades.logged_in.Goals as goal

pub is_logged-requires : goal.is_logged-requires
is_logged-requires c =
    ap (λ (s : ShadeView). covers s c.args.a) c.index.ensures
    ∙ at_covers c.args.shades.now.items c.args.k c.args.a c.index.result.now c.requires.at

pub returns : goal.returns
returns c =
    c.is_logged.ensures
    ∙ ap (λ (s : ShadeView). has_bit s.logged (card_of s c.args.a)) c.index.ensures
    ∙ sym (at_told (λ s a. has_bit s.logged (card_of s a)) c.args.shades.now.items c.args.k c.args.a
    c.index.result.now c.requires.at)
