use Rattle.std.proofs.Common.{sym, ap, ◌∙◌}
use Rattle.clr_bgmark.specs.Bits.{has_bit}
use Rattle.clr_bgmark.specs.Shades.{BackgroundView, card_of, is_logged}
use Rattle.clr_bgmark.proofs.Lookups.{none_told}
use Rattle.clr_bgmark.proofs.background.Background.logged.Goals as goal

pub returns-in-None : goal.returns-in-None
returns-in-None c =
    sym (none_told (λ s a. has_bit s.logged (card_of s a)) c.self.inside.shades.items c.args.slot
    c.in-None.ensures.none)
    ∙ ap (λ (v : BackgroundView). is_logged v.shades c.args.slot) c.self.view_is

pub find-requires : goal.find-requires
find-requires c = c.self.invariant.background
