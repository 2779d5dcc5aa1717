use Rattle.std.proofs.Common.{◌/◌, ◌&&◌, ◌||◌, nat_eq, sym, ap, ◌∙◌, subst}
use Rattle.clr_bgmark.specs.Shades.{BackgroundView, colour_at, is_covered, is_logged, IsWatched}
use Rattle.clr_bgmark.proofs.Kept.{logged_colours, logged_or_not}
use Rattle.clr_bgmark.proofs.Watched.{watched_logged}
use Rattle.clr_bgmark.proofs.background.Background.wrote.Goals as goal

pub set_bit_near-near-requires : goal.set_bit_near-near-requires
set_bit_near-near-requires c = c.self.invariant.background

pub invariant_of-self : goal.invariant_of-self
invariant_of-self c =
    subst (λ ss. IsWatched ss c.self.inside.pending.numbers) (sym c.set_bit_near-near.ensures)
    (watched_logged c.self.inside.shades.items c.self.inside.pending.numbers c.args.slot c.self.invariant)

pub returns-clause-log : goal.returns-clause-log
returns-clause-log c a =
    ap (λ ss. is_logged ss a) c.set_bit_near-near.ensures
    ∙ logged_or_not c.self.inside.shades.items c.args.slot c.self.invariant.background.shades a
    ∙ ap (λ (v : BackgroundView). (is_covered v.shades c.args.slot && nat_eq (a / 2048) (c.args.slot / 2048))
    || is_logged v.shades a) c.self.view_is

pub returns-clause-colours : goal.returns-clause-colours
returns-clause-colours c a =
    ap (λ ss. colour_at ss a) c.set_bit_near-near.ensures
    ∙ logged_colours c.self.inside.shades.items c.args.slot a
    ∙ ap (λ (v : BackgroundView). colour_at v.shades a) c.self.view_is
