use Rattle.std.proofs.Common.{◌<◌, [], length, subst}
use Rattle.clr_bgmark.specs.Shades.{BackgroundView, IsAt, ShadeView}
use Rattle.clr_bgmark.proofs.GrayPlaces.{apart_at}
use Rattle.clr_bgmark.proofs.background.Background.meet.Goals as goal

none : ShadeView
none = record { base = 0; size = 0; taken = []; marked = []; scanned = []; logged = [] }

pub meet_within-requires-clause-within : goal.meet_within-requires-clause-within
meet_within-requires-clause-within c =
    subst (λ (v : BackgroundView). c.args.near < length v.shades) c.self.view_is
    (c.is_in.ensures c.if-is_in.true none).0

pub meet_within-requires-clause-at : goal.meet_within-requires-clause-at
meet_within-requires-clause-at c =
    let there = c.is_in.ensures c.if-is_in.true none in
    subst (λ (v : BackgroundView). IsAt v.shades c.args.near c.args.target) c.self.view_is
    (apart_at c.self.inside.shades.items c.args.near c.args.target none c.self.invariant.background.apart there.0 there.1)
