use Rattle.std.proofs.Common.{◌≡◌, ◌*◌, ◌<◌, ap, arith, length, sym, subst}
use Rattle.clr_bgmark.specs.Shades.{BackgroundView, IsAt, IsWatched, with_marked}
use Rattle.clr_bgmark.proofs.Kept.{marked_background}
use Rattle.clr_bgmark.proofs.Watched.{more_here, more_kept, no_segment, watched_at}
use Rattle.clr_bgmark.proofs.background.Background.meet_within.Goals as goal

pub add-requires-clause-room : goal.add-requires-clause-room
add-requires-clause-room c =
    let inside = c.requires.within in
    let same = ap (λ (v : BackgroundView). length v.shades) c.self.view_is in
    let room = c.self.invariant.room in
    omega (arith, inside, same, room)

pub add-requires-clause-few : goal.add-requires-clause-few
add-requires-clause-few c =
    let inside = c.requires.within in
    let same = ap (λ (v : BackgroundView). length v.shades) c.self.view_is in
    let ok = c.self.inside.shades.ok in
    let small = c.self.inside.shades.small in
    omega (arith, inside, same, ok, small)

pub invariant_of-self : goal.invariant_of-self
invariant_of-self c =
    let ss = c.self.inside.shades.items in
    let k = c.args.k in
    let target = c.args.target in
    let old = c.self.inside.pending.numbers in
    let new = c.add.new.self.numbers in
    let more = c.add.ensures.numbers in
    subst (λ ts. IsWatched ts new) (sym c.in-White.ensures.shades)
    (watched_at ss old new k target (with_marked target) no_segment c.self.invariant
    (subst (λ (v : BackgroundView). IsAt v.shades k target) (sym c.self.view_is) c.requires.at)
    (marked_background ss target c.self.invariant.background) c.add.ensures.length (more_kept old k new more)
    (more_here old k new more))
