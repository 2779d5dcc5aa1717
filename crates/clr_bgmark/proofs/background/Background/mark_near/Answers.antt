use Rattle.std.proofs.Common.{◌≡◌, ◌*◌, ◌<◌, ap, arith, sym, subst, ◌∙◌, length}
use Rattle.clr_bgmark.specs.Shades.{BackgroundView, changed_at, is_covered, IsWatched, with_marked}
use Rattle.clr_bgmark.proofs.Kept.{marked_background}
use Rattle.clr_bgmark.proofs.Lookups.{none_changed}
use Rattle.clr_bgmark.proofs.Watched.{more_here, more_kept, no_segment, watched_at}
use Rattle.clr_bgmark.proofs.background.Background.mark_near.Goals as goal

pub find_near-requires : goal.find_near-requires
find_near-requires c = c.self.invariant.background

pub add-requires-clause-room : goal.add-requires-clause-room
add-requires-clause-room c =
    let inside = c.in-Some.ensures.within in
    let room = c.self.invariant.room in
    omega (arith, inside, room)

pub add-requires-clause-few : goal.add-requires-clause-few
add-requires-clause-few c =
    let inside = c.in-Some.ensures.within in
    let ok = c.self.inside.shades.ok in
    let small = c.self.inside.shades.small in
    omega (arith, inside, ok, small)

pub invariant_of-self : goal.invariant_of-self
invariant_of-self c =
    let ss = c.self.inside.shades.items in
    let k = c.in-Some.k in
    let obj = c.args.obj in
    let old = c.self.inside.pending.numbers in
    let new = c.add.new.self.numbers in
    let more = c.add.ensures.numbers in
    subst (λ ts. IsWatched ts new) (sym c.set_bit_in.ensures)
    (watched_at ss old new k obj (with_marked obj) no_segment c.self.invariant c.in-Some.ensures.at
    (marked_background ss obj c.self.invariant.background) c.add.ensures.length (more_kept old k new more)
    (more_here old k new more))

pub returns-in-Some : goal.returns-in-Some
returns-in-Some c =
    (λ i. record {
      running = c.self.inside.running;
      parts = c.self.inside.parts.items;
      fronts = c.self.inside.fronts.items;
      shades = c.set_bit_in.ensures i;
      gray = c.self.inside.gray;
    })
    ∙ ap (λ (v : BackgroundView). record v { shades = changed_at c.args.obj (with_marked c.args.obj) v.shades })
    c.self.view_is

pub returns-in-None : goal.returns-in-None
returns-in-None c =
    let v = c.args.self.now in
    let none = ap (λ (v : BackgroundView). is_covered v.shades c.args.obj) (sym c.self.view_is)
    ∙ c.in-None.ensures.none in
    ap (λ ss. record v { shades = ss }) (sym (none_changed (with_marked c.args.obj) v.shades c.args.obj none))
