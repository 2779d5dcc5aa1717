use Rattle.std.proofs.Common.{refl, ◌∙◌, ◌<◌, ◌*◌, ◌^◌, arith, length}
use Rattle.clr_bgmark.specs.Shades.{BackgroundView}
use Rattle.clr_bgmark.proofs.Watched.{more_here, more_kept, watched_changed}
use Rattle.clr_bgmark.proofs.background.Background.meet_stretch.Goals as goal

pub add-requires-clause-room : goal.add-requires-clause-room
add-requires-clause-room c =
    let inside = c.if-near-len.false in
    let len = c.len.ensures in
    let ok = c.self.inside.shades.ok in
    let room = c.self.invariant.room in
    omega (arith, inside, len, ok, room)

pub add-requires-clause-few : goal.add-requires-clause-few
add-requires-clause-few c =
    let inside = c.if-near-len.false in
    let len = c.len.ensures in
    let ok = c.self.inside.shades.ok in
    let small = c.self.inside.shades.small in
    omega (arith, inside, len, ok, small)

pub invariant_of-self : goal.invariant_of-self
invariant_of-self c =
    let met = c.meet_near-stop.ensures in
    let old = c.self.inside.pending.numbers in
    let new = c.add.new.self.numbers in
    let more = c.add.ensures.numbers in
    watched_changed c.self.inside.shades.items c.meet_near-stop.new.shades.items old new c.args.near c.self.invariant
    (met.background c.self.invariant.background) met.length met.others c.add.ensures.length
    (more_kept old c.args.near new more) (more_here old c.args.near new more)

pub returns-then-near-len-clause-met : goal.returns-then-near-len-clause-met
returns-then-near-len-clause-met c first e = e

pub returns-clause-met : goal.returns-clause-met
returns-clause-met c first e =
    let v : BackgroundView = record {
      running = c.self.inside.running;
      parts = c.self.inside.parts.items;
      fronts = c.self.inside.fronts.items;
      shades = c.self.inside.shades.items;
      gray = c.self.inside.gray;
    } in
    let fits : c.self.inside.gray < 2 ^ 64 = omega arith in
    (λ i. record {
      running = c.self.inside.running;
      parts = c.self.inside.parts.items;
      fronts = c.self.inside.fronts.items;
      shades = c.meet_near-stop.new.shades.items;
      gray = c.saturating_add-self-inside.ensures i;
    })
    ∙ c.meet_near-stop.ensures.met first v refl c.self.invariant.background fits (c.self.view_is ∙ e)
