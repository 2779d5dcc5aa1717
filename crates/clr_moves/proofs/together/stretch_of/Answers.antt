use Rattle.std.proofs.Common.{ap, ◌∙◌, refl, rules}
use Rattle.std.specs.Int.{w64}
use Rattle.std.specs.Prelude.{unsigned_abs}
use mir.Val.{SFits}
use Rattle.std.proofs.lemmas.Int.{to_z-of_z}
use Rattle.clr_moves.proofs.Stretches.{used_stretch}
use Rattle.clr_moves.proofs.together.stretch_of.Goals as goal

pub returns-in-Some : goal.returns-in-Some
returns-in-Some c rows view bricks entries g vs start1 start0 plan is =
    let fits : SFits w64 c.in-Some.plug.distance = search rules in
    let abs = c.unsigned_abs.ensures.value ∙ ap unsigned_abs (to_z-of_z w64 c.in-Some.plug.distance fits) in
    used_stretch rows view c.args.heap.now bricks entries g vs start1 start0 c.lawful.ensures plan
    c.args.search.segment c.args.search.place (is.used c.in-Some.ensures.begun) c.in-Some.plug
    (λ part planned low high. c.in-Some.ensures.found bricks part is.searching planned low high) _ refl refl abs
