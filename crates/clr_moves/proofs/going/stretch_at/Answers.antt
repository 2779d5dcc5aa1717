use Rattle.std.proofs.Common.{ap, ◌∙◌, refl, rules}
use Rattle.std.specs.Int.{w64}
use Rattle.std.specs.Prelude.{unsigned_abs}
use mir.Val.{SFits}
use Rattle.std.proofs.lemmas.Int.{to_z-of_z}
use Rattle.clr_moves.proofs.Stretches.{found_stretch}
use Rattle.clr_moves.proofs.going.stretch_at.Goals as goal

pub returns-in-Some : goal.returns-in-Some
returns-in-Some g c part plan low high =
    let fits : SFits w64 c.in-Some.plug.distance = search rules in
    let abs = c.unsigned_abs.ensures.value ∙ ap unsigned_abs (to_z-of_z w64 c.in-Some.plug.distance fits) in
    found_stretch c.args.heap.now c.args.bricks.now part plan c.args.place c.in-Some.plug
    (c.in-Some.ensures.found part plan low high) _ refl refl abs
