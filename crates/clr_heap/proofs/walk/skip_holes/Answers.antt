use Rattle.std.proofs.Common.{sym, ◌∙◌, arith}
use Rattle.clr_heap.specs.View.{sight}
use Rattle.clr_heap.proofs.Walking.{walk_hole}
use Rattle.clr_heap.proofs.walk.skip_holes.Goals as goal

pub loop-place-preserved : goal.loop-place-preserved
loop-place-preserved c =
    let step = walk_hole (sight c.args.types.now c.args.heap.now c.args.k) c.args.heap.now.memories c.loop-place.place
    c.in-Some.high c.args.end c.loop-place.invariant.walk c.loop-place-test.true
    (sym c.hole_end.ensures ∙ c.in-Some.is) in
    let up = c.loop-place.invariant.up in
    let higher = step.higher in
    record {
      walk = step.walk;
      same = sym step.items ∙ c.loop-place.invariant.same;
      up = omega (arith, up, higher);
    }

pub loop-place-smaller : goal.loop-place-smaller
loop-place-smaller c =
    let step = walk_hole (sight c.args.types.now c.args.heap.now c.args.k) c.args.heap.now.memories c.loop-place.place
    c.in-Some.high c.args.end c.loop-place.invariant.walk c.loop-place-test.true
    (sym c.hole_end.ensures ∙ c.in-Some.is) in
    omega arith
