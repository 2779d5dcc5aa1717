use Rattle.std.proofs.Common.{ap, arith, is_some, sym, ◌∙◌}
use Rattle.clr_heap.specs.View.{holes_of}
use Rattle.clr_sos.proofs.HoleStarts.{next_above, next_here}
use Rattle.clr_sos.proofs.verify.segments.first_hole.Goals as goal

pub returns-in-Some : goal.returns-in-Some
returns-in-Some c =
    next_here (holes_of c.args.heap.now c.args.k) c.args.place
    (ap is_some (sym c.hole_end.ensures ∙ c.in-Some.is))

pub returns-in-None : goal.returns-in-None
returns-in-None c =
    let small = c.requires.small in
    let next = c.next_hole.ensures in
    next_above (holes_of c.args.heap.now c.args.k) c.args.place c.next_hole.result
    (sym c.hole_end.ensures ∙ c.in-None.is)
    next.none_before (next.ahead (omega arith)) next.starts
