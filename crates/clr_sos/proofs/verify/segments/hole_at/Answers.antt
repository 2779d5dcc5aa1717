use Rattle.std.proofs.Common.{sym, arith}
use Rattle.clr_heap.specs.View.{holes_of}
use Rattle.clr_sos.proofs.HoleStarts.{none_before}
use Rattle.clr_sos.proofs.verify.segments.hole_at.Goals as goal

pub returns-then-place-next : goal.returns-then-place-next
returns-then-place-next c =
    let small = c.requires.small in
    sym (none_before (holes_of c.args.heap.now c.args.k) c.args.place c.args.next c.requires.next c.if-place-next.true
    (omega arith))
