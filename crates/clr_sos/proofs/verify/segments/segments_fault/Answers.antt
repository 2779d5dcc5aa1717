use Rattle.std.proofs.Common.{ℕ, ◌+◌, ◌-◌, length, Option, sym, ◌∙◌, ap, arith}
use Rattle.clr_sos.specs.CheckedCells.{or_else}
use Rattle.clr_sos.specs.Faults.{segments_fault}
use Rattle.clr_sos.proofs.ScanSteps.{segments_done, segments_step}
use Rattle.clr_sos.proofs.verify.segments.segments_fault.Goals as goal

pub returns-in-Some-clause-fault : goal.returns-in-Some-clause-fault
returns-in-Some-clause-fault c =
    let rows = c.args.types.now in
    let large = c.args.large in
    let h = c.args.heap.now in
    let k = c.loop-k.k in
    let rest = segments_fault rows large h (k + 1) (length h.segments - (k + 1)) in
    ap (λ (o : Option ℕ). or_else o rest) (sym c.in-Some.is ∙ c.segment_fault.ensures)
    ∙ sym (segments_step rows large h k (length h.segments) (omega arith)) ∙ c.loop-k.invariant

pub loop-k-preserved : goal.loop-k-preserved
loop-k-preserved c =
    let rows = c.args.types.now in
    let large = c.args.large in
    let h = c.args.heap.now in
    let k = c.loop-k.k in
    let rest = segments_fault rows large h (k + 1) (length h.segments - (k + 1)) in
    ap (λ (o : Option ℕ). or_else o rest) (sym c.in-None.is ∙ c.segment_fault.ensures)
    ∙ sym (segments_step rows large h k (length h.segments) (omega arith)) ∙ c.loop-k.invariant

pub returns-clause-fault : goal.returns-clause-fault
returns-clause-fault c =
    let h = c.args.heap.now in
    sym (segments_done c.args.types.now c.args.large h c.loop-k.k (length h.segments) (omega arith))
    ∙ c.loop-k.invariant
