use Rattle.std.proofs.Common.{ℕ, ap, arith}
use Rattle.clr_plugs.proofs.StepByStep.{begun, brick_covered, brick_fits}
use Rattle.clr_plugs.proofs.plug_search.PlugSearch.begin.Goals as goal

pub lead-root-requires : goal.lead-root-requires
lead-root-requires c =
    let (i, segment) = c.requires in brick_covered c.args.heap.now c.args.bricks.now c.args.k c.args.place i

pub returns-clause-searching : goal.returns-clause-searching
returns-clause-searching c =
    let (i, segment) = c.requires in
    begun c.args.heap.now c.args.bricks.now c.args.k c.args.place i c.lawful.ensures segment c.lead-root.result.0
    (ap (λ (p : ℕ × ℕ). p.0) c.lead-root.ensures)
