use Rattle.std.proofs.Common.{◌<◌, sym, subst, arith}
use Rattle.clr_evacuate.specs.Fittings.{HasFitting}
use Rattle.clr_evacuate.proofs.FirstFitting.{first-fitting, none-fits}
use Rattle.clr_evacuate.proofs.PassedItems.{side-up}
use Rattle.clr_evacuate.proofs.fittings.next_fitting.Goals as goal

pub returns-then-start-end : goal.returns-then-start-end
returns-then-start-end c =
    none-fits c.args.types.now c.args.heap.now c.args.k c.args.from c.args.end c.past_alike-start.result
    c.past_alike-start.ensures.passed c.if-start-end.true

pub between-requires : goal.between-requires
between-requires c =
    let run = c.past_alike-stop.ensures.passed in
    side-up c.past_alike-start.result c.past_alike-stop.result run.passed run.side_by_side

pub returns : goal.returns
returns c =
    let rows = c.args.types.now in
    let h = c.args.heap.now in
    let below : c.past_alike-start.result < c.args.end = omega (arith, c.if-start-end.false) in
    subst (HasFitting rows h c.args.k c.args.from c.args.end) (sym c.between.ensures)
    (first-fitting rows h c.args.k c.args.from c.past_alike-start.result c.past_alike-stop.result c.args.end
    c.past_alike-start.ensures.passed below (c.past_alike-start.ensures.stops below)
    c.past_alike-stop.ensures.passed c.past_alike-stop.ensures.stops)
