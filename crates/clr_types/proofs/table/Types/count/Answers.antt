use Rattle.std.proofs.Common.{length, arith, ap}
use Rattle.clr_types.proofs.TableRows.{rows_count}
use Rattle.clr_types.proofs.table.Types.count.Goals as goal

pub returns-clause-value : goal.returns-clause-value
returns-clause-value c =
    let count = rows_count c.self.invariant in
    let view = ap length c.self.view_is in
    omega (arith, count, view, c.len.ensures, c.self.inside.tables.ok)

pub returns-clause-few : goal.returns-clause-few
returns-clause-few c =
    let count = rows_count c.self.invariant in
    let view = ap length c.self.view_is in
    omega (arith, count, view, c.self.invariant.few)
