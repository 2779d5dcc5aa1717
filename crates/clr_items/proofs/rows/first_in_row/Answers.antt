use Rattle.std.proofs.Common.{sym, ◌∙◌}
use Rattle.clr_items.proofs.StretchRows.{found-first, found-later}
use Rattle.clr_items.proofs.rows.first_in_row.Goals as goal

pub returns-then-is_some : goal.returns-then-is_some
returns-then-is_some c =
    sym (found-first c.args.size c.args.row.now c.loop-stretch.stretch-index c.stretch-item.result
    c.first_in-found.result c.loop-stretch-test.true c.stretch-item.is c.first_in-found.ensures
    (sym c.is_some.ensures ∙ c.if-is_some.true))
    ∙ c.loop-stretch.invariant

pub loop-stretch-preserved : goal.loop-stretch-preserved
loop-stretch-preserved c =
    found-later c.args.size c.args.row.now c.loop-stretch.stretch-index c.stretch-item.result
    c.first_in-found.result c.loop-stretch-test.true c.stretch-item.is c.first_in-found.ensures
    (sym c.is_some.ensures ∙ c.if-is_some.false)
    ∙ c.loop-stretch.invariant
