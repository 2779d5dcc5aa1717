use Rattle.std.proofs.Common.{length, arith, ap, ◌∙◌, sym}
use Rattle.clr_types.specs.Table.{Described}
use Rattle.clr_types.proofs.TableRows.{rows_count, form_of_number, finalizer_of_number}
use Rattle.clr_types.proofs.table.Types.table.Goals as goal

pub index-requires : goal.index-requires
index-requires c =
    let count = rows_count c.self.invariant in
    let view = ap length c.self.view_is in
    omega (arith, count, view, c.self.inside.tables.ok)

pub returns-clause-form : goal.returns-clause-form
returns-clause-form c =
    rw (← c.self.view_is) (ap (λ (table : Described). table.form) c.index.ensures
    ∙ sym (form_of_number c.self.invariant c.args.t.0 c.index.result.now (rw c.self.view_is c.requires)))

pub returns-clause-finalizer : goal.returns-clause-finalizer
returns-clause-finalizer c =
    rw (← c.self.view_is) (ap (λ (table : Described). table.finalizer) c.index.ensures
    ∙ sym (finalizer_of_number c.self.invariant c.args.t.0 c.index.result.now (rw c.self.view_is c.requires)))
