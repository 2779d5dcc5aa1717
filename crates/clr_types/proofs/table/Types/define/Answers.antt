use Rattle.std.proofs.Common.{◌≡◌, ◌∙◌, sym, ap, arith, length, refl, true, None}
use Rattle.clr_types.specs.Table.{name_number, row_of}
use Rattle.clr_types.specs.Types.{is_lawful_form, form_of}
use Rattle.clr_types.proofs.TableRows.{rows_count, number_by_name, rows_defined, table_defined}
use Rattle.clr_types.proofs.Refusals.{no_refusal, too_many_cause}
use Rattle.clr_types.proofs.table.Types.define.Goals as goal

pub returns-in-Some-clause-too_many : goal.returns-in-Some-clause-too_many
returns-in-Some-clause-too_many c =
    let count = rows_count c.self.invariant in
    let view = ap length c.self.view_is in
    too_many_cause _ _ _ c.in-Some.fault (sym c.in-Some.is ∙ c.refusal.ensures)
    (omega (arith, count, view, c.self.invariant.few))

pub add-requires : goal.add-requires
add-requires c =
    let found = number_by_name c.self.invariant c.args.name.now in
    let free = no_refusal _ _ _ (sym c.in_default.is ∙ c.refusal.ensures) in
    sym found ∙ (rw c.self.view_is free.0)

pub invariant_of-self-2 : goal.invariant_of-self-2
invariant_of-self-2 c =
    let name = c.args.name.now in
    let made = c.in_ok-table.table in
    let found = number_by_name c.self.invariant name in
    let free = no_refusal _ _ _ (sym c.in_default.is ∙ c.refusal.ensures) in
    let absent : name_number 0 c.self.inside.names name ≡ None = sym found ∙ (rw c.self.view_is free.0) in
    let lawful : is_lawful_form made.form made.finalizer ≡ true = rw c.in_ok-table.ensures free.1 in
    let view = ap length c.self.view_is in
    let room = free.2 in
    rw (c.in_ok-add.ensures.ok, c.push_reserved.ensures.items, c.in_ok-reserve.ensures.items)
    (table_defined c.self.invariant name made absent lawful (omega (arith, view, room)))

pub returns-clause-defined : goal.returns-clause-defined
returns-clause-defined c =
    let made = c.in_ok-table.table in
    let rows = rows_defined c.self.invariant c.args.name.now made in
    let same : row_of c.args.name.now made
    ≡ record { name = c.args.name.now; form = form_of c.args.shape; finalizer = c.args.finalizer } =
    rw c.in_ok-table.ensures refl in
    rw (c.in_ok-add.ensures.ok, c.push_reserved.ensures.items, c.in_ok-reserve.ensures.items, ← c.self.view_is, ← same)
    rows
