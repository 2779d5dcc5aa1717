use Rattle.std.proofs.Common.{length, arith, ap, ◌∙◌, sym}
use Rattle.clr_types.proofs.TableRows.{rows_count, name_of_number}
use Rattle.clr_types.proofs.table.Types.name.Goals as goal

pub name-requires : goal.name-requires
name-requires c =
    let count = rows_count c.self.invariant in
    let view = ap length c.self.view_is in
    omega (arith, count, view, c.self.invariant.together)

pub returns : goal.returns
returns c = rw (← c.self.view_is)
    (c.name.ensures ∙ sym (name_of_number c.self.invariant c.args.t.0 (rw c.self.view_is c.requires)))
