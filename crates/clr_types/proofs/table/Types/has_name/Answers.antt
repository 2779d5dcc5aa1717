use Rattle.std.proofs.Common.{◌∙◌, sym, arith}
use Rattle.clr_types.proofs.NameLists.{number-has_name}
use Rattle.clr_types.proofs.TableRows.{name_of_number, number_by_name, rows_count}
use Rattle.clr_types.proofs.table.Types.has_name.Goals as goal

pub returns-clause-named : goal.returns-clause-named
returns-clause-named c =
    let found = number_by_name c.self.invariant c.args.name.now in
    rw (← c.self.view_is) (
      λ yes. found ∙ c.is_name.ensures.value.0 yes,
      λ number. c.is_name.ensures.value.1 (sym found ∙ number),
    )

pub returns-clause-name : goal.returns-clause-name
returns-clause-name c = λ same.
    let table = c.self.invariant in
    let count = rows_count table in
    let together = table.together in
    let has = number-has_name c.self.inside.names c.args.t.0 c.args.name.now (c.is_name.ensures.value.0 same) in
    let below = has.0 in
    rw (← c.self.view_is) (name_of_number table c.args.t.0 (omega (arith, count, together, below)) ∙ has.1)

pub returns-clause-known : goal.returns-clause-known
returns-clause-known c = λ same.
    let table = c.self.invariant in
    let count = rows_count table in
    let together = table.together in
    let below = c.is_name.ensures.below same in
    rw (← c.self.view_is) (omega (arith, count, together, below))
