use Rattle.std.proofs.Common.{ℕ, ◌∙◌, sym, ap}
use Rattle.std.specs.Option.{option_map}
use Rattle.clr_types.specs.declared.TypeId.{TypeId}
use Rattle.clr_types.proofs.TableRows.{number_by_name}
use Rattle.clr_types.proofs.table.Types.by_name.Goals as goal

pub returns-in_err-number : goal.returns-in_err-number
returns-in_err-number c =
    let found = number_by_name c.self.invariant c.args.name.now in
    let number : TypeId → ℕ = λ t. t.0 in
    rw (← c.self.view_is) (ap (option_map number) c.from_residual.ensures
    ∙ (sym c.in_err-number.was ∙ (c.number.ensures.value ∙ sym found)))

pub returns : goal.returns
returns c =
    let found = number_by_name c.self.invariant c.args.name.now in
    rw (← c.self.view_is) (sym c.in_ok-number.was ∙ (c.number.ensures.value ∙ sym found))
