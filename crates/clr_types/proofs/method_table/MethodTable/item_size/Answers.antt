use Rattle.std.proofs.Common.{◌≤◌, ◌+◌, ◌*◌, ◌/◌, refl, inl, inr}
use Rattle.std.proofs.lemmas.Bool.{cases_lt}
use Rattle.clr_types.proofs.Sizes.{sized, largest}
use Rattle.clr_types.specs.Kept.{form_of_pattern}
use Rattle.clr_types.specs.Types.{size_of}
use Rattle.clr_types.proofs.method_table.MethodTable.item_size.Goals as goal

pub returns : goal.returns
returns c =
    let table = c.self.inside in
    let form = form_of_pattern table.pattern in
    let size = (table.base_size + table.element_size * c.min-counted.result + 7) / 8 * 8 in
    let fits : size_of form c.args.len ≤ largest = rw (← c.self.view_is) at c.requires in
    let both = sized form table.finalizer c.args.len table.base_size table.element_size c.min-counted.result size
    c.self.invariant.lawful c.self.invariant.base c.self.invariant.element c.min-counted.ensures refl in
    rw (← c.self.view_is) (elim (cases_lt largest size) [
      | inl above ↦ absurd (both.1 above fits)
      | inr within ↦ (both.0 within).1
    ])
