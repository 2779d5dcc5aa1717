use Rattle.clr_types.proofs.Sizes.{sized}
use Rattle.clr_types.specs.Kept.{form_of_pattern}
use Rattle.std.proofs.Common.{refl}
use Rattle.clr_types.proofs.method_table.MethodTable.size.Goals as goal

pub returns-then-size-le-LARGEST_OBJECT : goal.returns-then-size-le-LARGEST_OBJECT
returns-then-size-le-LARGEST_OBJECT c =
    let table = c.self.inside in
    rw (← c.self.view_is) ((sized (form_of_pattern table.pattern) table.finalizer c.args.len table.base_size
    table.element_size c.min-counted.result _ c.self.invariant.lawful c.self.invariant.base c.self.invariant.element
    c.min-counted.ensures refl).0 c.if-size-le-LARGEST_OBJECT.true)

pub returns-else-size-le-LARGEST_OBJECT : goal.returns-else-size-le-LARGEST_OBJECT
returns-else-size-le-LARGEST_OBJECT c =
    let table = c.self.inside in
    rw (← c.self.view_is) ((sized (form_of_pattern table.pattern) table.finalizer c.args.len table.base_size
    table.element_size c.min-counted.result _ c.self.invariant.lawful c.self.invariant.base c.self.invariant.element
    c.min-counted.ensures refl).1 c.if-size-le-LARGEST_OBJECT.false)
