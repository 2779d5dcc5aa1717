use Rattle.std.proofs.Common.{◌≡◌, length, refl, arith}
use Rattle.clr_types.specs.Types.{class_form, references_form, bytes_form, structs_form}
use Rattle.clr_types.proofs.SlotKinds.{class_kind, reference_kind, byte_kind, struct_kind, struct_slot_low, some_slots}
use Rattle.clr_types.proofs.method_table.MethodTable.slot.Goals as goal

pub overflow_mul-result-in-StructArray : goal.overflow_mul-result-in-StructArray
overflow_mul-result-in-StructArray c =
    let form : c.args.self.now.form
    ≡ structs_form c.in-StructArray.pattern.items = rw (← c.self.view_is, c.in-StructArray.is) refl in
    let low = struct_slot_low _ _ c.args.len c.args.i form c.requires.size c.requires.below in
    grind (arith, low)

pub overflow_add-result-in-StructArray : goal.overflow_add-result-in-StructArray
overflow_add-result-in-StructArray c =
    let form : c.args.self.now.form
    ≡ structs_form c.in-StructArray.pattern.items = rw (← c.self.view_is, c.in-StructArray.is) refl in
    let low = struct_slot_low _ _ c.args.len c.args.i form c.requires.size c.requires.below in
    grind (arith, low)

pub returns-in-Class-clause-reference : goal.returns-in-Class-clause-reference
returns-in-Class-clause-reference c =
    let form : c.args.self.now.form ≡ class_form c.in-Class.pattern.items = rw (← c.self.view_is, c.in-Class.is) refl in
    class_kind _ _ c.args.len c.args.i c.index.result.now form c.requires.below c.index.ensures

pub returns-in-RefArray-clause-reference : goal.returns-in-RefArray-clause-reference
returns-in-RefArray-clause-reference c =
    let form : c.args.self.now.form ≡ references_form = rw (← c.self.view_is, c.in-RefArray.is) refl in
    reference_kind _ c.args.len c.args.i form c.requires.below

pub returns-in-ByteArray-clause-reference : goal.returns-in-ByteArray-clause-reference
returns-in-ByteArray-clause-reference c =
    let form : c.args.self.now.form ≡ bytes_form = rw (← c.self.view_is, c.in-ByteArray.is) refl in
    byte_kind _ c.args.len c.args.i form c.requires.below

pub returns-in-StructArray-clause-reference : goal.returns-in-StructArray-clause-reference
returns-in-StructArray-clause-reference c =
    let form : c.args.self.now.form
    ≡ structs_form c.in-StructArray.pattern.items = rw (← c.self.view_is, c.in-StructArray.is) refl in
    let lawful = rw c.in-StructArray.is at c.self.invariant.lawful in
    let whole : c.len.result ≡ length c.in-StructArray.pattern.items =
    omega (arith, c.len.ensures, c.in-StructArray.pattern.ok) in
    struct_kind _ _ c.args.len c.args.i c.index-in-StructArray.result.now form (some_slots _ _ lawful) c.requires.below
    (rw whole at c.index-in-StructArray.ensures)
