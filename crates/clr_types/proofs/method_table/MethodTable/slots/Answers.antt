use Rattle.std.proofs.Common.{◌≡◌, refl, ap, ◌∙◌, arith}
use Rattle.clr_types.specs.Types.{structs_form}
use Rattle.clr_types.specs.Kept.{form_of_pattern}
use Rattle.clr_types.proofs.SlotsByForm.{class_in_range, class_offsets, references_offsets, bytes_offsets}
use Rattle.clr_types.proofs.SlotsByForm.{structs_in_range, structs_offsets, struct_near}
use Rattle.clr_types.proofs.method_table.MethodTable.slots.Goals as goal

pub new-requires-clause-runs : goal.new-requires-clause-runs
new-requires-clause-runs c =
    let form = ap form_of_pattern c.in-Class.is in
    let series = c.as_slice-series.ensures ∙ c.self.invariant.series in
    rw series (class_in_range _ c.self.inside.finalizer c.in-Class.field-0.items _ form c.self.invariant.lawful
    c.self.invariant.base)

pub new-requires-in-StructArray-clause-runs : goal.new-requires-in-StructArray-clause-runs
new-requires-in-StructArray-clause-runs c =
    let form = ap form_of_pattern c.in-StructArray.is in
    let series = c.as_slice-series.ensures ∙ c.self.invariant.series in
    let base : c.self.inside.base_size ≡ 24 = rw c.in-StructArray.is at c.self.invariant.base in
    rw series (structs_in_range _ c.self.inside.finalizer c.in-StructArray.field-0.items _ form c.self.invariant.lawful
    (omega (arith, base, c.self.invariant.element)))

pub new-requires-in-StructArray-clause-near : goal.new-requires-in-StructArray-clause-near
new-requires-in-StructArray-clause-near c =
    let form : c.args.self.now.form
    ≡ structs_form c.in-StructArray.field-0.items = rw (← c.self.view_is, c.in-StructArray.is) refl in
    struct_near _ c.in-StructArray.field-0.items c.args.len _ form
    (rw (← c.self.view_is) c.self.invariant.element) c.requires

pub returns-in-Class : goal.returns-in-Class
returns-in-Class c =
    let form = ap form_of_pattern c.in-Class.is in
    let series = c.as_slice-series.ensures ∙ c.self.invariant.series in
    rw (c.new.ensures, series, ← c.self.view_is)
    (class_offsets _ c.in-Class.field-0.items c.args.len _ form c.self.invariant.base)

pub returns-in-RefArray : goal.returns-in-RefArray
returns-in-RefArray c =
    let form = ap form_of_pattern c.in-RefArray.is in
    let series = c.as_slice-series.ensures ∙ c.self.invariant.series in
    let base : c.self.inside.base_size ≡ 24 = rw c.in-RefArray.is at c.self.invariant.base in
    let element : c.self.inside.element_size ≡ 8 = rw c.in-RefArray.is at c.self.invariant.element in
    rw (c.new-in-RefArray.ensures, series, ← c.self.view_is)
    (references_offsets _ c.args.len _ form (rw (base, element) refl))

pub returns-in-StructArray : goal.returns-in-StructArray
returns-in-StructArray c =
    let form = ap form_of_pattern c.in-StructArray.is in
    let series = c.as_slice-series.ensures ∙ c.self.invariant.series in
    let base : c.self.inside.base_size ≡ 24 = rw c.in-StructArray.is at c.self.invariant.base in
    rw (c.new-in-StructArray.ensures, series, ← c.self.view_is)
    (structs_offsets _ c.in-StructArray.field-0.items c.args.len _ _ form
    (omega (arith, base, c.self.invariant.element)) c.self.invariant.element)

pub returns-in-ByteArray : goal.returns-in-ByteArray
returns-in-ByteArray c =
    let form = ap form_of_pattern c.in-ByteArray.is in
    rw (c.none-in-ByteArray.ensures, ← c.self.view_is) (bytes_offsets _ c.args.len form)
