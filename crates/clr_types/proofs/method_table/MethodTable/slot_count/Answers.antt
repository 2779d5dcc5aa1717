use Rattle.std.proofs.Common.{◌≡◌, ℕ, ◌*◌, vec_len, length, ap, arith, sym, ◌∙◌}
use Rattle.clr_types.proofs.SlotKinds.{struct_slots}
use Rattle.clr_types.proofs.method_table.MethodTable.slot_count.Goals as goal

pub returns-in-StructArray : goal.returns-in-StructArray
returns-in-StructArray c =
    let pattern = c.in-StructArray.pattern.items in
    let whole : vec_len c.in-StructArray.pattern ≡ length pattern = omega (arith, c.in-StructArray.pattern.ok) in
    rw (← c.self.view_is, c.in-StructArray.is, c.len-in-StructArray.ensures)
    (ap (λ (n : ℕ). n * c.args.len) whole ∙ sym (struct_slots pattern c.args.len))
