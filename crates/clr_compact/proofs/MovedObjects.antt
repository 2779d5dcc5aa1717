-- An object whose words moved is the same object at its new place.
use Rattle.std.proofs.Common.{◌≡◌, ℕ, ◌+◌, ◌-◌, ◌%◌, ◌<◌, ◌≤◌, Bool, List, [], ◌∷◌, map, refl, ap, ◌∙◌, arith}
use Rattle.std.proofs.Common.{if◌then◌else◌, ◌==◌}
use Rattle.std.proofs.lemmas.Bool.{ne_eqb}
use Rattle.clr_mem.specs.Words.{byte_of}
use Rattle.clr_types.specs.Types.{bytes_form, class_form, Form, form_at, references_form, slots_of, structs_form}
use Rattle.clr_types.specs.Types.{TypeRow}
use Rattle.clr_types.specs.declared.item.Item.{Item}
use Rattle.clr_types.specs.declared.shape.Slot.{Slot}
use Rattle.clr_heap.specs.Memories.{word_address}
use Rattle.clr_heap.specs.Parts.{unmarked}
use Rattle.clr_model.specs.Machine.{num}
use Rattle.clr_view.specs.View.{has_suppressed_bit, object_in, slot_value, value_at, word_value}
use Rattle.clr_view.proofs.Items.{IsItem}
use Rattle.clr_sweep.proofs.ObjectsSwept.{object-kept}

-- the words further up by d
abbrev pub shifted : (ℕ → ℕ) → ℕ → ℕ → ℕ
shifted word d b = word (b + d)

value_moved : (form : Form) (word : ℕ → ℕ) (d : ℕ) (kind : Bool) (a b : ℕ) → d % 8 ≡ 0 → a + d ≡ b
    → value_at form (shifted word d) kind a ≡ value_at form word kind b
value_moved (class_form pattern) word d kind a b z e = ap (λ n. word_value kind (word n)) e
value_moved references_form word d kind a b z e = ap (λ n. word_value kind (word n)) e
value_moved bytes_form word d kind a b z e =
    let at : word_address a + d ≡ word_address b = omega arith in
    let k : a % 8 ≡ b % 8 = omega arith in
    λ i. num (byte_of (word (at i)) (k i))
value_moved (structs_form pattern) word d kind a b z e = ap (λ n. word_value kind (word n)) e

slots_moved : (form : Form) (word : ℕ → ℕ) (d p q : ℕ) (slots : List Slot) → d % 8 ≡ 0 → p + d ≡ q
    → map (slot_value form (shifted word d) p) slots ≡ map (slot_value form word q) slots
slots_moved form word d p q [] z e = refl
slots_moved form word d p q (slot ∷ slots) z e =
    let here = value_moved form word d slot.reference (p + slot.offset) (q + slot.offset) z (omega arith) in
    let rest = slots_moved form word d p q slots z e in
    λ i. here i ∷ rest i

-- an object further down by d
pub object_shifted : (rows : List TypeRow) (word : ℕ → ℕ) (d p : ℕ) (i : Item) → d % 8 ≡ 0 → p + d ≡ i.place → 8 ≤ p
    → object_in rows (shifted word d) (record i { place = p }) ≡ record (object_in rows word i) { name = p; place = p }
object_shifted rows word d p i z e up =
    let form = form_at rows i.type_id.0 in
    let slots = slots_moved form word d p i.place (slots_of form i.len) z e in
    let at : p - 8 + d ≡ i.place - 8 = omega arith in
    let header : word (p - 8 + d) ≡ word (i.place - 8) = ap word at in
    λ k. record (object_in rows word i) {
      name = p;
      place = p;
      slots = slots k;
      suppressed = has_suppressed_bit (header k);
    }

-- and without its mark
pub object_moved : (rows : List TypeRow) (old new : ℕ → ℕ) (d p low high : ℕ) (i : Item) → d % 8 ≡ 0 → p + d ≡ i.place
    → 8 ≤ low → IsItem rows low high (record i { place = p })
    → ((b : ℕ) → b % 8 ≡ 0 → p ≤ b + 8 → b + 8 < p + i.size
    → new b ≡ (if b == p then unmarked (old (b + d)) else old (b + d)))
    → object_in rows new (record i { place = p }) ≡ record (object_in rows old i) { name = p; place = p }
object_moved rows old new d p low high i z e up is cells =
    let above = is.above in
    object-kept rows (shifted old d) new low high (record i { place = p }) up is
    (λ b zb lo hi ne. cells b zb lo hi ∙ ap (λ (t : Bool). if t then unmarked (old (b + d)) else old (b + d))
    (ne_eqb b p ne))
    ∙ object_shifted rows old d p i z e (omega arith)
