-- The kinds of slots by number.
use Rattle.std.proofs.Common.{◌≡◌, ℕ, zero, suc, ◌+◌, ◌-◌, ◌*◌, ◌%◌, ◌<◌, ◌≤◌, List, [], ◌∷◌, map, length, get_or}
use Rattle.std.proofs.Common.{replicate, Bool, true, false, Some, refl, ap, ap₂, sym, ◌∙◌, arith, inl, inr}
use Rattle.std.proofs.Common.{length-append, slice_get, nat_eq}
use Rattle.std.specs.List.{repeat}
use Rattle.std.proofs.lemmas.Bool.{cases_lt}
use Rattle.std.proofs.lemmas.List.{get_or-map, get_or-replicate, length-map, length-replicate}
use Rattle.std.proofs.lemmas.Option.{slice_get-get_or, slice_get_within, get_or_from_slice_get}
use Rattle.std.proofs.Math.ListN.{get_or-append}
use Rattle.std.proofs.Math.Seq.{get_or-append_right}
use Rattle.std.proofs.Math.Nat.{mod-eq-sub-mod, mod-eq_of_lt}
use Rattle.clr_types.specs.Types.{Form, class_form, references_form, bytes_form, structs_form, slot_kinds, is_reference}
use Rattle.clr_types.specs.Types.{size_of, is_lawful_form, slot_offset, slots_from, slots_of}
use Rattle.clr_types.specs.declared.shape.Slot.{Slot}

length-repeat : {X : Type 0} (n : ℕ) (xs : List X) → length (repeat n xs) ≡ length xs * n
length-repeat zero xs = omega arith
length-repeat (suc n) xs = let later = length-repeat n xs in simp length-append (omega (arith, later))

get_or-repeat : {X : Type 0} (n : ℕ) (xs : List X) (i : ℕ) (d : X) → i < length xs * n
    → get_or (repeat n xs) i d ≡ get_or xs (i % length xs) d
get_or-repeat zero xs i d below = absurd (omega arith)
get_or-repeat (suc n) xs i d below =
    elim (cases_lt i (length xs)) [
      | inl first ↦ rw (mod-eq_of_lt first) (get_or-append xs (repeat n xs) d i first)
      | inr later ↦ rw (mod-eq-sub-mod later)
          (get_or-append_right xs (repeat n xs) i d later ∙ get_or-repeat n xs (i - length xs) d (omega arith))
    ]

pub struct_slots : (pattern : List ℕ) (len : ℕ) → length (slot_kinds (structs_form pattern) len) ≡ length pattern * len
struct_slots pattern len = length-repeat len (map is_reference pattern)
    ∙ ap (λ (n : ℕ). n * len) (length-map pattern is_reference)

pub class_kind : (form : Form) (pattern : List ℕ) (len i byte : ℕ) → form ≡ class_form pattern
    → i < length (slot_kinds form len) → byte ≡ get_or pattern i byte
    → slice_get (slot_kinds form len) i ≡ Some (nat_eq byte 114)
class_kind form pattern len i byte is below here =
    let within : i < length (map is_reference pattern) = rw is at below in
    let same = length-map pattern is_reference in
    let kind = get_or-map is_reference pattern i byte false (omega arith) in
    rw is (slice_get-get_or (map is_reference pattern) i false within ∙ ap Some (kind ∙ ap is_reference (sym here)))

pub reference_kind : (form : Form) (len i : ℕ) → form ≡ references_form → i < length (slot_kinds form len)
    → slice_get (slot_kinds form len) i ≡ Some true
reference_kind form len i is below =
    let within : i < length (replicate len true) = rw is at below in
    let same = length-replicate len true in
    rw is (slice_get-get_or (replicate len true) i false within
    ∙ ap Some (get_or-replicate len i true false (omega arith)))

pub byte_kind : (form : Form) (len i : ℕ) → form ≡ bytes_form → i < length (slot_kinds form len)
    → slice_get (slot_kinds form len) i ≡ Some false
byte_kind form len i is below =
    let within : i < length (replicate len false) = rw is at below in
    let same = length-replicate len false in
    rw is (slice_get-get_or (replicate len false) i false within
    ∙ ap Some (get_or-replicate len i false false (omega arith)))

pub struct_kind : (form : Form) (pattern : List ℕ) (len i byte : ℕ) → form ≡ structs_form pattern → 0 < length pattern
    → i < length (slot_kinds form len) → byte ≡ get_or pattern (i % length pattern) byte
    → slice_get (slot_kinds form len) i ≡ Some (nat_eq byte 114)
struct_kind form pattern len i byte is some below here =
    let kinds = map is_reference pattern in
    let within : i < length (repeat len kinds) = rw is at below in
    let same = length-map pattern is_reference in
    let count = length-repeat len kinds in
    let kind = get_or-repeat len kinds i false (omega (arith, count)) in
    let rest : i % length pattern < length pattern = omega arith in
    let one = get_or-map is_reference pattern (i % length pattern) byte false rest in
    rw is (slice_get-get_or (repeat len kinds) i false within
    ∙ ap Some (kind ∙ (ap (λ (n : ℕ). get_or kinds (i % n) false) same ∙ (one ∙ ap is_reference (sym here)))))

pub some_slots : (pattern : List ℕ) (finalizer : Bool) → is_lawful_form (structs_form pattern) finalizer ≡ true
    → 0 < length pattern
some_slots [] finalizer lawful = cc
some_slots (byte ∷ pattern) finalizer lawful = omega arith

-- where the slots of an array of structs end
pub struct_slot_low : (form : Form) (pattern : List ℕ) (len i : ℕ) → form ≡ structs_form pattern
    → size_of form len ≤ 1073741824 → i < length (slot_kinds form len) → 8 * i < 1073741824
struct_slot_low form pattern len i is size below =
    let within : i < length (slot_kinds (structs_form pattern) len) = rw is at below in
    let fits : size_of (structs_form pattern) len ≤ 1073741824 = rw is at size in
    let count = struct_slots pattern len in
    omega (arith, count, within, fits)

same_slot : (left right : Slot) → left.offset ≡ right.offset → left.reference ≡ right.reference → left ≡ right
same_slot left right offset reference =
    ap₂ (λ (n : ℕ) (b : Bool). let slot : Slot = record { offset = n; reference = b } in slot) offset reference

length-slots_from : (form : Form) (first : ℕ) (kinds : List Bool) → length (slots_from form first kinds) ≡ length kinds
length-slots_from form first [] = refl
length-slots_from form first (kind ∷ kinds) = ap suc (length-slots_from form (first + 1) kinds)

get_or-slots_from : (form : Form) (first : ℕ) (kinds : List Bool) (i : ℕ) (d : Slot) (e : Bool) → i < length kinds
    → ((get_or (slots_from form first kinds) i d).offset ≡ slot_offset form (first + i))
    × ((get_or (slots_from form first kinds) i d).reference ≡ get_or kinds i e)
get_or-slots_from form first [] i d e below = absurd (omega arith)
get_or-slots_from form first (kind ∷ kinds) zero d e below =
    (ap (slot_offset form) (let same : first ≡ first + 0 = omega arith in same), refl)
get_or-slots_from form first (kind ∷ kinds) (suc i) d e below =
    let rest = get_or-slots_from form (first + 1) kinds i d e (omega arith) in
    (rest.0 ∙ ap (slot_offset form) (let same : first + 1 + i ≡ first + suc i = omega arith in same), rest.1)

-- a slot of the list by its number
pub slot_at : (form : Form) (len i : ℕ) (slot : Slot) → slot.offset ≡ slot_offset form i
    → slice_get (slot_kinds form len) i ≡ Some slot.reference → slice_get (slots_of form len) i ≡ Some slot
slot_at form len i slot offset reference =
    let kinds = slot_kinds form len in
    let below = slice_get_within kinds i slot.reference reference in
    let kind = get_or_from_slice_get kinds i slot.reference slot.reference reference in
    let count = length-slots_from form 0 kinds in
    let fields = get_or-slots_from form 0 kinds i slot slot.reference below in
    let found : get_or (slots_of form len) i slot
    ≡ slot = same_slot (get_or (slots_of form len) i slot) slot
    (fields.0 ∙ (ap (slot_offset form) (let same : 0 + i ≡ i = omega arith in same) ∙ sym offset)) (fields.1 ∙ kind)
    in
    slice_get-get_or (slots_of form len) i slot (omega (arith, count, below)) ∙ ap Some found
