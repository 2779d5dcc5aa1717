-- The slots of an object: where their words stand, and what they hold where words are zero or stay as they are.
use Rattle.std.proofs.Common.{◌≡◌, ℕ, zero, suc, ◌+◌, ◌*◌, ◌%◌, ◌^◌, ◌<◌, ◌≤◌, Bool, true, false, List, [], ◌∷◌, length}
use Rattle.std.proofs.Common.{map, replicate, refl, ap, sym, ◌∙◌, arith, length-append}
use Rattle.std.specs.List.{repeat}
use Rattle.std.proofs.lemmas.Bool.{true≢false}
use Rattle.std.proofs.lemmas.List.{length-map, length-replicate}
use Rattle.std.proofs.Math.Nat.{mul_comm, suc-mul, zero-div, zero-mod}
use Rattle.clr_mem.specs.Words.{byte_of}
use Rattle.clr_types.specs.Types.{Form, class_form, references_form, bytes_form, structs_form, is_array, is_reference}
use Rattle.clr_types.specs.Types.{size_of, slot_kinds, slot_offset, slots_from, slots_of}
use Rattle.clr_heap.specs.Memories.{word_address}
use Rattle.clr_model.specs.Machine.{Value, ref, num}
use Rattle.clr_model.specs.Updates.{empty_slots, empty_value}
use Rattle.clr_view.specs.View.{slot_value, value_at, word_value}

-- the address of the word that the slot at an address is read from
abbrev pub slot_word : Form → ℕ → ℕ
slot_word (class_form pattern) a = a
slot_word references_form a = a
slot_word bytes_form a = word_address a
slot_word (structs_form pattern) a = a

-- ---- where the words of slots stand

length-repeat : {A : Type 0} (n : ℕ) (xs : List A) → length (repeat n xs) ≡ n * length xs
length-repeat zero xs = omega arith
length-repeat (suc n) xs =
    let join = length-append xs (repeat n xs) in
    let ih = length-repeat n xs in
    let more = suc-mul n (length xs) in
    omega arith

-- how many slots an object has
abbrev pub slot_number : Form → ℕ → ℕ
slot_number (class_form pattern) len = length pattern
slot_number references_form len = len
slot_number bytes_form len = len
slot_number (structs_form pattern) len = length pattern * len

pub slot-count : (form : Form) (len : ℕ) → length (slot_kinds form len) ≡ slot_number form len
slot-count (class_form pattern) len = length-map pattern is_reference
slot-count references_form len = length-replicate {A = Bool} len true
slot-count bytes_form len = length-replicate {A = Bool} len false
slot-count (structs_form pattern) len =
    length-repeat len (map is_reference pattern)
    ∙ ap (λ (n : ℕ). len * n) (length-map pattern is_reference)
    ∙ mul_comm len (length pattern)

-- the word of a slot stands in the object's cell, above its method table word, and in an array above the length word
-- too
pub record IsSlotWord (form : Form) (len place a : ℕ) : Type 0 where
  pub aligned : a % 8 ≡ 0
  pub above : place + 8 ≤ a
  pub below : a + 16 ≤ place + size_of form len

pub slot-inside : (form : Form) (len place j : ℕ) → place % 8 ≡ 0 → j < length (slot_kinds form len)
    → IsSlotWord form len place (slot_word form (place + slot_offset form j))
slot-inside (class_form pattern) len place j z l =
    let n = slot-count (class_form pattern) len in
    record { aligned = omega arith; above = omega arith; below = omega arith }
slot-inside references_form len place j z l =
    let n = slot-count references_form len in
    record { aligned = omega arith; above = omega arith; below = omega arith }
slot-inside bytes_form len place j z l =
    let n = slot-count bytes_form len in
    record { aligned = omega arith; above = omega arith; below = omega arith }
slot-inside (structs_form pattern) len place j z l =
    let n = slot-count (structs_form pattern) len in
    record { aligned = omega arith; above = omega arith; below = omega arith }

-- the slots of an array stand above its length word
pub above-length : (form : Form) (place j : ℕ) → place % 8 ≡ 0 → is_array form ≡ true
    → place + 16 ≤ slot_word form (place + slot_offset form j)
above-length (class_form pattern) place j z array = absurd (true≢false (sym array))
above-length references_form place j z array = omega arith
above-length bytes_form place j z array = omega arith
above-length (structs_form pattern) place j z array = omega arith

-- ---- slots whose words are zero

empty-word : (kind : Bool) (w : ℕ) → w ≡ 0 → word_value kind w ≡ empty_value kind
empty-word true w e = ap ref e
empty-word false w e = ap num e

empty-byte : (w k : ℕ) → w ≡ 0 → byte_of w k ≡ 0
empty-byte w k e = ap (λ (n : ℕ). byte_of n k) e ∙ ap (λ (n : ℕ). n % 256) (zero-div (256 ^ k)) ∙ zero-mod 256

-- the words of the slots from i on, of these kinds, are zero
abbrev AreZero : Form → (ℕ → ℕ) → ℕ → ℕ → List Bool → Type 0
AreZero form word place i kinds = (j : ℕ) → i ≤ j → j < i + length kinds
    → word (slot_word form (place + slot_offset form j)) ≡ 0

abbrev pub values_from : Form → (ℕ → ℕ) → ℕ → ℕ → List Bool → List Value
values_from form word place i kinds = map (slot_value form word place) (slots_from form i kinds)

empty-step : (form : Form) (word : ℕ → ℕ) (place i : ℕ) (kind : Bool) (kinds : List Bool)
    → AreZero form word place i (kind ∷ kinds) → AreZero form word place (i + 1) kinds
empty-step form word place i kind kinds zeros = λ j low high. zeros j (omega arith) (omega arith)

empty-words : (form : Form) (word : ℕ → ℕ) (place i : ℕ) (kinds : List Bool)
    → ((kind : Bool) (a : ℕ) → word (slot_word form a) ≡ 0 → value_at form word kind a ≡ empty_value kind)
    → AreZero form word place i kinds → values_from form word place i kinds ≡ map empty_value kinds
empty-words form word place i [] value zeros = refl
empty-words form word place i (kind ∷ kinds) value zeros =
    let here = value kind (place + slot_offset form i) (zeros i (omega arith) (omega arith)) in
    let rest = empty-words form word place (i + 1) kinds value (empty-step form word place i kind kinds zeros) in
    λ k. here k ∷ rest k

empty-bytes : (word : ℕ → ℕ) (place i n : ℕ) → AreZero bytes_form word place i (replicate n false)
    → values_from bytes_form word place i (replicate n false) ≡ map empty_value (replicate n false)
empty-bytes word place i zero zeros = refl
empty-bytes word place i (suc n) zeros =
    let a = place + slot_offset bytes_form i in
    let here = ap num (empty-byte (word (word_address a)) (a % 8) (zeros i (omega arith) (omega arith))) in
    let rest = empty-bytes word place (i + 1) n (empty-step bytes_form word place i false (replicate n false) zeros) in
    λ k. here k ∷ rest k

-- slots whose words are zero are null and 0
pub slots-empty : (form : Form) (word : ℕ → ℕ) (place len : ℕ)
    → ((j : ℕ) → j < length (slot_kinds form len) → word (slot_word form (place + slot_offset form j)) ≡ 0)
    → map (slot_value form word place) (slots_of form len) ≡ empty_slots form len
slots-empty (class_form pattern) word place len zeros =
    empty-words (class_form pattern) word place 0 (slot_kinds (class_form pattern) len)
    (λ kind a e. empty-word kind (word a) e) (λ j low high. zeros j (omega arith))
slots-empty references_form word place len zeros =
    empty-words references_form word place 0 (slot_kinds references_form len) (λ kind a e. empty-word kind (word a) e)
    (λ j low high. zeros j (omega arith))
slots-empty bytes_form word place len zeros = empty-bytes word place 0 len (λ j low high. zeros j (omega arith))
slots-empty (structs_form pattern) word place len zeros =
    empty-words (structs_form pattern) word place 0 (slot_kinds (structs_form pattern) len)
    (λ kind a e. empty-word kind (word a) e) (λ j low high. zeros j (omega arith))

-- ---- slots whose words stay

pub same-value : (form : Form) (old new : ℕ → ℕ) (kind : Bool) (a : ℕ) → new (slot_word form a) ≡ old (slot_word form a)
    → value_at form new kind a ≡ value_at form old kind a
same-value (class_form pattern) old new kind a e = ap (word_value kind) e
same-value references_form old new kind a e = ap (word_value kind) e
same-value bytes_form old new kind a e = ap (λ (w : ℕ). num (byte_of w (a % 8))) e
same-value (structs_form pattern) old new kind a e = ap (word_value kind) e

pub same-values : (form : Form) (old new : ℕ → ℕ) (place i : ℕ) (kinds : List Bool)
    → ((j : ℕ) → i ≤ j → j < i + length kinds → new (slot_word form (place + slot_offset form j)) ≡ old
    (slot_word form (place + slot_offset form j)))
    → values_from form new place i kinds ≡ values_from form old place i kinds
same-values form old new place i [] same = refl
same-values form old new place i (kind ∷ kinds) same =
    let here = same-value form old new kind (place + slot_offset form i) (same i (omega arith) (omega arith)) in
    let rest = same-values form old new place (i + 1) kinds (λ j low high. same j (omega arith) (omega arith)) in
    λ k. here k ∷ rest k

pub slots-stay : (form : Form) (old new : ℕ → ℕ) (place len : ℕ)
    → ((j : ℕ) → j < length (slot_kinds form len) → new (slot_word form (place + slot_offset form j)) ≡ old
    (slot_word form (place + slot_offset form j)))
    → map (slot_value form new place) (slots_of form len) ≡ map (slot_value form old place) (slots_of form len)
slots-stay form old new place len same =
    same-values form old new place 0 (slot_kinds form len) (λ j low high. same j (omega arith))
