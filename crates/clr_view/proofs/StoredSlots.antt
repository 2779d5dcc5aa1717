-- The slots of an object of which one is written.
use Rattle.std.proofs.Common.{◌≡◌, ◌≢◌, ℕ, zero, suc, ◌+◌, ◌%◌, ◌<◌, ◌≤◌, Bool, false, List, [], ◌∷◌, length, map, refl}
use Rattle.std.proofs.Common.{ap₂, sym, ◌∙◌, subst, arith, Some, slice_set, true≢false, true, ap}
use Rattle.std.specs.Prelude.{slice_get}
use Rattle.clr_types.specs.Types.{bytes_form, class_form, Form, is_bytes, references_form, slot_kinds, slot_offset}
use Rattle.clr_types.specs.Types.{slots_of, structs_form}
use Rattle.clr_view.specs.View.{slot_value, value_at, word_value}
use Rattle.clr_view.proofs.Slots.{IsSlotWord, same-value, same-values, slot-inside, slot_word, values_from}
use Rattle.clr_mem.specs.Words.{byte_of}
use Rattle.clr_model.specs.Machine.{num}
use Rattle.clr_heap.specs.Memories.{word_address}
use Rattle.std.proofs.lemmas.List.{length-replicate}

-- where slots aren't bytes, each is a word
pub slot-word-is : (form : Form) (a : ℕ) → is_bytes form ≡ false → slot_word form a ≡ a
slot-word-is (class_form pattern) a words = refl
slot-word-is references_form a words = refl
slot-word-is bytes_form a words = absurd (true≢false words)
slot-word-is (structs_form pattern) a words = refl

-- and its value is that word's
pub value-is : (form : Form) (word : ℕ → ℕ) (kind : Bool) (a : ℕ) → is_bytes form ≡ false
    → value_at form word kind a ≡ word_value kind (word a)
value-is (class_form pattern) word kind a words = refl
value-is references_form word kind a words = refl
value-is bytes_form word kind a words = absurd (true≢false words)
value-is (structs_form pattern) word kind a words = refl

pub offset-apart : (form : Form) (i j : ℕ) → is_bytes form ≡ false → i ≢ j → slot_offset form i ≢ slot_offset form j
offset-apart (class_form pattern) i j words ne = λ same. ne (omega arith)
offset-apart references_form i j words ne = λ same. ne (omega arith)
offset-apart bytes_form i j words ne = absurd (true≢false words)
offset-apart (structs_form pattern) i j words ne = λ same. ne (omega arith)

pub kind-there : (kinds : List Bool) (j : ℕ) (kind : Bool) → slice_get kinds j ≡ Some kind → j < length kinds
kind-there [] j kind e = absurd cc
kind-there (x ∷ kinds) zero kind e = omega arith
kind-there (x ∷ kinds) (suc j) kind e = let l = kind-there kinds j kind e in omega arith

-- a slot of words is a word of the object's cell
pub slot-there : (form : Form) (len place j : ℕ) → is_bytes form ≡ false → place % 8 ≡ 0
    → j < length (slot_kinds form len) → IsSlotWord form len place (place + slot_offset form j)
slot-there form len place j words z l =
    subst (IsSlotWord form len place) (slot-word-is form (place + slot_offset form j) words)
    (slot-inside form len place j z l)

module _ (form : Form) (old new : ℕ → ℕ) (place v : ℕ) (kind : Bool) (words : is_bytes form ≡ false) where
  word-same : (m : ℕ) → new (place + slot_offset form m) ≡ old (place + slot_offset form m)
      → new (slot_word form (place + slot_offset form m)) ≡ old (slot_word form (place + slot_offset form m))
  word-same m e = subst (λ a. new a ≡ old a) (sym (slot-word-is form (place + slot_offset form m) words)) e

  stored-values : (n j : ℕ) (kinds : List Bool) → slice_get kinds j ≡ Some kind
      → ((m : ℕ) → n ≤ m → m < n + length kinds → m ≢ n + j
      → new (place + slot_offset form m) ≡ old (place + slot_offset form m))
      → new (place + slot_offset form (n + j)) ≡ v
      → values_from form new place n kinds ≡ slice_set (values_from form old place n kinds) j (word_value kind v)
  stored-values n j [] at same here = absurd cc
  stored-values n zero (x ∷ kinds) at same here =
      let kind_is : x ≡ kind = cc in
      let none : n + 0 ≡ n = omega arith in
      let read : new (place + slot_offset form n) ≡ v = subst (λ m. new (place + slot_offset form m) ≡ v) none here in
      let first = value-is form new x (place + slot_offset form n) words ∙ ap₂ word_value kind_is read in
      let rest = same-values form old new place (n + 1) kinds
      (λ m low high. word-same m (same m (omega arith) (omega arith) (λ e. omega arith))) in
      λ k. first k ∷ rest k
  stored-values n (suc j) (x ∷ kinds) at same here =
      let next : n + suc j ≡ n + 1 + j = omega arith in
      let first = same-value form old new x (place + slot_offset form n)
      (word-same n (same n (omega arith) (omega arith) (λ e. omega arith))) in
      let rest = stored-values (n + 1) j kinds at
      (λ m low high ne. same m (omega arith) (omega arith) (λ e. ne (omega arith)))
      (subst (λ m. new (place + slot_offset form m) ≡ v) next here) in
      λ k. first k ∷ rest k

  -- the slot has the value of the word, and all other slots stay
  pub slots-stored : (len j : ℕ) → slice_get (slot_kinds form len) j ≡ Some kind
      → ((m : ℕ) → m < length (slot_kinds form len) → m ≢ j
      → new (place + slot_offset form m) ≡ old (place + slot_offset form m))
      → new (place + slot_offset form j) ≡ v → map (slot_value form new place) (slots_of form len) ≡ slice_set
      (map (slot_value form old place) (slots_of form len)) j (word_value kind v)
  slots-stored len j at same here =
      let none : j ≡ 0 + j = omega arith in
      stored-values 0 j (slot_kinds form len) at (λ m low high ne. same m (omega arith) (λ e. ne (omega arith)))
      (subst (λ m. new (place + slot_offset form m) ≡ v) none here)

-- ---- slots that are bytes

pub bytes-form : (form : Form) → is_bytes form ≡ true → form ≡ bytes_form
bytes-form (class_form pattern) bytes = absurd (true≢false (sym bytes))
bytes-form references_form bytes = absurd (true≢false (sym bytes))
bytes-form bytes_form bytes = refl
bytes-form (structs_form pattern) bytes = absurd (true≢false (sym bytes))

-- the byte that slot m of an array of bytes is
abbrev pub byte_slot : (ℕ → ℕ) → ℕ → ℕ → ℕ
byte_slot word place m =
    byte_of (word (word_address (place + slot_offset bytes_form m))) ((place + slot_offset bytes_form m) % 8)

module _ (old new : ℕ → ℕ) (place v : ℕ) where
  stored-bytes : (n j : ℕ) (kinds : List Bool) → j < length kinds
      → ((m : ℕ) → n ≤ m → m < n + length kinds → m ≢ n + j → byte_slot new place m ≡ byte_slot old place m)
      → byte_slot new place (n + j) ≡ v
      → values_from bytes_form new place n kinds ≡ slice_set (values_from bytes_form old place n kinds) j (num v)
  stored-bytes n j [] l same here = absurd (omega arith)
  stored-bytes n zero (x ∷ kinds) l same here =
      let none : n + 0 ≡ n = omega arith in
      let read : num (byte_slot new place n) ≡ num v = ap num (subst (λ m. byte_slot new place m ≡ v) none here) in
      let rest = unstored (n + 1) kinds (λ m low high. same m (omega arith) (omega arith) (λ e. omega arith)) in
      λ k. read k ∷ rest k
    where
      unstored : (n : ℕ) (kinds : List Bool)
          → ((m : ℕ) → n ≤ m → m < n + length kinds → byte_slot new place m ≡ byte_slot old place m)
          → values_from bytes_form new place n kinds ≡ values_from bytes_form old place n kinds
      unstored n [] same = refl
      unstored n (y ∷ kinds) same =
          let here : num (byte_slot new place n) ≡ num (byte_slot old place n) =
          ap num (same n (omega arith) (omega arith)) in
          let rest = unstored (n + 1) kinds (λ m low high. same m (omega arith) (omega arith)) in
          λ k. here k ∷ rest k
  stored-bytes n (suc j) (x ∷ kinds) l same here =
      let next : n + suc j ≡ n + 1 + j = omega arith in
      let first : num (byte_slot new place n) ≡ num (byte_slot old place n) =
      ap num (same n (omega arith) (omega arith) (λ e. omega arith)) in
      let rest = stored-bytes (n + 1) j kinds (omega arith)
      (λ m low high ne. same m (omega arith) (omega arith) (λ e. ne (omega arith)))
      (subst (λ m. byte_slot new place m ≡ v) next here) in
      λ k. first k ∷ rest k

  -- the slot has the byte, and all other slots stay
  pub byte-stored : (len j : ℕ) → j < len → ((m : ℕ) → m < len → m ≢ j → byte_slot new place m ≡ byte_slot old place m)
      → byte_slot new place j ≡ v
      → map (slot_value bytes_form new place) (slots_of bytes_form len) ≡ slice_set
      (map (slot_value bytes_form old place) (slots_of bytes_form len)) j (num v)
  byte-stored len j l same here =
      let count = length-replicate {A = Bool} len false in
      let none : j ≡ 0 + j = omega arith in
      stored-bytes 0 j (slot_kinds bytes_form len) (omega arith)
      (λ m low high ne. same m (omega arith) (λ e. ne (omega arith))) (subst (λ m. byte_slot new place m ≡ v) none here)
