-- Sizes of objects from the size without elements and the size of an element.
use Rattle.std.proofs.Common.{◌≡◌, ℕ, ◌+◌, ◌*◌, ◌/◌, ◌≤◌, ◌<◌, ◌⊎◌, min, length, [], ◌∷◌, Bool, true, refl, arith, inl}
use Rattle.std.proofs.Common.{inr, ◌∙◌}
use Rattle.std.proofs.lemmas.Bool.{cases_lt}
use Rattle.std.proofs.Math.Nat.{mul-le-mul_left, mul_assoc}
use Rattle.clr_types.specs.Types.{Form, class_form, references_form, bytes_form, structs_form, size_of, is_lawful_form}
use Rattle.clr_types.specs.Table.{base_size, element_size}

-- the size that two numbers give
abbrev pub size_by : ℕ → ℕ → ℕ → ℕ
size_by base element len = (base + element * len + 7) / 8 * 8

-- the bytes that no object exceeds
abbrev pub largest : ℕ
largest = 1073741824

pub size_of-by : (form : Form) (len : ℕ) → size_of form len ≡ size_by (base_size form) (element_size form) len
size_of-by (class_form pattern) len = omega arith
size_of-by references_form len = omega arith
size_of-by bytes_form len = omega arith
size_of-by (structs_form pattern) len = omega (arith, mul_assoc 8 (length pattern) len)

-- an array is longer than it has elements, and a lawful form that has no elements has one size
pub above_len : (form : Form) (finalizer : Bool) (len : ℕ) → is_lawful_form form finalizer ≡ true
    → (element_size form ≡ 0) ⊎ (len < size_of form len)
above_len (class_form pattern) finalizer len lawful = inl refl
above_len references_form finalizer len lawful = inr (omega arith)
above_len bytes_form finalizer len lawful = inr (omega arith)
above_len (structs_form []) finalizer len lawful = cc
above_len (structs_form (byte ∷ pattern)) finalizer len lawful =
    inr (omega (arith, mul-le-mul_left {m = 1} {n = length (byte ∷ pattern)} len (omega arith)))

same_size : (form : Form) (len counted : ℕ) → (element_size form ≡ 0) ⊎ (counted ≡ len)
    → size_by (base_size form) (element_size form) counted ≡ size_of form len
same_size form len counted (inl none) = rw (size_of-by form len, none) (omega arith)
same_size form len counted (inr same) = rw (size_of-by form len, same) refl

pub counted_size : (form : Form) (finalizer : Bool) (len : ℕ) → is_lawful_form form finalizer ≡ true
    → let by = size_by (base_size form) (element_size form) (min len largest) in
    (by ≡ size_of form len) ⊎ ((largest < by) × (largest < size_of form len))
counted_size form finalizer len lawful =
    elim (cases_lt largest len) [
      | inr small ↦ inl (same_size form len (min len largest) (inr (omega arith)))
      | inl large ↦ elim (above_len form finalizer len lawful) [
        | inl none ↦ inl (same_size form len (min len largest) (inl none))
        | inr above ↦ elim (above_len form finalizer largest lawful) [
          | inl none ↦ inl (same_size form len (min len largest) (inl none))
          | inr most ↦ let cut : min len largest ≡ largest = omega arith in
              inr (rw (cut, ← size_of-by form largest) most, omega arith)
        ]
      ]
    ]

-- what is computed with the length cut off is the size, where that isn't above the largest
pub sized : (form : Form) (finalizer : Bool) (len base element counted size : ℕ) → is_lawful_form form finalizer ≡ true
    → base ≡ base_size form → element ≡ element_size form → counted ≡ min len largest
    → size ≡ size_by base element counted
    → (size ≤ largest → (size_of form len ≤ largest) × (size ≡ size_of form len))
    × (largest < size → size_of form len ≤ largest → ⊥)
sized form finalizer len base element counted size lawful base_is element_is counted_is size_is =
    let by = size_by (base_size form) (element_size form) (min len largest) in
    let is : size ≡ by = rw (← base_is, ← element_is, ← counted_is) size_is in
    elim (counted_size form finalizer len lawful) [
      | inl same ↦ (
        λ (fits : size ≤ largest). (omega arith, is ∙ same),
        λ (above : largest < size)
            (fits : size_of form len ≤ largest). omega arith,
      )
      | inr both ↦ (
        λ (fits : size ≤ largest). absurd (omega arith),
        λ (above : largest < size)
            (fits : size_of form len ≤ largest). omega arith,
      )
    ]
