-- The search for the memory of an address, where memories stand one above the other.
use Rattle.std.proofs.Common.{◌≡◌, ℕ, ◌-◌, ◌/◌, ◌%◌, ◌<◌, ◌≤◌, inl, inr, true, List, length, get_or, refl, ap, sym, ◌∙◌}
use Rattle.std.proofs.Common.{subst, arith}
use Rattle.std.proofs.lemmas.Bool.{cases_lt}
use Rattle.std.proofs.lemmas.List.{get_or_default}
use Rattle.clr_mem.specs.Words.{Holds, Memory, end_of, word_at}
use Rattle.clr_heap.specs.Memories.{contains, HasWord, IsApart, memory_index, shapes, word_address, word_in}
use Rattle.clr_heap.proofs.Storing.{contains_at_index, contains_bounds, get_memory}
use Rattle.clr_heap.proofs.Moving.{apart_order}

module _ (ms : List Memory) (a : ℕ) (d : Memory) (apart : IsApart (shapes ms))
    (inside : memory_index ms a < length ms) where
  bounds_at : (get_or ms (memory_index ms a) d).base ≤ a × (a < end_of (get_or ms (memory_index ms a) d))
  bounds_at = contains_bounds (get_or ms (memory_index ms a) d) a (contains_at_index ms a d inside)

  -- an address at the base of memory i or above lies in that or a later one
  pub index_at_least : (i : ℕ) → i < length ms → (get_or ms i d).base ≤ a → i ≤ memory_index ms a
  index_at_least i l low = elim (cases_lt (memory_index ms a) i) [
    | inl wrong ↦
        let o = apart_order ms (memory_index ms a) i d apart wrong l in
        let b = bounds_at in
        absurd (omega arith)
    | inr right ↦ right
  ]

  -- an address below that lies in an earlier one
  pub index_lower : (i : ℕ) → i < length ms → a < (get_or ms i d).base → memory_index ms a < i
  index_lower i l high = elim (cases_lt i (memory_index ms a)) [
    | inl wrong ↦
        let o = apart_order ms i (memory_index ms a) d apart wrong inside in
        let b = bounds_at in
        absurd (omega arith)
    | inr right ↦
        let b = bounds_at in
        elim (cases_lt (memory_index ms a) i) [
          | inl below ↦ below
          | inr above ↦
              let same : memory_index ms a ≡ i = omega arith in
              let P : ℕ → Type 0 = λ j. (get_or ms j d).base ≤ a in
              let low : (get_or ms i d).base ≤ a = subst P same b.0 in
              absurd (omega arith)
        ]
  ]

-- memory i, which was read as m, is that of a word
pub found_holds : (ms : List Memory) (i a : ℕ) (m : Memory) → HasWord ms a → i ≡ memory_index ms a → m ≡ get_or ms i m
    → m.base % 8 ≡ 0 → (d : Memory) → Holds (get_or ms i d) a 8
found_holds ms i a m w e r z d =
    let within : i < length ms = rw e w.inside in
    let read : m ≡ get_or ms i d = r ∙ get_or_default ms i m d within in
    let P : ℕ → Type 0 = λ j. contains (get_or ms j m) a ≡ true in
    let held : contains m a ≡ true =
    ap (λ (n : Memory). contains n a) r ∙ subst P (sym e) (contains_at_index ms a m w.inside) in
    let b = contains_bounds m a held in
    let start = w.aligned in
    let Q : Memory → Type 0 = λ n. Holds n a 8 in
    subst Q read (record { above = b.0; below = omega arith; start = start; whole = refl })

-- the word that a byte belongs to
pub word_of_byte : (ms : List Memory) (i a : ℕ) (m : Memory) → memory_index ms (word_address a) < length ms
    → i ≡ memory_index ms (word_address a) → m ≡ get_or ms i m → m.base % 8 ≡ 0 → m.base ≤ word_address a
    → word_at m a ≡ word_in ms (word_address a)
word_of_byte ms i a m w e r z low =
    let at : (a - m.base) / 8 ≡ (word_address a - m.base) / 8 = omega arith in
    ap (λ (k : ℕ). get_or m.words k 0) at ∙ ap (λ (n : Memory). word_at n (word_address a))
    (r ∙ ap (λ (k : ℕ). get_or ms k m) e) ∙ get_memory ms (word_address a) m w
