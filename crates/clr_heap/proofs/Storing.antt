-- Words that are written and read, by address.
use Rattle.std.proofs.Common.{◌≡◌, ◌≢◌, inl, inr, ℕ, zero, suc, ◌+◌, ◌*◌, ◌%◌, ◌<◌, ◌≤◌, true, cond, ◌&&◌, List}
use Rattle.std.proofs.Common.{[], ◌∷◌, length, get_or, set, refl, ap, sym, ◌∙◌, arith, length-set, get_or-set_same}
use Rattle.std.proofs.Common.{get_or-set_other, ltb, leb}
use Rattle.std.proofs.lemmas.Bool.{leb-true, ltb-true, and_parts, and_from, le-leb, lt-ltb, cases_Bool}
use Rattle.std.proofs.lemmas.List.{length-map, set-get_or}
use Rattle.clr_mem.specs.Words.{Memory, place_of, word_at, end_of}
use Rattle.clr_heap.specs.Memories.{contains, with_word, memory_index, word_in, store_in, HasWord, shape_of, shapes}

-- a write moves no end
contains-with_word : (m : Memory) (a v b : ℕ) → contains (with_word m a v) b ≡ contains m b
contains-with_word m a v b =
    let e = length-set m.words (place_of m a) v in ap (λ (n : ℕ). leb m.base b && ltb b (m.base + 8 * n)) e

pub contains_bounds : (m : Memory) (a : ℕ) → contains m a ≡ true → (m.base ≤ a) × (a < end_of m)
contains_bounds m a h =
    let p = and_parts (leb m.base a) (ltb a (end_of m)) h in
    (leb-true m.base a p.0, ltb-true a (end_of m) p.1)

pub contains_from : (m : Memory) (a : ℕ) → m.base ≤ a → a < end_of m → contains m a ≡ true
contains_from m a low high = and_from (leb m.base a) (ltb a (end_of m)) (le-leb m.base a low) (lt-ltb a (end_of m) high)

-- the word that was written
pub word_in-store_in_same : (ms : List Memory) (a v : ℕ) → memory_index ms a < length ms
    → word_in (store_in ms a v) a ≡ v
word_in-store_in_same [] a v h = absurd (omega arith)
word_in-store_in_same (m ∷ ms) a v h = elim (cases_Bool (contains m a)) [
  | inl here ↦
      let b = contains_bounds m a here in
      let within : place_of m a < length m.words = omega arith in
      rw here (rw (contains-with_word m a v a ∙ here) (get_or-set_same m.words (place_of m a) v 0 within))
  | inr other ↦
      let rest : memory_index ms a < length ms = let k = rw other at h in omega (arith, k) in
      rw other (rw other (word_in-store_in_same ms a v rest))
]

-- writing the word that stands there changes nothing
pub store_in-same : (ms : List Memory) (a : ℕ) → store_in ms a (word_in ms a) ≡ ms
store_in-same [] a = refl
store_in-same (m ∷ ms) a = elim (cases_Bool (contains m a)) [
  | inl here ↦ rw here (ap (λ (ws : List ℕ). (let n : Memory = record { base = m.base; words = ws } in n) ∷ ms)
      (set-get_or m.words (place_of m a) 0))
  | inr other ↦ rw other (ap (λ (ns : List Memory). m ∷ ns) (store_in-same ms a))
]

-- every other word
pub word_in-store_in_other : (ms : List Memory) (a v b : ℕ) → a % 8 ≡ 0 → b % 8 ≡ 0 → b ≢ a
    → word_in (store_in ms a v) b ≡ word_in ms b
word_in-store_in_other [] a v b p q ne = refl
word_in-store_in_other (m ∷ ms) a v b p q ne = elim (cases_Bool (contains m a)) [
  | inl here ↦
      let c = contains_bounds m a here in
      elim (cases_Bool (contains m b)) [
        | inl both ↦
            let d = contains_bounds m b both in
            let apart : place_of m b ≢ place_of m a = λ e. ne (omega arith) in
            rw (here, both) (rw (contains-with_word m a v b ∙ both)
            (get_or-set_other m.words (place_of m a) (place_of m b) v 0 apart))
        | inr miss ↦ rw (here, miss) (rw (contains-with_word m a v b ∙ miss) refl)
      ]
  | inr other ↦
      let ih = word_in-store_in_other ms a v b p q ne in
      elim (cases_Bool (contains m b)) [
        | inl hit ↦ rw (other, hit) refl
        | inr miss ↦ rw (other, miss) ih
      ]
]

-- a write moves no word to another memory
pub memory_index-store_in : (ms : List Memory) (a v b : ℕ) → memory_index (store_in ms a v) b ≡ memory_index ms b
memory_index-store_in [] a v b = refl
memory_index-store_in (m ∷ ms) a v b = elim (cases_Bool (contains m a)) [
  | inl here ↦ rw here (rw (contains-with_word m a v b) refl)
  | inr other ↦ rw other (ap (λ (n : ℕ). cond (contains m b) 0 (suc n)) (memory_index-store_in ms a v b))
]

pub length-store_in : (ms : List Memory) (a v : ℕ) → length (store_in ms a v) ≡ length ms
length-store_in [] a v = refl
length-store_in (m ∷ ms) a v = elim (cases_Bool (contains m a)) [
  | inl here ↦ rw here refl
  | inr other ↦ rw other (ap suc (length-store_in ms a v))
]

-- what a write leaves, by the number of the memory
pub set_memory : (ms : List Memory) (a v : ℕ) (d : Memory) → memory_index ms a < length ms
    → set ms (memory_index ms a) (with_word (get_or ms (memory_index ms a) d) a v) ≡ store_in ms a v
set_memory [] a v d h = absurd (omega arith)
set_memory (m ∷ ms) a v d h = elim (cases_Bool (contains m a)) [
  | inl here ↦ rw here refl
  | inr other ↦
      let rest : memory_index ms a < length ms = let k = rw other at h in omega (arith, k) in
      rw other (ap (λ (ns : List Memory). m ∷ ns) (set_memory ms a v d rest))
]

pub get_memory : (ms : List Memory) (a : ℕ) (d : Memory) → memory_index ms a < length ms
    → word_at (get_or ms (memory_index ms a) d) a ≡ word_in ms a
get_memory [] a d h = absurd (omega arith)
get_memory (m ∷ ms) a d h = elim (cases_Bool (contains m a)) [
  | inl here ↦ rw here refl
  | inr other ↦
      let rest : memory_index ms a < length ms = let k = rw other at h in omega (arith, k) in
      rw other (get_memory ms a d rest)
]

-- ---- the search for a memory

-- the memory at an address's number holds it
pub contains_at_index : (ms : List Memory) (a : ℕ) (d : Memory) → memory_index ms a < length ms
    → contains (get_or ms (memory_index ms a) d) a ≡ true
contains_at_index [] a d h = absurd (omega arith)
contains_at_index (m ∷ ms) a d h = elim (cases_Bool (contains m a)) [
  | inl here ↦ rw here here
  | inr other ↦
      let later : memory_index ms a < length ms = let k = rw other at h in omega (arith, k) in
      rw other (contains_at_index ms a d later)
]

-- an address in any of the memories has a number
pub index_below : (ms : List Memory) (k a : ℕ) (d : Memory) → k < length ms → contains (get_or ms k d) a ≡ true
    → memory_index ms a < length ms
index_below [] k a d h t = absurd (omega arith)
index_below (m ∷ ms) zero a d h t = rw t (omega arith)
index_below (m ∷ ms) (suc k) a d h t = elim (cases_Bool (contains m a)) [
  | inl here ↦ rw here (omega arith)
  | inr other ↦ let ih = index_below ms k a d (omega arith) t in rw other (omega arith)
]

-- a write takes no word away
pub HasWord-store_in : (ms : List Memory) (a v b : ℕ) → HasWord ms b → HasWord (store_in ms a v) b
HasWord-store_in ms a v b h = record {
  aligned = h.aligned;
  inside = rw (memory_index-store_in ms a v b, length-store_in ms a v) h.inside;
}

-- ---- shapes

pub shapes-store_in : (ms : List Memory) (a v : ℕ) → shapes (store_in ms a v) ≡ shapes ms
shapes-store_in [] a v = refl
shapes-store_in (m ∷ ms) a v = elim (cases_Bool (contains m a)) [
  | inl here ↦ rw here (ap (λ (n : ℕ). (m.base, 8 * n) ∷ shapes ms) (length-set m.words (place_of m a) v))
  | inr other ↦ rw other (ap (λ (ss : List (ℕ × ℕ)). shape_of m ∷ ss) (shapes-store_in ms a v))
]

-- ---- memories of one shape hold the same addresses

pub length-shapes : (ms ns : List Memory) → shapes ms ≡ shapes ns → length ms ≡ length ns
length-shapes ms ns e = sym (length-map ms shape_of) ∙ ap length e ∙ length-map ns shape_of

index_shape : List (ℕ × ℕ) → ℕ → ℕ
index_shape [] a = 0
index_shape (s ∷ ss) a = cond (leb s.0 a && ltb a (s.0 + s.1)) 0 (suc (index_shape ss a))

index_is : (ms : List Memory) (a : ℕ) → memory_index ms a ≡ index_shape (shapes ms) a
unfolding index_shape
index_is [] a = refl
index_is (m ∷ ms) a = ap (λ (n : ℕ). cond (contains m a) 0 (suc n)) (index_is ms a)

pub memory_index-shapes : (ms ns : List Memory) (a : ℕ) → shapes ms ≡ shapes ns → memory_index ms a ≡ memory_index ns a
memory_index-shapes ms ns a e = index_is ms a ∙ ap (λ (ss : List (ℕ × ℕ)). index_shape ss a) e ∙ sym (index_is ns a)

pub HasWord-shapes : (ms ns : List Memory) (a : ℕ) → shapes ns ≡ shapes ms → HasWord ms a → HasWord ns a
HasWord-shapes ms ns a e h = record {
  aligned = h.aligned;
  inside = rw (memory_index-shapes ns ms a e, length-shapes ns ms e) h.inside;
}
