-- Words that are moved within a memory or from one to another.
use Rattle.std.proofs.Common.{◌≡◌, ◌≢◌, ◌⊎◌, inl, inr, ℕ, zero, suc, ◌+◌, ◌-◌, ◌*◌, ◌/◌, ◌%◌, ◌<◌, ◌≤◌, true, false}
use Rattle.std.proofs.Common.{◌&&◌, leb, ltb, List, [], ◌∷◌, length, get_or, set, refl, ap, sym, ◌∙◌, arith}
use Rattle.std.proofs.lemmas.Bool.{cases_Bool, cases_eq, cases_lt, le-leb, lt-leb, lt-ltb, le-ltb}
use Rattle.std.proofs.Common.{◌++◌, take, drop, length-append, length-drop, length-set, length-take-le}
use Rattle.clr_mem.specs.Words.{Holds, Memory, end_of, moved, overwrite, part, place_of, word_at}
use Rattle.clr_mem.proofs.Callers.{length-part, word_at-moved_inside, word_at-moved_outside}
use Rattle.clr_heap.specs.Memories.{contains, InOne, IsAbove, IsApart, memory_index, moves, shape_of, shapes, word_in}
use Rattle.clr_heap.proofs.Storing.{contains_bounds, contains_from, contains_at_index, get_memory}

above_at : (ms : List Memory) (k b : ℕ) (d : Memory) → IsAbove b (shapes ms) → k < length ms → b ≤ (get_or ms k d).base
above_at [] k b d h l = absurd (omega arith)
above_at (m ∷ ms) zero b d h l = h.0
above_at (m ∷ ms) (suc k) b d h l = above_at ms k b d h.1 (omega arith)

-- the memory that holds an address is the one that is found
pub index_unique : (ms : List Memory) (k a : ℕ) (d : Memory) → IsApart (shapes ms) → k < length ms
    → contains (get_or ms k d) a ≡ true → memory_index ms a ≡ k
index_unique [] k a d h l t = absurd (omega arith)
index_unique (m ∷ ms) zero a d h l t = rw t refl
index_unique (m ∷ ms) (suc k) a d h l t =
    let ih = index_unique ms k a d h.1 (omega arith) t in
    let low = above_at ms k (m.base + 8 * length m.words) d h.0 (omega arith) in
    let b = contains_bounds (get_or ms k d) a t in
    elim (cases_Bool (contains m a)) [
      | inl here ↦ let c = contains_bounds m a here in absurd (omega arith)
      | inr other ↦ rw other (ap suc ih)
    ]

pub apart_order : (ms : List Memory) (j k : ℕ) (d : Memory) → IsApart (shapes ms) → j < k → k < length ms
    → end_of (get_or ms j d) ≤ (get_or ms k d).base
apart_order [] j k d h l m = absurd (omega arith)
apart_order (x ∷ ms) j zero d h l m = absurd (omega arith)
apart_order (x ∷ ms) zero (suc k) d h l m = above_at ms k (x.base + 8 * length x.words) d h.0 (omega arith)
apart_order (x ∷ ms) (suc j) (suc k) d h l m = apart_order ms j k d h.1 (omega arith) (omega arith)

contains-shape : (m n : Memory) (a : ℕ) → shape_of m ≡ shape_of n → contains m a ≡ contains n a
contains-shape m n a e = ap (λ (s : ℕ × ℕ). leb s.0 a && ltb a (s.0 + s.1)) e

pub shapes-set : (ms : List Memory) (k : ℕ) (n d : Memory) → k < length ms → shape_of n ≡ shape_of (get_or ms k d)
    → shapes (set ms k n) ≡ shapes ms
shapes-set [] k n d l e = absurd (omega arith)
shapes-set (m ∷ ms) zero n d l e = ap (λ (s : ℕ × ℕ). s ∷ shapes ms) e
shapes-set (m ∷ ms) (suc k) n d l e = ap (λ (ss : List (ℕ × ℕ)). shape_of m ∷ ss) (shapes-set ms k n d (omega arith) e)

-- words after one memory was replaced by one of its shape
pub word_in-set_same : (ms : List Memory) (k : ℕ) (n d : Memory) (b : ℕ) → shape_of n ≡ shape_of (get_or ms k d)
    → memory_index ms b ≡ k → k < length ms → word_in (set ms k n) b ≡ word_at n b
word_in-set_same [] k n d b e i l = absurd (omega arith)
word_in-set_same (m ∷ ms) zero n d b e i l = elim (cases_Bool (contains m b)) [
  | inl here ↦ let same = contains-shape n m b e in rw (same, here) refl
  | inr other ↦ let j = rw other at i in absurd (omega arith)
]
word_in-set_same (m ∷ ms) (suc k) n d b e i l = elim (cases_Bool (contains m b)) [
  | inl here ↦ let j = rw here at i in absurd (omega arith)
  | inr other ↦ let j : suc (memory_index ms b) ≡ suc k =
      rw other at i in rw other (word_in-set_same ms k n d b e (omega arith) (omega arith))
]

pub word_in-set_other : (ms : List Memory) (k : ℕ) (n d : Memory) (b : ℕ) → shape_of n ≡ shape_of (get_or ms k d)
    → memory_index ms b ≢ k → k < length ms → word_in (set ms k n) b ≡ word_in ms b
word_in-set_other [] k n d b e i l = absurd (omega arith)
word_in-set_other (m ∷ ms) zero n d b e i l = elim (cases_Bool (contains m b)) [
  | inl here ↦ absurd (i (rw here refl))
  | inr other ↦ let same = contains-shape n m b e in rw (same, other) refl
]
word_in-set_other (m ∷ ms) (suc k) n d b e i l = elim (cases_Bool (contains m b)) [
  | inl here ↦ rw here refl
  | inr other ↦ rw other (word_in-set_other ms k n d b e (λ same. i (rw other (ap suc same))) (omega arith))
]

length-overwrite : (xs : List ℕ) (i : ℕ) (ys : List ℕ) → i + length ys ≤ length xs
    → length (overwrite xs i ys) ≡ length xs
length-overwrite xs i ys h =
    let f = length-take-le i xs (omega arith) in
    let a = length-append (take i xs) (ys ++ drop (i + length ys) xs) in
    let b = length-append ys (drop (i + length ys) xs) in
    let c = length-drop (i + length ys) xs in
    omega arith

-- THE RULE OF MOVES
pub moved_words : (ms : List Memory) (lo hi to from n : ℕ) (d : Memory) → IsApart (shapes ms) → lo < length ms
    → hi < length ms
    → (get_or ms lo d).base % 8 ≡ 0 → (get_or ms hi d).base % 8 ≡ 0 → to % 8 ≡ 0 → from % 8 ≡ 0 → n % 8 ≡ 0
    → (get_or ms lo d).base ≤ to → to + n ≤ end_of (get_or ms lo d) → (get_or ms hi d).base ≤ from
    → from + n ≤ end_of (get_or ms hi d)
    → (b : ℕ) → b % 8 ≡ 0 → word_in (set ms lo (moved (get_or ms lo d) (get_or ms hi d) to from n)) b
    ≡ moves from to n (word_in ms) b
moved_words ms lo hi to from n d apart l k z0 z1 z2 z3 z4 a0 a1 b0 b1 b z =
    let m = get_or ms lo d in
    let o = get_or ms hi d in
    let count = length-part o.words (place_of o from) (n / 8) (omega arith) in
    let long = length-overwrite m.words (place_of m to) (part o.words (place_of o from) (n / 8)) (omega arith) in
    let shape : shape_of (moved m o to from n) ≡ shape_of m = ap (λ (x : ℕ). (m.base, 8 * x)) long in
    elim (cases_lt b to) [
      | inl below ↦
          let t : leb to b ≡ false = lt-leb to b below in
          rw t (unmoved ms lo hi to from n d apart l k z0 z1 z2 z3 z4 a0 a1 b0 b1 b z shape (inl below))
      | inr above ↦ elim (cases_lt b (to + n)) [
        | inl inside ↦
            let t : leb to b ≡ true = le-leb to b above in
            let u : ltb b (to + n) ≡ true = lt-ltb b (to + n) inside in
            let here = index_unique ms lo b d apart l (contains_from m b (omega arith) (omega arith)) in
            let q = from + (b - to) in
            let there = index_unique ms hi q d apart k (contains_from o q (omega arith) (omega arith)) in
            let bound : memory_index ms q < length ms = rw there k in
            let read : word_at o q ≡ word_in ms q =
            ap (λ (j : ℕ). word_at (get_or ms j d) q) (sym there) ∙ get_memory ms q d bound in
            rw (t, u) (word_in-set_same ms lo (moved m o to from n) d b shape here l
            ∙ word_at-moved_inside m o to from n a0 a1 b0 b1 z0 z1 z2 z3 z4 b above inside ∙ read)
        | inr past ↦
            let t : leb to b ≡ true = le-leb to b above in
            let u : ltb b (to + n) ≡ false = le-ltb b (to + n) past in
            rw (t, u) (unmoved ms lo hi to from n d apart l k z0 z1 z2 z3 z4 a0 a1 b0 b1 b z shape (inr past))
      ]
    ]
  where
    unmoved : (ms : List Memory) (lo hi to from n : ℕ) (d : Memory) → IsApart (shapes ms) → lo < length ms
        → hi < length ms
        → (get_or ms lo d).base % 8 ≡ 0 → (get_or ms hi d).base % 8 ≡ 0 → to % 8 ≡ 0 → from % 8 ≡ 0 → n % 8 ≡ 0
        → (get_or ms lo d).base ≤ to → to + n ≤ end_of (get_or ms lo d) → (get_or ms hi d).base ≤ from
        → from + n ≤ end_of (get_or ms hi d)
        → (b : ℕ) → b % 8 ≡ 0 → shape_of (moved (get_or ms lo d) (get_or ms hi d) to from n) ≡ shape_of (get_or ms lo d)
        → (b < to) ⊎ (to + n ≤ b)
        → word_in (set ms lo (moved (get_or ms lo d) (get_or ms hi d) to from n)) b ≡ word_in ms b
    unmoved ms lo hi to from n d apart l k z0 z1 z2 z3 z4 a0 a1 b0 b1 b z shape out =
        let m = get_or ms lo d in
        let o = get_or ms hi d in
        elim (cases_eq (memory_index ms b) lo) [
          | inl here ↦
              let bound : memory_index ms b < length ms = rw here l in
              let held = contains_at_index ms b d bound in
              let held' : contains m b ≡ true = ap (λ (j : ℕ). contains (get_or ms j d) b) (sym here) ∙ held in
              let c = contains_bounds m b held' in
              let read : word_at m b ≡ word_in ms b =
              ap (λ (j : ℕ). word_at (get_or ms j d) b) (sym here) ∙ get_memory ms b d bound in
              word_in-set_same ms lo (moved m o to from n) d b shape here l
              ∙ word_at-moved_outside m o to from n a0 a1 b0 b1 z0 z1 z2 z3 z4 b c.0 out ∙ read
          | inr elsewhere ↦ word_in-set_other ms lo (moved m o to from n) d b shape elsewhere l
        ]

-- lower addresses lie in lower memories
pub index_order : (ms : List Memory) (a b : ℕ) (d : Memory) → IsApart (shapes ms) → memory_index ms a < length ms
    → memory_index ms b < length ms → a ≤ b → memory_index ms a ≤ memory_index ms b
index_order ms a b d apart ha hb l = elim (cases_lt (memory_index ms b) (memory_index ms a)) [
  | inl wrong ↦
      let o = apart_order ms (memory_index ms b) (memory_index ms a) d apart wrong ha in
      let x = contains_bounds (get_or ms (memory_index ms a) d) a (contains_at_index ms a d ha) in
      let y = contains_bounds (get_or ms (memory_index ms b) d) b (contains_at_index ms b d hb) in
      absurd (omega arith)
  | inr right ↦ right
]

-- all that a move leaves
pub record MovedAll (ms new : List Memory) (from to n : ℕ) : Type 0 where
  pub words : (b : ℕ) → b % 8 ≡ 0 → word_in new b ≡ moves from to n (word_in ms) b
  pub shapes : shapes new ≡ shapes ms
  pub len : length new ≡ length ms

abbrev pub no_memory : Memory
no_memory = record { base = 0; words = [] }

pub holds_in_one : (ms : List Memory) (k a n : ℕ) (d : Memory) → k ≡ memory_index ms a → InOne ms a n
    → Holds (get_or ms k d) a 8 → Holds (get_or ms k d) a n
holds_in_one ms k a n d e i h = record { above = h.above; below = rw e (i.within d); start = h.start; whole = i.whole }

pub moved_all : (ms new : List Memory) (from to n : ℕ) (lo hi : ℕ) (d : Memory) → IsApart (shapes ms) → lo < length ms
    → hi < length ms
    → (get_or ms lo d).base % 8 ≡ 0 → (get_or ms hi d).base % 8 ≡ 0 → Holds (get_or ms lo d) to n
    → Holds (get_or ms hi d) from n
    → new ≡ set ms lo (moved (get_or ms lo d) (get_or ms hi d) to from n) → MovedAll ms new from to n
moved_all ms new from to n lo hi d apart l k z0 z1 a b is =
    let m = get_or ms lo d in
    let o = get_or ms hi d in
    let a0 = a.above in
    let a1 = a.below in
    let a2 = a.start in
    let a3 = a.whole in
    let b0 = b.above in
    let b1 = b.below in
    let b2 = b.start in
    let count = length-part o.words (place_of o from) (n / 8) (omega arith) in
    let long = length-overwrite m.words (place_of m to) (part o.words (place_of o from) (n / 8)) (omega arith) in
    let shape : shape_of (moved m o to from n) ≡ shape_of m = ap (λ (x : ℕ). (m.base, 8 * x)) long in
    record {
      words = λ q z. ap (λ (ns : List Memory). word_in ns q) is
          ∙ moved_words ms lo hi to from n d apart l k z0 z1 a2 b2 a3 a0 a1 b0 b1 q z;
      shapes = ap shapes is ∙ shapes-set ms lo (moved m o to from n) d l shape;
      len = ap length is ∙ length-set ms lo (moved m o to from n);
    }
