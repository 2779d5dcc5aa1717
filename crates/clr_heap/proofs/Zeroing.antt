-- Words that are cleared within a memory.
use Rattle.std.proofs.Common.{◌≡◌, ◌⊎◌, inl, inr, ℕ, ◌+◌, ◌*◌, ◌%◌, ◌<◌, ◌≤◌, true, false, leb, ltb, List, length}
use Rattle.std.proofs.Common.{get_or, set, ap, sym, ◌∙◌, arith, length-set}
use Rattle.std.proofs.lemmas.Bool.{cases_eq, cases_lt, le-leb, lt-leb, lt-ltb, le-ltb}
use Rattle.clr_mem.specs.Words.{cleared, Holds, Memory, word_at}
use Rattle.clr_mem.proofs.Callers.{length-cleared, word_at-cleared_inside, word_at-cleared_outside}
use Rattle.clr_heap.specs.Memories.{clears, contains, IsApart, memory_index, shape_of, shapes, word_in}
use Rattle.clr_heap.proofs.Storing.{contains_bounds, contains_from, contains_at_index, get_memory}
use Rattle.clr_heap.proofs.Moving.{index_unique, shapes-set, word_in-set_other, word_in-set_same}

-- all that clearing leaves
pub record ClearedAll (ms new : List Memory) (a n : ℕ) : Type 0 where
  pub words : (b : ℕ) → b % 8 ≡ 0 → word_in new b ≡ clears a n (word_in ms) b
  pub shapes : shapes new ≡ shapes ms
  pub len : length new ≡ length ms

module _ (ms : List Memory) (k a n : ℕ) (d : Memory) (apart : IsApart (shapes ms)) (l : k < length ms)
    (base : (get_or ms k d).base % 8 ≡ 0) (held : Holds (get_or ms k d) a n) where
  abbrev m : Memory
  m = get_or ms k d

  shape : shape_of (cleared m a n) ≡ shape_of m
  shape = ap (λ (x : ℕ). (m.base, 8 * x)) (length-cleared m a n held.above held.below base held.start held.whole)

  inside : (b : ℕ) → a ≤ b → b < a + n → word_in (set ms k (cleared m a n)) b ≡ 0
  inside b low high =
      let above = held.above in
      let below = held.below in
      let here = index_unique ms k b d apart l (contains_from m b (omega arith) (omega arith)) in
      word_in-set_same ms k (cleared m a n) d b shape here l
      ∙ word_at-cleared_inside m a n held.above held.below base held.start held.whole b low high

  outside : (b : ℕ) → (b < a) ⊎ (a + n ≤ b) → word_in (set ms k (cleared m a n)) b ≡ word_in ms b
  outside b out = elim (cases_eq (memory_index ms b) k) [
    | inl here ↦
        let bound : memory_index ms b < length ms = rw here l in
        let at : contains m b ≡ true =
        ap (λ (j : ℕ). contains (get_or ms j d) b) (sym here) ∙ contains_at_index ms b d bound in
        let c = contains_bounds m b at in
        let read : word_at m b ≡ word_in ms b =
        ap (λ (j : ℕ). word_at (get_or ms j d) b) (sym here) ∙ get_memory ms b d bound in
        word_in-set_same ms k (cleared m a n) d b shape here l
        ∙ word_at-cleared_outside m a n held.above held.below base held.start held.whole b c.0 out ∙ read
    | inr elsewhere ↦ word_in-set_other ms k (cleared m a n) d b shape elsewhere l
  ]

  -- THE RULE OF CLEARING
  pub cleared_words : (b : ℕ) → word_in (set ms k (cleared m a n)) b ≡ clears a n (word_in ms) b
  cleared_words b = elim (cases_lt b a) [
    | inl below ↦ let t : leb a b ≡ false = lt-leb a b below in rw t (outside b (inl below))
    | inr above ↦
        let t : leb a b ≡ true = le-leb a b above in
        elim (cases_lt b (a + n)) [
          | inl within ↦ let u : ltb b (a + n) ≡ true = lt-ltb b (a + n) within in rw (t, u) (inside b above within)
          | inr past ↦ let u : ltb b (a + n) ≡ false = le-ltb b (a + n) past in rw (t, u) (outside b (inr past))
        ]
  ]

  pub cleared_all : (new : List Memory) → new ≡ set ms k (cleared m a n) → ClearedAll ms new a n
  cleared_all new is = record {
    words = λ b z. ap (λ (ns : List Memory). word_in ns b) is ∙ cleared_words b;
    shapes = ap shapes is ∙ shapes-set ms k (cleared m a n) d l shape;
    len = ap length is ∙ length-set ms k (cleared m a n);
  }
