-- The last pause: all that is found is marked, by words of bits.
use Rattle.std.proofs.Common.{◌≡◌, ℕ, zero, suc, ◌+◌, ◌-◌, ◌*◌, ◌/◌, ◌%◌, ◌^◌, ◌<◌, ◌⊎◌, inl, inr, List, []}
use Rattle.std.proofs.Common.{get_or, true, refl, ap, sym, ◌∙◌, subst, arith, bit_and, min, w64}
use Rattle.std.specs.Int.{bit_at, trailing_zeros}
use Rattle.std.proofs.lemmas.Bool.{cases_Bool, cases_eq, cases_lt}
use Rattle.std.proofs.lemmas.Nat.{and_le_r}
use Rattle.std.proofs.lemmas.Nat.Bits.{bit_at-lt, bit_at-suc, bit_at-trailing_zeros, bit_at-zero, bit_at_and}
use Rattle.std.proofs.lemmas.Nat.Bits.{bit_at_lowest}
use Rattle.clr_mem.specs.Words.{Memory}
use Rattle.clr_types.specs.Segments.{empty_segment}
use Rattle.clr_types.specs.Types.{TypeRow}
use Rattle.clr_heap.specs.Memories.{HasWord, memory_index}
use Rattle.clr_heap.specs.View.{HeapView, IsHeap, word_of}
use Rattle.clr_heap.proofs.Framing.{count_is, lawful_at, memories_apart, memory_extent}
use Rattle.clr_heap.proofs.Moving.{index_unique}
use Rattle.clr_heap.proofs.Storing.{contains_at_index, contains_bounds, contains_from, memory_index-shapes}
use Rattle.clr_heap.proofs.Rewrite.{shaped_heap}
use Rattle.clr_view.specs.Marks.{has_mark, Marked}
use Rattle.clr_view.specs.SlotValues.{StandsAt}
use Rattle.clr_view.specs.View.{IsHeld}
use Rattle.clr_mark.specs.Marks.{IsRemarked, is_condemned_place, with_mark}
use Rattle.clr_mark.proofs.Graying.{AfterMark, new_mark, no_mark, object_word}
use Rattle.clr_mark.proofs.Held.{keeps_held, remarked-refl, remarked-trans}
use Rattle.clr_mark.proofs.Remarking.{keeps_stands}
use Rattle.clr_mark.proofs.Rooting.{all_condemned}
use Rattle.clr_bgmark.specs.LastPause.{HasMarked, IsInWord}

-- ---- a word without its lowest bit

-- behind the lowest bit a number and the one before it have the same bits
pred_bit : (t n i : ℕ) → bit_at n t ≡ 1 → ((j : ℕ) → j < t → bit_at n j ≡ 0) → t < i → bit_at (n - 1) i ≡ bit_at n i
pred_bit t n zero on below l = absurd (omega arith)
pred_bit zero n (suc i) on below l =
    let odd = bit_at_lowest n in
    let half : (n - 1) / 2 ≡ n / 2 = omega (arith, odd, on) in
    bit_at-suc (n - 1) i ∙ ap (λ m. bit_at m i) half ∙ sym (bit_at-suc n i)
pred_bit (suc t) n (suc i) on below l =
    let even = bit_at_lowest n in
    let none = below 0 (omega arith) in
    let half : (n - 1) / 2 ≡ n / 2 - 1 = omega (arith, even, none) in
    bit_at-suc (n - 1) i ∙ ap (λ m. bit_at m i) half
    ∙ pred_bit t (n / 2) i (sym (bit_at-suc n t) ∙ on)
    (λ j low. sym (bit_at-suc n j) ∙ below (suc j) (omega (arith, low))) (omega (arith, l))
    ∙ sym (bit_at-suc n i)

module _ (n : ℕ) (some : 0 < n) (fits : n < 2 ^ 64) where
  abbrev rest : ℕ
  rest = bit_and n (n - 1)

  -- what is left was there
  pub rest_only : (i : ℕ) → bit_at rest i ≡ 1 → bit_at n i ≡ 1
  rest_only i on =
      let both = bit_at_and n (n - 1) i in let low = bit_at-lt n i in
      grind (arith, both, low, on)

  -- all else is left
  pub rest_others : (t i : ℕ) → t ≡ trailing_zeros w64 n → bit_at n i ≡ 1 → (i ≡ t) ⊎ (bit_at rest i ≡ 1)
  rest_others t i is on =
      let z = bit_at-trailing_zeros w64 n some fits in
      elim (cases_eq i t) [
        | inl e ↦ inl e
        | inr ne ↦ elim (cases_lt i t) [
          | inl low ↦ let off = z.2 i (omega (arith, low, is)) in absurd (omega (arith, off, on))
          | inr high ↦
              let same = pred_bit t n i (ap (bit_at n) is ∙ z.1) (λ j l. z.2 j (omega (arith, l, is)))
              (omega (arith, high, ne)) in
              let both = bit_at_and n (n - 1) i in
              inr (both ∙ (λ j. min (on j) ((same ∙ on) j)))
        ]
      ]

  pub rest_less : rest < n
  rest_less = let l = and_le_r n (n - 1) in omega (arith, l, some)

-- ---- the words of one page lie in one memory

pub near_index : (h : HeapView) (a b : ℕ) → IsHeap h → HasWord h.memories a → a / 512 ≡ b / 512
    → memory_index h.memories b ≡ memory_index h.memories a
near_index h a b heap has near =
    let d : Memory = record { base = 0; words = [] } in
    let k = memory_index h.memories a in
    let count = count_is h heap in
    let low = has.inside in
    let here = contains_bounds (get_or h.memories k d) a (contains_at_index h.memories a d low) in
    let extent = memory_extent h.memories h.segments k d empty_segment heap.memories low (omega (arith, count, low)) in
    let base = ap (λ (p : ℕ × ℕ). p.0) extent in
    let size = ap (λ (p : ℕ × ℕ). p.1) extent in
    let law = lawful_at h k heap (omega (arith, count, low)) in
    let whole = law.base in
    let pages = law.reserved in
    let from = here.0 in
    let to = here.1 in
    index_unique h.memories k b d (memories_apart h heap) low
    (contains_from (get_or h.memories k d) b (omega (arith, near, base, whole, from))
    (omega (arith, near, base, size, whole, pages, to)))

-- ---- marks

-- what was marked of all these places, and which are left
pub record IsMarking (rows : List TypeRow) (All Left : ℕ → Type 0) (old now : HeapView) : Type 0 where
  pub words : IsRemarked rows old now
  pub kept : (x : ℕ) → Marked rows old x → Marked rows now x
  pub only : (x : ℕ) → Marked rows now x → Marked rows old x ⊎ All x
  pub found : (x : ℕ) → All x → Left x ⊎ Marked rows now x

pub marking_begins : (rows : List TypeRow) (All : ℕ → Type 0) (h : HeapView) → IsMarking rows All All h h
marking_begins rows All h = record {
  words = remarked-refl rows h;
  kept = λ x m. m;
  only = λ x m. inl m;
  found = λ x f. inl f;
}

-- more of them are marked
pub marking_goes : (rows : List TypeRow) (All Left Less Part : ℕ → Type 0) (old now new : HeapView) → IsHeap old
    → IsHeld rows old → IsMarking rows All Left old now → HasMarked rows Part now new
    → ((x : ℕ) → Part x → All x) → ((x : ℕ) → Left x → Part x ⊎ Less x) → IsMarking rows All Less old new
marking_goes rows All Left Less Part old now new heap held r more among splits = record {
  words = remarked-trans rows old now new heap held r.words more.words;
  kept = λ x m. more.kept x (r.kept x m);
  only = λ x m. elim (more.only x m) [
    | inl before ↦ r.only x before
    | inr is ↦ inr (among x is)
  ];
  found = λ x f. elim (r.found x f) [
    | inl left ↦ elim (splits x left) [
      | inl is ↦ inr (more.found x is)
      | inr less ↦ inl less
    ]
    | inr was ↦ inr (more.kept x was)
  ];
}

-- fewer are left, where none of the others were
pub marking_passes : (rows : List TypeRow) (All Left Less : ℕ → Type 0) (old now : HeapView)
    → IsMarking rows All Left old now → ((x : ℕ) → Left x → Less x) → IsMarking rows All Less old now
marking_passes rows All Left Less old now r fewer = record {
  words = r.words;
  kept = r.kept;
  only = r.only;
  found = λ x f. elim (r.found x f) [ inl left ↦ inl (fewer x left) | inr was ↦ inr was ];
}

-- none is left
pub marking_ends : (rows : List TypeRow) (All Left : ℕ → Type 0) (old now : HeapView) → IsMarking rows All Left old now
    → ((x : ℕ) → Left x → ⊥) → HasMarked rows All old now
marking_ends rows All Left old now r none = record {
  words = r.words;
  kept = r.kept;
  only = r.only;
  found = λ x f. elim (r.found x f) [ inl left ↦ absurd (none x left) | inr was ↦ was ];
}

-- the objects that stand, stand on
pub marking_stands : (rows : List TypeRow) (All Left : ℕ → Type 0) (old now : HeapView) → IsHeap old → IsHeld rows old
    → IsMarking rows All Left old now → (x : ℕ) → StandsAt rows old x → StandsAt rows now x
marking_stands rows All Left old now heap held r x s = keeps_stands rows old now heap held r.words x s

-- one mark
pub one_marked : (rows : List TypeRow) (h new : HeapView) (y : ℕ) → IsHeap h → IsHeld rows h → StandsAt rows h y
    → new ≡ with_mark h 2 y → HasMarked rows (λ x. x ≡ y) h new
one_marked rows h new y heap held s is = subst (λ (k : HeapView). HasMarked rows (λ x. x ≡ y) h k) (sym is) (record {
  words = made.remarked;
  kept = made.kept;
  only = λ x m. elim (made.only x m) [ inl p ↦ inr p.0 | inr before ↦ inl before ];
  found = λ x e. subst (Marked rows (with_mark h 2 y)) (sym e) (made.there near);
})
  where
    near : is_condemned_place h 2 y ≡ true
    near = all_condemned h 2 y (omega arith)

    made : AfterMark rows 2 h (with_mark h 2 y) y
    made = elim (cases_Bool (has_mark (word_of h y))) [
      | inl on ↦ rw (near, on) (no_mark rows h 2 y heap held s (λ _. on))
      | inr off ↦ rw (near, off) (new_mark rows h 2 y heap held s near off)
    ]

-- the heap stays one
pub marking_heap : (rows : List TypeRow) (All Left : ℕ → Type 0) (old now : HeapView) → IsHeap old
    → IsMarking rows All Left old now → IsHeap now
marking_heap rows All Left old now heap r = shaped_heap old now r.words.shape heap

pub marking_held : (rows : List TypeRow) (All Left : ℕ → Type 0) (old now : HeapView) → IsHeap old → IsHeld rows old
    → IsMarking rows All Left old now → IsHeld rows now
marking_held rows All Left old now heap held r = keeps_held rows old now heap held r.words

-- ---- one word of bits

module _ (rows : List TypeRow) (old now : HeapView) (heap : IsHeap old) (held : IsHeld rows old) (place bits rest : ℕ)
    (aligned : place % 512 ≡ 0) (stands : (x : ℕ) → IsInWord place bits x → StandsAt rows old x)
    (r : IsMarking rows (IsInWord place bits) (IsInWord place rest) old now) (some : 0 < rest) (fits : rest < 2 ^ 64)
    (among : (i : ℕ) → bit_at rest i ≡ 1 → bit_at bits i ≡ 1) (t : ℕ) (is : t ≡ trailing_zeros w64 rest) where
  -- the place of its lowest bit
  abbrev lowest : ℕ
  lowest = place + 8 * t

  low : t < 64
  low = let z = bit_at-trailing_zeros w64 rest some fits in let l = z.0 in omega (arith, l, is)

  on : bit_at rest t ≡ 1
  on = let z = bit_at-trailing_zeros w64 rest some fits in ap (bit_at rest) is ∙ z.1

  pub lowest_in : IsInWord place bits lowest
  lowest_in = record { index = t; low = low; at = refl; has = among t on }

  lowest_stands : StandsAt rows now lowest
  lowest_stands = marking_stands rows (IsInWord place bits) (IsInWord place rest) old now heap held r lowest
      (stands lowest lowest_in)

  pub lowest_word : HasWord now.memories lowest
  lowest_word = object_word rows now 2 lowest
      (marking_heap rows (IsInWord place bits) (IsInWord place rest) old now heap r)
      (marking_held rows (IsInWord place bits) (IsInWord place rest) old now heap held r) lowest_stands

  -- it lies in the memory of any other
  pub lowest_index : (u : ℕ) → u < 64 → HasWord old.memories (place + 8 * u)
      → memory_index old.memories (place + 8 * u) ≡ memory_index now.memories lowest
  lowest_index u few has =
      let below = low in
      sym (near_index old (place + 8 * u) lowest heap has (omega (arith, aligned, few, below)))
      ∙ memory_index-shapes old.memories now.memories lowest (sym r.words.shape.memories)

  -- it is marked, and the others are left
  pub word_goes : (new : HeapView) → new ≡ with_mark now 2 lowest
      → IsMarking rows (IsInWord place bits) (IsInWord place (bit_and rest (rest - 1))) old new
  word_goes new made =
      marking_goes rows (IsInWord place bits) (IsInWord place rest) (IsInWord place (bit_and rest (rest - 1)))
      (λ x. x ≡ lowest) old now new heap held r
      (one_marked rows now new lowest
      (marking_heap rows (IsInWord place bits) (IsInWord place rest) old now heap r)
      (marking_held rows (IsInWord place bits) (IsInWord place rest) old now heap held r) lowest_stands made)
      (λ x e. subst (IsInWord place bits) (sym e) lowest_in)
      (λ x left. elim (rest_others rest some fits t left.index is left.has) [
        | inl e ↦ inl (left.at ∙ ap (λ i. place + 8 * i) e)
        | inr more ↦ inr (record { index = left.index; low = left.low; at = left.at; has = more })
      ])

-- no place is left in no bits
pub none_in_word : (place x : ℕ) → IsInWord place 0 x → ⊥
none_in_word place x i = let has = i.has in let none = bit_at-zero i.index in omega (arith, has, none)
