-- Items that are made: what their writes leave.
use Rattle.std.proofs.Common.{◌≡◌, ◌≢◌, inl, inr, ℕ, ◌+◌, ◌-◌, ◌%◌, ◌≤◌, true, false, List, [], ◌∷◌}
use Rattle.std.proofs.Common.{sym, ◌∙◌, subst, arith, ltb}
use Rattle.std.proofs.lemmas.Bool.{cases_Bool, le-ltb, lt-ltb, true≢false}
use Rattle.clr_types.specs.Types.{TypeRow, form_at, is_array, mt_of}
use Rattle.clr_heap.specs.Parts.{IsMakeable, from_place, IsBoundary, item_part, Part}
use Rattle.clr_heap.specs.Parts.{rest_part, Sight, Spells}
use Rattle.clr_heap.specs.View.{CanWalk, first_of, HasHead, HeapView, IsWalkable, last_of}
use Rattle.clr_heap.specs.View.{parts_of, placed, SameShape, sight, stored, word_of}
use Rattle.clr_heap.proofs.Storing.{word_in-store_in_same, word_in-store_in_other, HasWord-store_in}
use Rattle.clr_heap.proofs.Spelling.{item_size}
use Rattle.clr_heap.proofs.Spelling.{Spells-le}
use Rattle.clr_heap.proofs.Rewrite.{SameShape-refl, SameShape-stored}

-- what the head of an item leaves
pub record Placed (rows : List TypeRow) (h new : HeapView) (a t n : ℕ) : Type 0 where
  pub shape : SameShape h new
  pub header : word_of new (a - 8) ≡ 0
  pub mt : word_of new a ≡ mt_of t
  pub len : is_array (form_at rows t) ≡ true → word_of new (a + 8) ≡ n
  pub others : (b : ℕ) → b % 8 ≡ 0 → b ≢ a - 8 → b ≢ a → b ≢ a + 8 → word_of new b ≡ word_of h b

pub placed_leaves : (rows : List TypeRow) (h : HeapView) (a t n : ℕ) → HasHead h a
    → Placed rows h (placed rows h a t n) a t n
unfolding placed
placed_leaves rows h a t n g =
    let h1 = stored h (a - 8) 0 in
    let h2 = stored h1 a (mt_of t) in
    let up = g.above in
    let z0 = g.header.aligned in
    let z1 = g.mt.aligned in
    let z2 = g.len.aligned in
    let mt1 = HasWord-store_in h.memories (a - 8) 0 a g.mt in
    let len1 = HasWord-store_in h.memories (a - 8) 0 (a + 8) g.len in
    let len2 = HasWord-store_in h1.memories a (mt_of t) (a + 8) len1 in
    let shape2 = SameShape-stored h h1 a (mt_of t) (SameShape-stored h h (a - 8) 0 (SameShape-refl h)) in
    let header1 : word_of h1 (a - 8) ≡ 0 = word_in-store_in_same h.memories (a - 8) 0 g.header.inside in
    let header2 : word_of h2 (a - 8) ≡ 0 =
    word_in-store_in_other h1.memories a (mt_of t) (a - 8) z1 z0 (λ same. omega arith) ∙ header1 in
    let word2 : word_of h2 a ≡ mt_of t = word_in-store_in_same h1.memories a (mt_of t) mt1.inside in
    let others2 : (b : ℕ) → b % 8 ≡ 0 → b ≢ a - 8 → b ≢ a → word_of h2 b ≡ word_of h b =
    λ b z p q. word_in-store_in_other h1.memories a (mt_of t) b z1 z q
    ∙ word_in-store_in_other h.memories (a - 8) 0 b z0 z p in
    elim (cases_Bool (is_array (form_at rows t))) [
      | inl some_len ↦ rw some_len (record {
        shape = SameShape-stored h h2 (a + 8) n shape2;
        header = word_in-store_in_other h2.memories (a + 8) n (a - 8) z2 z0 (λ same. omega arith) ∙ header2;
        mt = word_in-store_in_other h2.memories (a + 8) n a z2 z1 (λ same. omega arith) ∙ word2;
        len = λ _. word_in-store_in_same h2.memories (a + 8) n len2.inside;
        others = λ b z p q r. word_in-store_in_other h2.memories (a + 8) n b z2 z r ∙ others2 b z p q;
      })
      | inr no_len ↦ rw no_len (record {
        shape = shape2;
        header = header2;
        mt = word2;
        len = λ has. absurd (true≢false (sym has ∙ no_len));
        others = λ b z p q r. others2 b z p q;
      })
    ]

-- ---- runs of parts that are replaced

pub boundary-le : (s : Sight) (ps : List Part) (p e c : ℕ) → Spells s p ps e → IsBoundary ps p c → p ≤ c
boundary-le s [] p e c h b = omega arith
boundary-le s (item_part i ∷ ps) p e c h b =
    let f = item_size s i p h.1 h.2 in
    let next : i.place + i.size ≡ p + i.size = omega arith in
    elim b [
      | inl same ↦ omega arith
      | inr later ↦
          let later' : IsBoundary ps (p + i.size) c =
          let P : ℕ → Type 0 = λ q. IsBoundary ps q c in subst P next later in
          let ih = boundary-le s ps (p + i.size) e c h.3 later' in omega arith
    ]
boundary-le s (rest_part lo hi ∷ ps) p e c h b = elim b [
  | inl same ↦ omega arith
  | inr later ↦ let ih = boundary-le s ps hi e c h.4 later in omega arith
]

-- the parts from a boundary on
pub from_boundary : (s : Sight) (ps : List Part) (p e c : ℕ) → Spells s p ps e → IsBoundary ps p c
    → Spells s c (from_place ps c) e
from_boundary s [] p e c h b = b ∙ h
from_boundary s (item_part i ∷ ps) p e c h b =
    let f = item_size s i p h.1 h.2 in
    let next : i.place + i.size ≡ p + i.size = omega arith in
    elim b [
      | inl same ↦
          let stop : ltb i.place c ≡ false = le-ltb i.place c (omega arith) in
          let P : ℕ → Type 0 = λ q. Spells s q (item_part i ∷ ps) e in
          rw stop (subst P (sym same) h)
      | inr later ↦
          let later' : IsBoundary ps (p + i.size) c =
          let P : ℕ → Type 0 = λ q. IsBoundary ps q c in subst P next later in
          let up = boundary-le s ps (p + i.size) e c h.3 later' in
          let go : ltb i.place c ≡ true = lt-ltb i.place c (omega arith) in
          rw go (from_boundary s ps (p + i.size) e c h.3 later')
    ]
from_boundary s (rest_part lo hi ∷ ps) p e c h b = elim b [
  | inl same ↦
      let stop : ltb lo c ≡ false = le-ltb lo c (omega arith) in
      let P : ℕ → Type 0 = λ q. Spells s q (rest_part lo hi ∷ ps) e in
      rw stop (subst P (sym same) h)
  | inr later ↦
      let up = boundary-le s ps hi e c h.4 later in
      let go : ltb lo c ≡ true = lt-ltb lo c (omega arith) in
      rw go (from_boundary s ps hi e c h.4 later)
]

-- the words of a head in a segment can be written
pub head_from_walk : (s : Sight) (h : HeapView) (first last a : ℕ) → CanWalk s h.memories first last → 8 ≤ first
    → a % 8 ≡ 0 → first ≤ a → a + 24 ≤ last → HasHead h a
head_from_walk s h first last a c up z lo hi = record {
  above = omega arith;
  header = record { aligned = omega arith; inside = c.held (a - 8) (omega arith) (omega arith) (omega arith) };
  mt = record { aligned = z; inside = c.held a z (omega arith) (omega arith) };
  len = record { aligned = omega arith; inside = c.held (a + 8) (omega arith) (omega arith) (omega arith) };
}

pub boundary-aligned : (s : Sight) (ps : List Part) (p e c : ℕ) → p % 8 ≡ 0 → Spells s p ps e → IsBoundary ps p c
    → (c % 8 ≡ 0) × (c ≤ e)
boundary-aligned s [] p e c z h b = (omega arith, omega arith)
boundary-aligned s (item_part i ∷ ps) p e c z h b =
    let f = item_size s i p h.1 h.2 in
    let l = Spells-le s ps (p + i.size) e h.3 in
    let next : i.place + i.size ≡ p + i.size = omega arith in
    elim b [
      | inl same ↦ (omega arith, omega arith)
      | inr later ↦
          let Q : ℕ → Type 0 = λ q. IsBoundary ps q c in
          boundary-aligned s ps (p + i.size) e c (omega arith) h.3 (subst Q next later)
    ]
boundary-aligned s (rest_part lo hi ∷ ps) p e c z h b =
    let l = Spells-le s ps hi e h.4 in
    elim b [
      | inl same ↦ (omega arith, omega arith)
      | inr later ↦ boundary-aligned s ps hi e c h.3 h.4 later
    ]

-- a head between two boundaries can be written
pub head_at : (rows : List TypeRow) (h : HeapView) (k a c : ℕ) → IsWalkable rows h k
    → IsBoundary (parts_of rows h k) (first_of h k) a → IsBoundary (parts_of rows h k) (first_of h k) c → a + 24 ≤ c
    → HasHead h a
head_at rows h k a c w ba bc l =
    let s = sight rows h k in
    let za = boundary-aligned s (parts_of rows h k) (first_of h k) (last_of h k) a w.start w.spelled ba in
    let zc = boundary-aligned s (parts_of rows h k) (first_of h k) (last_of h k) c w.start w.spelled bc in
    let low_a = boundary-le s (parts_of rows h k) (first_of h k) (last_of h k) a w.spelled ba in
    head_from_walk s h (first_of h k) (last_of h k) a w (omega arith) za.0 low_a (omega arith)

-- a free item of any size up to the largest can be made
pub free_makeable : (rows : List TypeRow) (n : ℕ) → n % 8 ≡ 0 → n + 24 ≤ 1073741824 → IsMakeable rows 0 n
free_makeable rows n z most = record {
  known = omega arith;
  no_length = λ f. absurd (true≢false f);
  least = omega arith;
  most = omega arith;
  whole = omega arith;
  free = λ _. z;
}
