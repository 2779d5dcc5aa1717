-- The search for the front of a segment, word by word.
use Rattle.std.proofs.Common.{◌≡◌, inl, inr, ℕ, ◌+◌, ◌*◌, ◌/◌, ◌%◌, ◌<◌, ◌≤◌, ◌↔◌, Bool, true, get_or, ap, sym}
use Rattle.std.proofs.Common.{◌∙◌, subst, arith}
use Rattle.std.proofs.Common.{nat_eq, ◌⊎◌, ◌==◌, max, min}
use Rattle.std.specs.Int.{bit_at}
use Rattle.std.proofs.lemmas.Bool.{both_ways, cases_lt, eqb-true, le-ltb}
use Rattle.clr_types.specs.Segments.{generation}
use Rattle.clr_types.specs.Types.{mt_of}
use Rattle.clr_heap.specs.View.{first_of, frame, HeapView, last_of}
use Rattle.clr_bgmark.specs.Pauses.{IsOldBelow}
use Rattle.clr_bgmark.specs.Bits.{has_bit}
use Rattle.clr_bgmark.specs.Settling.{AreGood, AreTakenBelow, IsFreeGap, IsOldGroup, IsTakenIn}
use Rattle.clr_bgmark.specs.Shades.{cell_of, covers, IsShade, PartView, ShadeView}
use Rattle.clr_bgmark.proofs.Kept.{covers_inside, inside_covers}

module _ (word : ℕ → ℕ) (s : ShadeView) (p : PartView) where
  -- no cell
  pub good_none : AreGood word s p 0 0
  good_none = record { found = λ c low high. absurd (omega arith); gaps = λ c low high. absurd (omega arith) }

  -- those of one word
  pub good_word : (n place gaps : ℕ) → place ≡ s.base + 512 * n → gaps ≡ get_or p.gaps n 0
      → ((c : ℕ) → 64 * n ≤ c → c < 64 * n + 64 → has_bit s.taken c ≡ true → has_bit s.marked c ≡ true)
      → ((i : ℕ) → i < 64 → bit_at gaps i ≡ 1 → IsFreeGap word s (place + 8 * i))
      → AreGood word s p (64 * n) (64 * n + 64)
  good_word n place gaps at is found free = record {
    found = found;
    gaps = λ c low high on.
        let number : c / 64 ≡ n = omega (arith, low, high) in
        let bit : bit_at gaps (c % 64) ≡ 1 =
        ap (λ (w : ℕ). bit_at w (c % 64)) is ∙ (λ j. bit_at (get_or p.gaps (sym number j) 0) (c % 64))
        ∙ eqb-true (bit_at (get_or p.gaps (c / 64) 0) (c % 64)) 1 on in
        let there : place + 8 * (c % 64) ≡ s.base + 8 * c = omega (arith, at, number) in
        subst (IsFreeGap word s) there (free (c % 64) (omega arith) bit);
  }

  -- one word more
  pub good_more : (a b : ℕ) → AreGood word s p 0 a → AreGood word s p a b → AreGood word s p 0 b
  good_more a b before here = record {
    found = λ c low high on. elim (cases_lt c a) [
      | inl below ↦ before.found c low below on
      | inr above ↦ here.found c above high on
    ];
    gaps = λ c low high on. elim (cases_lt c a) [
      | inl below ↦ before.gaps c low below on
      | inr above ↦ here.gaps c above high on
    ];
  }

  -- a gap in one word that is good
  pub free_word : (n place gaps : ℕ) → place ≡ s.base + 512 * n → gaps ≡ get_or p.gaps n 0
      → AreGood word s p (64 * n) (64 * n + 64) → (i : ℕ) → i < 64 → bit_at gaps i ≡ 1
      → IsFreeGap word s (place + 8 * i)
  free_word n place gaps at is good i low on =
      let number : (64 * n + i) / 64 ≡ n = omega (arith, low) in
      let bit : (64 * n + i) % 64 ≡ i = omega (arith, low) in
      let listed : has_bit p.gaps (64 * n + i) ≡ true =
      (λ j. nat_eq (bit_at (get_or p.gaps (number j) 0) (bit j)) 1)
      ∙ ap (λ (w : ℕ). nat_eq (bit_at w i) 1) (sym is) ∙ ap (λ (b : ℕ). nat_eq b 1) on in
      let there : s.base + 8 * (64 * n + i) ≡ place + 8 * i = omega (arith, at) in
      subst (IsFreeGap word s) there (good.gaps (64 * n + i) (omega arith) (omega (arith, low)) listed)

-- ---- a gap

-- the place of the eight bytes of an address at which something was taken
pub taken_around : (s : ShadeView) → IsShade s → (e : ℕ) → covers s e ≡ true → has_bit s.taken (cell_of s e) ≡ true
    → IsTakenIn s (s.base + 8 * cell_of s e)
taken_around s shade e inside on =
    let base = shade.base in
    let low = (covers_inside s e inside).low in
    let high = (covers_inside s e inside).high in
    let x : ℕ = s.base + 8 * cell_of s e in
    let cell : cell_of s x ≡ cell_of s e = omega arith in
    record {
      aligned = omega (arith, base);
      inside = inside_covers s x (record { low = omega arith; high = omega (arith, low, high) });
      taken = ap (has_bit s.taken) cell ∙ on;
    }

-- the object behind a gap is in use
pub gap_below : (word : ℕ → ℕ) (s : ShadeView) (end y : ℕ) → IsShade s → AreTakenBelow s end → IsFreeGap word s y
    → y + 24 + word (y + 8) ≤ end
gap_below word s end y shade below gap =
    let e : ℕ = y + 24 + word (y + 8) in
    let low = (covers_inside s e gap.inside).low in
    let first = below (s.base + 8 * cell_of s e) (taken_around s shade e gap.inside gap.taken) in
    omega (arith, low, first)

-- whether a free item that ends at e is such a gap
pub gap_told : (word : ℕ → ℕ) (s : ShadeView) (y e : ℕ) (told : Bool)
    → (told ≡ true ↔ ((covers s e ≡ true) × (has_bit s.taken (cell_of s e) ≡ true)))
    → (word y ≡ mt_of 0) × (e ≡ y + 24 + word (y + 8)) → (told ≡ true ↔ IsFreeGap word s y)
gap_told word s y e told exact free = (
  (λ yes.
      let at = exact.0 yes in
      record {
        free = free.0;
        inside = subst (λ (a : ℕ). covers s a ≡ true) free.1 at.0;
        taken = subst (λ (a : ℕ). has_bit s.taken (cell_of s a) ≡ true) free.1 at.1;
      }),
  (λ gap.
      exact.1 (
        subst (λ (a : ℕ). covers s a ≡ true) (sym free.1) gap.inside,
        subst (λ (a : ℕ). has_bit s.taken (cell_of s a) ≡ true) (sym free.1) gap.taken,
      )),
)

-- ---- where the search ends

-- above the least of these ends no group is one of the old part
pub none_old : (h : HeapView) (k : ℕ) (s : ShadeView) (p : PartView) (old top n : ℕ)
    → ((a : ℕ) → first_of h k ≤ a → a < last_of h k → IsOldBelow h a old)
    → ((p.stop ≤ top) ⊎ (old ≤ top)) ⊎ (last_of h k ≤ top) → first_of h k ≤ top → top < s.base + 512 * n + 512
    → IsOldGroup h k s p n → ⊥
none_old h k s p old top n tells (inl (inl stop)) low high group =
    let part = group.part in omega (arith, part, stop, high)
none_old h k s p old top n tells (inr last) low high group = let used = group.used in omega (arith, used, last, high)
none_old h k s p old top n tells (inl (inr young)) low high group =
    let used = group.used in
    both_ways (generation (frame h) top == 2)
    (tells top low (omega (arith, used, high)) ∙ le-ltb top old young)
    (ap (λ (g : ℕ). g == 2) (group.old top low high))

-- the least of three numbers, or more, is one of them or more
pub least_of : (stop old last first top : ℕ) → top ≡ max (min (min stop old) last) first
    → ((stop ≤ top) ⊎ (old ≤ top)) ⊎ (last ≤ top)
least_of stop old last first top is = elim (cases_lt top stop) [
  | inr up ↦ inl (inl up)
  | inl one ↦ elim (cases_lt top old) [
    | inr up ↦ inl (inr up)
    | inl two ↦ elim (cases_lt top last) [
      | inr up ↦ inr up
      | inl three ↦ absurd (omega (arith, is, one, two, three))
    ]
  ]
]
