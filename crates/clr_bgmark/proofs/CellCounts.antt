-- How many numbers below one are in a set.
use Rattle.std.proofs.Common.{◌≡◌, ℕ, zero, suc, ◌+◌, ◌*◌, ◌/◌, ◌%◌, ◌^◌, ◌<◌, ◌≤◌, inl, inr, Bool, true, false, List}
use Rattle.std.proofs.Common.{get_or, nat_eq, refl, ap, sym, ◌∙◌, arith}
use Rattle.std.specs.Int.{bit_at}
use Rattle.std.specs.Int.Count.{ones}
use Rattle.std.proofs.lemmas.Bool.{cases_eq}
use Rattle.std.proofs.Math.Nat.{mod-lt}
use Rattle.std.proofs.lemmas.Nat.{mod-pow-add, ones_cat, pow_pos}
use Rattle.std.proofs.lemmas.Nat.Bits.{bit_at-lt}
use Rattle.clr_bgmark.specs.Bits.{count_below, has_bit, one_if}

-- none from one on up to another
pub count_none : (words : List ℕ) (a e : ℕ) → a ≤ e → ((c : ℕ) → a ≤ c → c < e → has_bit words c ≡ false)
    → count_below words e ≡ count_below words a
count_none words a zero low none = let z : a ≡ 0 = omega (arith, low) in sym (ap (count_below words) z)
count_none words a (suc e) low none = elim (cases_eq a (suc e)) [
  | inl is ↦ sym (ap (count_below words) is)
  | inr ne ↦
      let off = none e (omega (arith, low, ne)) (omega arith) in
      let more = count_none words a e (omega (arith, low, ne)) (λ c from to. none c from (omega (arith, to))) in
      let last = ap (λ (b : Bool). count_below words e + one_if b) off in
      last ∙ omega (arith, more)
]

-- one, and none behind it
pub count_next : (words : List ℕ) (a e : ℕ) → a < e → has_bit words a ≡ true
    → ((c : ℕ) → a < c → c < e → has_bit words c ≡ false) → count_below words e ≡ count_below words a + 1
count_next words a e low on none =
    count_none words (suc a) e (omega (arith, low)) (λ c from to. none c (omega (arith, from)) to)
    ∙ ap (λ (b : Bool). count_below words a + one_if b) on

-- they are no more than all
pub count_most : (words : List ℕ) (n : ℕ) → count_below words n ≤ n
count_most words zero = omega arith
count_most words (suc n) =
    let more = count_most words n in
    let one = at_most_one (has_bit words n) in
    omega (arith, more, one)
  where
    at_most_one : (b : Bool) → one_if b ≤ 1
    at_most_one true = omega arith
    at_most_one false = omega arith

-- ---- the numbers of one word

one_bit : (b : ℕ) → b < 2 → one_if (nat_eq b 1) ≡ ones b
unfolding ones
one_bit zero low = refl
one_bit (suc zero) low = refl
one_bit (suc (suc b)) low = absurd (omega arith)

-- the bit of a number is that of its word
cell_bit : (words : List ℕ) (k i : ℕ) → i < 64
    → one_if (has_bit words (64 * k + i)) ≡ ones (bit_at (get_or words k 0) i)
cell_bit words k i low =
    let word : (64 * k + i) / 64 ≡ k = omega (arith, low) in
    let bit : (64 * k + i) % 64 ≡ i = omega (arith, low) in
    (λ j. one_if (nat_eq (bit_at (get_or words (word j) 0) (bit j)) 1))
    ∙ one_bit (bit_at (get_or words k 0) i) (bit_at-lt (get_or words k 0) i)

-- those below one of them are the bits below it
count_bits : (words : List ℕ) (k i : ℕ) → i ≤ 64
    → count_below words (64 * k + i) ≡ count_below words (64 * k) + ones (get_or words k 0 % 2 ^ i)
unfolding ones
count_bits words k zero low =
    let same : 64 * k + 0 ≡ 64 * k = omega arith in
    let none : get_or words k 0 % 2 ^ 0 ≡ 0 = omega arith in
    let no_ones : ones (get_or words k 0 % 2 ^ 0) ≡ 0 = ap ones none in
    ap (count_below words) same ∙ omega (arith, no_ones)
count_bits words k (suc i) low =
    let w = get_or words k 0 in
    let at : 64 * k + suc i ≡ suc (64 * k + i) = omega arith in
    let more = count_bits words k i (omega (arith, low)) in
    let bit = cell_bit words k i (omega (arith, low)) in
    let pos = pow_pos i in
    let power : suc i ≡ 1 + i = omega arith in
    let split : w % 2 ^ suc i ≡ bit_at w i * 2 ^ i + w % 2 ^ i = ap (λ (n : ℕ). w % 2 ^ n) power ∙ mod-pow-add w 1 i in
    let both : ones (w % 2 ^ suc i) ≡ ones (bit_at w i) + ones (w % 2 ^ i) =
    ap ones split ∙ ones_cat i (bit_at w i) (w % 2 ^ i) (mod-lt w pos) in
    ap (count_below words) at ∙ omega (arith, more, bit, both)

pub count_word : (words : List ℕ) (k : ℕ)
    → count_below words (64 * k) + ones (get_or words k 0 % 2 ^ 64) ≡ count_below words (64 * k + 64)
count_word words k = let count = count_bits words k 64 (omega arith) in omega (arith, count)
