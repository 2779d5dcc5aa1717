-- Numbers as 16 hexadecimal digits.
use Rattle.std.proofs.Common.{◌≡◌, ℕ, zero, suc, ◌+◌, ◌*◌, ◌/◌, ◌%◌, ◌<◌, ◌≤◌, ◌^◌, true, false, List, [], ◌∷◌, ◌++◌}
use Rattle.std.proofs.Common.{length, drop, take, get_or, refl, sym, ◌∙◌, ap, inl, inr, arith, add-one, Option, Some}
use Rattle.std.proofs.Common.{None, MatchOption, IsSome, ◌↔◌}
use Rattle.std.proofs.lemmas.Bool.{cases_lt, agree_below_at, lt-ltb, le-ltb, both_ways}
use Rattle.std.proofs.Math.Nat.{pow-suc, pow-le-pow_right}
use Rattle.std.proofs.lemmas.List.{append_assoc, append-nil, drop_all, drop_at, drop-drop, take_at, take_more, take_all}
use Rattle.std.proofs.lemmas.List.{length-take-le}
use borrow.Rule.Slice.PartMut.{put_mid}
use Rattle.std.specs.List.{list_all}
use Rattle.clr_nums.specs.Numbers.{hex_digit, hex_onto, hex16, hex_pair, is_hex_digit, is_hex_form}

-- what stands behind the digits stays there
pub hex_onto-append : (count n : ℕ) (xs ys : List ℕ) → hex_onto count n xs ++ ys ≡ hex_onto count n (xs ++ ys)
hex_onto-append zero n xs ys = refl
hex_onto-append (suc count) n xs ys = hex_onto-append count (n / 16) (hex_digit (n % 16) ∷ xs) ys

-- as many bytes as were asked for stand in front
pub length-hex_onto : (count n : ℕ) (more : List ℕ) → length (hex_onto count n more) ≡ count + length more
length-hex_onto zero n more = omega arith
length-hex_onto (suc count) n more = omega (arith, length-hex_onto count (n / 16) (hex_digit (n % 16) ∷ more))

-- so there are 16
pub length-hex16 : (n : ℕ) → length (hex16 n) ≡ 16
unfolding hex16
length-hex16 n = length-hex_onto 16 n []

-- one digit more, read behind those that were
pub hex_onto-read : (count n d : ℕ) → d < 16
    → hex_onto (suc count) (n * 16 + d) [] ≡ hex_onto count n [] ++ hex_digit d ∷ []
hex_onto-read count n d small =
    let front : (n * 16 + d) / 16 ≡ n = omega arith in
    let back : (n * 16 + d) % 16 ≡ d = omega arith in
    rw (front, back) (sym (hex_onto-append count n [] (hex_digit d ∷ [])))

-- a digit's byte tells the digit
pub hex_digit_injective : (d e : ℕ) → d < 16 → e < 16 → hex_digit d ≡ hex_digit e → d ≡ e
hex_digit_injective d e below_d below_e same =
    elim (cases_lt d 10) [
      | inl d_low ↦ elim (cases_lt e 10) [
        | inl e_low ↦ let h = rw (lt-ltb d 10 d_low, lt-ltb e 10 e_low) at same in omega (arith, h)
        | inr e_high ↦ let h = rw (lt-ltb d 10 d_low, le-ltb e 10 e_high) at same in absurd (omega (arith, h))
      ]
      | inr d_high ↦ elim (cases_lt e 10) [
        | inl e_low ↦ let h = rw (le-ltb d 10 d_high, lt-ltb e 10 e_low) at same in absurd (omega (arith, h))
        | inr e_high ↦ let h = rw (le-ltb d 10 d_high, le-ltb e 10 e_high) at same in omega (arith, h)
      ]
    ]

-- digits tell the number that they write
pub hex_onto_injective : (count m n : ℕ) (xs ys : List ℕ) → m < 16 ^ count → n < 16 ^ count
    → hex_onto count m xs ≡ hex_onto count n ys → (m ≡ n) × (xs ≡ ys)
hex_onto_injective zero m n xs ys below_m below_n same = (omega arith, same)
hex_onto_injective (suc count) m n xs ys below_m below_n same =
    let high_m : m / 16 < 16 ^ count = omega (arith, pow-suc 16 count) in
    let high_n : n / 16 < 16 ^ count = omega (arith, pow-suc 16 count) in
    let parts = hex_onto_injective count (m / 16) (n / 16) (hex_digit (m % 16) ∷ xs)
    (hex_digit (n % 16) ∷ ys) high_m high_n same in
    let digit : hex_digit (m % 16) ≡ hex_digit (n % 16) = cc (parts.1) in
    let low : m % 16 ≡ n % 16 = hex_digit_injective (m % 16) (n % 16) (omega arith) (omega arith) digit in
    (omega (arith, parts.0), cc (parts.1))

-- 16 digits tell a number below 2 ^ 64
pub hex16_injective : (m n : ℕ) → m < 2 ^ 64 → n < 2 ^ 64 → hex16 m ≡ hex16 n → m ≡ n
unfolding hex16
hex16_injective m n below_m below_n same = (hex_onto_injective 16 m n [] [] below_m below_n same).0

-- each digit has the form of one
is_hex_digit-hex_digit : (d : ℕ) → d < 16 → is_hex_digit (hex_digit d) ≡ true
is_hex_digit-hex_digit d small = agree_below_at (λ x. is_hex_digit (hex_digit x)) (λ _. true) 16 d refl small

-- digits are put in front of digits
list_all-hex_onto : (count n : ℕ) (more : List ℕ) → list_all is_hex_digit more ≡ true
    → list_all is_hex_digit (hex_onto count n more) ≡ true
list_all-hex_onto zero n more all = all
list_all-hex_onto (suc count) n more all =
    list_all-hex_onto count (n / 16) (hex_digit (n % 16) ∷ more)
    (rw (is_hex_digit-hex_digit (n % 16) (omega arith)) all)

-- 16 digits are digits alone
pub list_all-hex16 : (n : ℕ) → list_all is_hex_digit (hex16 n) ≡ true
unfolding hex16
list_all-hex16 n = list_all-hex_onto 16 n [] refl

-- and have the form
pub is_hex_form-hex16 : (n : ℕ) → is_hex_form (hex16 n) ≡ true
unfolding hex16
is_hex_form-hex16 n = rw (length-hex_onto 16 n []) (list_all-hex_onto 16 n [] refl)

-- a pair of digits, written before those that stand
pub hex_onto-pair : (old new : List ℕ) (first pairs n : ℕ) (all : List ℕ) → pairs ≡ first + 1
    → 2 * pairs ≤ length old
    → new ≡ take (2 * first) old ++ hex_pair (n % 256) ++ drop (2 * first + 2) old
    → hex_onto (2 * pairs) n (drop (2 * pairs) old) ≡ all
    → hex_onto (2 * first) (n / 256) (drop (2 * first) new) ≡ all
hex_onto-pair old new first pairs n all next within written stands =
    let count : 2 * pairs ≡ suc (suc (2 * first)) = omega arith in
    let behind : 2 * first + 2 ≡ suc (suc (2 * first)) = omega arith in
    let high : n / 256 ≡ n / 16 / 16 = omega arith in
    let first_digit : n % 256 / 16 ≡ n / 16 % 16 = omega arith in
    let second_digit : n % 256 % 16 ≡ n % 16 = omega arith in
    let front : length (take (2 * first) old) ≡ 2 * first = length-take-le (2 * first) old (omega arith) in
    rw (
      written,
      append_assoc,
      drop_at (take (2 * first) old) _ (2 * first) front,
      behind,
      high,
      first_digit,
      second_digit,
    ) (rw count at stands)

-- the upper eight digits of 16 before the lower eight
pub hex_onto-halves : (n high : ℕ) → high ≡ n / 4294967296 → hex_onto 8 high [] ++ hex_onto 8 n [] ≡ hex16 n
unfolding hex16
hex_onto-halves n high shifted =
    let upper : high ≡ n / 16 / 16 / 16 / 16 / 16 / 16 / 16 / 16 = omega arith in
    rw upper (hex_onto-append 8 (n / 16 / 16 / 16 / 16 / 16 / 16 / 16 / 16) [] (hex_onto 8 n []))

-- written into the two halves of 16 bytes
pub hex16-put : (old text front back : List ℕ) (n : ℕ) → length old ≡ 16
    → text ≡ front ++ drop 8 old → front ≡ hex_onto 8 (n / 4294967296) [] → back ≡ hex_onto 8 n []
    → put_mid 8 8 text back ≡ hex16 n
hex16-put old text front back n whole put upper lower =
    let half : length front ≡ 8 = rw upper (length-hex_onto 8 (n / 4294967296) []) in
    let rest : drop 8 (drop 8 old) ≡ [] = rw (drop-drop 8 8 old) (drop_all 16 old (omega arith)) in
    rw (put, take_at front (drop 8 old) 8 half, drop_at front (drop 8 old) 8 half, rest, append-nil, upper, lower)
    (hex_onto-halves n (n / 4294967296) refl)

-- a number of i digits, and one digit more
pub hex_bound : (i n d : ℕ) → d < 16 → n < 16 ^ i → n * 16 + d < 16 ^ (i + 1)
hex_bound i n d small bound = rw add-one (omega (arith, pow-suc 16 i))

-- up to 16 digits fit 64 bits
pub hex_fits : (i n d : ℕ) → i < 16 → d < 16 → n < 16 ^ i → n * 16 + d < 2 ^ 64
hex_fits i n d within small bound =
    let most : 16 ^ i ≤ 16 ^ 15 = pow-le-pow_right {n = 16} (omega arith) {i = i} {j = 15} (omega arith) in
    omega arith

-- one digit more, at its place in a text
pub take_more-hex_onto : (text : List ℕ) (i n d : ℕ) → i < length text → d < 16 → get_or text i 0 ≡ hex_digit d
    → take i text ≡ hex_onto i n [] →
    take (i + 1) text ≡ hex_onto (i + 1) (n * 16 + d) []
take_more-hex_onto text i n d within small here so_far =
    rw (take_more text i 0 within, here, so_far, add-one) (sym (hex_onto-read i n d small))

-- a whole text of 16
pub hex16-read : (text : List ℕ) (i n : ℕ) → length text ≡ 16 → i ≡ 16 → n < 16 ^ i → take i text ≡ hex_onto i n []
    → (n < 2 ^ 64) × (text ≡ hex16 n)
unfolding hex16
hex16-read text i n whole all bound digits =
    let small : n < 16 ^ 16 = rw all at bound in
    let same : take 16 text ≡ hex_onto 16 n [] = rw all at digits in
    let through : take 16 text ≡ text = take_all 16 text (omega arith) in
    (small, sym through ∙ same)

-- a text of another length is none
pub hex16-length : (text : List ℕ) (n : ℕ) → (length text ≡ 16 → ⊥) → text ≡ hex16 n → ⊥
hex16-length text n short same = short (ap length same ∙ length-hex16 n)

-- what a reader says that tells each text of the form and its number
pub hex_reads : (text : List ℕ) (read : Option ℕ)
    → MatchOption read (is_hex_form text ≡ false) (λ n. (n < 2 ^ 64) × (text ≡ hex16 n)) →
    (n : ℕ) → n < 2 ^ 64 → text ≡ hex16 n → read ≡ Some n
hex_reads text None other n small same = absurd (both_ways (is_hex_form text) other (rw same (is_hex_form-hex16 n)))
hex_reads text (Some m) (bound, is) n small same = ap Some (hex16_injective m n bound small (sym is ∙ same))

-- and it says a number just where the text has the form
pub hex_some : (text : List ℕ) (read : Option ℕ)
    → MatchOption read (is_hex_form text ≡ false) (λ n. (n < 2 ^ 64) × (text ≡ hex16 n)) →
    IsSome read ↔ (is_hex_form text ≡ true)
hex_some text None other = (λ some. absurd (cc some), λ form. absurd (both_ways (is_hex_form text) other form))
hex_some text (Some m) (bound, is) = (λ some. rw is (is_hex_form-hex16 m), λ form. refl)
