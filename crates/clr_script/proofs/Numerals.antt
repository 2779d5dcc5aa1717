-- What clr_nums reads of a word is what the word spells.
use Rattle.std.proofs.Common.{◌≡◌, ◌∙◌, ℕ, ◌+◌, ◌-◌, ◌<◌, ◌≤◌, ◌^◌, true, false, nat_le, List, [], ◌∷◌, arith, refl}
use Rattle.std.proofs.Common.{sym, ap, Option, Some, None, Ok, Err, IfOk, IfSome, decimal}
use Rattle.std.specs.Prelude.{Result}
use Rattle.std.specs.Result.{result_ok}
use Rattle.std.specs.Char.{is_ascii_digit}
use Rattle.std.proofs.lemmas.Bool.{and_parts, leb-true}
use Rattle.std.proofs.lemmas.Fmt.{decimal_digit}
use Rattle.clr_nums.specs.Numbers.{hex16}
use Rattle.clr_model.specs.Parsing.{number_in, address_in}
use Rattle.clr_model.proofs.WordReaders.{number_reader, address_reader}

pub number_found : {E : Type 0} (word : List ℕ) (read : Result ℕ E) → IfOk read (λ n. word ≡ decimal n)
    → IfOk read (λ n. n < 2 ^ 64)
    → ((n : ℕ) → n < 2 ^ 64 → word ≡ decimal n → read ≡ Ok n) → result_ok read ≡ number_in word
number_found word (Ok n) value bound reads = sym (ap number_in value ∙ number_reader.found n bound)
number_found {E} word (Err e) value bound reads = go (number_in word) refl
  where
    go : (found : Option ℕ) → number_in word ≡ found → None ≡ found
    go None is = refl
    go (Some n) is = let p = number_reader.told word n is in absurd (cc (reads n p.1 p.0))

pub address_found : (word : List ℕ) (read : Option ℕ) → IfSome read (λ n. word ≡ hex16 n)
    → IfSome read (λ n. n < 2 ^ 64)
    → ((n : ℕ) → n < 2 ^ 64 → word ≡ hex16 n → read ≡ Some n) → read ≡ address_in word
address_found word (Some n) value bound reads = sym (ap address_in value ∙ address_reader.found n bound)
address_found word None value bound reads = go (address_in word) refl
  where
    go : (found : Option ℕ) → address_in word ≡ found → None ≡ found
    go None is = refl
    go (Some n) is = let p = address_reader.told word n is in absurd (cc (reads n p.1 p.0))

-- one digit is the word of its number
pub digit_found : (b : ℕ) → is_ascii_digit b ≡ true → Some (b - 48) ≡ number_in (b ∷ [])
digit_found b is =
    let range = digit_range b is in
    let low : b - 48 < 10 = omega arith in
    let back : 48 + (b - 48) ≡ b = omega arith in
    let word : decimal (b - 48) ≡ b ∷ [] = decimal_digit (b - 48) low ∙ ap (λ (n : ℕ). n ∷ []) back in
    sym (ap number_in (sym word) ∙ number_reader.found (b - 48) (omega arith))
  where
    digit_range : (d : ℕ) → is_ascii_digit d ≡ true → (48 ≤ d) × (d ≤ 57)
    digit_range d h = let p = and_parts (nat_le 48 d) (nat_le d 57) h in (leb-true 48 d p.0, leb-true d 57 p.1)

-- and another byte is no number
pub digit_none : (b : ℕ) → is_ascii_digit b ≡ false → None ≡ number_in (b ∷ [])
unfolding number_in
digit_none b is = rw is refl
