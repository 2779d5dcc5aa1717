-- Numbers as decimal digits.
use Rattle.std.proofs.Common.{◌≡◌, ℕ, ◌+◌, ◌-◌, ◌*◌, ◌/◌, ◌%◌, ◌<◌, ◌≤◌, ◌^◌, true, false, List, [], ◌∷◌}
use Rattle.std.proofs.Common.{◌++◌, length, take, drop, set, get_or, decimal, refl, sym, ◌∙◌, ap, inl, inr, arith}
use Rattle.std.proofs.Common.{rules, eqb, not, Option, Some, None, Ok, SomeIff, IfOk, ◌↔◌}
use Rattle.std.specs.Prelude.{ok_or}
use Rattle.std.proofs.lemmas.Bool.{cases_eq, and_parts, and_from, ne_eqb, eqb-false, not-true}
use Rattle.std.proofs.lemmas.List.{append_assoc, length-append, take_more, take_at}
use Rattle.std.proofs.lemmas.Slice.{drop-append-drop}
use Rattle.std.proofs.lemmas.Str.Parse.{IsNumeralModel, numerals_by_value, digit_at, digits_value-take-le}
use Rattle.std.proofs.lemmas.Str.{digit_value_digit}
use Rattle.std.proofs.lemmas.Fmt.{decimal_digit, decimal_step, decimal_nonempty, first_decimal, digits_decimal}
use Rattle.std.proofs.lemmas.Fmt.{digits_value-decimal, decimal-digits_value, length-decimal-le}
use Rattle.std.specs.List.{list_all}
use Rattle.std.specs.Str.Parse.{digits_value, digits_value_after}
use Rattle.std.specs.Char.{digit_value, is_ascii_digit}
use Rattle.clr_nums.specs.Numbers.{decimal_pair, is_decimal_form}

-- std's lemmas on digits, for the test of each byte
own : IsNumeralModel (λ ds. list_all is_ascii_digit ds ≡ true) (digits_value 10)
own = numerals_by_value _ (search rules)

-- below ten there is one digit
pub length-decimal-digit : (n : ℕ) → n < 10 → length (decimal n) ≡ 1
length-decimal-digit n low = rw (decimal_digit n low) refl

-- from 10 on, below 100, there are two
pub decimal-two : (n : ℕ) → 10 ≤ n → n < 100 → decimal n ≡ decimal_pair n
decimal-two n high low = rw (decimal_step n high (omega arith), decimal_digit (n / 10) (omega arith)) refl

-- from 100 on the last two stand behind the others
pub decimal-pair : (n : ℕ) → 100 ≤ n → n < 2 ^ 64 → decimal n ≡ decimal (n / 100) ++ decimal_pair (n % 100)
decimal-pair n high small =
    let front : n / 10 / 10 ≡ n / 100 = omega arith in
    let tens : n / 10 % 10 ≡ n % 100 / 10 = omega arith in
    let ones : n % 10 ≡ n % 100 % 10 = omega arith in
    rw (
      decimal_step n (omega arith) small,
      decimal_step (n / 10) (omega arith) (omega arith),
      append_assoc,
      front,
      tens,
      ones,
    ) refl

pub length-decimal-pair : (n : ℕ) → 100 ≤ n → n < 2 ^ 64 → length (decimal n) ≡ length (decimal (n / 100)) + 2
length-decimal-pair n high small = rw (decimal-pair n high small, length-append) refl

-- and from 10,000 on the last four
pub decimal-two_pairs : (n : ℕ) → 10000 ≤ n → n < 2 ^ 64
    → decimal n ≡ decimal (n / 10000) ++ decimal_pair (n % 10000 / 100) ++ decimal_pair (n % 100)
decimal-two_pairs n high small =
    let front : n / 100 / 100 ≡ n / 10000 = omega arith in
    let first : n / 100 % 100 ≡ n % 10000 / 100 = omega arith in
    rw (decimal-pair n (omega arith) small, decimal-pair (n / 100) (omega arith) (omega arith), front, first) refl

pub length-decimal-two_pairs : (n : ℕ) → 10000 ≤ n → n < 2 ^ 64
    → length (decimal n) ≡ length (decimal (n / 10000)) + 4
length-decimal-two_pairs n high small =
    let two = length-decimal-pair n (omega arith) small in
    let more = length-decimal-pair (n / 100) (omega arith) (omega arith) in
    let front : n / 100 / 100 ≡ n / 10000 = omega arith in
    omega (arith, ap (λ m. length (decimal m)) front)

-- there are at most 20 digits
pub length-decimal-most : (n : ℕ) → n < 2 ^ 64 → length (decimal n) ≤ 20
length-decimal-most n small = length-decimal-le 20 n (omega arith) (omega arith) small

-- a text whose first byte is written
pub first_set : (text : List ℕ) (byte : ℕ) → 0 < length text → set text 0 byte ≡ byte ∷ drop 1 text
first_set [] byte some = absurd (omega arith)
first_set (first ∷ rest) byte some = refl

-- a text of n digits, and a pair that is put behind it
pub pair_put : (digits old mid new pair : List ℕ) (n spelled : ℕ) → n ≡ length digits → mid ≡ digits ++ drop n old
    → pair ≡ decimal_pair spelled → new ≡ take n mid ++ pair ++ drop (n + 2) mid
    → new ≡ digits ++ decimal_pair spelled ++ drop (n + 2) old
pair_put digits old mid new pair n spelled count stands is put =
    rw (
      put,
      is,
      stands,
      take_at digits (drop n old) n (sym count),
      drop-append-drop n old digits (n + 2) (omega arith) (sym count),
    ) refl

-- and two pairs
pub pairs_put : (digits old mid more new one two : List ℕ) (n first second : ℕ) → n ≡ length digits
    → mid ≡ digits ++ drop n old
    → one ≡ decimal_pair first → more ≡ take n mid ++ one ++ drop (n + 2) mid
    → two ≡ decimal_pair second → new ≡ take (n + 2) more ++ two ++ drop (n + 2 + 2) more
    → new ≡ digits ++ decimal_pair first ++ decimal_pair second ++ drop (n + 4) old
pairs_put digits old mid more new one two n first second count stands one_is put two_is then_put =
    let longer : n + 2 ≡ length (digits ++ decimal_pair first) =
    omega (arith, count, length-append digits (decimal_pair first)) in
    let four : n + 2 + 2 ≡ n + 4 = omega arith in
    let both = pair_put (digits ++ decimal_pair first) old more new two (n + 2) second longer
    (pair_put digits old mid more one n first count stands one_is put) two_is then_put in
    rw four at both

-- the form, from its three facts
form_from : (ds : List ℕ) → list_all is_ascii_digit ds ≡ true → 0 < length ds → (get_or ds 0 0 ≡ 48 → length ds ≡ 1)
    → is_decimal_form ds ≡ true
form_from [] all some zero_alone = absurd (omega arith)
form_from (d ∷ []) all some zero_alone = (and_parts _ _ all).0
form_from (d ∷ e ∷ more) all some zero_alone =
    let first : (d ≡ 48) → ⊥ = λ same. absurd (omega (arith, zero_alone same)) in
    rw (ne_eqb d 48 first) all

-- and the three facts from the form
form_parts : (ds : List ℕ) → is_decimal_form ds ≡ true
    → (list_all is_ascii_digit ds ≡ true) × (0 < length ds) × (get_or ds 0 0 ≡ 48 → length ds ≡ 1)
form_parts [] form = absurd cc
form_parts (d ∷ []) form = (and_from _ _ form refl, omega arith, λ same. refl)
form_parts (d ∷ e ∷ more) form =
    let parts = and_parts (not (eqb d 48)) (list_all is_ascii_digit (d ∷ e ∷ more)) form in
    let apart : eqb d 48 ≡ false = not-true (eqb d 48) parts.0 in
    (parts.1, omega arith, λ same. absurd (eqb-false d 48 apart same))

-- the text of a number below 2 ^ 64 has the form
pub is_decimal_form-decimal : (n : ℕ) → n < 2 ^ 64 → is_decimal_form (decimal n) ≡ true
is_decimal_form-decimal n small =
    form_from (decimal n) (digits_decimal own n small) (decimal_nonempty n small) (λ zero_first.
    elim (cases_eq n 0) [
      | inl none ↦ length-decimal-digit n (omega arith)
      | inr some ↦ absurd (omega (arith, first_decimal n (omega arith) small))
    ])

-- it is digits alone
pub list_all-decimal : (n : ℕ) → n < 2 ^ 64 → list_all is_ascii_digit (decimal n) ≡ true
list_all-decimal n small = digits_decimal own n small

-- its value is the number
pub value-decimal : (n : ℕ) → n < 2 ^ 64 → digits_value 10 (decimal n) ≡ n
value-decimal n small = digits_value-decimal own n small

-- a text of the form is the text of its value, if that is below 2 ^ 64
pub decimal-value : (ds : List ℕ) → is_decimal_form ds ≡ true → digits_value 10 ds < 2 ^ 64
    → decimal (digits_value 10 ds) ≡ ds
decimal-value ds form small = let parts = form_parts ds form in
    decimal-digits_value own ds parts.0 parts.1 parts.2 small

-- so a text is that of a number below 2 ^ 64 just where it has the form and that value
pub decimal-both : (text : List ℕ) (n : ℕ) → n < 2 ^ 64
    → (text ≡ decimal n) ↔ ((is_decimal_form text ≡ true) × (digits_value 10 text ≡ n))
decimal-both text n small = (
  λ same. (rw same (is_decimal_form-decimal n small), rw same (value-decimal n small)),
  λ (form, value). sym (decimal-value text form (omega arith)) ∙ ap decimal value,
)

-- a byte of digits is one
pub digit-at : (ds : List ℕ) (i : ℕ) → list_all is_ascii_digit ds ≡ true → i < length ds
    → (48 ≤ get_or ds i 0) × (get_or ds i 0 ≤ 57)
digit-at ds i all within = digit_at ds i (own.to ds all) within

-- one digit more
digits_value_after-append : (n : ℕ) (ds : List ℕ) (d : ℕ)
    → digits_value_after 10 n (ds ++ d ∷ []) ≡ digits_value_after 10 n ds * 10 + digit_value d
digits_value_after-append n [] d = refl
digits_value_after-append n (c ∷ cs) d = digits_value_after-append (n * 10 + digit_value c) cs d

-- the number of the digits so far and of one more
pub digits_value-take_more : (ds : List ℕ) (i : ℕ) → list_all is_ascii_digit ds ≡ true → i < length ds →
    digits_value 10 (take (i + 1) ds) ≡ digits_value 10 (take i ds) * 10 + (get_or ds i 0 - 48)
digits_value-take_more ds i all within =
    let here = digit-at ds i all within in
    let value = digit_value_digit (get_or ds i 0) here in
    let shown : digit_value (get_or ds i 0) ≡ get_or ds i 0 - 48 = omega arith in
    rw (take_more ds i 0 within, digits_value_after-append, shown) refl

-- which is no more than the number of all
pub digits_value-so_far : (ds : List ℕ) (i : ℕ) → digits_value 10 (take i ds) ≤ digits_value 10 ds
digits_value-so_far ds i = digits_value-take-le 10 ds i (omega arith)

-- so once it is too large with one digit more, the number of all is
pub too_large : (ds : List ℕ) (i n : ℕ) → list_all is_ascii_digit ds ≡ true → i < length ds
    → n ≡ digits_value 10 (take i ds) →
    (n * 10 + (get_or ds i 0 - 48) < 2 ^ 64 → ⊥) → digits_value 10 ds < 2 ^ 64 → ⊥
too_large ds i n all within so_far large small =
    let more = digits_value-take_more ds i all within in
    let least = digits_value-so_far ds (i + 1) in
    large (omega arith)

-- what a reader may say that has the value of each text of the form, where that is below 2 ^ 64
pub ok_value : {E : Type 0} (ds : List ℕ) (read : Option ℕ) (e : E) → is_decimal_form ds ≡ true →
    SomeIff read (digits_value 10 ds < 2 ^ 64) (digits_value 10 ds) → IfOk (ok_or read e) (λ n. ds ≡ decimal n)
ok_value ds None e form none = tt
ok_value ds (Some n) e form (small, value) = rw value (sym (decimal-value ds form small))

-- and the other way round
pub ok_reads : {E : Type 0} (ds : List ℕ) (read : Option ℕ) (e : E)
    → SomeIff read (digits_value 10 ds < 2 ^ 64) (digits_value 10 ds) →
    (n : ℕ) → n < 2 ^ 64 → ds ≡ decimal n → ok_or read e ≡ Ok n
ok_reads ds None e none n small same = absurd (none (rw (same, value-decimal n small) small))
ok_reads ds (Some m) e (bound, value) n small same = rw (value, same, value-decimal n small) refl
