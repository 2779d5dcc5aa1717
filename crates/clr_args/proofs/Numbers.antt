-- Numbers and their texts.
use Rattle.std.specs.Prelude.{◌≡◌, ◌&&◌, ◌<◌, ◌≤◌, ◌^◌, ◌↔◌, ℕ, Bool, true, false, Option, Some, None, Result, Ok, Err}
use Rattle.std.specs.Prelude.{IfOk, IsTrue, IsFalse, decimal, if◌then◌else◌, nat_lt, unwrap_or}
use Rattle.std.specs.Result.{result_ok}
use Rattle.std.specs.Str.Parse.{digits_value}
use Rattle.std.proofs.Common.{refl, sym, ap, ap₂, ◌∙◌, arith}
use Rattle.std.proofs.lemmas.Bool.{lt-ltb, ltb-true, le-ltb}
use Rattle.clr_nums.specs.Numbers.{is_decimal_form}
use Rattle.clr_nums.specs.declared.read.NumFault.{NumFault}
use Rattle.clr_nums.specs.declared.read.NumFault.TheVariants.{NotNumber, TooLarge}
use Rattle.clr_nums.proofs.DecimalText.{is_decimal_form-decimal, value-decimal, decimal-value}
use Rattle.clr_args.specs.Grammar.{Text}
use Rattle.clr_args.specs.Reading.{number_in, number_or}

abbrev by : Bool → ℕ → Option ℕ
by form value = if form && nat_lt value (2 ^ 64) then Some value else None

pub number_decimal : (n : ℕ) → n < 2 ^ 64 → number_in (decimal n) ≡ Some n
number_decimal n small = ap₂ by (is_decimal_form-decimal n small) (value-decimal n small)
    ∙ ap (λ b. if b then Some n else None) (lt-ltb n (2 ^ 64) small)

pub number_from : (text : Text) (n : ℕ) → number_in text ≡ Some n → (n < 2 ^ 64) × (text ≡ decimal n)
number_from text n e = go (is_decimal_form text) (nat_lt (digits_value 10 text) (2 ^ 64)) refl refl e
  where
    go : (form fits : Bool) → is_decimal_form text ≡ form → nat_lt (digits_value 10 text) (2 ^ 64) ≡ fits
        → (if form && fits then Some (digits_value 10 text) else None) ≡ Some n → (n < 2 ^ 64) × (text ≡ decimal n)
    go true true is small e =
        let value : digits_value 10 text ≡ n = ap (λ (o : Option ℕ). unwrap_or o 0) e in
        let below : digits_value 10 text < 2 ^ 64 = ltb-true (digits_value 10 text) (2 ^ 64) small in
        (omega (arith, value, below), sym (decimal-value text is below) ∙ ap decimal value)
    go true false is small e = absurd cc
    go false fits is small e = absurd cc

-- what `read_dec` answers is this number
pub number_read : (text : Text) (r : Result ℕ NumFault) → IfOk r (λ n. text ≡ decimal n) → IfOk r (λ n. n < 2 ^ 64)
    → (r ≡ Err NotNumber) ↔ IsFalse (is_decimal_form text)
    → (r ≡ Err TooLarge) ↔ (IsTrue (is_decimal_form text) × (2 ^ 64 ≤ digits_value 10 text))
    → result_ok r ≡ number_in text
number_read text (Ok n) value small form large = sym (ap number_in value ∙ number_decimal n small)
number_read text (Err NotNumber) value small form large = sym (ap (λ b. by b (digits_value 10 text)) (form.0 refl))
number_read text (Err TooLarge) value small form large =
    sym (ap₂ (λ a b. if a && b then Some (digits_value 10 text) else None) (large.0 refl).0
    (le-ltb (digits_value 10 text) (2 ^ 64) (large.0 refl).1))

-- what is read beside a default is what is read beside an equal one
pub some_read : (text : Option Text) (a b n : ℕ) → a ≡ b → Some n ≡ number_or a text → number_or b text ≡ Some n
some_read text a b n same is = sym (is ∙ ap (λ (d : ℕ). number_or d text) same)

pub none_read : (text : Option Text) (a b n : ℕ) → a ≡ b → None ≡ number_or a text → number_or b text ≡ Some n → ⊥
none_read text a b n same none is =
    let e : None ≡ Some n = none ∙ (ap (λ (d : ℕ). number_or d text) same ∙ is) in absurd cc
