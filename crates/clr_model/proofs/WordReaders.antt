-- The readers of single words.
use Rattle.std.proofs.Common.{◌≡◌, ◌≢◌, ◌∙◌, ◌==◌, ◌&&◌, ◌||◌, ℕ, ◌+◌, ◌*◌, ◌<◌, ◌≤◌, ◌^◌, Bool, true, false, not, List}
use Rattle.std.proofs.Common.{[], ◌∷◌, ◌++◌, length, take, add-one, append-nil, append_assoc, refl, sym, ap, subst}
use Rattle.std.proofs.Common.{Option, Some, None, cond, decimal, codes, arith, nat_lt, nat_le}
use Rattle.std.specs.Prelude.{IsTrue, bytes_eq, if◌then◌else◌}
use Rattle.std.specs.List.{list_all}
use Rattle.std.specs.Str.Parse.{digits_value}
use Rattle.std.proofs.lemmas.Bool.Decides.{nat_tests}
use Rattle.std.proofs.lemmas.List.{take_all}
use Rattle.std.proofs.lemmas.Option.{cond_some}
use Rattle.std.proofs.lemmas.Bool.{agree_below_at, and_parts, eqb-true, eq-eqb, ltb-true, lt-ltb, leb-true, le-leb}
use Rattle.std.proofs.lemmas.Bool.{ne_eqb, both_ways}
use Rattle.std.proofs.lemmas.Slice.Eq.{bytes_eq-Decides}
use Rattle.clr_nums.specs.Numbers.{is_decimal_form, is_hex_form, is_hex_digit, hex_digit, hex_onto, hex16}
use Rattle.clr_nums.proofs.DecimalText.{is_decimal_form-decimal, value-decimal, decimal-value}
use Rattle.clr_nums.proofs.HexText.{hex_onto-read, hex16-read, hex16_injective, is_hex_form-hex16, hex_bound}
use Rattle.clr_types.specs.declared.handle.Kind.{Kind}
use Rattle.clr_types.specs.declared.handle.Kind.TheVariants.{Strong, Pinned, Weak, WeakLong, Dependent}
use Rattle.clr_types.specs.Types.{is_pattern_byte}
use Rattle.clr_model.specs.ReplyText.{kind_word}
use Rattle.clr_model.specs.LineGrammar.{IsWord, is_name, pattern_word, thread_word, local_word, handle_word}
use Rattle.clr_model.specs.Parsing.{number_in, hex_digit_value, hex_value_after, address_in, numbered_in, thread_in}
use Rattle.clr_model.specs.Parsing.{local_in, handle_in, name_in, pattern_in, kind_in, generation_in}
use Rattle.clr_model.proofs.Readers.{IsReader, IsTold, bound, nothing_told, choice_told, value_told}

-- ---- numbers

-- a number is read from its decimal digits
pub number_reader : IsReader number_in decimal IsWord
unfolding number_in
number_reader = record {
  found =
      λ n small. rw (is_decimal_form-decimal n small, value-decimal n small, lt-ltb n (2 ^ 64) small) refl;
  told = told;
}
  where
    told : (w : List ℕ) (n : ℕ) → number_in w ≡ Some n → (w ≡ decimal n) × IsWord n
    told w n e =
        let p = cond_some (is_decimal_form w && nat_lt (digits_value 10 w) (2 ^ 64)) (digits_value 10 w) n e in
        let q = and_parts (is_decimal_form w) (nat_lt (digits_value 10 w) (2 ^ 64)) p.0 in
        let small : digits_value 10 w < 2 ^ 64 = ltb-true _ _ q.1 in
        (sym (decimal-value w q.0 small) ∙ ap decimal p.1, omega (arith, p.1, small))

-- a digit is at most `f`
hex_digit_low : (b : ℕ) → is_hex_digit b ≡ true → b < 103
hex_digit_low b h = grind (arith, nat_tests)

-- the value of a digit's byte is the digit
hex_digit_back : (b : ℕ) → is_hex_digit b ≡ true → (hex_digit_value b < 16) × (hex_digit (hex_digit_value b) ≡ b)
hex_digit_back b h =
    let low : b < 103 = hex_digit_low b h in
    let test = agree_below_at (λ x. not (is_hex_digit x) ||
    (nat_lt (hex_digit_value x) 16 && (hex_digit (hex_digit_value x) == x))) (λ _. true) 103 b refl low in
    let both = rw h at test in
    let p = and_parts (nat_lt (hex_digit_value b) 16) (hex_digit (hex_digit_value b) == b) both in
    (ltb-true _ _ p.0, eqb-true _ _ p.1)

-- digits behind those of n are the digits of their number
hex_told : (bs : List ℕ) (i n : ℕ) → list_all is_hex_digit bs ≡ true → n < 16 ^ i
    → (hex_value_after n bs < 16 ^ (i + length bs))
    × (hex_onto (i + length bs) (hex_value_after n bs) [] ≡ hex_onto i n [] ++ bs)
hex_told [] i n all fits = let e : i + length {A = ℕ} [] ≡ i = omega arith in
    rw e (fits, sym (append-nil (hex_onto i n [])))
hex_told (b ∷ bs) i n all fits =
    let p = and_parts (is_hex_digit b) (list_all is_hex_digit bs) all in
    let d = hex_digit_back b p.0 in
    let e : i + length (b ∷ bs) ≡ (i + 1) + length bs = omega arith in
    let more = hex_told bs (i + 1) (n * 16 + hex_digit_value b) p.1 (hex_bound i n (hex_digit_value b) d.0 fits) in
    let front : hex_onto (i + 1) (n * 16 + hex_digit_value b) [] ≡ hex_onto i n [] ++ hex_digit (hex_digit_value b)
    ∷ [] = rw add-one (hex_onto-read i n (hex_digit_value b) d.0) in
    let whole : hex_onto (i + 1) (n * 16 + hex_digit_value b) [] ++ bs ≡ hex_onto i n [] ++ b
    ∷ bs = rw (front, append_assoc, d.1) refl in
    rw e (more.0, more.1 ∙ whole)

-- what is read as an address is its 16 digits
address_told : (w : List ℕ) (a : ℕ) → address_in w ≡ Some a → (w ≡ hex16 a) × IsWord a
unfolding address_in
address_told w a e =
    let p = cond_some (is_hex_form w) (hex_value_after 0 w) a e in
    let q = and_parts (length w == 16) (list_all is_hex_digit w) p.0 in
    let sixteen : length w ≡ 16 = eqb-true _ _ q.0 in
    let h = hex_told w 0 0 q.1 (omega arith) in
    let all : take (0 + length w) w ≡ w = take_all (0 + length w) w (omega arith) in
    let r = hex16-read w (0 + length w) (hex_value_after 0 w) sixteen (omega arith) h.0 (all ∙ sym h.1) in
    (r.1 ∙ ap hex16 p.1, omega (arith, p.1, r.0))

-- an address is read from its digits
pub address_reader : IsReader address_in hex16 IsWord
unfolding address_in
address_reader = record {
  found = λ a small.
      let form = is_hex_form-hex16 a in
      let t = address_told (hex16 a) (hex_value_after 0 (hex16 a)) (rw form refl) in
      rw form (ap Some (sym (hex16_injective a (hex_value_after 0 (hex16 a)) small t.1 t.0)));
  told = address_told;
}

-- an address is no word of another form
pub no_hex_word : (a : ℕ) (word : List ℕ) → is_hex_form word ≡ false → bytes_eq (hex16 a) word ≡ false
no_hex_word a word other = go (bytes_eq (hex16 a) word) refl
  where
    go : (b : Bool) → bytes_eq (hex16 a) word ≡ b → b ≡ false
    go false e = refl
    go true e =
        let same : hex16 a ≡ word = (bytes_eq-Decides (hex16 a) word).0 e in
        let form : is_hex_form word ≡ true = subst (λ (w : List ℕ). is_hex_form w ≡ true) same (is_hex_form-hex16 a) in
        absurd (both_ways (is_hex_form word) other form)

-- ---- numbers behind a letter

-- a number is read behind its letter
pub numbered_reader : (letter : ℕ) → IsReader (numbered_in letter) (λ n. letter ∷ decimal n) IsWord
numbered_reader letter = record {
  found = λ n small. rw (eq-eqb letter letter refl) (number_reader.found n small);
  told = told;
}
  where
    told : (w : List ℕ) (n : ℕ) → numbered_in letter w ≡ Some n → (w ≡ letter ∷ decimal n) × IsWord n
    told [] n e = absurd cc
    told (b ∷ digits) n e = go (b == letter) refl e
      where
        go : (test : Bool) → (b == letter) ≡ test → cond test (number_in digits) None ≡ Some n
            → (b ∷ digits ≡ letter ∷ decimal n) × IsWord n
        go true is f =
            let first : b ≡ letter = eqb-true _ _ is in
            let p = number_reader.told digits n f in
            ((λ i. first i ∷ p.0 i), p.1)
        go false is f = absurd cc

-- so is a thread
pub thread_reader : IsReader thread_in thread_word IsWord
unfolding thread_in
thread_reader = record { found = (numbered_reader 116).found; told = (numbered_reader 116).told }

-- and a local
pub local_reader : IsReader local_in local_word IsWord
unfolding local_in
local_reader = record { found = (numbered_reader 108).found; told = (numbered_reader 108).told }

-- and a handle
pub handle_reader : IsReader handle_in handle_word IsWord
unfolding handle_in
handle_reader = record { found = (numbered_reader 104).found; told = (numbered_reader 104).told }

-- ---- names, patterns and kinds

-- a name is its own word
pub name_reader : IsReader name_in (λ name. name) (λ name. IsTrue (is_name name))
unfolding name_in
name_reader = record { found = λ name is. rw is refl; told = told }
  where
    told : (w name : List ℕ) → name_in w ≡ Some name → (w ≡ name) × IsTrue (is_name name)
    told w name e = let p = cond_some (is_name w) w name e in (p.1, rw (← p.1) p.0)

-- a pattern is read from its word
pub pattern_reader : IsReader pattern_in pattern_word (λ pattern. IsTrue (list_all is_pattern_byte pattern))
unfolding pattern_in
pattern_reader = record { found = found; told = told }
  where
    other : (b : ℕ) → is_pattern_byte b ≡ true → b ≢ 45
    other b is e = absurd (no (subst (λ n. is_pattern_byte n ≡ true) e is))
      where
        no : is_pattern_byte 45 ≡ true → ⊥
        no h = cc

    found : (pattern : List ℕ) → IsTrue (list_all is_pattern_byte pattern)
        → pattern_in (pattern_word pattern) ≡ Some pattern
    found [] all = refl
    found (b ∷ bytes) all =
        let p = and_parts (is_pattern_byte b) (list_all is_pattern_byte bytes) all in
        rw (ne_eqb b 45 (other b p.0), p.0, p.1) refl

    told : (w pattern : List ℕ) → pattern_in w ≡ Some pattern
        → (w ≡ pattern_word pattern) × IsTrue (list_all is_pattern_byte pattern)
    told [] pattern e = absurd cc
    told (b ∷ bytes) pattern e = choice_told pattern_word (λ p. IsTrue (list_all is_pattern_byte p)) (λ v. v)
        (b ∷ bytes) (codes "-") (Some []) _ (value_told _ _ (codes "-") [] refl refl)
        (go (list_all is_pattern_byte (b ∷ bytes)) refl) pattern e
      where
        go : (test : Bool) → list_all is_pattern_byte (b ∷ bytes) ≡ test
            → IsTold pattern_word (λ p. IsTrue (list_all is_pattern_byte p)) (b ∷ bytes)
            (cond test (Some (b ∷ bytes)) None)
        go true is = value_told pattern_word (λ p. IsTrue (list_all is_pattern_byte p)) (b ∷ bytes) (b ∷ bytes) refl is
        go false is = nothing_told pattern_word (λ p. IsTrue (list_all is_pattern_byte p)) (b ∷ bytes)

-- a kind is read from its word
pub kind_reader : IsReader kind_in kind_word (λ kind. Unit {0})
unfolding kind_in
kind_reader = record { found = found; told = told }
  where
    found : (kind : Kind) → Unit {0} → kind_in (kind_word kind) ≡ Some kind
    found Strong h = refl
    found Pinned h = refl
    found Weak h = refl
    found WeakLong h = refl
    found Dependent h = refl

    is : (k : List ℕ) (kind : Kind) → k ≡ kind_word kind → IsTold kind_word (λ v. Unit {0}) k (Some kind)
    is k kind e = value_told kind_word (λ v. Unit {0}) k kind e tt

    or : (w k : List ℕ) (x y : Option Kind) → IsTold kind_word (λ v. Unit {0}) k x
        → IsTold kind_word (λ v. Unit {0}) w y → IsTold kind_word (λ v. Unit {0}) w (if bytes_eq w k then x else y)
    or w k x y = choice_told kind_word (λ v. Unit {0}) (λ v. v) w k x y

    told : (w : List ℕ) (kind : Kind) → kind_in w ≡ Some kind → (w ≡ kind_word kind) × Unit {0}
    told w = or w _ _ _ (is _ Strong refl)
        (or w _ _ _ (is _ Pinned refl) (or w _ _ _ (is _ Weak refl)
        (or w _ _ _ (is _ WeakLong refl) (or w _ _ _ (is _ Dependent refl) (nothing_told _ _ w)))))

-- a generation is read from its digit
pub generation_reader : IsReader generation_in decimal (λ g. g ≤ 2)
unfolding generation_in
generation_reader = record {
  found = λ g low. rw (number_reader.found g (omega arith), le-leb g 2 low) refl;
  told = told;
}
  where
    told : (w : List ℕ) (g : ℕ) → generation_in w ≡ Some g → (w ≡ decimal g) × (g ≤ 2)
    told w g e =
        let b = bound (λ n. if nat_le n 2 then Some n else None) (number_in w) g e in
        let p = cond_some (nat_le b.value 2) b.value g b.gives in
        let low : b.value ≤ 2 = leb-true _ _ p.0 in
        ((number_reader.told w b.value b.was).0 ∙ ap decimal p.1, omega (arith, p.1, low))
