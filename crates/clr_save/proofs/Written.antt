-- Words, texts and fields one behind the other are read back.
use Rattle.std.proofs.Common.{◌≡◌, ℕ, ◌<◌, ◌+◌, ◌^◌, Bool, true, List, [], ◌∷◌, ◌++◌, length}
use Rattle.std.proofs.Common.{take, drop, refl, arith, ap, sym, ◌∙◌, subst, Some, nat_le, le-leb}
use Rattle.std.proofs.Common.{length-append, length-drop, append_assoc, append-nil}
use Rattle.std.specs.List.{flat_map}
use Rattle.std.proofs.lemmas.List.{drop-drop, drop_at, take_at}
use Rattle.byteorder.specs.Endian.{little_from}
use Rattle.byteorder.specs.Numbers.{length-bytes_low_first, little_number-reads_back}
use Rattle.clr_fields.specs.Fields.{Fields, field, field_of, found, found_then, gives, text, times}
use Rattle.clr_fields.specs.Fields.{word_at, ◌>>=◌}
use Rattle.clr_save.specs.ReadsBack.{ReadsBack, StandsAt}
use Rattle.clr_format.specs.Saved.{word_bytes}

-- ---- where bytes stand

-- all of them are there
pub room : (bytes these others : List ℕ) (o : ℕ) → StandsAt bytes o these others
    → o + length these + length others ≡ length bytes
room bytes these others o at =
    let low = at.within in
    let same = ap length at.is in
    let left = length-drop o bytes in
    let right = length-append these others in
    omega (arith, same, left, right)

-- the first of two
pub first_of : (bytes these more others : List ℕ) (o : ℕ) → StandsAt bytes o (these ++ more) others
    → StandsAt bytes o these (more ++ others)
first_of bytes these more others o at = record {
  within = at.within;
  is = at.is ∙ append_assoc these more others;
}

-- the second of two
pub second_of : (bytes these more others : List ℕ) (o : ℕ) → StandsAt bytes o (these ++ more) others
    → StandsAt bytes (o + length these) more others
second_of bytes these more others o at =
    let all = room bytes (these ++ more) others o at in
    record {
      within = omega (arith, all, length-append these more);
      is = sym (drop-drop (length these) o bytes) ∙ ap (drop (length these)) (at.is ∙ append_assoc these more others)
          ∙ drop_at these (more ++ others) (length these) refl;
    }

-- ---- one field

pub length-word : (n : ℕ) → length (word_bytes n) ≡ 8
unfolding word_bytes
length-word n = length-bytes_low_first 0 8 n

pub word_found : (bytes others : List ℕ) (o n : ℕ) → n < 2 ^ 64 → StandsAt bytes o (word_bytes n) others
    → word_at bytes o ≡ Some n
unfolding word_at word_bytes
word_found bytes others o n small at =
    let all = room bytes (word_bytes n) others o at in
    let there : nat_le (o + 8) (length bytes) ≡ true =
    le-leb (o + 8) (length bytes) (omega (arith, all, length-word n)) in
    let value : little_from 0 8 (drop o bytes) ≡ n =
    ap (little_from 0 8) at.is ∙ little_number-reads_back 8 n others small in
    rw (there, value) refl

field_found : (lawful : ℕ → Bool) (o n : ℕ) → lawful n ≡ true → field_of lawful o (Some n) ≡ found n (o + 8)
field_found lawful o n good = rw good refl

pub word_back : (lawful : ℕ → Bool) (n : ℕ) → n < 2 ^ 64 → lawful n ≡ true → ReadsBack (field lawful) (word_bytes n) n
word_back lawful n small good bytes others o at =
    ap (field_of lawful o) (word_found bytes others o n small at) ∙ field_found lawful o n good
    ∙ ap (λ k. found n (o + k)) (sym (length-word n))

-- ---- several fields

pub same_bytes : {A : Type 0} (fields : Fields A) (these those : List ℕ) (x : A) → these ≡ those
    → ReadsBack fields these x → ReadsBack fields those x
same_bytes fields these those x e back = subst (λ (ys : List ℕ). ReadsBack fields ys x) e back

pub same_value : {A : Type 0} (fields : Fields A) (these : List ℕ) (x y : A) → x ≡ y
    → ReadsBack fields these x → ReadsBack fields these y
same_value {A = A} fields these x y e back = subst (λ (z : A). ReadsBack fields these z) e back

pub gives_back : {A : Type 0} (x : A) → ReadsBack (gives x) [] x
gives_back x bytes others o at = ap (λ k. found x k) (let e : o ≡ o + 0 = omega arith in e)

-- one behind the other
pub then_back : {A B : Type 0} (first : Fields A) (next : A → Fields B) (these more : List ℕ) (x : A) (y : B)
    → ReadsBack first these x → ReadsBack (next x) more y → ReadsBack (first >>= next) (these ++ more) y
then_back first next these more x y back again bytes others o at =
    let e : o + length these + length more ≡ o + length (these ++ more) = omega (arith, length-append these more) in
    ap (found_then bytes next) (back bytes (more ++ others) o (first_of bytes these more others o at))
    ∙ again bytes others (o + length these) (second_of bytes these more others o at) ∙ ap (λ k. found y k) e

-- the last of several
pub last_back : {A B : Type 0} (first : Fields A) (next : A → Fields B) (these : List ℕ) (x : A) (y : B)
    → ReadsBack first these x → ReadsBack (next x) [] y → ReadsBack (first >>= next) these y
last_back first next these x y back again =
    same_bytes (first >>= next) (these ++ []) these y (append-nil these)
    (then_back first next these [] x y back again)

-- a word, and what follows it
pub word_then : {B : Type 0} (lawful : ℕ → Bool) (next : ℕ → Fields B) (n : ℕ) (more : List ℕ) (y : B) → n < 2 ^ 64
    → lawful n ≡ true → ReadsBack (next n) more y → ReadsBack (field lawful >>= next) (word_bytes n ++ more) y
word_then lawful next n more y small good again =
    then_back (field lawful) next (word_bytes n) more n y (word_back lawful n small good) again

-- bytes that are lawful together
pub text_back : (n : ℕ) (lawful : List ℕ → Bool) (these : List ℕ) → length these ≡ n → lawful these ≡ true
    → ReadsBack (text n lawful) these these
text_back n lawful these len good bytes others o at =
    let all = room bytes these others o at in
    let there : nat_le (o + n) (length bytes) ≡ true = le-leb (o + n) (length bytes) (omega arith) in
    let cut : take n (drop o bytes) ≡ these = ap (take n) at.is ∙ take_at these others n len in
    rw (there, cut, good) (ap (λ k. found these (o + k)) (sym len))

-- ---- lists

-- each step reads back what was put for it
abbrev pub StepsBack : {S X : Type 0} → (S → Fields S) → (S → X → S) → (X → List ℕ) → S → List X → Type 0
StepsBack step after put s [] = Unit {0}
StepsBack step after put s (x ∷ xs) = ReadsBack (step s) (put x) (after s x) × StepsBack step after put (after s x) xs

-- what all of them leave
abbrev pub after_all : {S X : Type 0} → (S → X → S) → S → List X → S
after_all after s [] = s
after_all after s (x ∷ xs) = after_all after (after s x) xs

pub times_back : {S X : Type 0} (step : S → Fields S) (after : S → X → S) (put : X → List ℕ) (s : S) (xs : List X)
    → StepsBack step after put s xs → ReadsBack (times (length xs) step s) (flat_map put xs) (after_all after s xs)
unfolding times
times_back step after put s [] back = gives_back s
times_back step after put s (x ∷ xs) back =
    then_back (step s) (times (length xs) step) (put x) (flat_map put xs) (after s x)
    (after_all after (after s x) xs) back.0 (times_back step after put (after s x) xs back.1)

-- one element more at the end each time
pub appended_all : {X : Type 0} (xs ys : List X) → after_all (λ (zs : List X) (x : X). zs ++ x ∷ []) xs ys ≡ xs ++ ys
appended_all xs [] = sym (append-nil xs)
appended_all xs (y ∷ ys) = appended_all (xs ++ y ∷ []) ys ∙ append_assoc xs (y ∷ []) ys
