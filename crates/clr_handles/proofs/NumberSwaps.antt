-- Two lists that undo one another, where two of their numbers are exchanged.
use Rattle.std.proofs.Common.{◌≡◌, ◌≢◌, ◌⊎◌, ℕ, ◌<◌, ◌≤◌, ◌++◌, List, [], ◌∷◌, length, get_or, set, inl, inr, refl, sym}
use Rattle.std.proofs.Common.{ap, ◌∙◌, subst, arith}
use Rattle.std.proofs.lemmas.Bool.{cases_eq, cases_lt}
use Rattle.std.proofs.lemmas.List.{get_or-set_same, get_or-set_other, get_or_past, get_or_push, get_or_append_left}
use Rattle.std.proofs.lemmas.List.{length-set, length-append, get_or_default}
use Rattle.clr_handles.specs.Numbers.{Numbers, IsNumbering, IsEachNumber, key_at, number_at, Regives}

-- what a list of numbers has at an index, which past its end is the index itself
abbrev pub at : List ℕ → ℕ → ℕ
at xs n = get_or xs n n

-- two numbers of the list in new places
abbrev pub twice_set : List ℕ → ℕ → ℕ → ℕ → ℕ → List ℕ
twice_set xs i x j y = set (set xs i x) j y

pub length-twice_set : (xs : List ℕ) (i x j y : ℕ) → length (twice_set xs i x j y) ≡ length xs
length-twice_set xs i x j y = length-set (set xs i x) j y ∙ length-set xs i x

at-last : (xs : List ℕ) (i x j y : ℕ) → j < length xs → at (twice_set xs i x j y) j ≡ y
at-last xs i x j y in_last = get_or-set_same (set xs i x) j y j (subst (λ n. j < n) (sym (length-set xs i x)) in_last)

at-first : (xs : List ℕ) (i x j y : ℕ) → i < length xs → i ≢ j → at (twice_set xs i x j y) i ≡ x
at-first xs i x j y in_first apart = get_or-set_other (set xs i x) j i y i apart ∙ get_or-set_same xs i x i in_first

at-other : (xs : List ℕ) (i x j y n : ℕ) → n ≢ i → n ≢ j → at (twice_set xs i x j y) n ≡ at xs n
at-other xs i x j y n not_first not_last =
    get_or-set_other (set xs i x) j n y n not_last ∙ get_or-set_other xs i n x n not_first

-- an index in the one list names one in the other
within : (f g : List ℕ) → ((n : ℕ) → at g (at f n) ≡ n) → length g ≡ length f → (n : ℕ) → n < length f
    → at f n < length g
within f g back same n inside = go (cases_lt (at f n) (length g))
  where
    go : (at f n < length g) ⊎ (length g ≤ at f n) → at f n < length g
    go (inl h) = h
    go (inr h) = let past : at g (at f n) ≡ at f n = get_or_past g (at f n) (at f n) h in omega (arith, past, back n)

module _ (f g : List ℕ) (same : length g ≡ length f) (back : (n : ℕ) → at g (at f n) ≡ n)
    (forth : (k : ℕ) → at f (at g k) ≡ k) (a b o p : ℕ) (in_f : a < length f) (in_g : b < length g)
    (o_is : o ≡ at g b) (p_is : p ≡ at f a) where
  o_in : o < length f
  o_in = subst (λ n. n < length f) (sym o_is) (within g f forth (sym same) b in_g)

  p_in : p < length g
  p_in = subst (λ n. n < length g) (sym p_is) (within f g back same a in_f)

  -- where o is given p and then a is given b, and the other way round, the lists undo one another again
  pub back-exchanged : (n : ℕ) → at (twice_set g p o b a) (at (twice_set f o p a b) n) ≡ n
  back-exchanged n = at_a (cases_eq n a)
    where
      to : List ℕ
      to = twice_set f o p a b

      fro : List ℕ
      fro = twice_set g p o b a

      at_o : n ≢ a → (n ≡ o) ⊎ (n ≢ o) → at fro (at to n) ≡ n
      at_o not_a (inl is_o) =
          let p_not_b : p ≢ b = λ e. not_a (is_o ∙ o_is ∙ ap (at g) (sym e ∙ p_is) ∙ back a) in
          ap (λ m. at fro (at to m)) is_o ∙ ap (at fro) (at-first f o p a b o_in (λ e. not_a (is_o ∙ e)))
          ∙ at-first g p o b a p_in p_not_b ∙ sym is_o
      at_o not_a (inr not_o) =
          let not_p : at f n ≢ p = λ e. not_a (sym (back n) ∙ ap (at g) (e ∙ p_is) ∙ back a) in
          let not_b : at f n ≢ b = λ e. not_o (sym (back n) ∙ ap (at g) e ∙ sym o_is) in
          ap (at fro) (at-other f o p a b n not_o not_a) ∙ at-other g p o b a (at f n) not_p not_b ∙ back n

      at_a : (n ≡ a) ⊎ (n ≢ a) → at fro (at to n) ≡ n
      at_a (inl is_a) =
          ap (λ m. at fro (at to m)) is_a ∙ ap (at fro) (at-last f o p a b in_f) ∙ at-last g p o b a in_g ∙ sym is_a
      at_a (inr not_a) = at_o not_a (cases_eq n o)

  -- what each number has then
  pub exchanged-given : at (twice_set f o p a b) a ≡ b
  exchanged-given = at-last f o p a b in_f

  pub exchanged-handed_on : at (twice_set f o p a b) (at g b) ≡ at f a
  exchanged-handed_on = go (cases_eq o a)
    where
      go : (o ≡ a) ⊎ (o ≢ a) → at (twice_set f o p a b) (at g b) ≡ at f a
      go (inl e) =
          ap (at (twice_set f o p a b)) (sym o_is ∙ e) ∙ exchanged-given ∙ sym (forth b) ∙ ap (at f) (sym o_is ∙ e)
      go (inr apart) = ap (at (twice_set f o p a b)) (sym o_is) ∙ at-first f o p a b o_in apart ∙ p_is

  pub exchanged-others : (n : ℕ) → n ≢ a → n ≢ at g b → at (twice_set f o p a b) n ≡ at f n
  exchanged-others n not_a not_o = at-other f o p a b n (λ e. not_o (e ∙ o_is)) not_a

-- a number and a key exchanged in both lists
abbrev pub exchanged : Numbers → ℕ → ℕ → ℕ → ℕ → Numbers
exchanged v number key other_key other_number = record {
  keys = twice_set v.keys other_number other_key number key;
  numbers = twice_set v.numbers other_key other_number key number;
}

module _ (v : Numbers) (law : IsNumbering v) (number key other_key other_number : ℕ) (whole : length v.keys ≡ 65536)
    (in_numbers : number < 65536) (in_keys : key < 65536) (key_is : other_key ≡ key_at v number)
    (number_is : other_number ≡ number_at v key) where
  within_keys : number < length v.keys
  within_keys = omega (arith, in_numbers, whole)

  within_numbers : key < length v.numbers
  within_numbers = let same = law.same_length in omega (arith, in_keys, whole, same)

  pub numbering-given : IsNumbering (exchanged v number key other_key other_number)
  numbering-given = record {
    same_length =
        length-twice_set v.numbers other_key other_number key number ∙ law.same_length
        ∙ sym (length-twice_set v.keys other_number other_key number key);
    whole = λ _. length-twice_set v.keys other_number other_key number key ∙ whole;
    back =
        back-exchanged v.keys v.numbers law.same_length law.back law.forth number key other_number other_key
        within_keys within_numbers number_is key_is;
    forth =
        back-exchanged v.numbers v.keys (sym law.same_length) law.forth law.back key number other_key other_number
        within_numbers within_keys key_is number_is;
  }

  pub regives-given : Regives v (exchanged v number key other_key other_number) number key
  regives-given = record {
    given =
        exchanged-given v.keys v.numbers law.same_length law.back law.forth number key other_number other_key
        within_keys within_numbers number_is key_is;
    handed_on =
        exchanged-handed_on v.keys v.numbers law.same_length law.back law.forth number key other_number other_key
        within_keys within_numbers number_is key_is;
    others =
        exchanged-others v.keys v.numbers law.same_length law.back law.forth number key other_number other_key
        within_keys within_numbers number_is key_is;
  }

-- ---- a list that has each number at its own index

pub itself-push : (xs : List ℕ) (x : ℕ) → x ≡ length xs → ((n : ℕ) → at xs n ≡ n) → (n : ℕ) → at (xs ++ x ∷ []) n ≡ n
itself-push xs x last itself n = go (cases_lt n (length xs))
  where
    at_end : (n ≡ length xs) ⊎ (n ≢ length xs) → length xs ≤ n → at (xs ++ x ∷ []) n ≡ n
    at_end (inl e) past = get_or_push xs x n n (sym e) ∙ last ∙ sym e
    at_end (inr apart) past = get_or_past (xs ++ x ∷ []) n n (omega (arith, length-append xs (x ∷ [])))

    go : (n < length xs) ⊎ (length xs ≤ n) → at (xs ++ x ∷ []) n ≡ n
    go (inl inside) = get_or_append_left xs (x ∷ []) n n inside ∙ itself n
    go (inr past) = at_end (cases_eq n (length xs)) past

-- two such lists make a numbering, in which each number is its own key
pub numbering-itself : (xs ys : List ℕ) → IsEachNumber xs → IsEachNumber ys
    → IsNumbering (record { keys = xs; numbers = ys })
numbering-itself xs ys keys numbers =
    record {
      same_length = numbers.whole ∙ sym keys.whole;
      whole = λ _. keys.whole;
      back = λ n. numbers.itself (at xs n) ∙ keys.itself n;
      forth = λ k. keys.itself (at ys k) ∙ numbers.itself k;
    }

-- what is read of a list within its length, at any default
pub read-at : (xs : List ℕ) (i x y : ℕ) → i < length xs → x ≡ get_or xs i x → y ≡ x → y ≡ at xs i
read-at xs i x y inside read is = is ∙ read ∙ get_or_default xs i x i inside

-- a number that has the key already
pub regives-itself : (v : Numbers) → IsNumbering v → (number key : ℕ) → key_at v number ≡ key → Regives v v number key
regives-itself v law number key has =
    record {
      given = has;
      handed_on = ap (key_at v) (ap (number_at v) (sym has) ∙ law.back number);
      others = λ n apart differs. refl;
    }

-- the same from a numbering that has the same keys and numbers
pub regives-from_same : (old ready new : Numbers) (number key : ℕ) → ((n : ℕ) → key_at ready n ≡ key_at old n)
    → ((k : ℕ) → number_at ready k ≡ number_at old k) → Regives ready new number key → Regives old new number key
regives-from_same old ready new number key keys numbers regives =
    record {
      given = regives.given;
      handed_on = ap (key_at new) (sym (numbers key)) ∙ regives.handed_on ∙ keys number;
      others = λ n apart differs. regives.others n apart (λ e. differs (e ∙ numbers key)) ∙ keys n;
    }
