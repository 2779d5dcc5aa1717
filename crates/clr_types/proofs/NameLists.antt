-- What the index set's look-ups say of the names as lists of bytes.
use Rattle.std.proofs.Common.{◌≡◌, ℕ, ◌+◌, Bool, true, false, List, [], ◌∷◌, map, Vec, Global, Some, None, position}
use Rattle.std.proofs.Common.{eqb, refl, sym, ap, ◌∙◌, inl, inr, zero, suc, ◌<◌, length, get_or, arith}
use Rattle.std.proofs.Common.{◌-◌, ◌≤◌, ltb, ltb-true, zero-add}
use Rattle.std.proofs.lemmas.List.{get_or-map, length-map}
use Rattle.std.specs.Str.{bytes_eq}
use Rattle.std.specs.List.{list_any, position_from, IsDistinct}
use Rattle.std.proofs.lemmas.Bool.{cases_Bool, lt-ltb}
use Rattle.std.proofs.lemmas.List.Elements.{All-from_recursion, All-get_or}
use Rattle.std.proofs.lemmas.Map.Keys.{IsDistinct-head, IsDistinct-tail}
use Rattle.std.proofs.lemmas.Slice.Eq.{bytes_eq-Decides}
use Rattle.std.proofs.lemmas.Iterator.Adapters.{position_from-zero}
use lib.Pointwise.{pointwise}
use Rattle.clr_types.specs.Kept.{bytes_of}
use Rattle.clr_types.specs.Table.{name_number}

-- two tests that pass together are equal
same_test : (a b : Bool) → (a ≡ true → b ≡ true) → (b ≡ true → a ≡ true) → a ≡ b
same_test true b there back = sym (there refl)
same_test false true there back = back refl
same_test false false there back = refl

pub bytes_eq-sym : (xs ys : List ℕ) → bytes_eq xs ys ≡ bytes_eq ys xs
bytes_eq-sym xs ys =
    same_test (bytes_eq xs ys) (bytes_eq ys xs)
    (λ (e : bytes_eq xs ys ≡ true). (bytes_eq-Decides ys xs).1 (sym ((bytes_eq-Decides xs ys).0 e)))
    (λ (e : bytes_eq ys xs ≡ true). (bytes_eq-Decides xs ys).1 (sym ((bytes_eq-Decides ys xs).0 e)))

-- the index set's test of a name against a key
abbrev pub is_key : List ℕ → Vec ℕ Global → Bool
is_key name key = pointwise eqb name key.items

pub name_number-position_from : (n : ℕ) (name : List ℕ) (keys : List (Vec ℕ Global))
    → name_number n (map bytes_of keys) name ≡ position_from (is_key name) n keys
name_number-position_from n name [] = refl
name_number-position_from n name (key ∷ keys) =
    let turned : bytes_eq key.items name ≡ is_key name key = bytes_eq-sym key.items name in
    let later = name_number-position_from (n + 1) name keys in
    rw (turned, later) refl

pub name_number-position : (name : List ℕ) (keys : List (Vec ℕ Global))
    → name_number 0 (map bytes_of keys) name ≡ position (is_key name) keys
name_number-position name keys = name_number-position_from 0 name keys ∙ sym (position_from-zero (is_key name) keys)

pub no_key : (n : ℕ) (name : List ℕ) (keys : List (Vec ℕ Global)) → name_number n (map bytes_of keys) name ≡ None
    → list_any (is_key name) keys ≡ false
no_key n name [] none = refl
no_key n name (key ∷ keys) none =
    let turned : bytes_eq key.items name ≡ is_key name key = bytes_eq-sym key.items name in
    elim (cases_Bool (is_key name key)) [
      | inl hit ↦ let there : bytes_eq key.items name ≡ true = turned ∙ hit in
          let some : Some n ≡ None = rw there at none in cc
      | inr miss ↦ let there : bytes_eq key.items name ≡ false = turned ∙ miss in
          rw miss (no_key (n + 1) name keys (rw there at none))
    ]

-- the test of two keys
abbrev pub same_key : Vec ℕ Global → Vec ℕ Global → Bool
same_key key other = pointwise eqb key.items other.items

-- where no two keys are the same, the number of a name is the place of the key that has it
pub name_number-at : (n i : ℕ) (name : List ℕ) (keys : List (Vec ℕ Global)) (key : Vec ℕ Global)
    → IsDistinct same_key keys → i < length keys → (get_or keys i key).items ≡ name
    → name_number n (map bytes_of keys) name ≡ Some (n + i)
name_number-at n i name [] key distinct within same = absurd (omega arith)
name_number-at n zero name (first ∷ keys) key distinct within same =
    let hit : bytes_eq first.items name ≡ true = (bytes_eq-Decides _ _).1 same in
    let here : n ≡ n + 0 = omega arith in
    rw hit (ap Some here)
name_number-at n (suc i) name (first ∷ keys) key distinct within same =
    let others = All-from_recursion _ keys (IsDistinct-head same_key first keys distinct) in
    let other : bytes_eq first.items (get_or keys i key).items ≡ false =
    All-get_or (λ later. same_key first later ≡ false) keys i key (omega arith) others in
    let miss : bytes_eq first.items name ≡ false = rw same at other in
    let next : n + 1 + i ≡ n + suc i = omega arith in
    rw miss (name_number-at (n + 1) i name keys key (IsDistinct-tail same_key first keys distinct) (omega arith) same
    ∙ ap Some next)

-- which a set's slice of keys tells
pub found_below : (names : List (List ℕ)) (keys slice : List (Vec ℕ Global)) (i : ℕ) → map bytes_of keys ≡ names
    → slice ≡ keys → true ≡ ltb i (length slice) → i < length names
found_below names keys slice i seen told below =
    let count : length (map bytes_of keys) ≡ length names = ap length seen in
    omega (arith, ltb-true i (length slice) (sym below), ap length told, length-map keys bytes_of, count)

pub below_found : (names : List (List ℕ)) (keys slice : List (Vec ℕ Global)) (i : ℕ) → map bytes_of keys ≡ names
    → slice ≡ keys → i < length names → ltb i (length slice) ≡ true
below_found names keys slice i seen told below =
    let count : length (map bytes_of keys) ≡ length names = ap length seen in
    lt-ltb i (length slice) (omega (arith, below, ap length told, length-map keys bytes_of, count))

pub name_number-found : (names : List (List ℕ)) (keys slice : List (Vec ℕ Global)) (known : Vec ℕ Global)
    (name : List ℕ) (i : ℕ) → map bytes_of keys ≡ names → slice ≡ keys → IsDistinct same_key keys
    → true ≡ ltb i (length slice) → known ≡ get_or slice i known → known.items ≡ name
    → name_number 0 names name ≡ Some i
name_number-found names keys slice known name i seen told distinct below found same =
    let within : i < length keys = rw told at (ltb-true i (length slice) (sym below)) in
    let here : known ≡ get_or keys i known = rw told at found in
    let is_name : (get_or keys i known).items ≡ name =
    ap bytes_of (sym here) ∙ same in
    rw (← seen) (name_number-at 0 i name keys known distinct within is_name ∙ ap Some (zero-add i))

-- the number that is found, counted from n, is one of the names', and the name stands at it
name_number-has : (n i : ℕ) (names : List (List ℕ)) (name : List ℕ) → name_number n names name ≡ Some i
    → (n ≤ i) × (i < n + length names) × (get_or names (i - n) [] ≡ name)
name_number-has n i [] name found = cc
name_number-has n i (known ∷ names) name found =
    elim (cases_Bool (bytes_eq known name)) [
      | inl hit ↦
          let one : Some n ≡ Some i = rw hit at found in
          let here : n ≡ i = cc in
          let at : i - n ≡ 0 = omega (arith, here) in (
            omega (arith, here),
            omega (arith, here),
            ap (λ (k : ℕ). get_or (known ∷ names) k []) at ∙ (bytes_eq-Decides known name).0 hit,
          )
      | inr miss ↦
          let later = name_number-has (n + 1) i names name (rw miss at found) in
          let low = later.0 in
          let high = later.1 in
          let at : i - n ≡ suc (i - (n + 1)) = omega (arith, low) in (
            omega (arith, low),
            omega (arith, high),
            ap (λ (k : ℕ). get_or (known ∷ names) k []) at ∙ later.2,
          )
    ]

pub number-has_name : (names : List (List ℕ)) (i : ℕ) (name : List ℕ) → name_number 0 names name ≡ Some i
    → (i < length names) × (get_or names i [] ≡ name)
number-has_name names i name found =
    let has = name_number-has 0 i names name found in
    let below = has.1 in
    let at : i ≡ i - 0 = omega arith in
    (omega (arith, below), ap (λ (k : ℕ). get_or names k []) at ∙ has.2)

-- the key at the number that is found has the name
pub key_named : (names : List (List ℕ)) (keys slice : List (Vec ℕ Global)) (known : Vec ℕ Global) (name : List ℕ)
    (i : ℕ) → map bytes_of keys ≡ names → slice ≡ keys → true ≡ ltb i (length slice) → known ≡ get_or slice i known
    → name_number 0 names name ≡ Some i → known.items ≡ name
key_named names keys slice known name i seen told below found number =
    let within : i < length keys = rw told at (ltb-true i (length slice) (sym below)) in
    let here : known ≡ get_or keys i known = rw told at found in
    let stands : get_or (map bytes_of keys) i [] ≡ get_or names i [] = ap (λ xs. get_or xs i []) seen in
    ap bytes_of here ∙ sym (get_or-map bytes_of keys i known [] within) ∙ stands
    ∙ (number-has_name names i name number).1
