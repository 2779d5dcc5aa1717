-- What arguments of each kind are, and of which kind the arguments of a line are.
use Rattle.std.specs.Prelude.{◌≡◌, ◌≢◌, ◌++◌, ◌==◌, ◌&&◌, ◌||◌, ◌<◌, ◌^◌, ℕ, zero, suc, Bool, true, false, not}
use Rattle.std.specs.Prelude.{List, [], ◌∷◌, Option, Some, None, codes, decimal, if◌then◌else◌, is_some}
use Rattle.std.specs.Prelude.{option_and_then, slice_get}
use Rattle.std.specs.List.{list_all}
use Rattle.std.specs.Char.{is_ascii_digit}
use Rattle.std.specs.Str.{bytes_eq, chars}
use Rattle.std.proofs.Common.{refl, sym, ap, ap₂, ◌∙◌, subst, arith, true≢false, ◌⊎◌, inl, inr}
use Rattle.std.proofs.lemmas.Bool.{and_parts, cases_eq, eqb-true, eqb-false, or_parts}
use Rattle.std.proofs.lemmas.Slice.Eq.{bytes_eq-Decides}
use Rattle.std.proofs.lemmas.Str.{chars-nil}
use Rattle.clap.specs.Lexer.{has_byte, long_of_rest, name_and_value, short_of_rest, strip_byte}
use Rattle.clap.proofs.CutLemmas.{Lacks}
use Rattle.clap.proofs.LexerLemmas.{name_and_value-at, name_and_value-without}
use Rattle.clr_nums.proofs.DecimalText.{list_all-decimal}
use Rattle.clr_args.specs.Grammar.{Text, dashed, is_among, is_dashed}
use Rattle.clr_args.proofs.Pass.{Kind, dashes, flag, joint, kind_by, kind_of, kind_of_first, kind_of_long, other}
use Rattle.clr_args.proofs.Pass.{whole}

-- ---- cuts at `=`

Lacks_cons : (x : ℕ) (xs : List ℕ) → x ≢ 61 → Lacks 61 xs → Lacks 61 (x ∷ xs)
Lacks_cons x xs apart lacks zero lt = apart
Lacks_cons x xs apart lacks (suc i) lt = lacks i (omega arith)

Lacks_none : Lacks 61 []
Lacks_none i lt = absurd (omega arith)

cut : (xs : List ℕ) → Lacks 61 xs ⊎ ((ys : List ℕ) × (zs : List ℕ) × Lacks 61 ys × (xs ≡ ys ++ 61 ∷ zs))
cut [] = inl Lacks_none
cut (x ∷ xs) = go (cases_eq x 61) (cut xs)
  where
    go : (x ≡ 61) ⊎ (x ≢ 61) → Lacks 61 xs ⊎ ((ys : List ℕ) × (zs : List ℕ) × Lacks 61 ys × (xs ≡ ys ++ 61 ∷ zs))
        → Lacks 61 (x ∷ xs) ⊎ ((ys : List ℕ) × (zs : List ℕ) × Lacks 61 ys × (x ∷ xs ≡ ys ++ 61 ∷ zs))
    go (inl is) rest = inr ([], xs, Lacks_none, ap (λ y. y ∷ xs) is)
    go (inr apart) (inl lacks) = inl (Lacks_cons x xs apart lacks)
    go (inr apart) (inr found) =
        inr (x ∷ found.0, found.1, Lacks_cons x found.0 apart found.2, ap (λ ys. x ∷ ys) found.3)

lacks_from : (xs : List ℕ) → has_byte 61 xs ≡ false → Lacks 61 xs
lacks_from [] e = Lacks_none
lacks_from (x ∷ xs) e = let parts = or_parts (x == 61) (has_byte 61 xs) e in
    Lacks_cons x xs (λ is. eqb-false x 61 parts.0 is) (lacks_from xs parts.1)

-- ---- arguments of each kind

abbrev pub Looks : Kind → Text → Type 0
Looks dashes argument = argument ≡ codes "--"
Looks (whole name) argument = argument ≡ dashed name
Looks (joint name text) argument = argument ≡ dashed name ++ (codes "=" ++ text)
Looks flag argument = Unit {0}
Looks other argument = Unit {0}

looks_long : (rest : List ℕ) → Looks (kind_of_long (name_and_value rest).0 (name_and_value rest).1) (45 ∷ 45 ∷ rest)
looks_long rest = go (cut rest)
  where
    go : Lacks 61 rest ⊎ ((ys : List ℕ) × (zs : List ℕ) × Lacks 61 ys × (rest ≡ ys ++ 61 ∷ zs))
        → Looks (kind_of_long (name_and_value rest).0 (name_and_value rest).1) (45 ∷ 45 ∷ rest)
    go (inl lacks) =
        subst (λ (p : Text × Option Text). Looks (kind_of_long p.0 p.1) (45 ∷ 45 ∷ rest))
        (sym (name_and_value-without rest lacks)) refl
    go (inr found) = subst (λ (p : Text × Option Text). Looks (kind_of_long p.0 p.1) (45 ∷ 45 ∷ rest))
        (sym (ap name_and_value found.3 ∙ name_and_value-at found.0 found.1 found.2)) (ap (λ r. 45 ∷ 45 ∷ r) found.3)

looks_first : (first : Option ℕ) (argument : Text) → Looks (kind_of_first first) argument
looks_first None argument = tt
looks_first (Some x) argument = tt

pub looks : (argument : Text) → Looks (kind_of argument) argument
looks [] = tt
looks (x ∷ []) = go (x == 45)
  where
    go : (b : Bool)
        → Looks (kind_by (b && false)
        (option_and_then long_of_rest (option_and_then (strip_byte 45) (if b then Some [] else None)))
        (option_and_then short_of_rest (if b then Some [] else None))) (x ∷ [])
    go true = tt
    go false = tt
looks (x ∷ y ∷ zs) = go (x == 45) refl
  where
    third : (zs : List ℕ) → x ≡ 45 → y ≡ 45 → Looks (kind_by (bytes_eq zs []) (long_of_rest zs) None) (x ∷ y ∷ zs)
    third [] first second = ap₂ (λ a b. a ∷ b ∷ []) first second
    third (z ∷ zs) first second = subst (Looks (kind_of_long (name_and_value (z ∷ zs)).0 (name_and_value (z ∷ zs)).1))
        (sym (ap₂ (λ a b. a ∷ b ∷ z ∷ zs) first second)) (looks_long (z ∷ zs))

    second : (b : Bool) → (y == 45) ≡ b → x ≡ 45
        → Looks (kind_by (b && bytes_eq zs []) (option_and_then long_of_rest (if b then Some zs else None))
        (if b then None else Some (y ∷ zs))) (x ∷ y ∷ zs)
    second true is first = third zs first (eqb-true y 45 is)
    second false isnt first = looks_first (slice_get (chars (y ∷ zs)) 0) (x ∷ y ∷ zs)

    go : (b : Bool) → (x == 45) ≡ b → Looks (kind_by (b && ((y == 45) && bytes_eq zs []))
        (option_and_then long_of_rest (option_and_then (strip_byte 45) (if b then Some (y ∷ zs) else None)))
        (option_and_then short_of_rest (if b then Some (y ∷ zs) else None))) (x ∷ y ∷ zs)
    go true is = second (y == 45) refl (eqb-true x 45 is)
    go false isnt = tt

-- ---- the arguments of a line

-- a name that can stand in an option's argument
abbrev pub is_name : Text → Bool
is_name [] = false
is_name (x ∷ xs) = not (has_byte 61 (x ∷ xs))

name_among : (names : List Text) (name : Text) → list_all is_name names ≡ true → is_among name names ≡ true
    → is_name name ≡ true
name_among [] name all among = absurd (true≢false (sym among))
name_among (n ∷ ns) name all among = go (bytes_eq n name) refl among (name_among ns name (and_parts _ _ all).1)
  where
    go : (same : Bool) → bytes_eq n name ≡ same → (same || is_among name ns) ≡ true
        → (is_among name ns ≡ true → is_name name ≡ true) → is_name name ≡ true
    go true is e rest = subst (λ x. is_name x ≡ true) ((bytes_eq-Decides n name).0 is) (and_parts _ _ all).0
    go false isnt e rest = rest e

not_from : (b : Bool) → not b ≡ true → b ≡ false
not_from true e = absurd (true≢false (sym e))
not_from false e = refl

whole_by_name : (name : Text) → is_name name ≡ true → kind_of (dashed name) ≡ whole name
whole_by_name [] e = absurd (true≢false (sym e))
whole_by_name (x ∷ xs) e =
    ap (λ (p : Text × Option Text). kind_of_long p.0 p.1)
    (name_and_value-without (x ∷ xs) (lacks_from (x ∷ xs) (not_from _ e)))

joint_by_name : (name text : Text) → is_name name ≡ true
    → kind_of (dashed name ++ (codes "=" ++ text)) ≡ joint name text
joint_by_name [] text e = absurd (true≢false (sym e))
joint_by_name (x ∷ xs) text e =
    ap (λ (p : Text × Option Text). kind_of_long p.0 p.1)
    (name_and_value-at (x ∷ xs) text (lacks_from (x ∷ xs) (not_from _ e)))

module _ (names : List Text) (are_names : list_all is_name names ≡ true) where
  pub kind_whole : (name : Text) → is_among name names ≡ true → kind_of (dashed name) ≡ whole name
  kind_whole name among = whole_by_name name (name_among names name are_names among)

  pub kind_joint : (name text : Text) → is_among name names ≡ true
      → kind_of (dashed name ++ (codes "=" ++ text)) ≡ joint name text
  kind_joint name text among = joint_by_name name text (name_among names name are_names among)

digits_other : (text : Text) → list_all is_ascii_digit text ≡ true → kind_of text ≡ other
digits_other [] all = refl
digits_other (x ∷ xs) all = go (x == 45) refl
  where
    go : (b : Bool) → (x == 45) ≡ b
        → kind_by (b && bytes_eq xs (45 ∷ []))
        (option_and_then long_of_rest (option_and_then (strip_byte 45) (if b then Some xs else None)))
        (option_and_then short_of_rest (if b then Some xs else None)) ≡ other
    go true is = absurd
        (true≢false (sym (subst (λ y. is_ascii_digit y ≡ true) (eqb-true x 45 is) (and_parts _ _ all).0)))
    go false isnt = refl

pub kind_number : (number : ℕ) → number < 2 ^ 64 → kind_of (decimal number) ≡ other
kind_number number small = digits_other (decimal number) (list_all-decimal number small)

-- ---- words that may be paths

no_other : (name : Text) (text : Option Text) → kind_of_long name text ≡ other → ⊥
no_other name None e = absurd cc
no_other name (Some text) e = absurd cc

-- a word that looks like no option begins with no `-` behind which a character stands
pub other_plain : (word : Text) → kind_of word ≡ other → is_dashed word ≡ false
other_plain [] e = refl
other_plain (x ∷ []) e = go (x == 45)
  where
    go : (b : Bool) → (b && is_some (slice_get (chars []) 0)) ≡ false
    go true = ap (λ (cs : List ℕ). is_some (slice_get cs 0)) chars-nil
    go false = refl
other_plain (x ∷ y ∷ zs) e = go (x == 45) e
  where
    third : (zs : List ℕ) → kind_by (bytes_eq zs []) (long_of_rest zs) None ≡ other → ⊥
    third [] e = absurd cc
    third (z ∷ zs) e = no_other (name_and_value (z ∷ zs)).0 (name_and_value (z ∷ zs)).1 e

    none : (first : Option ℕ) → kind_of_first first ≡ other → is_some first ≡ false
    none None e = refl
    none (Some x) e = absurd cc

    second : (b : Bool) → kind_by (b && bytes_eq zs []) (option_and_then long_of_rest (if b then Some zs else None))
        (if b then None else Some (y ∷ zs)) ≡ other
        → is_some (slice_get (chars (y ∷ zs)) 0) ≡ false
    second true e = absurd (third zs e)
    second false e = none (slice_get (chars (y ∷ zs)) 0) e

    go : (b : Bool) → kind_by (b && ((y == 45) && bytes_eq zs []))
        (option_and_then long_of_rest (option_and_then (strip_byte 45) (if b then Some (y ∷ zs) else None)))
        (option_and_then short_of_rest (if b then Some (y ∷ zs) else None)) ≡ other
        → (b && is_some (slice_get (chars (y ∷ zs)) 0)) ≡ false
    go true e = second (y == 45) e
    go false e = refl

-- a `-` is a character
minus_first : (zs : List ℕ) → is_some (slice_get (chars (45 ∷ zs)) 0) ≡ true
unfolding chars
minus_first [] = refl
minus_first (z ∷ zs) = refl

-- a word that begins with no `-` behind which a character stands looks like no option
pub plain_other : (word : Text) → is_dashed word ≡ false → kind_of word ≡ other
plain_other [] e = refl
plain_other (x ∷ []) e = go (x == 45)
  where
    go : (b : Bool) → kind_by (b && false)
        (option_and_then long_of_rest (option_and_then (strip_byte 45) (if b then Some [] else None)))
        (option_and_then short_of_rest (if b then Some [] else None)) ≡ other
    go true = refl
    go false = refl
plain_other (x ∷ y ∷ zs) e = go (x == 45) e
  where
    none : (first : Option ℕ) → is_some first ≡ false → kind_of_first first ≡ other
    none None e = refl
    none (Some x) e = absurd (true≢false e)

    second : (b : Bool) → (y == 45) ≡ b → is_some (slice_get (chars (y ∷ zs)) 0) ≡ false
        → kind_by (b && bytes_eq zs []) (option_and_then long_of_rest (if b then Some zs else None))
        (if b then None else Some (y ∷ zs)) ≡ other
    second true is e = absurd (true≢false (sym (minus_first zs)
        ∙ (ap (λ (z : ℕ). is_some (slice_get (chars (z ∷ zs)) 0)) (sym (eqb-true y 45 is)) ∙ e)))
    second false isnt e = none (slice_get (chars (y ∷ zs)) 0) e

    go : (b : Bool) → (b && is_some (slice_get (chars (y ∷ zs)) 0)) ≡ false
        → kind_by (b && ((y == 45) && bytes_eq zs []))
        (option_and_then long_of_rest (option_and_then (strip_byte 45) (if b then Some (y ∷ zs) else None)))
        (option_and_then short_of_rest (if b then Some (y ∷ zs) else None)) ≡ other
    go true e = second (y == 45) refl e
    go false e = refl
