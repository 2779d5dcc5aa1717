-- What is known of fields that were found.
use Rattle.std.proofs.Common.{◌≡◌, ℕ, suc, zero, ◌≤◌, ◌+◌, Bool, true, false, ◌&&◌, List, length, take, drop}
use Rattle.std.proofs.Common.{refl, arith, ap, sym, ◌∙◌, subst, Option, Some, None, nat_le, cond}
use Rattle.std.proofs.lemmas.Bool.Decides.{nat_tests}
use Rattle.clr_fields.specs.Fields.{fault, field_of, Fields, found, Found, found_then, text, times}

-- ---- one field

pub record FieldFound (lawful : ℕ → Bool) (o : ℕ) (w : Option ℕ) (x n : ℕ) : Type 0 where
  pub word : w ≡ Some x
  pub good : lawful x ≡ true
  pub next : n ≡ o + 8

pub field_found : (lawful : ℕ → Bool) (o : ℕ) (w : Option ℕ) (x n : ℕ) → field_of lawful o w ≡ found x n
    → FieldFound lawful o w x n
field_found lawful o None x n e = absurd cc
field_found lawful o (Some w) x n e = go (lawful w) refl e
  where
    go : (t : Bool) → lawful w ≡ t → cond t (found w (o + 8)) (fault o) ≡ found x n → FieldFound lawful o (Some w) x n
    go true good e =
        let same : w ≡ x = cc in
        let next : o + 8 ≡ n = cc in
        record { word = ap (λ v. Some v) same; good = ap lawful (sym same) ∙ good; next = sym next }
    go false good e = absurd cc

pub record TextFound (n : ℕ) (lawful : List ℕ → Bool) (bytes : List ℕ) (o : ℕ) (x : List ℕ) (next : ℕ) : Type 0 where
  pub there : o + n ≤ length bytes
  pub value : take n (drop o bytes) ≡ x
  pub good : lawful x ≡ true
  pub behind : next ≡ o + n

pub text_found : (n : ℕ) (lawful : List ℕ → Bool) (bytes : List ℕ) (o : ℕ) (x : List ℕ) (next : ℕ)
    → text n lawful bytes o ≡ found x next → TextFound n lawful bytes o x next
text_found n lawful bytes o x next e = go (nat_le (o + n) (length bytes)) (lawful (take n (drop o bytes))) refl refl e
  where
    go : (t u : Bool) → nat_le (o + n) (length bytes) ≡ t → lawful (take n (drop o bytes)) ≡ u
        → cond (t && u) (found (take n (drop o bytes)) (o + n)) (fault o) ≡ found x next
        → TextFound n lawful bytes o x next
    go true true a b e =
        let same : take n (drop o bytes) ≡ x = cc in
        let at : o + n ≡ next = cc in
        record { there = grind (arith, nat_tests); value = same; good = ap lawful (sym same) ∙ b; behind = sym at }
    go true false a b e = absurd cc
    go false u a b e = absurd cc

-- ---- one behind the other

pub record BothFound {A B : Type 0} (first : Found A) (next : A → ℕ → Found B) (y : B) (n : ℕ) : Type 0 where
  pub x : A
  pub m : ℕ
  pub one : first ≡ found x m
  pub two : next x m ≡ found y n

pub both_found : {A B : Type 0} (bytes : List ℕ) (next : A → Fields B) (r : Found A) (y : B) (n : ℕ)
    → found_then bytes next r ≡ found y n → BothFound r (λ x m. next x bytes m) y n
both_found bytes next (fault o) y n e = absurd cc
both_found bytes next (found x m) y n e = record { x = x; m = m; one = refl; two = e }

-- a value that takes no bytes
pub gave : {A : Type 0} (x : A) (o : ℕ) (y : A) (n : ℕ) → found x o ≡ found y n → (x ≡ y) × (o ≡ n)
gave x o y n e = let same : x ≡ y = cc in let at : o ≡ n = cc in (same, at)

-- ---- so many steps

module _ {S : Type 0} (step : S → Fields S) (bytes : List ℕ) (P : ℕ → S → ℕ → Type 0)
    (each : (k : ℕ) (s : S) (o : ℕ) (t : S) (m : ℕ) → P k s o → step s bytes o ≡ found t m → P (k + 1) t m) where
  -- what holds after k steps, and is kept by one more, holds after n more
  pub times_keep : (n k : ℕ) (s : S) (o : ℕ) (t : S) (m : ℕ) → P k s o → times n step s bytes o ≡ found t m
      → P (k + n) t m
  unfolding times
  times_keep zero k s o t m p e =
      let same : s ≡ t = cc in
      let at : o ≡ m = cc in
      let none : k ≡ k + 0 = omega arith in
      subst (λ (j : ℕ). P j t m) none (subst (λ (i : ℕ). P k t i) at (subst (λ (u : S). P k u o) same p))
  times_keep (suc n) k s o t m p e =
      let f = both_found bytes (times n step) (step s bytes o) t m e in
      let more : k + 1 + n ≡ k + suc n = omega arith in
      subst (λ (j : ℕ). P j t m) more (times_keep n (k + 1) f.x f.m t m (each k s o f.x f.m p f.one) f.two)
