-- What a map from numbers answers after a change.
use Rattle.std.proofs.Common.{◌≡◌, ◌≢◌, ◌⊎◌, ℕ, ◌+◌, ◌-◌, true, false, cond, Some, None, is_some, inl, inr, refl, sym}
use Rattle.std.proofs.Common.{ap, ◌∙◌, eq-eqb}
use Rattle.std.proofs.lemmas.Bool.{cases_eq, ne_eqb}
use Rattle.std.specs.Ordering.{nat_cmp, eq_by_cmp}
use Rattle.std.specs.Cmp.{nat_cmp_total, unsigned_tied}
use Rattle.std.specs.FinMap as finmap
use Rattle.clr_types.proofs.MapValues.{map_values-same}

pub tied : (x y : ℕ) → x ≡ y → eq_by_cmp nat_cmp x y ≡ true
tied x y e = unsigned_tied x y ∙ eq-eqb x y e

pub untied : (x y : ℕ) → x ≢ y → eq_by_cmp nat_cmp x y ≡ false
untied x y e = unsigned_tied x y ∙ ne_eqb x y e

module _ {X : Type 0} where
  pub get-inserted : (m : finmap.FinMap nat_cmp X) (k : ℕ) (x : X) → finmap.get (finmap.insert m k x) k ≡ Some x
  get-inserted m k x =
      finmap.get-insert nat_cmp_total m k x k ∙ ap (λ b. cond b (Some x) (finmap.get m k)) (tied k k refl)

  pub get-insert_other : (m : finmap.FinMap nat_cmp X) (k q : ℕ) (x : X) → q ≢ k
      → finmap.get (finmap.insert m k x) q ≡ finmap.get m q
  get-insert_other m k q x apart =
      finmap.get-insert nat_cmp_total m k x q ∙ ap (λ b. cond b (Some x) (finmap.get m q)) (untied q k apart)

  pub get-removed : (m : finmap.FinMap nat_cmp X) (k : ℕ) → finmap.get (finmap.remove m k) k ≡ None
  get-removed m k = finmap.get-remove nat_cmp_total m k k ∙ ap (λ b. cond b None (finmap.get m k)) (tied k k refl)

  pub get-remove_other : (m : finmap.FinMap nat_cmp X) (k q : ℕ) → q ≢ k
      → finmap.get (finmap.remove m k) q ≡ finmap.get m q
  get-remove_other m k q apart =
      finmap.get-remove nat_cmp_total m k q ∙ ap (λ b. cond b None (finmap.get m q)) (untied q k apart)

  -- a map that answers as another does, but for one number
  pub is-insert : (m n : finmap.FinMap nat_cmp X) (k : ℕ) (x : X) → finmap.get n k ≡ Some x
      → ((q : ℕ) → q ≢ k → finmap.get n q ≡ finmap.get m q) → n ≡ finmap.insert m k x
  is-insert m n k x here others = map_values-same n (finmap.insert m k x) (λ q. go q (cases_eq q k))
    where
      go : (q : ℕ) → (q ≡ k) ⊎ (q ≢ k) → finmap.get n q ≡ finmap.get (finmap.insert m k x) q
      go q (inl e) =
          ap (finmap.get n) e ∙ here ∙ sym (get-inserted m k x) ∙ ap (finmap.get (finmap.insert m k x)) (sym e)
      go q (inr apart) = others q apart ∙ sym (get-insert_other m k q x apart)

  pub is-remove : (m n : finmap.FinMap nat_cmp X) (k : ℕ) → finmap.get n k ≡ None
      → ((q : ℕ) → q ≢ k → finmap.get n q ≡ finmap.get m q) → n ≡ finmap.remove m k
  is-remove m n k here others = map_values-same n (finmap.remove m k) (λ q. go q (cases_eq q k))
    where
      go : (q : ℕ) → (q ≡ k) ⊎ (q ≢ k) → finmap.get n q ≡ finmap.get (finmap.remove m k) q
      go q (inl e) = ap (finmap.get n) e ∙ here ∙ sym (get-removed m k) ∙ ap (finmap.get (finmap.remove m k)) (sym e)
      go q (inr apart) = others q apart ∙ sym (get-remove_other m k q apart)

  -- how many a map holds after a change
  pub len-inserted : (m : finmap.FinMap nat_cmp X) (k : ℕ) (x : X) → finmap.get m k ≡ None
      → finmap.len (finmap.insert m k x) ≡ finmap.len m + 1
  len-inserted m k x none =
      finmap.len-insert nat_cmp_total m k x ∙ ap (λ o. cond (is_some o) (finmap.len m) (finmap.len m + 1)) none

  pub len-replaced : (m : finmap.FinMap nat_cmp X) (k : ℕ) (x : X) → is_some (finmap.get m k) ≡ true
      → finmap.len (finmap.insert m k x) ≡ finmap.len m
  len-replaced m k x some =
      finmap.len-insert nat_cmp_total m k x ∙ ap (λ b. cond b (finmap.len m) (finmap.len m + 1)) some

  pub len-removed : (m : finmap.FinMap nat_cmp X) (k : ℕ) (x : X) → finmap.get m k ≡ Some x
      → finmap.len (finmap.remove m k) ≡ finmap.len m - 1
  len-removed m k x some =
      finmap.len-remove nat_cmp_total m k ∙ ap (λ o. cond (is_some o) (finmap.len m - 1) (finmap.len m)) some

  -- a number that isn't in use, taken out
  pub remove-absent : (m : finmap.FinMap nat_cmp X) (k : ℕ) → finmap.get m k ≡ None → finmap.remove m k ≡ m
  remove-absent m k none = sym (is-remove m m k none (λ q apart. refl))
