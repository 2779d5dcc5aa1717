-- Numbers of types by their names.
use Rattle.std.proofs.Common.{◌≡◌, ◌≢◌, ℕ, suc, ◌+◌, ◌<◌, ◌≤◌, Bool, true, false, List, [], ◌∷◌, length, refl, sym, ap}
use Rattle.std.proofs.Common.{◌∙◌, arith, Option, Some, None, if◌then◌else◌}
use Rattle.std.specs.Str.{bytes_eq}
use Rattle.std.specs.List.{AllByRecursion}
use Rattle.std.proofs.lemmas.Slice.Eq.{bytes_eq-Decides}
use Rattle.clr_types.specs.Types.{TypeRow, free_name, number_from, number_of, number_with_free}
use Rattle.clr_types.specs.Table.{IsLawfulRow}
use Rattle.clr_types.specs.declared.TypeId.{TypeId}
use Rattle.clr_runtime.specs.Births.{IsDefined}

same_some : {X : Type 0} (x y : X) → Some x ≡ Some y → x ≡ y
same_some x y e = cc

no_some : {X : Type 0} {x : X} → None ≡ Some x → ⊥
no_some e = cc

-- the number of a name is one of those that were counted
pub number_from-bounds : (n : ℕ) (rows : List TypeRow) (name : List ℕ) (t : ℕ) → number_from n rows name ≡ Some t
    → (n ≤ t) × (t < n + length rows)
number_from-bounds n [] name t e = absurd (no_some e)
number_from-bounds n (row ∷ rows) name t e = go (number_from-bounds (n + 1) rows name t) (bytes_eq row.name name) e
  where
    go : (number_from (n + 1) rows name ≡ Some t → (n + 1 ≤ t) × (t < n + 1 + length rows)) → (b : Bool)
        → (if b then Some n else number_from (n + 1) rows name) ≡ Some t → (n ≤ t) × (t < n + suc (length rows))
    go more true h = let same = same_some n t h in (omega arith, omega arith)
    go more false h = let (low, high) = more h in (omega arith, omega arith)

-- no type of a script is called as unused space is
free-unnamed : (n : ℕ) (rows : List TypeRow) → AllByRecursion IsLawfulRow rows → number_from n rows free_name ≡ None
free-unnamed n [] h = refl
free-unnamed n (row ∷ rows) h = go (free-unnamed (n + 1) rows h.1) (bytes_eq row.name free_name) refl
  where
    go : number_from (n + 1) rows free_name ≡ None → (b : Bool) → bytes_eq row.name free_name ≡ b
        → (if b then Some n else number_from (n + 1) rows free_name) ≡ None
    go more true e = absurd (h.0.name ((bytes_eq-Decides row.name free_name).0 e))
    go more false e = more

-- what the number of a name, with that of unused space, says of the types that a script defined
record IsTelling (rows : List TypeRow) (name : List ℕ) (found : Option ℕ) : Type 0 where
  free : found ≡ Some 0 → number_of rows name ≡ None
  some : (t : ℕ) → found ≡ Some t → t ≢ 0 → number_of rows name ≡ Some t

with_free : (rows : List TypeRow) (name : List ℕ) (found : Option ℕ) → AllByRecursion IsLawfulRow rows
    → number_with_free rows name ≡ found → IsTelling rows name found
with_free rows name found lawful e = go (bytes_eq name free_name) refl e
  where
    go : (b : Bool) → bytes_eq name free_name ≡ b → (if b then Some 0 else number_of rows name) ≡ found
        → IsTelling rows name found
    go true is h =
        let same = (bytes_eq-Decides name free_name).0 is in
        let none : number_of rows name ≡ None = ap (number_of rows) same ∙ free-unnamed 1 rows lawful in
        record {
          free = λ _. none;
          some = λ t f other. absurd (other (sym (same_some 0 t (h ∙ f))));
        }
    go false is h = record {
      free = λ z. absurd (let b = number_from-bounds 1 rows name 0 (h ∙ z) in let low = b.0 in omega arith);
      some = λ t f other. h ∙ f;
    }

pub defined-free : (rows : List TypeRow) (name : List ℕ) (t : ℕ) → AllByRecursion IsLawfulRow rows
    → Some t ≡ number_with_free rows name → t ≡ 0 → number_of rows name ≡ None
defined-free rows name t lawful e zero_is =
    (with_free rows name (number_with_free rows name) lawful refl).free (sym e ∙ ap (λ n. Some n) zero_is)

pub defined-some : (rows : List TypeRow) (name : List ℕ) (t : TypeId) → AllByRecursion IsLawfulRow rows
    → Some t.0 ≡ number_with_free rows name → t.0 ≢ 0 → IsDefined rows name (Some t)
defined-some rows name t lawful e other =
    let known = (with_free rows name (number_with_free rows name) lawful refl).some t.0 (sym e) other in
    let bounds = number_from-bounds 1 rows name t.0 known in
    let low = bounds.0 in
    let high = bounds.1 in
    (known, omega arith, omega arith)
