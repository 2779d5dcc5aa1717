-- Finite maps from numbers with an entry more or less: what all keys and all values have, their number, and other
-- values.
use Rattle.std.proofs.Common.{◌≡◌, ℕ, ◌+◌, ◌-◌, ◌≤◌, ◌⊎◌, inl, inr, List, [], ◌∷◌, map, length, refl, sym, ap, subst}
use Rattle.std.proofs.Common.{◌∙◌, arith, Bool, true, false, if◌then◌else◌, cond, Option, Some, None, is_some, Ordering}
use Rattle.std.proofs.Common.{Less, Equal, Greater}
use Rattle.std.specs.List.{AllByRecursion}
use Rattle.std.specs.Option.{option_map}
use Rattle.std.specs.Ordering.{nat_cmp, eq_by_cmp, is_eq}
use Rattle.std.specs.Cmp.{nat_cmp_total, tied_itself}
use Rattle.std.specs.FinMap as finmap
use Rattle.std.proofs.lemmas.List.{length-map}
use Rattle.clr_types.specs.Rising.{IsIn, first, later}
use Rattle.clr_types.specs.Maps.{map_values}
use Rattle.clr_types.proofs.RisingLists.{all_at}
use Rattle.clr_types.proofs.ChangedLists.{all_members, IsIn-map}
use Rattle.clr_types.proofs.ListMembers.{any-from, any-in, from-map}
use Rattle.clr_types.proofs.MapValues.{changed, entries-map_values, get-map_values, map_values-same, value-in_use}

is-equal : (o : Ordering) → is_eq o ≡ true → o ≡ Equal
is-equal Less e = absurd cc
is-equal Equal e = refl
is-equal Greater e = absurd cc

-- numbers that tie are one
one_key : (k q : ℕ) → eq_by_cmp nat_cmp k q ≡ true → k ≡ q
one_key k q e = finmap.nat_cmp-IsAntisymmetric k q (is-equal (nat_cmp k q) e)

module _ {X : Type 0} where
  found-among : (k : ℕ) (es : List (ℕ × X)) (x : X) → finmap.find nat_cmp k es ≡ Some x → IsIn x (map (λ e. e.1) es)
  found-among k [] x e = absurd cc
  found-among k (f ∷ es) x e = go (eq_by_cmp nat_cmp k f.0) e (found-among k es x)
    where
      same : Some f.1 ≡ Some x → f.1 ≡ x
      same e = cc

      go : (b : Bool) → (if b then Some f.1 else finmap.find nat_cmp k es) ≡ Some x
          → (finmap.find nat_cmp k es ≡ Some x → IsIn x (map (λ e. e.1) es)) → IsIn x (f.1 ∷ map (λ e. e.1) es)
      go true e more = subst (λ y. IsIn y (f.1 ∷ map (λ e. e.1) es)) (same e) first
      go false e more = later (more e)

  -- what is found by a key is a value
  pub value-among : (m : finmap.FinMap nat_cmp X) (k : ℕ) (x : X) → finmap.get m k ≡ Some x → IsIn x (finmap.values m)
  value-among m k x e = found-among k (finmap.entries m) x (sym (finmap.get-entries m k) ∙ e)

  -- ---- all values

  module _ (P : X → Type 0) (m : finmap.FinMap nat_cmp X) where
    -- what all values have, one that is found has
    pub value_at : AllByRecursion P (finmap.values m) → (k : ℕ) (x : X) → finmap.get m k ≡ Some x → P x
    value_at all k x e = all_at P (value-among m k x e) all

    pub values_all : ((k : ℕ) (x : X) → finmap.get m k ≡ Some x → P x) → AllByRecursion P (finmap.values m)
    values_all f = all_members P (finmap.values m) (λ x i. let (k, e) = value-in_use m x i in f k x e)

  put_or_old : (b : Bool) (v x : X) (r : Option X) → cond b (Some v) r ≡ Some x → (v ≡ x) ⊎ (r ≡ Some x)
  put_or_old true v x r e = inl (same e)
    where
      same : Some v ≡ Some x → v ≡ x
      same e = cc
  put_or_old false v x r e = inr e

  was_there : (b : Bool) (x : X) (r : Option X) → cond b None r ≡ Some x → r ≡ Some x
  was_there true x r e = absurd cc
  was_there false x r e = e

  module _ (P : X → Type 0) (m : finmap.FinMap nat_cmp X) (k : ℕ) where
    -- all values, with another one
    pub values-inserted : (v : X) → AllByRecursion P (finmap.values m) → P v
        → AllByRecursion P (finmap.values (finmap.insert m k v))
    values-inserted v all here =
        values_all P (finmap.insert m k v)
        (λ q x e. go q x (put_or_old (eq_by_cmp nat_cmp q k) v x (finmap.get m q)
        (sym (finmap.get-insert nat_cmp_total m k v q) ∙ e)))
      where
        go : (q : ℕ) (x : X) → (v ≡ x) ⊎ (finmap.get m q ≡ Some x) → P x
        go q x (inl e) = subst P e here
        go q x (inr e) = value_at P m all q x e

    -- and without one
    pub values-removed : AllByRecursion P (finmap.values m) → AllByRecursion P (finmap.values (finmap.remove m k))
    values-removed all =
        values_all P (finmap.remove m k)
        (λ q x e. value_at P m all q x (was_there (eq_by_cmp nat_cmp q k) x (finmap.get m q)
        (sym (finmap.get-remove nat_cmp_total m k q) ∙ e)))

  -- ---- all keys

  module _ (P : ℕ → Type 0) (m : finmap.FinMap nat_cmp X) where
    -- what all keys have, one by which something is found has
    pub key_at : AllByRecursion (λ (e : ℕ × X). P e.0) (finmap.entries m) → (q : ℕ) → is_some (finmap.get m q) ≡ true
        → P q
    key_at all q e =
        let (k, i, tied) = any-in (eq_by_cmp nat_cmp q) (finmap.keys m) (sym (finmap.contains_key-keys m q) ∙ e) in
        let (entry, same, j) = from-map (λ (e : ℕ × X). e.0) k (finmap.entries m) i in
        subst P (sym (one_key q k tied ∙ same)) (all_at (λ (e : ℕ × X). P e.0) j all)

    pub keys_all : ((q : ℕ) → is_some (finmap.get m q) ≡ true → P q)
        → AllByRecursion (λ (e : ℕ × X). P e.0) (finmap.entries m)
    keys_all f =
        all_members (λ (e : ℕ × X). P e.0) (finmap.entries m)
        (λ e i. f e.0 (finmap.contains_key-keys m e.0
        ∙ any-from (eq_by_cmp nat_cmp e.0) (finmap.keys m) e.0 (IsIn-map (λ (e : ℕ × X). e.0) i)
        (ap is_eq (tied_itself nat_cmp_total e.0))))

  module _ (P : ℕ → Type 0) (m : finmap.FinMap nat_cmp X) (k : ℕ) where
    -- all keys, with another one
    pub keys-inserted : (v : X) → AllByRecursion (λ (e : ℕ × X). P e.0) (finmap.entries m) → P k
        → AllByRecursion (λ (e : ℕ × X). P e.0) (finmap.entries (finmap.insert m k v))
    keys-inserted v all here =
        keys_all P (finmap.insert m k v)
        (λ q e. go q (eq_by_cmp nat_cmp q k) refl (ap is_some (sym (finmap.get-insert nat_cmp_total m k v q)) ∙ e))
      where
        go : (q : ℕ) (b : Bool) → eq_by_cmp nat_cmp q k ≡ b → is_some (cond b (Some v) (finmap.get m q)) ≡ true → P q
        go q true tied e = subst P (sym (one_key q k tied)) here
        go q false tied e = key_at P m all q e

    -- and without one
    pub keys-removed : AllByRecursion (λ (e : ℕ × X). P e.0) (finmap.entries m)
        → AllByRecursion (λ (e : ℕ × X). P e.0) (finmap.entries (finmap.remove m k))
    keys-removed all =
        keys_all P (finmap.remove m k)
        (λ q e. go q (eq_by_cmp nat_cmp q k) (ap is_some (sym (finmap.get-remove nat_cmp_total m k q)) ∙ e))
      where
        go : (q : ℕ) (b : Bool) → is_some (cond b None (finmap.get m q)) ≡ true → P q
        go q true e = absurd cc
        go q false e = key_at P m all q e

  -- ---- how many there are

  module _ (m : finmap.FinMap nat_cmp X) (k : ℕ) where
    -- a key that is new makes one more
    pub len-inserted : (v : X) → finmap.get m k ≡ None → finmap.len (finmap.insert m k v) ≡ finmap.len m + 1
    len-inserted v new = finmap.len-insert nat_cmp_total m k v
        ∙ ap (λ (r : Option X). cond (is_some r) (finmap.len m) (finmap.len m + 1)) new

    pub len-removed : finmap.len (finmap.remove m k) ≤ finmap.len m
    len-removed = let same = finmap.len-remove nat_cmp_total m k in let below = go (is_some (finmap.get m k)) in
        omega arith
      where
        go : (b : Bool) → cond b (finmap.len m - 1) (finmap.len m) ≤ finmap.len m
        go true = omega arith
        go false = omega arith

-- ---- other values

module _ {X Y : Type 0} (f : X → Y) (m : finmap.FinMap nat_cmp X) where
  pub len-map_values : finmap.len (map_values f m) ≡ finmap.len m
  len-map_values =
      finmap.len-entries (map_values f m) ∙ ap length (entries-map_values f m)
      ∙ length-map (finmap.entries m) (changed f) ∙ sym (finmap.len-entries m)

  none-or : (b : Bool) (o : Option X) (p : Option Y) → p ≡ option_map f o
      → cond b None p ≡ option_map f (cond b None o)
  none-or true o p e = refl
  none-or false o p e = e

  -- an entry taken out, before or after the change of values
  pub map_values-remove : (k : ℕ) → map_values f (finmap.remove m k) ≡ finmap.remove (map_values f m) k
  map_values-remove k = map_values-same _ _ (λ q.
      get-map_values f (finmap.remove m k) q
      ∙ ap (option_map f) (finmap.get-remove nat_cmp_total m k q)
      ∙ sym (none-or (eq_by_cmp nat_cmp q k) (finmap.get m q) (finmap.get (map_values f m) q) (get-map_values f m q))
      ∙ sym (finmap.get-remove nat_cmp_total (map_values f m) k q))
