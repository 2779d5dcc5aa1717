-- Maps whose values are changed.
use Rattle.std.proofs.Common.{◌≡◌, ℕ, List, [], ◌∷◌, map, refl, sym, ap, ◌∙◌, subst, ap₂, Option, Some, T, true, false}
use Rattle.std.proofs.Common.{cond, Bool, ◌&&◌, ◌⊎◌, inl, inr, true≢false, Ordering, Less, Equal, Greater}
use Rattle.std.specs.List.{AllByRecursion}
use Rattle.std.specs.Option.{option_map}
use Rattle.std.specs.Ordering.{nat_cmp, eq_by_cmp, is_lt, is_eq}
use Rattle.std.specs.Cmp.{nat_cmp_total, tied_itself}
use Rattle.std.specs.FinMap as finmap
use Rattle.std.specs.FinMap.Entries.{below_all}
use Rattle.clr_types.specs.Rising.{IsIn}
use Rattle.clr_types.proofs.RisingLists.{in_cons}
use Rattle.clr_types.proofs.ChangedLists.{all-map}
use Rattle.clr_types.proofs.ListMembers.{map-map}
use Rattle.clr_types.specs.Maps.{map_values}

module _ {X Y : Type 0} (f : X → Y) where
  abbrev pub changed : ℕ × X → ℕ × Y
  changed e = (e.0, f e.1)

  below_all-changed : (k : ℕ) (es : List (ℕ × X)) → below_all nat_cmp k (map changed es) ≡ below_all nat_cmp k es
  below_all-changed k [] = refl
  below_all-changed k (e ∷ es) = ap (λ b. is_lt (nat_cmp k e.0) && b) (below_all-changed k es)

  pub is_sorted-changed : (es : List (ℕ × X)) → finmap.is_sorted nat_cmp (map changed es) ≡ finmap.is_sorted nat_cmp es
  is_sorted-changed [] = refl
  is_sorted-changed (e ∷ es) = ap₂ (λ a b. a && b) (below_all-changed e.0 es) (is_sorted-changed es)

  pub entries-map_values : (m : finmap.FinMap nat_cmp X)
      → finmap.entries (map_values f m) ≡ map changed (finmap.entries m)
  entries-map_values m =
      finmap.entries-from_sorted nat_cmp (map changed (finmap.entries m))
      (subst T (sym (is_sorted-changed (finmap.entries m))) (finmap.entries_sorted m))

  -- the keys are those of before
  pub keys-map_values : (P : ℕ → Type 0) (m : finmap.FinMap nat_cmp X)
      → AllByRecursion (λ (e : ℕ × X). P e.0) (finmap.entries m)
      → AllByRecursion (λ (e : ℕ × Y). P e.0) (finmap.entries (map_values f m))
  keys-map_values P m all =
      subst (AllByRecursion (λ (e : ℕ × Y). P e.0)) (sym (entries-map_values m))
      (all-map changed (λ (e : ℕ × Y). P e.0) (finmap.entries m) all)

  chosen : (b : Bool) (x : X) (o : Option X) (p : Option Y) → p ≡ option_map f o
      → cond b (Some (f x)) p ≡ option_map f (cond b (Some x) o)
  chosen true x o p e = refl
  chosen false x o p e = e

  pub find-changed : (k : ℕ) (es : List (ℕ × X))
      → finmap.find nat_cmp k (map changed es) ≡ option_map f (finmap.find nat_cmp k es)
  find-changed k [] = refl
  find-changed k (e ∷ es) = chosen (eq_by_cmp nat_cmp k e.0) e.1 _ _ (find-changed k es)

  pub get-map_values : (m : finmap.FinMap nat_cmp X) (k : ℕ)
      → finmap.get (map_values f m) k ≡ option_map f (finmap.get m k)
  get-map_values m k =
      finmap.get-entries (map_values f m) k ∙ ap (finmap.find nat_cmp k) (entries-map_values m)
      ∙ find-changed k (finmap.entries m) ∙ ap (option_map f) (sym (finmap.get-entries m k))

-- ---- a value is found by some key

is-equal : (o : Ordering) → is_eq o ≡ true → o ≡ Equal
is-equal Less e = absurd cc
is-equal Equal e = refl
is-equal Greater e = absurd cc

both-parts : (a b : Bool) → T (a && b) → (a ≡ true) × T b
both-parts true b h = (refl, h)
both-parts false b h = absurd h

module _ {X : Type 0} where
  -- a key that is found stands above all that is below
  found-above : (x k : ℕ) (es : List (ℕ × X)) (v : X) → T (below_all nat_cmp x es) → finmap.find nat_cmp k es ≡ Some v
      → is_lt (nat_cmp x k) ≡ true
  found-above x k [] v h f = absurd cc
  found-above x k (e ∷ es) v h f =
      go (eq_by_cmp nat_cmp k e.0) refl f (both-parts (is_lt (nat_cmp x e.0)) (below_all nat_cmp x es) h)
      (found-above x k es v)
    where
      go : (a : Bool) → eq_by_cmp nat_cmp k e.0 ≡ a → cond a (Some e.1) (finmap.find nat_cmp k es) ≡ Some v
          → (is_lt (nat_cmp x e.0) ≡ true) × T (below_all nat_cmp x es)
          → (T (below_all nat_cmp x es) → finmap.find nat_cmp k es ≡ Some v → is_lt (nat_cmp x k) ≡ true)
          → is_lt (nat_cmp x k) ≡ true
      go true same g parts more =
          subst (λ n. is_lt (nat_cmp x n) ≡ true)
          (sym (finmap.nat_cmp-IsAntisymmetric k e.0 (is-equal (nat_cmp k e.0) same))) parts.0
      go false other g parts more = more parts.1 g

  -- each value of a list by rising keys is found by its key
  value-found : (es : List (ℕ × X)) (v : X) → T (finmap.is_sorted nat_cmp es) → IsIn v (map (λ e. e.1) es)
      → (k : ℕ) × (finmap.find nat_cmp k es ≡ Some v)
  value-found [] v h i = elim i [ ]
  value-found (e ∷ es) v h i = go (in_cons i) (both-parts' h) (value-found es v)
    where
      both-parts' : T (below_all nat_cmp e.0 es && finmap.is_sorted nat_cmp es)
          → T (below_all nat_cmp e.0 es) × T (finmap.is_sorted nat_cmp es)
      both-parts' h =
          let (a, b) = both-parts (below_all nat_cmp e.0 es) (finmap.is_sorted nat_cmp es) h in (subst T (sym a) tt, b)

      tied : eq_by_cmp nat_cmp e.0 e.0 ≡ true
      tied = ap is_eq (tied_itself nat_cmp_total e.0)

      apart : (k : ℕ) → is_lt (nat_cmp e.0 k) ≡ true → (a : Bool) → eq_by_cmp nat_cmp k e.0 ≡ a → a ≡ false
      apart k l false same = refl
      apart k l true same =
          let e' : k ≡ e.0 = finmap.nat_cmp-IsAntisymmetric k e.0 (is-equal (nat_cmp k e.0) same) in
          absurd (true≢false (sym (subst (λ n. is_lt (nat_cmp e.0 n) ≡ true) e' l)
          ∙ ap is_lt (tied_itself nat_cmp_total e.0)))

      go : (v ≡ e.1) ⊎ IsIn v (map (λ e. e.1) es) → T (below_all nat_cmp e.0 es) × T (finmap.is_sorted nat_cmp es)
          → (T (finmap.is_sorted nat_cmp es) → IsIn v (map (λ e. e.1) es)
          → (k : ℕ) × (finmap.find nat_cmp k es ≡ Some v))
          → (k : ℕ) × (finmap.find nat_cmp k (e ∷ es) ≡ Some v)
      go (inl same) parts more =
          (e.0, ap (λ b. cond b (Some e.1) (finmap.find nat_cmp e.0 es)) tied ∙ ap Some (sym same))
      go (inr j) parts more =
          let (k, f) = more parts.1 j in (
            k,
            ap (λ b. cond b (Some e.1) (finmap.find nat_cmp k es))
                (apart k (found-above e.0 k es v parts.0 f) (eq_by_cmp nat_cmp k e.0) refl) ∙ f,
          )

  -- each value of a map is found by some key
  pub value-in_use : (m : finmap.FinMap nat_cmp X) (v : X) → IsIn v (finmap.values m)
      → (k : ℕ) × (finmap.get m k ≡ Some v)
  value-in_use m v i =
      let (k, f) = value-found (finmap.entries m) v (finmap.entries_sorted m) i in (k, finmap.get-entries m k ∙ f)

-- the values of a map whose values are changed
pub values-map_values : {X Y : Type 0} (f : X → Y) (m : finmap.FinMap nat_cmp X)
    → finmap.values (map_values f m) ≡ map f (finmap.values m)
values-map_values f m =
    ap (map (λ e. e.1)) (entries-map_values f m) ∙ map-map (changed f) (λ e. e.1) (finmap.entries m)
    ∙ sym (map-map (λ e. e.1) f (finmap.entries m))

-- two maps with the same entry at each key are one
pub map_values-same : {X : Type 0} (m n : finmap.FinMap nat_cmp X) → ((k : ℕ) → finmap.get m k ≡ finmap.get n k) → m ≡ n
map_values-same m n h = finmap.same_map nat_cmp_total finmap.nat_cmp-IsAntisymmetric m n h

module _ {X Y : Type 0} (f : X → Y) where
  -- a handle put in, before or after the change of its names
  pub map_values-insert : (m : finmap.FinMap nat_cmp X) (k : ℕ) (x : X)
      → map_values f (finmap.insert m k x) ≡ finmap.insert (map_values f m) k (f x)
  map_values-insert m k x = map_values-same _ _ (λ q.
      get-map_values f (finmap.insert m k x) q
      ∙ ap (option_map f) (finmap.get-insert nat_cmp_total m k x q)
      ∙ sym (chosen f (eq_by_cmp nat_cmp q k) x (finmap.get m q) (finmap.get (map_values f m) q) (get-map_values f m q))
      ∙ sym (finmap.get-insert nat_cmp_total (map_values f m) k (f x) q))

  -- of no handle
  pub map_values-empty : map_values f finmap.empty ≡ finmap.empty
  map_values-empty = map_values-same _ _ (λ q.
      get-map_values f finmap.empty q ∙ ap (option_map f) (finmap.get-empty nat_cmp q)
      ∙ sym (finmap.get-empty nat_cmp q))
