-- How many handles of a table pass a test of their kinds, after a change.
use Rattle.std.proofs.Common.{◌≡◌, ◌≢◌, ℕ, suc, ◌+◌, ◌==◌, ◌<◌, ◌≤◌, Bool, true, false, cond, List, [], ◌∷◌, length}
use Rattle.std.proofs.Common.{map, count_by, Some, None, Ordering, Less, Equal, Greater, refl, sym, ap, ◌∙◌, arith, set}
use Rattle.std.proofs.Common.{get_or, inl, inr}
use Rattle.std.proofs.lemmas.Bool.{cases_eq, eq-eqb, ne_eqb}
use Rattle.std.proofs.lemmas.List.{get_or-set_other, get_or-set_same}
use Rattle.std.proofs.lemmas.List.Sums.{sum_by-cons, count_by-le-length}
use Rattle.std.specs.Ordering.{nat_cmp, is_eq}
use Rattle.std.specs.Cmp.{nat_cmp_total}
use Rattle.std.specs.FinMap as finmap
use Rattle.std.specs.FinMap.Entries.{by_order}
use Rattle.clr_types.specs.HandleCode.{number_of_kind}
use Rattle.clr_types.specs.declared.handle.Handle.{Handle}
use Rattle.clr_types.specs.declared.handle.Kind.{Kind}
use Rattle.clr_types.specs.declared.handle.Kind.TheVariants.{Dependent, Pinned, Strong, Weak, WeakLong}
use Rattle.clr_handles.specs.Tables.{Table}
use Rattle.clr_types.specs.Kinds.{is_pinned_kind}
use Rattle.clr_handles.specs.Tops.{AreCounts, HasNone, kind_count, pinned_in}
use Rattle.clr_handles.proofs.Lookups.{get-removed, get-remove_other, get-inserted, get-insert_other, is-insert}

no-Some : (x : Handle) → Some x ≢ None
no-Some x e = absurd cc

-- a table is that without a handle, and the handle put in
put-back : (m : Table) (k : ℕ) (row : Handle) → finmap.get m k ≡ Some row → m ≡ finmap.insert (finmap.remove m k) k row
put-back m k row here = is-insert (finmap.remove m k) m k row here (λ q apart. sym (get-remove_other m k q apart))

-- no more are counted than are in use
length-values : (es : List (ℕ × Handle)) → length (map (λ (e : ℕ × Handle). e.1) es) ≡ length es
length-values [] = refl
length-values (e ∷ es) = ap suc (length-values es)

-- ---- those that pass a test

module _ (test : Kind → Bool) where
  -- 1 for a handle that passes, 0 for any other
  abbrev pub weight : Handle → ℕ
  weight row = cond (test row.kind) 1 0

  abbrev pub counted : Table → ℕ
  counted table = count_by (λ (row : Handle). test row.kind) (finmap.values table)

  abbrev entry_sum : List (ℕ × Handle) → ℕ
  entry_sum es = count_by (λ (row : Handle). test row.kind) (map (λ (e : ℕ × Handle). e.1) es)

  entry_sum-cons : (e : ℕ × Handle) (es : List (ℕ × Handle)) → entry_sum (e ∷ es) ≡ weight e.1 + entry_sum es
  entry_sum-cons e es = sum_by-cons weight e.1 (map (λ (e : ℕ × Handle). e.1) es)

  -- an entry more, whose number isn't there
  entry_sum-put : (k : ℕ) (v : Handle) (es : List (ℕ × Handle)) → finmap.find nat_cmp k es ≡ None
      → entry_sum (finmap.put nat_cmp k v es) ≡ weight v + entry_sum es
  entry_sum-put k v [] none = entry_sum-cons (k, v) []
  entry_sum-put k v (e ∷ es) none = go (nat_cmp k e.0) refl (entry_sum-put k v es)
    where
      in_rest : (r : Ordering) → nat_cmp k e.0 ≡ r → is_eq r ≡ false → finmap.find nat_cmp k es ≡ None
      in_rest r at apart =
          sym (ap (λ b. cond b (Some e.1) (finmap.find nat_cmp k es)) (ap is_eq at ∙ apart)) ∙ none

      go : (r : Ordering) → nat_cmp k e.0 ≡ r
          → (finmap.find nat_cmp k es ≡ None → entry_sum (finmap.put nat_cmp k v es) ≡ weight v + entry_sum es)
          → entry_sum (by_order r ((k, v) ∷ e ∷ es) ((e.0, v) ∷ es) (e ∷ finmap.put nat_cmp k v es))
          ≡ weight v + entry_sum (e ∷ es)
      go Less at rest = entry_sum-cons (k, v) (e ∷ es)
      go Equal at rest =
          absurd (no-Some e.1 (sym (ap (λ b. cond b (Some e.1) (finmap.find nat_cmp k es)) (ap is_eq at)) ∙ none))
      go Greater at rest =
          let later = rest (in_rest Greater at refl) in
          let whole = entry_sum-cons e es in
          let put = entry_sum-cons e (finmap.put nat_cmp k v es) in
          omega (arith, later, whole, put)

  pub counted-inserted : (m : Table) (k : ℕ) (row : Handle) → finmap.get m k ≡ None
      → counted (finmap.insert m k row) ≡ weight row + counted m
  counted-inserted m k row none =
      ap entry_sum (finmap.entries-insert nat_cmp_total m k row)
      ∙ entry_sum-put k row (finmap.entries m) (sym (finmap.get-entries m k) ∙ none)

  pub counted-removed : (m : Table) (k : ℕ) (row : Handle) → finmap.get m k ≡ Some row
      → counted m ≡ weight row + counted (finmap.remove m k)
  counted-removed m k row here =
      ap counted (put-back m k row here) ∙ counted-inserted (finmap.remove m k) k row (get-removed m k)

  -- another handle of the same weight in its place
  pub counted-replaced : (m : Table) (k : ℕ) (old new : Handle) → finmap.get m k ≡ Some old → weight new ≡ weight old
      → counted (finmap.insert m k new) ≡ counted m
  counted-replaced m k old new here same =
      let twice : finmap.insert m k new ≡ finmap.insert (finmap.remove m k) k new =
      is-insert (finmap.remove m k) (finmap.insert m k new) k new (get-inserted m k new)
      (λ q apart. get-insert_other m k q new apart ∙ sym (get-remove_other m k q apart)) in
      ap counted twice ∙ counted-inserted (finmap.remove m k) k new (get-removed m k)
      ∙ ap (λ w. w + counted (finmap.remove m k)) same ∙ sym (counted-removed m k old here)

  pub counted-le-len : (m : Table) → counted m ≤ finmap.len m
  counted-le-len m =
      let count = count_by-le-length (λ (row : Handle). test row.kind) (finmap.values m) in
      let values = length-values (finmap.entries m) in
      let entries = finmap.len-entries m in
      omega (arith, count, values, entries)

  pub counted-empty : counted finmap.empty ≡ 0
  counted-empty = go (counted-le-len finmap.empty) (finmap.len-empty nat_cmp Handle)
    where
      go : {a b : ℕ} → a ≤ b → b ≡ 0 → a ≡ 0
      go most none = omega arith

-- ---- pinned ones

-- how many are pinned before one was freed, by the count after
pub pinned-freed : (table new : Table) (k : ℕ) (row : Handle) (count weighs : ℕ) → finmap.get table k ≡ Some row
    → new ≡ finmap.remove table k → count ≡ pinned_in table → weighs ≡ weight is_pinned_kind row
    → count ≡ weighs + pinned_in new
pinned-freed table new k row count weighs here freed count_is weighs_is =
    let before : pinned_in table ≡ weight is_pinned_kind row + pinned_in (finmap.remove table k) =
    counted-removed is_pinned_kind table k row here in
    let after = ap pinned_in freed in
    omega (arith, before, after, count_is, weighs_is)

pub pinned-le-len : (m : Table) → pinned_in m ≤ finmap.len m
pinned-le-len = counted-le-len is_pinned_kind

pub pinned-empty : pinned_in finmap.empty ≡ 0
pinned-empty = counted-empty is_pinned_kind

pub pinned_is : (table : Table) → kind_count Pinned table ≡ pinned_in table
pinned_is table = λ i. count_by (λ (row : Handle). same row.kind i) (finmap.values table)
  where
    same : (k : Kind) → (number_of_kind k == 1) ≡ is_pinned_kind k
    same Strong = refl
    same Pinned = refl
    same Weak = refl
    same WeakLong = refl
    same Dependent = refl

-- ---- each kind

abbrev of_kind : Kind → Kind → Bool
of_kind kind k = number_of_kind k == number_of_kind kind

pub number-few : (kind : Kind) → number_of_kind kind < 5
number-few Strong = omega arith
number-few Pinned = omega arith
number-few Weak = omega arith
number-few WeakLong = omega arith
number-few Dependent = omega arith

abbrev zeros : List ℕ
zeros = 0 ∷ 0 ∷ 0 ∷ 0 ∷ 0 ∷ []

pub counts-empty : (table : Table) → table ≡ finmap.empty → AreCounts table zeros
counts-empty table is kind =
    none kind ∙ sym (ap (kind_count kind) is ∙ counted-empty (of_kind kind))
  where
    none : (k : Kind) → get_or zeros (number_of_kind k) 0 ≡ 0
    none Strong = refl
    none Pinned = refl
    none Weak = refl
    none WeakLong = refl
    none Dependent = refl

-- what a handle adds to the counts at the number of its kind
module _ (counts : List ℕ) (five : length counts ≡ 5) (row : Handle) (count : ℕ) where
  pub counts-more : (table new : Table) (k : ℕ) → finmap.get table k ≡ None → new ≡ finmap.insert table k row
      → AreCounts table counts → count ≡ get_or counts (number_of_kind row.kind) 0 + 1
      → AreCounts new (set counts (number_of_kind row.kind) count)
  counts-more table new k free made are is kind =
      let few = number-few row.kind in
      let more = counted-inserted (of_kind kind) table k row free in
      let after = ap (kind_count kind) made in
      let was = are kind in
      elim (cases_eq (number_of_kind row.kind) (number_of_kind kind)) [
        | inl same ↦
            let one : weight (of_kind kind) row ≡ 1 =
            ap (λ b. cond b 1 0) (eq-eqb (number_of_kind row.kind) (number_of_kind kind) same) in
            let read : get_or (set counts (number_of_kind row.kind) count) (number_of_kind kind) 0 ≡ count =
            ap (λ n. get_or (set counts (number_of_kind row.kind) count) n 0) (sym same)
            ∙ get_or-set_same counts (number_of_kind row.kind) count 0 (omega (arith, few, five)) in
            let at = ap (λ n. get_or counts n 0) same in
            omega (arith, read, is, at, was, more, after, one)
        | inr apart ↦
            let none : weight (of_kind kind) row ≡ 0 =
            ap (λ b. cond b 1 0) (ne_eqb (number_of_kind row.kind) (number_of_kind kind) apart) in
            let read = get_or-set_other counts (number_of_kind row.kind) (number_of_kind kind) count 0
            (λ e. apart (sym e)) in
            omega (arith, read, was, more, after, none)
      ]

  pub counts-fewer : (table new : Table) (k : ℕ) → finmap.get table k ≡ Some row → new ≡ finmap.remove table k
      → AreCounts table counts → count + 1 ≡ get_or counts (number_of_kind row.kind) 0
      → AreCounts new (set counts (number_of_kind row.kind) count)
  counts-fewer table new k here freed are is kind =
      let few = number-few row.kind in
      let less = counted-removed (of_kind kind) table k row here in
      let after = ap (kind_count kind) freed in
      let was = are kind in
      elim (cases_eq (number_of_kind row.kind) (number_of_kind kind)) [
        | inl same ↦
            let one : weight (of_kind kind) row ≡ 1 =
            ap (λ b. cond b 1 0) (eq-eqb (number_of_kind row.kind) (number_of_kind kind) same) in
            let read : get_or (set counts (number_of_kind row.kind) count) (number_of_kind kind) 0 ≡ count =
            ap (λ n. get_or (set counts (number_of_kind row.kind) count) n 0) (sym same)
            ∙ get_or-set_same counts (number_of_kind row.kind) count 0 (omega (arith, few, five)) in
            let at = ap (λ n. get_or counts n 0) same in
            omega (arith, read, is, at, was, less, after, one)
        | inr apart ↦
            let none : weight (of_kind kind) row ≡ 0 =
            ap (λ b. cond b 1 0) (ne_eqb (number_of_kind row.kind) (number_of_kind kind) apart) in
            let read = get_or-set_other counts (number_of_kind row.kind) (number_of_kind kind) count 0
            (λ e. apart (sym e)) in
            omega (arith, read, was, less, after, none)
      ]

-- a handle in use is counted
pub counts-one : (table : Table) (counts : List ℕ) (k : ℕ) (row : Handle) → AreCounts table counts
    → finmap.get table k ≡ Some row → 1 ≤ get_or counts (number_of_kind row.kind) 0
counts-one table counts k row are here =
    let was = are row.kind in
    let more = counted-removed (of_kind row.kind) table k row here in
    let one : weight (of_kind row.kind) row ≡ 1 =
    ap (λ b. cond b 1 0) (eq-eqb (number_of_kind row.kind) (number_of_kind row.kind) refl) in
    omega (arith, was, more, one)

-- a kind of which none is counted isn't there
pub counts-none : (table : Table) (counts : List ℕ) (kind : Kind) → AreCounts table counts
    → get_or counts (number_of_kind kind) 0 ≡ 0 → HasNone kind table
counts-none table counts kind are zero h row here is =
    let one = counts-one table counts h row are here in
    let at = ap (λ (k : Kind). get_or counts (number_of_kind k) 0) is in
    omega (arith, one, at, zero)

-- a count with one more handle is no more than are in use then
pub counts-fit : (table new : Table) (counts : List ℕ) (k : ℕ) (row : Handle) → AreCounts table counts
    → finmap.get table k ≡ None → new ≡ finmap.insert table k row
    → get_or counts (number_of_kind row.kind) 0 + 1 ≤ finmap.len new
counts-fit table new counts k row are free made =
    let was = are row.kind in
    let more = counted-inserted (of_kind row.kind) table k row free in
    let after = ap (kind_count row.kind) made in
    let one : weight (of_kind row.kind) row ≡ 1 =
    ap (λ b. cond b 1 0) (eq-eqb (number_of_kind row.kind) (number_of_kind row.kind) refl) in
    let most = counted-le-len (of_kind row.kind) new in
    omega (arith, was, more, after, one, most)
