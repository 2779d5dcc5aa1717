-- As many objects are pinned as pinned handles name, at most.
use Rattle.std.proofs.Common.{◌≡◌, ℕ, ◌+◌, ◌≤◌, ◌<◌, ◌==◌, Bool, true, false, ◌&&◌, ◌||◌, List, [], ◌∷◌, filter}
use Rattle.std.proofs.Common.{length, refl}
use Rattle.std.proofs.Common.{sym, subst, arith, if◌then◌else◌, cond, inl, inr}
use Rattle.std.specs.List.{AllByRecursion, count_by, list_any}
use Rattle.std.proofs.lemmas.Bool.{and_parts, cases_Bool, eqb-true}
use Rattle.std.proofs.lemmas.List.Sums.{sum_by-cons}
use Rattle.clr_types.specs.Kinds.{is_pinned_kind}
use Rattle.clr_types.specs.Rising.{first, IsIn, IsRisingBy, later}
use Rattle.clr_types.specs.declared.handle.Handle.{Handle}
use Rattle.clr_model.specs.Machine.{Object}

-- a pinned handle has this name as its target
abbrev pub pins_name : Handle → ℕ → Bool
pins_name row name = is_pinned_kind row.kind && (row.target == name)

-- ---- counts

-- a test that fails where another fails passes no more
pub fewer : (p q : Object → Bool) (os : List Object) → ((o : Object) → IsIn o os → p o ≡ true → q o ≡ true)
    → length (filter p os) ≤ length (filter q os)
fewer p q [] both = omega arith
fewer p q (o ∷ os) both = go (p o) (q o) (both o first) (fewer p q os (λ x i. both x (later i)))
  where
    go : (a b : Bool) → (a ≡ true → b ≡ true) → length (filter p os) ≤ length (filter q os)
        → length (if a then o ∷ filter p os else filter p os) ≤ length (if b then o ∷ filter q os else filter q os)
    go true true both l = omega (arith, l)
    go true false both l = absurd (let e = both refl in cc)
    go false true both l = omega (arith, l)
    go false false both l = l

-- what passes one of two tests
pub either_count : (p q : Object → Bool) (os : List Object)
    → length (filter (λ o. p o || q o) os) ≤ length (filter p os) + length (filter q os)
either_count p q [] = omega arith
either_count p q (o ∷ os) = go (p o) (q o) (either_count p q os)
  where
    go : (a b : Bool)
        → length (filter (λ x. p x || q x) os) ≤ length (filter p os) + length (filter q os)
        → length (if a || b then o ∷ filter (λ x. p x || q x) os else filter (λ x. p x || q x) os)
        ≤ length (if a then o ∷ filter p os else filter p os) + length (if b then o ∷ filter q os else filter q os)
    go true true l = omega (arith, l)
    go true false l = omega (arith, l)
    go false true l = omega (arith, l)
    go false false l = l

nothing_passes : (p : Object → Bool) (os : List Object) → ((o : Object) → IsIn o os → p o ≡ false)
    → length (filter p os) ≡ 0
nothing_passes p [] none = refl
nothing_passes p (o ∷ os) none = go (p o) (none o first) (nothing_passes p os (λ x i. none x (later i)))
  where
    go : (a : Bool) → a ≡ false → length (filter p os) ≡ 0
        → length (if a then o ∷ filter p os else filter p os) ≡ 0
    go true e l = absurd cc
    go false e l = l

-- ---- one handle

above-all : (o : Object) (os : List Object) → AllByRecursion (λ x. o.name < x.name) os → (x : Object) → IsIn x os
    → o.name < x.name
above-all o [] all x i = elim i [ ]
above-all o (y ∷ os) all x first = all.0
above-all o (y ∷ os) all x (later i) = above-all o os all.1 x i

-- a handle pins one object at most
pub one_pinned : (row : Handle) (os : List Object) → IsRisingBy (λ o. o.name) os
    → length (filter (λ o. pins_name row o.name) os) ≤ cond (is_pinned_kind row.kind) 1 0
one_pinned row [] rise = omega arith
one_pinned row (o ∷ os) rise = elim (cases_Bool (pins_name row o.name)) [
  | inl pinned ↦
      let (kind, at) = and_parts (is_pinned_kind row.kind) (row.target == o.name) pinned in
      let here = eqb-true row.target o.name at in
      let none : length (filter (λ x. pins_name row x.name) os) ≡ 0 =
      nothing_passes (λ x. pins_name row x.name) os (λ x i.
      elim (cases_Bool (pins_name row x.name)) [
        | inl too ↦
            let (same_kind, there) = and_parts (is_pinned_kind row.kind) (row.target == x.name) too in
            let other = eqb-true row.target x.name there in
            let above = above-all o os rise.0 x i in
            absurd (omega (arith, here, other, above))
        | inr off ↦ off
      ]) in
      with_one (pins_name row o.name) (is_pinned_kind row.kind) kind none
  | inr off ↦ without (pins_name row o.name) off (one_pinned row os rise.1)
]
  where
    with_one : (a k : Bool) → k ≡ true → length (filter (λ x. pins_name row x.name) os) ≡ 0
        → length (if a then o ∷ filter (λ x. pins_name row x.name) os else filter (λ x. pins_name row x.name) os)
        ≤ cond k 1 0
    with_one true true e l = omega (arith, l)
    with_one true false e l = absurd cc
    with_one false true e l = omega (arith, l)
    with_one false false e l = absurd cc

    without : (a : Bool) → a ≡ false
        → length (filter (λ x. pins_name row x.name) os) ≤ cond (is_pinned_kind row.kind) 1 0
        → length (if a then o ∷ filter (λ x. pins_name row x.name) os else filter (λ x. pins_name row x.name) os)
        ≤ cond (is_pinned_kind row.kind) 1 0
    without true e l = absurd cc
    without false e l = l

-- and all handles no more objects than pinned handles there are
pub all_pinned : (table : List Handle) (os : List Object) → IsRisingBy (λ o. o.name) os
    → length (filter (λ o. list_any (λ row. pins_name row o.name) table) os)
    ≤ count_by (λ row. is_pinned_kind row.kind) table
all_pinned [] os rise = let none = nothing_passes (λ o. false) os (λ o i. refl) in omega (arith, none)
all_pinned (row ∷ table) os rise =
    let one = one_pinned row os rise in
    let more = all_pinned table os rise in
    let both = either_count (λ o. pins_name row o.name) (λ o. list_any (λ r. pins_name r o.name) table) os in
    subst (λ (n : ℕ). length (filter (λ o. pins_name row o.name || list_any (λ r. pins_name r o.name) table) os) ≤ n)
    (sym (sum_by-cons (λ (r : Handle). cond (is_pinned_kind r.kind) 1 0) row table))
    (le-sum both one more)
  where
    le-sum : {a b c d e : ℕ} → a ≤ b + c → b ≤ d → c ≤ e → a ≤ d + e
    le-sum p q r = omega (arith, p, q, r)
