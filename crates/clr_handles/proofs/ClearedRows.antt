-- Clearing handles: what stays, and how high the handles reach then.
use Rattle.std.proofs.Common.{◌≡◌, ◌≢◌, ◌⊎◌, ℕ, ◌+◌, ◌*◌, ◌==◌, ◌<◌, ◌≤◌, Bool, true, false, ◌&&◌, not, cond}
use Rattle.std.proofs.Common.{eqb, ltb, max, Option, None}
use Rattle.std.proofs.Common.{List, Some, inl, inr, refl, sym, ap, ◌∙◌, subst, arith, eq-eqb, eqb-true, MatchBool}
use Rattle.std.proofs.lemmas.Bool.{and_parts, not-true, cases_eq, cases_lt, ne_eqb, eqb-false, lt-ltb}
use Rattle.clr_types.specs.HandleCode.{number_of_kind, kind_of_number, kind_back}
use Rattle.std.specs.FinMap as finmap
use Rattle.clr_types.specs.declared.handle.Kind.{Kind}
use Rattle.clr_types.specs.declared.handle.Kind.TheVariants.{Strong, Pinned, Weak, WeakLong, Dependent}
use Rattle.clr_types.specs.declared.handle.Handle.{Handle}
use Rattle.clr_handles.specs.Tables.{Table}
use Rattle.clr_handles.specs.Places.{IsKept, IsCleared, nulled, nulled_of}
use Rattle.clr_handles.specs.Changes.{Becomes, BecomesAt, BecomesWithin, EachBecomes}
use Rattle.clr_types.specs.Kinds.{is_dependent}
use Rattle.clr_handles.specs.Tops.{AreTops, HasNone, IsTop, KeepsCounts, kind_count, reach}
use Rattle.clr_handles.proofs.PinnedCounts.{counted-replaced}
use Rattle.clr_handles.proofs.ChangedRows.{at-changed, was-before, within-kept}

-- ---- the height of a handle, by cases

abbrev pub highest : ℕ
highest = 18446744073709551615

-- with no second the target, with a second that it may have the greater one, and else the highest
abbrev pub height : Bool → Bool → ℕ → ℕ → ℕ
height true allowed target second = target
height false true target second = max target second
height false false target second = highest

reach-is : (row : Handle)
    → reach row ≡ height (eqb row.second 0) (is_dependent row.kind && not (eqb row.target 0)) row.target row.second
reach-is row = go (eqb row.second 0) (is_dependent row.kind && not (eqb row.target 0))
  where
    go : (a b : Bool) → cond a row.target (cond b (max row.target row.second) highest)
        ≡ height a b row.target row.second
    go true b = refl
    go false true = refl
    go false false = refl

-- what lies below a place that isn't above the highest names nothing from there on, and has no second without a target
pub record IsBelow (low : ℕ) (row : Handle) : Type 0 where
  pub target : row.target < low
  pub second : row.second < low
  pub whole : row.target ≡ 0 → row.second ≡ 0

pub below-reach : (row : Handle) (low : ℕ) → low ≤ highest → reach row < low → IsBelow low row
below-reach row low fits less =
    go (eqb row.second 0) (is_dependent row.kind && not (eqb row.target 0)) refl refl
    (subst (λ n. n < low) (reach-is row) less)
  where
    go : (a b : Bool) → eqb row.second 0 ≡ a → (is_dependent row.kind && not (eqb row.target 0)) ≡ b
        → height a b row.target row.second < low → IsBelow low row
    go true b none allowed h =
        let zero-second : row.second ≡ 0 = eqb-true row.second 0 none in
        record { target = h; second = omega arith; whole = λ e. zero-second }
    go false true some allowed h =
        let there =
        eqb-false row.target 0
        (not-true (eqb row.target 0) (and_parts (is_dependent row.kind) (not (eqb row.target 0)) allowed).1) in
        record { target = omega arith; second = omega arith; whole = λ e. absurd (there e) }
    go false false some allowed h = absurd (omega (arith, fits, h))

-- the handles of a chunk whose top is below `low` stay, where the relation allows that of what lies below
pub chunk-below : (R : Handle → Handle → Type 0) (table : Table) (chunk top low : ℕ) → low ≤ highest
    → IsTop table chunk top → top < low → ((row : Handle) → IsBelow low row → R row row)
    → BecomesWithin R table table (64 * chunk) (64 * chunk + 64)
chunk-below R table chunk top low fits high less stays =
    within-kept R table (64 * chunk) (64 * chunk + 64) (λ h row from to here.
    let under = high h row from to here in
    stays row (below-reach row low fits (omega (arith, under, less))))

-- ---- handles that become null

nulled-kind : (row : Handle) → (nulled row).kind ≡ row.kind
nulled-kind row = go row.kind
  where
    go : (k : Kind) → (nulled_of k row).kind ≡ row.kind
    go Strong = refl
    go Pinned = refl
    go Weak = refl
    go WeakLong = refl
    go Dependent = refl

-- as many handles of each kind are there where one is written null
pub counts-nulled : (table new : Table) (at : ℕ) (row put : Handle) → finmap.get table at ≡ Some row
    → put ≡ nulled row → new ≡ finmap.insert table at put → KeepsCounts table new
counts-nulled table new at row put here is set kind =
    ap (kind_count kind) (set ∙ ap (finmap.insert table at) is)
    ∙ counted-replaced (λ k. number_of_kind k == number_of_kind kind) table at row (nulled row) here
    (ap (λ k. cond (number_of_kind k == number_of_kind kind) 1 0) (nulled-kind row))

-- a handle that is null is so already
pub nulled-itself : (row : Handle) → row.target ≡ 0 → row.second ≡ 0 → row ≡ nulled row
nulled-itself row no-target no-second = go row.kind
  where
    without-target : ◌≡◌ {A = Handle} row (record row { target = 0 })
    without-target = λ i. record row { target = no-target i }

    go : (k : Kind) → row ≡ nulled_of k row
    go Strong = without-target
    go Pinned = without-target
    go Weak = without-target
    go WeakLong = without-target
    go Dependent = λ i. record row { target = no-target i; second = no-second i }

low-height : (a b : Bool) (target second : ℕ) → b ≡ false → height a false 0 second ≤ height a b target second
low-height true b target second e = omega arith
low-height false true target second e = absurd cc
low-height false false target second e = omega arith

-- and reaches no higher than before
pub reach-nulled : (row : Handle) → reach (nulled row) ≤ reach row
reach-nulled row = go row.kind refl
  where
    plain : is_dependent row.kind ≡ false → reach (record row { target = 0 }) ≤ reach row
    plain undependent =
        let off : (is_dependent row.kind && not (eqb 0 0)) ≡ false = ap (λ b. b && not (eqb 0 0)) undependent in
        let was : (is_dependent row.kind && not (eqb row.target 0)) ≡ false =
        ap (λ b. b && not (eqb row.target 0)) undependent in
        let now : reach (record row { target = 0 }) ≡ height (eqb row.second 0) false 0 row.second =
        reach-is (record row { target = 0 }) ∙ ap (λ b. height (eqb row.second 0) b 0 row.second) off in
        let low =
        low-height (eqb row.second 0) (is_dependent row.kind && not (eqb row.target 0)) row.target
        row.second was in
        let before = reach-is row in
        omega (arith, now, low, before)

    go : (k : Kind) → row.kind ≡ k → reach (nulled_of k row) ≤ reach row
    go Strong e = plain (ap is_dependent e)
    go Pinned e = plain (ap is_dependent e)
    go Weak e = plain (ap is_dependent e)
    go WeakLong e = plain (ap is_dependent e)
    go Dependent e = omega arith

-- ---- kinds are told apart

pub same-kind : (a b : Kind) → number_of_kind a ≡ number_of_kind b → a ≡ b
same-kind a b e = sym (kind_back a) ∙ ap kind_of_number e ∙ kind_back b

pub decide-kind : (a b : Kind) → (a ≡ b) ⊎ (a ≢ b)
decide-kind a b = go (cases_eq (number_of_kind a) (number_of_kind b))
  where
    go : (number_of_kind a ≡ number_of_kind b) ⊎ (number_of_kind a ≢ number_of_kind b) → (a ≡ b) ⊎ (a ≢ b)
    go (inl e) = inl (same-kind a b e)
    go (inr apart) = inr (λ e. apart (ap number_of_kind e))

-- ---- clearing

pub at-match : (b : Bool) (P Q : Type 0) → b ≡ true → P → MatchBool b P Q
at-match true P Q e p = p
at-match false P Q e p = absurd cc

pub past-match : (b : Bool) (P Q : Type 0) → b ≡ false → Q → MatchBool b P Q
past-match true P Q e q = absurd cc
past-match false P Q e q = q

module _ (kind : Kind) (answers : ℕ → Bool → Type 0) (low : ℕ) where
  kept-null : (place : ℕ) → place ≡ 0 → IsKept answers low place false
  kept-null place e = at-match (eqb place 0) _ _ (eq-eqb place 0 e) refl

  kept-old : (place : ℕ) → place ≢ 0 → place < low → IsKept answers low place true
  kept-old place some less =
      past-match (eqb place 0) _ _ (ne_eqb place 0 some) (at-match (ltb place low) _ _ (lt-ltb place low less) refl)

  -- a handle that names nothing from `low` on stays
  pub cleared-below : (row : Handle) → IsBelow low row → IsCleared kind answers low row row
  cleared-below row below = record { asked = λ e. go (cases_eq row.target 0); others = λ apart. refl }
    where
      go : (row.target ≡ 0) ⊎ (row.target ≢ 0) → (kept : Bool) × IsKept answers low row.target kept
          × (row ≡ cond kept row (nulled row))
      go (inl none) = (false, kept-null row.target none, nulled-itself row none (below.whole none))
      go (inr some) = (true, kept-old row.target some below.target, refl)

  -- the handle of this kind whose target isn't kept
  cleared-nulled : (row : Handle) (answer : Bool) → row.kind ≡ kind → IsKept answers low row.target answer
      → answer ≡ false → IsCleared kind answers low row (nulled row)
  cleared-nulled row answer same told not-kept =
      record {
        asked = λ e. (false, subst (IsKept answers low row.target) not-kept told, refl);
        others = λ apart. absurd (apart same);
      }

  -- it is written null
  pub at-nulled : (table new : Table) (at : ℕ) (row put : Handle) (answer : Bool) → finmap.get table at ≡ Some row
      → row.kind ≡ kind → IsKept answers low row.target answer → answer ≡ false → put ≡ nulled row
      → new ≡ finmap.insert table at put → BecomesAt (IsCleared kind answers low) table new at
  at-nulled table new at row put answer here same told not-kept is set =
      subst (λ (t : Table). BecomesAt (IsCleared kind answers low) table t at)
      (sym (set ∙ ap (finmap.insert table at) is))
      (at-changed (IsCleared kind answers low) table at row (nulled row) here
      (cleared-nulled row answer same told not-kept))

  -- it reaches no higher than before
  pub reach-cleared : (row row' : Handle) → IsCleared kind answers low row row' → reach row' ≤ reach row
  reach-cleared row row' cleared = go (decide-kind row.kind kind)
    where
      chosen : (kept : Bool) → row' ≡ cond kept row (nulled row) → reach row' ≤ reach row
      chosen true is = let e = ap reach is in omega (arith, e)
      chosen false is = let e = ap reach is in let less = reach-nulled row in omega (arith, e, less)

      go : (row.kind ≡ kind) ⊎ (row.kind ≢ kind) → reach row' ≤ reach row
      go (inl same) = let (kept, told, is) = cleared.asked same in chosen kept is
      go (inr apart) = let e = ap reach (cleared.others apart) in omega (arith, e)

  -- a handle of the old table at this number reaches as high
  abbrev WasAsHigh : Table → ℕ → Handle → Type 0
  WasAsHigh old h row' = (row : Handle) × (finmap.get old h ≡ Some row) × (reach row' ≤ reach row)

  -- a table whose handles reach no higher keeps its tops
  pub tops-cleared : (old new : Table) (tops : List ℕ) (a b : ℕ) → AreTops old tops
      → BecomesWithin (IsCleared kind answers low) old new a b → AreTops new tops
  tops-cleared old new list a b tops within =
      record {
        few = tops.few;
        chunk = λ h row' here. let (row, was, less) = before h row' here in tops.chunk h row was;
        top = λ h row' here.
            let (row, was, less) = before h row' here in
            let high = tops.top h row was in
            omega (arith, less, high);
      }
    where
      outside : (h : ℕ) (row' : Handle) → finmap.get new h ≡ Some row' → finmap.get new h ≡ finmap.get old h
          → WasAsHigh old h row'
      outside h row' here same = (row', sym same ∙ here, omega arith)

      inside : (h : ℕ) (row' : Handle) → finmap.get new h ≡ Some row'
          → Becomes (IsCleared kind answers low) (finmap.get old h) (finmap.get new h) → WasAsHigh old h row'
      inside h row' here becomes =
          let (row, was, cleared) =
          was-before (IsCleared kind answers low) (finmap.get old h) (finmap.get new h) row' becomes here in
          (row, was, reach-cleared row row' cleared)

      within-b : (h : ℕ) (row' : Handle) → finmap.get new h ≡ Some row' → a ≤ h → (h < b) ⊎ (b ≤ h)
          → WasAsHigh old h row'
      within-b h row' here low' (inl high) = inside h row' here (within.inside h low' high)
      within-b h row' here low' (inr past) = outside h row' here (within.outside h (inr past))

      from-a : (h : ℕ) (row' : Handle) → finmap.get new h ≡ Some row' → (h < a) ⊎ (a ≤ h) → WasAsHigh old h row'
      from-a h row' here (inl under) = outside h row' here (within.outside h (inl under))
      from-a h row' here (inr over) = within-b h row' here over (cases_lt h b)

      before : (h : ℕ) (row' : Handle) → finmap.get new h ≡ Some row' → WasAsHigh old h row'
      before h row' here = from-a h row' here (cases_lt h a)

-- where no handle is of the kind, clearing that kind changes nothing
pub cleared-none : (kind : Kind) (answers : ℕ → Bool → Type 0) (low : ℕ) (table : Table) → HasNone kind table
    → EachBecomes (IsCleared kind answers low) table table
cleared-none kind answers low table none h = at (finmap.get table h) refl
  where
    at : (found : Option Handle) → finmap.get table h ≡ found → Becomes (IsCleared kind answers low) found found
    at None was = refl
    at (Some row) was = record { asked = λ is. absurd (none h row was is); others = λ apart. refl }
