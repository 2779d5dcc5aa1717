-- Changes of each handle as maps.
use Rattle.std.proofs.Common.{◌≡◌, ◌≢◌, ◌⊎◌, ℕ, ◌<◌, ◌≤◌, refl, sym, ap, ◌∙◌, Option, Some, None, IsSomeAnd, true}
use Rattle.std.proofs.Common.{false, cond, eqb, ltb, Bool, ◌&&◌, ◌||◌, not, inl, inr, MatchBool, arith, eq-eqb}
use Rattle.std.proofs.Common.{eqb-true}
use Rattle.std.proofs.lemmas.Bool.{ne_eqb, ltb-false, eqb-false, ltb-true, or_cases, or_parts}
use Rattle.std.specs.Option.{option_map}
use Rattle.std.specs.FinMap as finmap
use Rattle.clr_types.specs.declared.handle.Kind.{Kind}
use Rattle.clr_types.specs.declared.handle.Handle.{Handle}
use Rattle.clr_types.specs.Maps.{map_values}
use Rattle.clr_types.proofs.MapValues.{get-map_values, map_values-same}
use Rattle.clr_types.specs.HandleCode.{number_of_kind}
use Rattle.clr_handles.specs.Tables.{Table}
use Rattle.clr_handles.specs.Places.{IsCleared, IsKept, IsMoved, IsRelocated, nulled}
use Rattle.clr_handles.specs.Changes.{Becomes, EachBecomes}
use Rattle.clr_handles.specs.Laws.{ClearingLaw, RelocationLaw, cleared, is_kind, relocated}
use Rattle.clr_handles.proofs.ClearedRows.{decide-kind, same-kind}

-- a change of each handle that is a function is its map
pub each-is_map : (R : Handle → Handle → Type 0) (f : Handle → Handle) (old new : Table) → EachBecomes R old new
    → ((h : ℕ) (row row' : Handle) → finmap.get old h ≡ Some row → R row row' → row' ≡ f row) → new ≡ map_values f old
each-is_map R f old new each is =
    map_values-same new (map_values f old)
    (λ h. at h (finmap.get old h) (finmap.get new h) refl (each h) ∙ sym (get-map_values f old h))
  where
    found : (h : ℕ) (row : Handle) (o' : Option Handle) → finmap.get old h ≡ Some row → IsSomeAnd o' (R row)
        → o' ≡ Some (f row)
    found h row None was becomes = absurd becomes
    found h row (Some row') was becomes = ap Some (is h row row' was becomes)

    at : (h : ℕ) (o o' : Option Handle) → finmap.get old h ≡ o → Becomes R o o' → o' ≡ option_map f o
    at h None o' was becomes = becomes
    at h (Some row) o' was becomes = found h row o' was becomes

-- ---- tests of a place

by-match : (b : Bool) (P Q : Type 0) → MatchBool b P Q → ((b ≡ true) × P) ⊎ ((b ≡ false) × Q)
by-match true P Q p = inl (refl, p)
by-match false P Q q = inr (refl, q)

-- ---- clearing

module _ (kind : Kind) (answers : ℕ → Bool → Type 0) (low : ℕ) (test : ℕ → Bool)
    (old-passes : (place : ℕ) → 0 < place → place < low → test place ≡ true) where
  -- what is told of a place is that it isn't null and passes the test
  kept-is : (place : ℕ) (kept : Bool) → (low ≤ place → answers place kept → kept ≡ test place)
      → IsKept answers low place kept → kept ≡ (not (eqb place 0) && test place)
  kept-is place kept told is = null (by-match (eqb place 0) _ _ is)
    where
      there : eqb place 0 ≡ false → ((ltb place low ≡ true) × (kept ≡ true))
          ⊎ ((ltb place low ≡ false) × answers place kept) → kept ≡ (not (eqb place 0) && test place)
      there some (inl p) =
          let apart = eqb-false place 0 some in
          p.1 ∙ sym (old-passes place (omega arith) (ltb-true place low p.0)) ∙ ap (λ b. not b && test place) (sym some)
      there some (inr p) = told (ltb-false place low p.0) p.1 ∙ ap (λ b. not b && test place) (sym some)

      null : ((eqb place 0 ≡ true) × (kept ≡ false))
          ⊎ ((eqb place 0 ≡ false) × MatchBool (ltb place low) (kept ≡ true) (answers place kept))
          → kept ≡ (not (eqb place 0) && test place)
      null (inl p) = p.1 ∙ ap (λ b. not b && test place) (sym p.0)
      null (inr p) = there p.0 (by-match (ltb place low) _ _ p.1)

  turned : (kept : Bool) (row : Handle) → cond kept row (nulled row) ≡ cond (not kept) (nulled row) row
  turned true row = refl
  turned false row = refl

  cleared-is : (row row' : Handle)
      → ((kept : Bool) → row.kind ≡ kind → low ≤ row.target → answers row.target kept → kept ≡ test row.target)
      → IsCleared kind answers low row row' → row' ≡ cleared kind test row
  cleared-is row row' told is = go (decide-kind row.kind kind)
    where
      go : (row.kind ≡ kind) ⊎ (row.kind ≢ kind) → row' ≡ cleared kind test row
      go (inl same) =
          let (kept, told-of, becomes) = is.asked same in
          let kind-is : is_kind row.kind kind ≡ true =
          eq-eqb (number_of_kind row.kind) (number_of_kind kind) (ap number_of_kind same) in
          becomes ∙ turned kept row
          ∙ ap (λ b. cond (not b) (nulled row) row)
          (kept-is row.target kept (λ high answer. told kept same high answer) told-of)
          ∙ ap (λ b. cond (b && not (not (eqb row.target 0) && test row.target)) (nulled row) row) (sym kind-is)
      go (inr apart) =
          let kind-is : is_kind row.kind kind ≡ false =
          ne_eqb (number_of_kind row.kind) (number_of_kind kind) (λ e. apart (same-kind row.kind kind e)) in
          is.others apart ∙ ap (λ b. cond (b && not (not (eqb row.target 0) && test row.target)) (nulled row) row)
          (sym kind-is)

-- where a test tells each answer
pub cleared-is_map : (kind : Kind) (answers : ℕ → Bool → Type 0) (low : ℕ) (test : ℕ → Bool) (old new : Table)
    → EachBecomes (IsCleared kind answers low) old new
    → ((h : ℕ) (row : Handle) (kept : Bool) → finmap.get old h ≡ Some row → row.kind ≡ kind → low ≤ row.target
    → answers row.target kept → kept ≡ test row.target)
    → ((place : ℕ) → 0 < place → place < low → test place ≡ true) → new ≡ map_values (cleared kind test) old
cleared-is_map kind answers low test old new each told passes =
    each-is_map (IsCleared kind answers low) (cleared kind test) old new each
    (λ h row row' here is. cleared-is kind answers low test passes row row'
    (λ kept same high answer. told h row kept here same high answer) is)

pub clearing-law : ClearingLaw
clearing-law kind low test old new each passes =
    cleared-is_map kind (λ place kept. kept ≡ test place) low test old new each (λ h row kept here same high told. told)
    passes

-- ---- relocation

moved-is : (answers : ℕ → ℕ → Type 0) (low : ℕ) (to : ℕ → ℕ) → ((place : ℕ) → place < low → to place ≡ place) → to 0 ≡ 0
    → (place moved : ℕ) → (low ≤ place → answers place moved → moved ≡ to place) → IsMoved answers low place moved
    → moved ≡ to place
moved-is answers low to stays null place moved told is = go (by-match (eqb place 0 || ltb place low) _ _ is)
  where
    kept : (eqb place 0 ≡ true) ⊎ (ltb place low ≡ true) → to place ≡ place
    kept (inl e) = let zero-place = eqb-true place 0 e in ap to zero-place ∙ null ∙ sym zero-place
    kept (inr e) = stays place (ltb-true place low e)

    go : (((eqb place 0 || ltb place low) ≡ true) × (moved ≡ place))
        ⊎ (((eqb place 0 || ltb place low) ≡ false) × answers place moved) → moved ≡ to place
    go (inl p) = p.1 ∙ sym (kept (or_cases (eqb place 0) (ltb place low) p.0))
    go (inr p) = told (ltb-false place low (or_parts (eqb place 0) (ltb place low) p.0).1) p.1

-- where a function tells each answer
pub relocated-is_map : (answers : ℕ → ℕ → Type 0) (low : ℕ) (to : ℕ → ℕ) (old new : Table)
    → EachBecomes (IsRelocated answers low) old new
    → ((h : ℕ) (row : Handle) (place moved : ℕ) → finmap.get old h ≡ Some row → low ≤ place → answers place moved
    → moved ≡ to place)
    → ((place : ℕ) → place < low → to place ≡ place) → to 0 ≡ 0 → new ≡ map_values (relocated to) old
relocated-is_map answers low to old new each told stays null =
    each-is_map (IsRelocated answers low) (relocated to) old new each (λ h row row' here is.
    let target =
    moved-is answers low to stays null row.target row'.target
    (λ high answer. told h row row.target row'.target here high answer) is.target in
    let second =
    moved-is answers low to stays null row.second row'.second
    (λ high answer. told h row row.second row'.second here high answer) is.second in
    λ i. record { kind = is.kind i; target = target i; second = second i })

pub relocation-law : RelocationLaw
relocation-law low to old new each stays null =
    relocated-is_map (λ place moved. moved ≡ to place) low to old new each (λ h row place moved here high told. told)
    stays null
