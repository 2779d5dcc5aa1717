-- Handles that follow what they name: what stays, and how high they reach then.
use Rattle.std.proofs.Common.{◌≡◌, ◌≢◌, ◌⊎◌, ℕ, ◌+◌, ◌*◌, ◌/◌, ◌<◌, ◌≤◌, ◌||◌, eqb, ltb, max, List, length, get_or, set}
use Rattle.std.proofs.Common.{Bool, true, false, ◌&&◌, MatchBool, Some, inl, inr, refl, sym, ap, ◌∙◌, subst, arith}
use Rattle.std.proofs.lemmas.Bool.{cases_eq, cases_lt, lt-ltb, or_right}
use Rattle.std.proofs.lemmas.List.{get_or-set_same, get_or-set_other, length-set}
use Rattle.std.specs.FinMap as finmap
use Rattle.clr_types.specs.Kinds.{is_pinned_kind}
use Rattle.clr_types.specs.declared.handle.Handle.{Handle}
use Rattle.clr_handles.specs.Tables.{Table}
use Rattle.clr_handles.specs.Places.{IsFollowed, IsMoved, IsRelocated, IsSpared}
use Rattle.clr_handles.specs.Changes.{BecomesWithin}
use Rattle.clr_handles.specs.Tops.{AreTops, IsTop, IsTopBetween, reach}
use Rattle.clr_handles.proofs.Lookups.{get-inserted}
use Rattle.clr_handles.proofs.ClearedRows.{at-match, IsBelow}

module _ (answers : ℕ → ℕ → Type 0) (low : ℕ) where
  moved-below : (place : ℕ) → place < low → IsMoved answers low place place
  moved-below place less =
      at-match (eqb place 0 || ltb place low) _ _ (or_right (eqb place 0) (ltb place low) (lt-ltb place low less)) refl

  -- a handle that names nothing from `low` on stays
  pub relocated-below : (row : Handle) → IsBelow low row → IsRelocated answers low row row
  relocated-below row below =
      record { kind = refl; target = moved-below row.target below.target; second = moved-below row.second below.second }

  -- also where targets of pinned handles are spared
  pub followed-below : (spares : Bool) (row : Handle) → IsBelow low row → IsFollowed spares answers low row row
  followed-below spares row below = go (spares && is_pinned_kind row.kind)
    where
      go : (b : Bool) → MatchBool b (IsSpared answers low row row) (IsRelocated answers low row row)
      go true = record { kind = refl; target = refl; second = moved-below row.second below.second }
      go false = relocated-below row below

  -- a handle with other places follows what it names
  pub followed : (spares : Bool) (old new : Handle) → new.kind ≡ old.kind
      → MatchBool (spares && is_pinned_kind old.kind) (new.target ≡ old.target)
      (IsMoved answers low old.target new.target) → IsMoved answers low old.second new.second
      → IsFollowed spares answers low old new
  followed spares old new kind target second = go (spares && is_pinned_kind old.kind) target
    where
      go : (b : Bool) → MatchBool b (new.target ≡ old.target) (IsMoved answers low old.target new.target)
          → MatchBool b (IsSpared answers low old new) (IsRelocated answers low old new)
      go true stays = record { kind = kind; target = stays; second = second }
      go false moved = record { kind = kind; target = moved; second = second }

-- ---- how high a chunk reaches, number by number

pub top-none : (table : Table) (a : ℕ) → IsTopBetween table a a 0
top-none table a h row low high here = absurd (omega arith)

pub top-more : (mid new : Table) (a b t high : ℕ) → IsTopBetween mid a b t
    → ((h : ℕ) → h ≢ b → finmap.get new h ≡ finmap.get mid h)
    → ((row : Handle) → finmap.get new b ≡ Some row → reach row ≤ high) → IsTopBetween new a (b + 1) (max t high)
top-more mid new a b t high before others at h row low up here = go (cases_eq h b)
  where
    go : (h ≡ b) ⊎ (h ≢ b) → reach row ≤ max t high
    go (inl e) = let under = at row (ap (finmap.get new) (sym e) ∙ here) in omega (arith, under)
    go (inr apart) = let under = before h row low (omega arith) (sym (others h apart) ∙ here) in omega (arith, under)

-- the handle that was put in reaches so high
pub reach-put : (table : Table) (h : ℕ) (put row : Handle) → finmap.get (finmap.insert table h put) h ≡ Some row
    → reach row ≤ reach put
reach-put table h put row here =
    let same : Some put ≡ Some row = sym (get-inserted table h put) ∙ here in
    let is : put ≡ row = cc in
    let e = ap reach is in
    omega (arith, e)

-- ---- a chunk's new top

pub tops-moved : (R : Handle → Handle → Type 0) (old new : Table) (tops : List ℕ) (chunk top : ℕ) → AreTops old tops
    → chunk < length tops → BecomesWithin R old new (64 * chunk) (64 * chunk + 64) → IsTop new chunk top
    → AreTops new (set tops chunk top)
tops-moved R old new list chunk top tops inside within high =
    record {
      few = subst (λ n. n ≤ 1024) (sym (length-set list chunk top)) tops.few;
      chunk =
          λ h row here. subst (λ n. h / 64 < n) (sym (length-set list chunk top))
          (chunks h row here (cases_eq (h / 64) chunk));
      top = λ h row here. at h row here (cases_eq (h / 64) chunk);
    }
  where
    outside : (h : ℕ) → h / 64 ≢ chunk → (h < 64 * chunk) ⊎ (64 * chunk + 64 ≤ h)
    outside h apart = go (cases_lt h (64 * chunk)) (cases_lt h (64 * chunk + 64))
      where
        go : (h < 64 * chunk) ⊎ (64 * chunk ≤ h) → (h < 64 * chunk + 64) ⊎ (64 * chunk + 64 ≤ h)
            → (h < 64 * chunk) ⊎ (64 * chunk + 64 ≤ h)
        go (inl under) other = inl under
        go (inr over) (inl under) = absurd (apart (omega arith))
        go (inr over) (inr past) = inr past

    was : (h : ℕ) (row : Handle) → finmap.get new h ≡ Some row → h / 64 ≢ chunk → finmap.get old h ≡ Some row
    was h row here apart = sym (within.outside h (outside h apart)) ∙ here

    chunks : (h : ℕ) (row : Handle) → finmap.get new h ≡ Some row → (h / 64 ≡ chunk) ⊎ (h / 64 ≢ chunk)
        → h / 64 < length list
    chunks h row here (inl e) = subst (λ c. c < length list) (sym e) inside
    chunks h row here (inr apart) = tops.chunk h row (was h row here apart)

    at : (h : ℕ) (row : Handle) → finmap.get new h ≡ Some row → (h / 64 ≡ chunk) ⊎ (h / 64 ≢ chunk)
        → reach row ≤ get_or (set list chunk top) (h / 64) 0
    at h row here (inl e) =
        let under = high h row (omega arith) (omega arith) here in
        let read : get_or (set list chunk top) (h / 64) 0 ≡ top =
        ap (λ c. get_or (set list chunk top) c 0) e ∙ get_or-set_same list chunk top 0 inside in
        omega (arith, under, read)
    at h row here (inr apart) =
        let under = tops.top h row (was h row here apart) in
        let read : get_or (set list chunk top) (h / 64) 0 ≡ get_or list (h / 64) 0 =
        get_or-set_other list chunk (h / 64) top 0 apart in
        omega (arith, under, read)
