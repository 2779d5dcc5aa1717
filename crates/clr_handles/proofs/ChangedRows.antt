-- Changes of a table, number by number.
use Rattle.std.proofs.Common.{◌≡◌, ◌≢◌, ◌⊎◌, ℕ, ◌+◌, ◌*◌, ◌<◌, ◌≤◌, Option, Some, None, IsSomeAnd, inl, inr, refl, sym}
use Rattle.std.proofs.Common.{◌∙◌, subst, arith}
use Rattle.std.proofs.lemmas.Bool.{cases_eq, cases_lt}
use Rattle.std.specs.FinMap as finmap
use Rattle.clr_types.specs.declared.handle.Handle.{Handle}
use Rattle.clr_handles.specs.Tables.{Table}
use Rattle.clr_handles.specs.Changes.{Becomes, EachBecomes, BecomesWithin, BecomesAt}
use Rattle.clr_handles.proofs.Lookups.{get-inserted, get-insert_other}

module _ (R : Handle → Handle → Type 0) where
  -- a handle stays, where the relation allows that
  pub becomes-self : (o : Option Handle) → ((row : Handle) → o ≡ Some row → R row row) → Becomes R o o
  becomes-self None stays = refl
  becomes-self (Some row) stays = stays row refl

  pub becomes-changed : (o o' : Option Handle) (row row' : Handle) → o ≡ Some row → o' ≡ Some row' → R row row'
      → Becomes R o o'
  becomes-changed o o' row row' was is changed =
      subst (λ x. Becomes R x o') (sym was) (subst (λ y. IsSomeAnd y (R row)) (sym is) changed)

  -- what a handle was before
  pub was-before : (o o' : Option Handle) (row' : Handle) → Becomes R o o' → o' ≡ Some row'
      → (row : Handle) × (o ≡ Some row) × R row row'
  was-before None o' row' becomes is = absurd (none (sym becomes ∙ is))
    where
      none : None ≡ Some row' → ⊥
      none e = absurd cc
  was-before (Some row) o' row' becomes is = (row, refl, subst (λ y. IsSomeAnd y (R row)) is becomes)

  -- no number
  pub within-none : (m : Table) (a : ℕ) → BecomesWithin R m m a a
  within-none m a = record { inside = λ h low high. absurd (omega arith); outside = λ h out. refl }

  -- one number more
  pub within-more : (old mid new : Table) (a b : ℕ) → a ≤ b → BecomesWithin R old mid a b → BecomesAt R mid new b
      → BecomesWithin R old new a (b + 1)
  within-more old mid new a b order before at =
      record {
        inside = λ h low high. inside h low high (cases_eq h b);
        outside = λ h out. outside h out;
      }
    where
      inside : (h : ℕ) → a ≤ h → h < b + 1 → (h ≡ b) ⊎ (h ≢ b) → Becomes R (finmap.get old h) (finmap.get new h)
      inside h low high (inl e) =
          subst (λ n. Becomes R (finmap.get old n) (finmap.get new n)) (sym e)
          (subst (λ o. Becomes R o (finmap.get new b)) (before.outside b (inr (omega arith))) at.here)
      inside h low high (inr apart) =
          subst (Becomes R (finmap.get old h)) (sym (at.others h apart)) (before.inside h low (omega arith))

      outside : (h : ℕ) → (h < a) ⊎ (b + 1 ≤ h) → finmap.get new h ≡ finmap.get old h
      outside h (inl below) = at.others h (λ e. omega arith) ∙ before.outside h (inl below)
      outside h (inr above) = at.others h (λ e. omega arith) ∙ before.outside h (inr (omega arith))

  -- numbers behind one another
  within-append : (old mid new : Table) (a b c : ℕ) → a ≤ b → b ≤ c → BecomesWithin R old mid a b
      → BecomesWithin R mid new b c → BecomesWithin R old new a c
  within-append old mid new a b c first second before after =
      record {
        inside = λ h low high. inside h low high (cases_lt h b);
        outside = λ h out. outside h out;
      }
    where
      inside : (h : ℕ) → a ≤ h → h < c → (h < b) ⊎ (b ≤ h) → Becomes R (finmap.get old h) (finmap.get new h)
      inside h low high (inl below) =
          subst (Becomes R (finmap.get old h)) (sym (after.outside h (inl below))) (before.inside h low below)
      inside h low high (inr above) =
          subst (λ o. Becomes R o (finmap.get new h)) (before.outside h (inr above)) (after.inside h above high)

      outside : (h : ℕ) → (h < a) ⊎ (c ≤ h) → finmap.get new h ≡ finmap.get old h
      outside h (inl below) = after.outside h (inl (omega arith)) ∙ before.outside h (inl below)
      outside h (inr above) = after.outside h (inr above) ∙ before.outside h (inr (omega arith))

  -- a chunk more
  pub within-chunk : (old mid new : Table) (n : ℕ) → BecomesWithin R old mid 0 (64 * n)
      → BecomesWithin R mid new (64 * n) (64 * n + 64) → BecomesWithin R old new 0 (64 * (n + 1))
  within-chunk old mid new n before after =
      let next : 64 * n + 64 ≡ 64 * (n + 1) = omega arith in
      subst (BecomesWithin R old new 0) next
      (within-append old mid new 0 (64 * n) (64 * n + 64) (omega arith) (omega arith) before after)

  -- numbers whose handles stay
  pub within-kept : (m : Table) (a b : ℕ)
      → ((h : ℕ) (row : Handle) → a ≤ h → h < b → finmap.get m h ≡ Some row → R row row) → BecomesWithin R m m a b
  within-kept m a b stays =
      record {
        inside = λ h low high. becomes-self (finmap.get m h) (λ row here. stays h row low high here);
        outside = λ h out. refl;
      }

  -- all numbers
  pub each-from_within : (old new : Table) (b : ℕ) → ((h : ℕ) (row : Handle) → finmap.get old h ≡ Some row → h < b)
      → BecomesWithin R old new 0 b → EachBecomes R old new
  each-from_within old new b below within h = go (cases_lt h b)
    where
      go : (h < b) ⊎ (b ≤ h) → Becomes R (finmap.get old h) (finmap.get new h)
      go (inl inside) = within.inside h (omega arith) inside
      go (inr past) =
          subst (Becomes R (finmap.get old h)) (sym (within.outside h (inr past)))
          (becomes-self (finmap.get old h) (λ row here. absurd (let less = below h row here in omega (arith, less))))

  -- one number
  pub at-kept : (m : Table) (at : ℕ) → ((row : Handle) → finmap.get m at ≡ Some row → R row row) → BecomesAt R m m at
  at-kept m at stays = record { here = becomes-self (finmap.get m at) stays; others = λ h apart. refl }

  pub at-changed : (m : Table) (at : ℕ) (old new : Handle) → finmap.get m at ≡ Some old → R old new
      → BecomesAt R m (finmap.insert m at new) at
  at-changed m at old new here changed =
      record {
        here =
            becomes-changed (finmap.get m at) (finmap.get (finmap.insert m at new) at) old new here
            (get-inserted m at new) changed;
        others = λ h apart. get-insert_other m at h new apart;
      }
