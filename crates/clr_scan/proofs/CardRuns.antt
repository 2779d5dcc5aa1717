-- The first stretch of set cards.
use Rattle.std.proofs.Common.{◌≡◌, ◌⊎◌, inl, inr, ℕ, ◌+◌, ◌-◌, ◌/◌, ◌%◌, ◌<◌, ◌≤◌, Bool, true, false, ◌&&◌, ◌||◌}
use Rattle.std.proofs.Common.{nat_le, nat_lt, List, [], ◌∷◌, refl, ap, sym, ◌∙◌, subst, arith, Option, Some, None}
use Rattle.std.proofs.Common.{IfSome}
use Rattle.std.proofs.lemmas.Bool.{and_right, cases_eq, cases_lt, le-leb, le-ltb, lt-leb, lt-ltb, true≢false}
use Rattle.std.specs.Iterator.{YieldsFirst}
use Rattle.clr_cards.specs.Cards.{AreRuns, AreStretches, lies_in}
use Rattle.clr_scan.specs.SetCards.{AreClear}

-- no stretch holds an address below all of them
lies_below : (low high : ℕ) (rs : List (ℕ × ℕ)) (a : ℕ) → AreStretches low high rs → a < low → lies_in rs a ≡ false
lies_below low high [] a s l = refl
lies_below low high (r ∷ rs) a s l =
    let (up, some, under, rest) = s in
    let off : nat_le r.0 a ≡ false = lt-leb r.0 a (omega arith) in
    let more = lies_below (r.1 + 1) high rs a rest (omega arith) in
    ap (λ b. (b && nat_lt a r.1) || lies_in rs a) off ∙ more

pub first_run : (is_set : ℕ → Bool) (lo hi : ℕ) (rs new : List (ℕ × ℕ)) (r : Option (ℕ × ℕ))
    → YieldsFirst (λ (runs : List (ℕ × ℕ)). runs) rs r new → AreRuns is_set lo hi rs
    → IfSome r (λ run. (lo ≤ run.0) × (run.0 < run.1) × (run.1 ≤ hi) × AreClear is_set lo run.0
    × ((run.1 ≡ hi) ⊎ (run.1 % 2048 ≡ 0)))
first_run is_set lo hi rs new None y a = tt
first_run is_set lo hi rs new (Some run) y a =
    let (up, some, under, rest) : AreStretches lo hi (run ∷ new) = subst (AreStretches lo hi) y a.stretches in
    let told : (x : ℕ) → lo ≤ x → x < hi
    → is_set (x / 2048) ≡ ((nat_le run.0 x && nat_lt x run.1) || lies_in new x) = λ x low below.
    sym (a.exact x low below) ∙ ap (λ ss. lies_in ss x) y in (
      up,
      some,
      under,
      λ x low below.
          let off : nat_le run.0 x ≡ false = lt-leb run.0 x below in
          told x low (omega arith) ∙ ap (λ b. (b && nat_lt x run.1) || lies_in new x) off
          ∙ lies_below (run.1 + 1) hi new x rest (omega arith),
      elim (cases_lt run.1 hi) [
        | inl more ↦ inr (elim (cases_eq (run.1 % 2048) 0) [
          | inl z ↦ z
          | inr cut ↦
              let last : nat_lt run.1 run.1 ≡ false = le-ltb run.1 run.1 (omega arith) in
              let off : is_set (run.1 / 2048) ≡ false = told run.1 (omega arith) more
              ∙ ap (λ b. b || lies_in new run.1) (and_right (nat_le run.0 run.1) (nat_lt run.1 run.1) last)
              ∙ lies_below (run.1 + 1) hi new run.1 rest (omega arith) in
              let low : nat_le run.0 (run.1 - 1) ≡ true = le-leb run.0 (run.1 - 1) (omega arith) in
              let high : nat_lt (run.1 - 1) run.1 ≡ true = lt-ltb (run.1 - 1) run.1 (omega arith) in
              let on : is_set ((run.1 - 1) / 2048) ≡ true = told (run.1 - 1) (omega arith) (omega arith)
              ∙ (λ k. (low k && high k) || lies_in new (run.1 - 1)) in
              let same : (run.1 - 1) / 2048 ≡ run.1 / 2048 = omega (arith, cut) in
              absurd (true≢false (sym on ∙ ap is_set same ∙ off))
        ])
        | inr end ↦ inl (omega arith)
      ],
    )
