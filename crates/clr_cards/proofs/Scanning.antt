-- A scan for the next stretch of set cards.
use Rattle.std.proofs.Common.{◌≡◌, ℕ, zero, suc, ◌+◌, ◌-◌, ◌*◌, ◌<◌, ◌≤◌, Some, None, List, [], ◌∷◌, length, get_or}
use Rattle.std.proofs.Common.{drop, ap, sym, ◌∙◌, arith, inl, inr}
use Rattle.std.specs.Prelude.{max}
use Rattle.std.proofs.lemmas.Bool.{cases_eq, eq-eqb, ne_eqb}
use Rattle.std.proofs.lemmas.List.{drop_all, drop_more}
use Rattle.clr_cards.specs.Runs.{AreClear, AreSet, end_at, runs_in}

module _ (cards : List ℕ) (first lo hi : ℕ) where
  -- what is left from card `at` on, while no stretch is open
  abbrev pub left : ℕ → List (ℕ × ℕ)
  left at = runs_in lo hi None (first + at) (drop at cards)

  -- the same while one is open
  abbrev opened : ℕ → ℕ → List (ℕ × ℕ)
  opened start at = runs_in lo hi (Some start) (first + at) (drop at cards)

  -- where a stretch begins whose first card is `at`
  abbrev pub start_of : ℕ → ℕ
  start_of at = max lo (2048 * (first + at))

  step_clear : (at : ℕ) → at < length cards → get_or cards at 0 ≡ 0 → left at ≡ left (at + 1)
  step_clear at h z =
      let next : suc (first + at) ≡ first + (at + 1) = omega arith in
      ap (λ (xs : List ℕ). runs_in lo hi None (first + at) xs) (drop_more cards at 0 h)
      ∙ rw (eq-eqb (get_or cards at 0) 0 z) (ap (λ (k : ℕ). runs_in lo hi None k (drop (at + 1) cards)) next)

  step_open : (at : ℕ) → at < length cards → 0 < get_or cards at 0 → left at ≡ opened (start_of at) (at + 1)
  step_open at h p =
      let next : suc (first + at) ≡ first + (at + 1) = omega arith in
      ap (λ (xs : List ℕ). runs_in lo hi None (first + at) xs) (drop_more cards at 0 h)
      ∙ rw (ne_eqb (get_or cards at 0) 0 (λ e. absurd (omega arith)))
      (ap (λ (k : ℕ). runs_in lo hi (Some (start_of at)) k (drop (at + 1) cards)) next)

  step_set : (start at : ℕ) → at < length cards → 0 < get_or cards at 0 → opened start at ≡ opened start (at + 1)
  step_set start at h p =
      let next : suc (first + at) ≡ first + (at + 1) = omega arith in
      ap (λ (xs : List ℕ). runs_in lo hi (Some start) (first + at) xs) (drop_more cards at 0 h)
      ∙ rw (ne_eqb (get_or cards at 0) 0 (λ e. absurd (omega arith)))
      (ap (λ (k : ℕ). runs_in lo hi (Some start) k (drop (at + 1) cards)) next)

  step_close : (start at : ℕ) → at < length cards → get_or cards at 0 ≡ 0
      → opened start at ≡ ((start, 2048 * (first + at)) ∷ left at)
  step_close start at h z =
      let next : suc (first + at) ≡ first + (at + 1) = omega arith in
      let stretch : ℕ × ℕ = (start, 2048 * (first + at)) in
      ap (λ (xs : List ℕ). runs_in lo hi (Some start) (first + at) xs) (drop_more cards at 0 h)
      ∙ rw (eq-eqb (get_or cards at 0) 0 z)
      (ap (λ (k : ℕ). stretch ∷ runs_in lo hi None k (drop (at + 1) cards)) next
      ∙ ap (λ (rs : List (ℕ × ℕ)). stretch ∷ rs) (sym (step_clear at h z)))

  -- n clear cards are passed over
  skip_clear : (n at : ℕ) → at + n ≤ length cards → AreClear cards at (at + n) → left at ≡ left (at + n)
  skip_clear zero at l h = let same : at ≡ at + 0 = omega arith in ap left same
  skip_clear (suc n) at l h =
      let next : (at + 1) + n ≡ at + suc n = omega arith in
      step_clear at (omega arith) (h at (omega arith) (omega arith))
      ∙ skip_clear n (at + 1) (omega arith) (λ j low high. h j (omega arith) (omega arith))
      ∙ ap left next

  skip_set : (start n at : ℕ) → at + n ≤ length cards → AreSet cards at (at + n)
      → opened start at ≡ opened start (at + n)
  skip_set start zero at l h = let same : at ≡ at + 0 = omega arith in ap (opened start) same
  skip_set start (suc n) at l h =
      let next : (at + 1) + n ≡ at + suc n = omega arith in
      step_set start at (omega arith) (h at (omega arith) (omega arith))
      ∙ skip_set start n (at + 1) (omega arith) (λ j low high. h j (omega arith) (omega arith))
      ∙ ap (opened start) next

  pub skip_to_set : (at from : ℕ) → at ≤ from → from ≤ length cards → AreClear cards at from → left at ≡ left from
  skip_to_set at from low high h =
      let gap : at + (from - at) ≡ from = omega arith in
      skip_clear (from - at) at (omega arith) (λ j l r. h j l (omega arith)) ∙ ap left gap

  skip_to_clear : (start at to : ℕ) → at ≤ to → to ≤ length cards → AreSet cards at to
      → opened start at ≡ opened start to
  skip_to_clear start at to low high h =
      let gap : at + (to - at) ≡ to = omega arith in
      skip_set start (to - at) at (omega arith) (λ j l r. h j l (omega arith)) ∙ ap (opened start) gap

  -- nothing is left at the end
  pub left_end : (at : ℕ) → at ≡ length cards → left at ≡ []
  left_end at e = ap (λ (xs : List ℕ). runs_in lo hi None (first + at) xs) (drop_all at cards (omega arith))

  module _ (at from to : ℕ) (ahead : at ≤ from) (there : from < length cards) (clear : AreClear cards at from)
      (begins : 0 < get_or cards from 0) (behind : from + 1 ≤ to) (more : AreSet cards (from + 1) to) where
    -- the stretch that begins with the first set card is open up to the first clear one behind it
    opened_to : to ≤ length cards → left at ≡ opened (start_of from) to
    opened_to within =
        skip_to_set at from ahead (omega arith) clear
        ∙ step_open from there begins
        ∙ skip_to_clear (start_of from) (from + 1) to behind within more

    -- that stretch, and what is left behind it
    pub stretch : to ≤ length cards → (to < length cards → get_or cards to 0 ≡ 0)
        → left at ≡ ((start_of from, end_at cards first hi to) ∷ left to)
    stretch within closed = elim (cases_eq to (length cards)) [
      | inl end ↦
          rw (eq-eqb to (length cards) end)
          (opened_to within
          ∙ ap (λ (xs : List ℕ). runs_in lo hi (Some (start_of from)) (first + to) xs) (drop_all to cards (omega arith))
          ∙ ap (λ (rs : List (ℕ × ℕ)). (start_of from, hi) ∷ rs) (sym (left_end to end)))
      | inr before ↦
          let inside : to < length cards = omega (arith, before) in
          rw (ne_eqb to (length cards) before)
          (opened_to within ∙ step_close (start_of from) to inside (closed inside))
    ]
