-- The search by halving for the segment that has an address.
use Rattle.std.proofs.Common.{◌≡◌, ℕ, zero, suc, ◌+◌, ◌<◌, ◌≤◌, List, [], ◌∷◌, length, refl, sym, ap, ◌∙◌, arith}
use Rattle.std.proofs.Common.{true, false, if◌then◌else◌, inl, inr, get_or}
use Rattle.std.specs.List.{AllByRecursion}
use Rattle.std.proofs.lemmas.Bool.{cases_Bool, cases_eq, cases_lt}
use Rattle.std.proofs.lemmas.List.{get_or_default}
use Rattle.clr_bgmark.specs.Shades.{AreRising, covers, is_covered, ShadeView}
use Rattle.clr_bgmark.proofs.Kept.{covers_inside}

above_all : (n : ℕ) (ss : List ShadeView) (k : ℕ) (d : ShadeView)
    → AllByRecursion (λ (t : ShadeView). n ≤ t.base) ss → k < length ss → n ≤ (get_or ss k d).base
above_all n [] k d all l = absurd (omega arith)
above_all n (s ∷ ss) zero d all l = all.0
above_all n (s ∷ ss) (suc k) d all l = above_all n ss k d all.1 (omega (arith, l))

-- a segment ends where a later one begins, or below
pub rising_order : (ss : List ShadeView) (i k : ℕ) (d : ShadeView) → AreRising ss → i < k → k < length ss
    → (get_or ss i d).base + (get_or ss i d).size ≤ (get_or ss k d).base
rising_order [] i k d rising less l = absurd (omega arith)
rising_order (s ∷ ss) i zero d rising less l = absurd (omega arith)
rising_order (s ∷ ss) zero (suc k) d rising less l = above_all (s.base + s.size) ss k d rising.0 (omega (arith, l))
rising_order (s ∷ ss) (suc i) (suc k) d rising less l = rising_order ss i k d rising.1 (omega (arith, less)) (omega (arith, l))

-- none of the segments from number `from` on, before `to`, has the address
abbrev pub NoneCovers : List ShadeView → ℕ → ℕ → ℕ → Type 0
NoneCovers ss from to a = (i : ℕ) (d : ShadeView) → from ≤ i → i < to → i < length ss → covers (get_or ss i d) a ≡ false

never : (s : ShadeView) (a : ℕ) → (covers s a ≡ true → ⊥) → covers s a ≡ false
never s a nowhere = elim (cases_Bool (covers s a)) [ inl e ↦ absurd (nowhere e) | inr f ↦ f ]

-- an address from the base of a segment on lies in no earlier one
pub none_before : (ss : List ShadeView) (m a : ℕ) (s : ShadeView) → s ≡ get_or ss m s → AreRising ss → m < length ss
    → s.base ≤ a → NoneCovers ss 0 m a
none_before ss m a s read rising l low i d from to within =
    never (get_or ss i d) a (λ e.
    let order = rising_order ss i m d rising to l in
    let high = (covers_inside (get_or ss i d) a e).high in
    let base : s.base ≡ (get_or ss m d).base = ap (λ (t : ShadeView). t.base) (read ∙ get_or_default ss m s d l) in
    omega (arith, order, high, base, low))

-- an address below it lies in no later one, nor in that
pub none_behind : (ss : List ShadeView) (m n a : ℕ) (s : ShadeView) → s ≡ get_or ss m s → AreRising ss → m < length ss
    → a < s.base → NoneCovers ss m n a
none_behind ss m n a s read rising l high i d from to within =
    never (get_or ss i d) a (λ e.
    let low = (covers_inside (get_or ss i d) a e).low in
    let base : s.base ≡ (get_or ss m d).base = ap (λ (t : ShadeView). t.base) (read ∙ get_or_default ss m s d l) in
    elim (cases_eq m i) [
      | inl same ↦
          let is : (get_or ss m d).base ≡ (get_or ss i d).base = ap (λ (n : ℕ). (get_or ss n d).base) same in
          omega (arith, low, base, is, high)
      | inr other ↦
          let order = rising_order ss m i d rising (omega (arith, from, other)) within in
          omega (arith, order, low, base, high)
    ])

-- where none has the address, it lies nowhere
pub none_at_all : (ss : List ShadeView) (a : ℕ) → ((i : ℕ) (d : ShadeView) → i < length ss
    → covers (get_or ss i d) a ≡ false) → is_covered ss a ≡ false
none_at_all [] a none = refl
none_at_all (s ∷ ss) a none =
    ap (λ b. if b then true else is_covered ss a) (none zero s (omega arith))
    ∙ none_at_all ss a (λ i d l. none (suc i) d (omega (arith, l)))

-- none has it where the last one that is left hasn't
pub none_found : (ss : List ShadeView) (a low high : ℕ) (s : ShadeView) → s ≡ get_or ss low s → covers s a ≡ false
    → NoneCovers ss 0 low a → NoneCovers ss high (length ss) a → high ≤ low + 1 → is_covered ss a ≡ false
none_found ss a low high s read off before behind near =
    none_at_all ss a (λ i d l. elim (cases_lt i low) [
      | inl less ↦ before i d (omega arith) less l
      | inr up ↦ elim (cases_eq i low) [
        | inl same ↦
            let here : get_or ss i d ≡ s =
            ap (λ (n : ℕ). get_or ss n d) same
            ∙ sym (read ∙ get_or_default ss low s d (omega (arith, same, l))) in
            ap (λ (t : ShadeView). covers t a) here ∙ off
        | inr other ↦ behind i d (omega (arith, up, other, near)) l l
      ]
    ])
