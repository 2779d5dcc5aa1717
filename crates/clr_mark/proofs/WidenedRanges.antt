-- An address comes into the range of its window, or begins one behind the others.
use Rattle.std.proofs.Common.{◌≡◌, ◌≢◌, ℕ, zero, suc, ◌+◌, ◌-◌, ◌<◌, ◌==◌, Bool, true, false, if◌then◌else◌, List, [], ◌∷◌}
use Rattle.std.proofs.Common.{◌++◌, get_or, length, max, min, refl, ap, sym, ◌∙◌, arith, set}
use Rattle.std.proofs.lemmas.Bool.{eq-eqb, ne_eqb}
use Rattle.clr_mark.specs.Overflow.{range_at, widened, window}

-- no range with a lower number lies in the window of an address
abbrev pub ArePassed : List (ℕ × ℕ) → ℕ → ℕ → Type 0
ArePassed ranges n a = (i : ℕ) → i < n → window (range_at ranges i).0 ≢ window a

-- where none lies there, it begins one
pub widened-new : (ranges : List (ℕ × ℕ)) (a : ℕ) → ArePassed ranges (length ranges) a
    → widened ranges a ≡ ranges ++ (a, a) ∷ []
widened-new [] a passed = refl
widened-new (r ∷ rs) a passed =
    let rest = widened-new rs a (λ i l. passed (suc i) (omega (arith, l))) in
    let other : (window r.0 == window a) ≡ false = ne_eqb (window r.0) (window a) (passed 0 (omega arith)) in
    ap (λ (b : Bool). if b then (min r.0 a, max r.1 a) ∷ rs else r ∷ widened rs a) other ∙ ap (λ ls. r ∷ ls) rest

-- where the one with a number does, that is widened
pub widened-at : (ranges : List (ℕ × ℕ)) (a n : ℕ) → n < length ranges → window (range_at ranges n).0 ≡ window a
    → ArePassed ranges n a
    → widened ranges a ≡ set ranges n (min (range_at ranges n).0 a, max (range_at ranges n).1 a)
widened-at [] a n l here passed = absurd (omega (arith, l))
widened-at (r ∷ rs) a zero l here passed =
    let same : (window r.0 == window a) ≡ true = eq-eqb (window r.0) (window a) here in
    ap (λ (b : Bool). if b then (min r.0 a, max r.1 a) ∷ rs else r ∷ widened rs a) same
widened-at (r ∷ rs) a (suc n) l here passed =
    let rest = widened-at rs a n (omega (arith, l)) here (λ i k. passed (suc i) (omega (arith, k))) in
    let other : (window r.0 == window a) ≡ false = ne_eqb (window r.0) (window a) (passed 0 (omega arith)) in
    ap (λ (b : Bool). if b then (min r.0 a, max r.1 a) ∷ rs else r ∷ widened rs a) other ∙ ap (λ ls. r ∷ ls) rest
