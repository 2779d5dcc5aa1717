-- Marks of no object, a set for one segment behind another.
use Rattle.std.proofs.Common.{◌≡◌, ◌<◌, ◌+◌, ◌/◌, ◌%◌, ◌∙◌, ℕ, zero, suc, List, [], ◌∷◌, ◌++◌, length, get_or, false}
use Rattle.std.proofs.Common.{ap, ap₂, arith, length-append, replicate, nat_eq, subst, sym}
use Rattle.std.specs.Int.{bit_at}
use Rattle.std.proofs.lemmas.List.{replicate-append-replicate}
use Rattle.std.proofs.lemmas.Nat.Bits.{bit_at-zero}
use Rattle.clr_mem.specs.Words.{zeros}
use Rattle.clr_mem.proofs.Callers.{get_or-zeros}
use Rattle.clr_sos.specs.Bits.{has_bit}

-- no number is in a set of no words
pub none-in_none : (n : ℕ) → has_bit [] n ≡ false
none-in_none n = ap (λ b. nat_eq b 1) (bit_at-zero (n % 64))

-- nor in one of words that are zero
pub none-in_zeros : (words : List ℕ) (count : ℕ) → words ≡ zeros count → (n : ℕ) → has_bit words n ≡ false
none-in_zeros words count is n =
    ap (λ (ws : List ℕ). has_bit ws n) is
    ∙ ap (λ (w : ℕ). nat_eq (bit_at w (n % 64)) 1) (get_or-zeros count (n / 64))
    ∙ ap (λ b. nat_eq b 1) (bit_at-zero (n % 64))

-- nor in one of such words in front and others behind them
pub none-in_both : (front pages : List ℕ) (m n : ℕ) → front ≡ replicate m 0 → pages ≡ zeros n
    → (k : ℕ) → has_bit (front ++ pages) k ≡ false
unfolding zeros
none-in_both front pages m n front_is pages_is =
    none-in_zeros (front ++ pages) (m + n)
    (ap₂ (λ (xs ys : List ℕ). xs ++ ys) front_is pages_is ∙ replicate-append-replicate m n 0)

-- one set more is one more
pub fresh-count : (seen : List (List ℕ)) (bits : List ℕ) (k : ℕ) → length seen ≡ k
    → length (seen ++ bits ∷ []) ≡ k + 1
fresh-count seen bits k count = length-append seen (bits ∷ []) ∙ ap (λ n. n + 1) count

-- what holds of each set holds with one more of which it does
each : (P : ℕ → List ℕ → Type 0) (seen : List (List ℕ)) (bits : List ℕ)
    → ((j : ℕ) → j < length seen → P j (get_or seen j [])) → P (length seen) bits
    → (j : ℕ) → j < length seen + 1 → P j (get_or (seen ++ bits ∷ []) j [])
each P [] bits old new zero within = new
each P [] bits old new (suc j) within = absurd (omega (arith, within))
each P (first ∷ seen) bits old new zero within = old zero (omega arith)
each P (first ∷ seen) bits old new (suc j) within =
    each (λ i. P (suc i)) seen bits (λ i low. old (suc i) (omega (arith, low))) new j (omega (arith, within))

pub fresh-each : (P : ℕ → List ℕ → Type 0) (seen : List (List ℕ)) (bits : List ℕ) (k : ℕ) → length seen ≡ k
    → ((j : ℕ) → j < k → P j (get_or seen j [])) → P k bits
    → (j : ℕ) → j < k + 1 → P j (get_or (seen ++ bits ∷ []) j [])
fresh-each P seen bits k count old new j within =
    each P seen bits (λ i low. old i (omega (arith, low, count))) (subst (λ i. P i bits) (sym count) new) j
    (omega (arith, within, count))

-- no number is in any of them
pub fresh-clear : (seen : List (List ℕ)) (bits : List ℕ) → ((j n : ℕ) → has_bit (get_or seen j []) n ≡ false)
    → ((n : ℕ) → has_bit bits n ≡ false) → (j n : ℕ) → has_bit (get_or (seen ++ bits ∷ []) j []) n ≡ false
fresh-clear [] bits old new zero n = new n
fresh-clear [] bits old new (suc j) n = old (suc j) n
fresh-clear (first ∷ seen) bits old new zero n = old zero n
fresh-clear (first ∷ seen) bits old new (suc j) n = fresh-clear seen bits (λ i. old (suc i)) new j n
