-- Two tests that are passed together.
use Rattle.std.proofs.Common.{◌≡◌, ◌↔◌, ◌&&◌, not, Bool, true, false, refl, sym, ◌∙◌}

-- the first isn't wrong, so the second decides
pub second_decides : (s t a b : Bool) → s ≡ a → t ≡ b → s ≡ false → (not t ≡ true) ↔ ((a ≡ false) × (b ≡ false))
second_decides s true a b e f off = (λ r. absurd cc, λ p. absurd cc)
second_decides s false a b e f off = (λ r. (sym e ∙ off, sym f), λ p. refl)

-- the first is wrong
pub one_bad : (s a b : Bool) → s ≡ a → s ≡ true → (not s ≡ true) ↔ ((a ≡ false) × (b ≡ false))
one_bad s a b e on = (λ r. absurd cc, λ p. absurd cc)

pub both_true : (a b : Bool) → a ≡ true → b ≡ true → (a && b) ≡ true
both_true a b e f = rw (e, f) refl
