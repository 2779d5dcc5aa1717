-- Cards: which are set, and the stretches of addresses whose cards are.
use Rattle.std.specs.Prelude.{◌≡◌, ℕ, ◌+◌, ◌/◌, ◌<◌, ◌≤◌, Bool, ◌&&◌, nat_le, nat_lt, List, [], ◌∷◌}
use Rattle.std.specs.List.{list_any}
use Rattle.clr_covers.specs.Covers.{cover_of, CoverView, same_values, value_at}

-- whether the card of this number is set, which stands for 2,048 addresses from 2,048 times the number on; what isn't
-- covered has no set card
abbrev pub is_card_set : List (CoverView ℕ) → ℕ → Bool
is_card_set cs i = nat_lt 0 (value_at 0 cs i)

-- the clear cards of [base, base + len)
abbrev pub clear_cards : ℕ → ℕ → CoverView ℕ
clear_cards base len = cover_of (base / 2048) (same_values 0 (len / 2048))

-- whether the address lies in one of the stretches, each told as its first address and one past its last
abbrev pub lies_in : List (ℕ × ℕ) → ℕ → Bool
lies_in rs a = list_any (λ (r : ℕ × ℕ). nat_le r.0 a && nat_lt a r.1) rs

-- the stretches lie in [low, high) and rise, and none is empty or touches the next
abbrev pub AreStretches : ℕ → ℕ → List (ℕ × ℕ) → Type 0
AreStretches low high [] = Unit {0}
AreStretches low high (r ∷ rs) = (low ≤ r.0) × (r.0 < r.1) × (r.1 ≤ high) × AreStretches (r.1 + 1) high rs

-- The maximal stretches of addresses inside [low, high) whose cards are set: each such address lies in one of them, and
-- no other does.
pub record AreRuns (is_set : ℕ → Bool) (low high : ℕ) (rs : List (ℕ × ℕ)) : Type 0 where
  pub stretches : AreStretches low high rs
  pub exact : (a : ℕ) → low ≤ a → a < high → lies_in rs a ≡ is_set (a / 2048)
