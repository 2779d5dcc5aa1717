-- Which cards are set after one was set or cleared.
use Rattle.std.proofs.Common.{◌≡◌, ℕ, Bool, true, false, not, ◌&&◌, ◌||◌, cond, ltb, ap}

pub set_card : (here : Bool) (new old : ℕ) → new ≡ cond here 1 old → ltb 0 new ≡ (here || ltb 0 old)
set_card true new old e = ap (λ (x : ℕ). ltb 0 x) e
set_card false new old e = ap (λ (x : ℕ). ltb 0 x) e

pub cleared_card : (here : Bool) (new old : ℕ) → new ≡ cond here 0 old → ltb 0 new ≡ (not here && ltb 0 old)
cleared_card true new old e = ap (λ (x : ℕ). ltb 0 x) e
cleared_card false new old e = ap (λ (x : ℕ). ltb 0 x) e
