-- The objects of a heap by numbers: by rising address, each with the number of those below it.
use Rattle.std.specs.Prelude.{ℕ, List, get_or}
use Rattle.clr_types.specs.Rising.{IsIn, IsRisingBy}
use Rattle.clr_sos.specs.Reaching.{IsObjectOf}
use Rattle.clr_sos.specs.declared.view.View.{View}

-- the address of the object with a number
abbrev pub place_of : List ℕ → ℕ → ℕ
place_of places n = get_or places n 0

-- these are the addresses of a view's objects, each once
pub record AreNumbers (v : View) (places : List ℕ) : Type 0 where
  pub rise : IsRisingBy (λ (n : ℕ). n) places
  pub stand : (x : ℕ) → IsIn x places → IsObjectOf v x
  pub all : (x : ℕ) → IsObjectOf v x → IsIn x places
