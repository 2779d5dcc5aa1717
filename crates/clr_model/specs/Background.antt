-- The first pause and the steps of a background collection.
use Rattle.std.specs.Prelude.{◌≡◌, ◌≤◌, ℕ, zero, suc, List, [], ◌++◌, ◌↔◌, ◌⊎◌}
use Rattle.std.specs.List.{AllByRecursion}
use Rattle.clr_types.specs.Rising.{IsIn}
use Rattle.clr_model.specs.Machine.{Machine, Marking}
use Rattle.clr_model.specs.Lookups.{place_of}
use Rattle.clr_model.specs.Reach.{Old, Roots, SlotNames}
use Rattle.clr_model.specs.Sos.{IsWithoutRepeats}

-- the objects that were taken
abbrev pub taken : Marking → List ℕ
taken marking = (marking.white ++ marking.gray) ++ marking.black

-- at the first pause the objects of generation 2 are taken; those among the roots are gray, and the others white
pub record IsBegun (m : Machine) (marking : Marking) : Type 0 where
  pub apart : IsWithoutRepeats (taken marking)
  pub gray : (x : ℕ) → IsIn x marking.gray ↔ (Old m 1 x × Roots m x)
  pub white : (x : ℕ) → IsIn x marking.white ↔ (Old m 1 x × (Roots m x → ⊥))
  pub black : marking.black ≡ []

-- the gray object with the lowest place becomes black, and each white object that its slots name becomes gray
pub record Scans (m : Machine) (old new : Marking) : Type 0 where
  pub scanned : ℕ
  pub was_gray : IsIn scanned old.gray
  pub lowest : (y : ℕ) → IsIn y old.gray → place_of m.objects scanned ≤ place_of m.objects y
  pub apart : IsWithoutRepeats (taken new)
  pub black : (x : ℕ) → IsIn x new.black ↔ (IsIn x old.black ⊎ (x ≡ scanned))
  pub gray : (x : ℕ) → IsIn x new.gray
      ↔ ((IsIn x old.gray × (x ≡ scanned → ⊥)) ⊎ (IsIn x old.white × SlotNames m.objects scanned x))
  pub white : (x : ℕ) → IsIn x new.white ↔ (IsIn x old.white × (SlotNames m.objects scanned x → ⊥))

-- So many gray objects at most are scanned, one after another: all of them, unless so many were.
abbrev pub ScansUpTo : Machine → ℕ → Marking → ℕ → Marking → Type 0
ScansUpTo m zero old count new = (count ≡ 0) × (new ≡ old)
ScansUpTo m (suc n) old zero new = (old.gray ≡ []) × (new ≡ old)
ScansUpTo m (suc n) old (suc count) new = (mid : Marking) × Scans m old mid × ScansUpTo m n mid count new

-- what was taken is there, of generation 2, and has one colour
pub record IsLawfulMarking (m : Machine) (marking : Marking) : Type 0 where
  pub present : AllByRecursion (Old m 1) (taken marking)
  pub apart : IsWithoutRepeats (taken marking)
