-- What a search from one object finds, up to another.
use Rattle.std.specs.Prelude.{◌≡◌, ℕ, ◌<◌, false, List, length}
use Rattle.clr_model.specs.Reach.{Reach}
use Rattle.clr_sos.specs.BreadthFirst.{AreNearest}
use Rattle.clr_sos.specs.Reaching.{entry_of, is_listed, place_at, via_at}
use Rattle.clr_sos.specs.declared.reach.FoundObject.{FoundObject}
use Rattle.clr_sos.specs.declared.reach.Origin.{Origin}
use Rattle.clr_sos.specs.declared.reach.Origin.TheVariants.{Local, Handle, Ready, Through}

-- what led to the address: one of the first n entries, by an edge, or else it is where the search started
abbrev pub IsLedBy : (edge : ℕ → ℕ → Type 0) → ℕ → List FoundObject → ℕ → ℕ → Origin → Type 0
IsLedBy edge start es n place (Local i) = place ≡ start
IsLedBy edge start es n place (Handle h) = place ≡ start
IsLedBy edge start es n place (Ready i) = place ≡ start
IsLedBy edge start es n place (Through q) = (q < n) × edge (place_at es q) place

-- A SEARCH FROM ONE OBJECT FOR ANOTHER: something led to each entry, no shorter way leads there, and where the goal
-- isn't listed, it isn't reached
pub record IsSearchFor (edge : ℕ → ℕ → Type 0) (start goal : ℕ) (es : List FoundObject) : Type 0 where
  pub led : (i : ℕ) → i < length es → IsLedBy edge start es i (place_at es i) (entry_of es i).origin
  pub nearest : AreNearest edge (λ x. x ≡ start) (place_at es) (via_at es) (length es)
  pub missed : is_listed es goal ≡ false → Reach edge (λ x. x ≡ start) goal → ⊥
