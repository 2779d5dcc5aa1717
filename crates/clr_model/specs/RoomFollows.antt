-- What follows on what is seen from the ladder of a small object, and from each collection in it.
use Rattle.std.specs.Prelude.{◌≡◌, ℕ}
use Rattle.clr_model.specs.declared.How.{How}
use Rattle.clr_model.specs.declared.Collected.{Collected}
use Rattle.clr_model.specs.Machine.{Machine}
use Rattle.clr_model.specs.Picture.{picture}
use Rattle.clr_model.specs.Collection.{Collects}
use Rattle.clr_model.specs.Allocation.{Attempt, MakesRoom}
use Rattle.clr_model.specs.Run.{StandsFor}

-- what is seen after a collection of what is seen
abbrev pub HasCollected : Machine → ℕ → How → Machine → Type 0
HasCollected old g how new = (answer : Collected) × (after : Machine) × Collects old g how answer after
    × (new ≡ picture after)

-- Each state that is stood for before comes by the ladder of a small object to this attempt, and what it comes to is
-- stood for afterwards.
unfoldable pub FollowsRoom : Machine → ℕ → ℕ → Attempt → Machine → Type 0
FollowsRoom old t size attempt new = (m : Machine) → StandsFor old m
    → (ready : Machine) × MakesRoom m t size attempt ready × StandsFor new ready
