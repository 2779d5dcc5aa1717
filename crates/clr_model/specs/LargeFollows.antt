-- What follows on what is seen from the ladder of a large object.
use Rattle.std.specs.Prelude.{ℕ}
use Rattle.clr_types.specs.Segments.{Layout}
use Rattle.clr_types.specs.declared.segment.SegKind.TheVariants.{Large}
use Rattle.clr_model.specs.Machine.{Machine}
use Rattle.clr_model.specs.Allocation.{Attempt, roomed, IsPlacedIn, PlacesLarge, with_layout}
use Rattle.clr_model.specs.Run.{StandsFor}

-- the ladder of a large object comes from m to this machine, and a place that it has for the size is the object's
abbrev pub ComesToPlace : Machine → ℕ → Machine → Type 0
ComesToPlace m size ready = (place : ℕ) (layout : Layout) → IsPlacedIn Large ready.layout size place layout
    → PlacesLarge m size place roomed (with_layout ready layout)

-- each state that is stood for comes so to one from which the object is placed, and which is stood for afterwards
unfoldable pub FollowsToPlace : Machine → ℕ → Machine → Type 0
FollowsToPlace old size new = (m : Machine) → StandsFor old m
    → (ready : Machine) × ComesToPlace m size ready × StandsFor new ready

-- each state that is stood for comes to this attempt, which gives no place, and what is left is stood for afterwards
unfoldable pub FollowsLargeFails : Machine → ℕ → Attempt → Machine → Type 0
FollowsLargeFails old size attempt new = (m : Machine) → StandsFor old m
    → (ready : Machine) × ((place : ℕ) → PlacesLarge m size place attempt ready) × StandsFor new ready
