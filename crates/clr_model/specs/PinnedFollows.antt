-- What follows on what is seen from the ladder of a pinned object.
use Rattle.std.specs.Prelude.{◌≡◌, ℕ, true}
use Rattle.clr_types.specs.Segments.{Layout}
use Rattle.clr_types.specs.declared.segment.SegKind.TheVariants.{Pinned}
use Rattle.clr_model.specs.declared.Collected.{Collected}
use Rattle.clr_model.specs.declared.How.{How}
use Rattle.clr_model.specs.Collection.{Collects, EndsBackground}
use Rattle.clr_model.specs.Lawful.{IsLawful}
use Rattle.clr_model.specs.Laws.{HasPlace, IsPlain}
use Rattle.clr_model.specs.Machine.{Machine, Marking}
use Rattle.clr_model.specs.Allocation.{Attempt, roomed, IsPlacedIn, PlacesPinned, segment_for, stands_in_kind}
use Rattle.clr_model.specs.Allocation.{with_layout, with_segment}
use Rattle.clr_model.specs.Run.{StandsFor}

-- the ladder of a pinned object comes from m to this machine, and a place that it has for the size is the object's
abbrev pub ComesToPinned : Machine → ℕ → Machine → Type 0
ComesToPinned m size ready = (place : ℕ) (layout : Layout) → IsPlacedIn Pinned ready.layout size place layout
    → PlacesPinned m size place roomed (with_layout ready layout)

-- each state that is stood for comes so to one from which the object is placed, and which is stood for afterwards
unfoldable pub FollowsToPinned : Machine → ℕ → Machine → Type 0
FollowsToPinned old size new = (m : Machine) → StandsFor old m
    → (ready : Machine) × ComesToPinned m size ready × StandsFor new ready

-- each state that is stood for comes to this attempt, which gives no place, and what is left is stood for afterwards
unfoldable pub FollowsPinnedFails : Machine → ℕ → Attempt → Machine → Type 0
FollowsPinnedFails old size attempt new = (m : Machine) → StandsFor old m
    → (ready : Machine) × ((place : ℕ) → PlacesPinned m size place attempt ready) × StandsFor new ready

-- a machine with a new pinned segment for the size
abbrev pub acquired_for : ℕ → Machine → Machine
acquired_for size m = with_layout m (with_segment m.layout Pinned (segment_for m size))

-- what stands in a pinned segment keeps its place in every collection
abbrev pub PinnedHeapStaysLaw : Type 0
PinnedHeapStaysLaw =
    (m : Machine) (g : ℕ) (how : How) (answer : Collected) (new : Machine) → IsLawful m → IsPlain g how
    → Collects m g how answer new → (name before after : ℕ) → stands_in_kind Pinned m.layout before ≡ true
    → HasPlace m name before → HasPlace new name after → after ≡ before

-- and in the last pause of a background collection
abbrev pub BackgroundPinnedHeapLaw : Type 0
BackgroundPinnedHeapLaw =
    (m : Machine) (marking : Marking) (answer : Collected) (new : Machine) → IsLawful m
    → EndsBackground m marking answer new → (name before after : ℕ) → stands_in_kind Pinned m.layout before ≡ true
    → HasPlace m name before → HasPlace new name after → after ≡ before
