-- Laws on the definitions. Each is the contract of a function that does nothing.
use Rattle.std.specs.Prelude.{◌≡◌, ℕ, ◌+◌, ◌^◌, ◌<◌, ◌≤◌, ◌==◌, ◌&&◌, ◌⊎◌, Bool, true, false, min, Some, None, List, []}
use Rattle.std.specs.List.{AllByRecursion}
use Rattle.clr_types.specs.Rising.{IsIn, Tests}
use Rattle.clr_types.specs.Ranges.{Piece, piece_end}
use Rattle.clr_types.specs.Segments.{Layout, generation, is_small_or_ephemeral, same_kind, rest_pieces}
use Rattle.clr_types.specs.declared.segment.SegKind.TheVariants.{Large}
use Rattle.clr_types.specs.LawfulLayout.{IsLawfulLayout, IsTiled}
use Rattle.clr_model.specs.declared.How.{How}
use Rattle.clr_model.specs.declared.How.TheVariants.{Decide, Compact, Sweep, Fit}
use Rattle.clr_model.specs.declared.Collected.{Collected}
use Rattle.clr_model.specs.Machine.{Machine, Marking, Object, Options, ThreadStep, no_step, begun_store, begun_new}
use Rattle.clr_model.specs.Lookups.{object_named, is_pinned, pieces, place_of, lowest_in_step}
use Rattle.clr_model.specs.Picture.{picture, renamed_marking}
use Rattle.clr_model.specs.Background.{IsLawfulMarking}
use Rattle.clr_model.specs.Reach.{IsAlive, Kept, StartOf}
use Rattle.clr_model.specs.Sweep.{survivors, swept_small, is_in_part}
use Rattle.clr_model.specs.Compaction.{Move, moved_by, IsCompacted}
use Rattle.clr_model.specs.Slide.{SlidesLarge}
use Rattle.clr_model.specs.Fitting.{IsFitted, is_moved, fit_of}
use Rattle.clr_model.specs.Collection.{Collects, EndsBackground, is_in_small_heap, objects_after}
use Rattle.clr_model.specs.Lawful.{IsLaid, IsLawful, IsBirthNamed, IsPlaceNamed, AreLawfulOptions}
use Rattle.clr_model.specs.Run.{opening, StandsFor}
use Rattle.clr_model.specs.Instructions.{Instruction}
use Rattle.clr_model.specs.LineGrammar.{IsLine, IsWord}
use Rattle.clr_model.specs.Outcomes.{Outcome}
use Rattle.clr_model.specs.Step.{Obeys}

-- what is alive before finalisation is kept
abbrev pub FirstIsKeptLaw : Type 0
FirstIsKeptLaw = (m : Machine) (g : ℕ) (first : ℕ → Bool) (x : ℕ) → IsAlive m (StartOf m g) x
    → Kept m (StartOf m g) first x

-- what is alive before finalisation is determined: two tests of it agree
abbrev pub OneTestLaw : Type 0
OneTestLaw = (m : Machine) (g : ℕ) (one other : ℕ → Bool) → Tests one (IsAlive m (StartOf m g))
    → Tests other (IsAlive m (StartOf m g)) → (x : ℕ) → one x ≡ other x

-- a script opens in a lawful state
abbrev pub OpeningLaw : Type 0
OpeningLaw = (options : Options) → AreLawfulOptions options → IsBirthNamed (opening options)

-- the numbers of what a thread has begun fit a word: the number of the slot, and the type, length and local of the
-- object
abbrev pub StepFits : ThreadStep → Type 0
StepFits no_step = Unit {0}
StepFits (begun_store object slot) = IsWord slot
StepFits (begun_new type len local) = IsWord type × IsWord len × IsWord local

-- those of every step of a lawful machine do
abbrev pub StepsFitLaw : Type 0
StepsFitLaw = (m : Machine) → IsLawful m → AllByRecursion StepFits m.steps

-- the kinds of collection that fit no survivors into older free items are of these generations
abbrev pub IsPlain : ℕ → How → Type 0
IsPlain g Decide = g ≤ 2
IsPlain g Compact = g ≤ 2
IsPlain g Sweep = g ≤ 2
IsPlain g Fit = ⊥

-- and the one that does is of generation 1
abbrev pub IsUsual : ℕ → How → Type 0
IsUsual g Decide = g ≤ 2
IsUsual g Compact = g ≤ 2
IsUsual g Sweep = g ≤ 2
IsUsual g Fit = g ≡ 1

-- no slide follows on a collection of this generation
abbrev pub IsUnslid : Machine → ℕ → Type 0
IsUnslid m g = (m.compacts_large && (g == 2)) ≡ false

-- ---- collections exist

-- tests tell what is alive before finalisation, and what stays
abbrev pub TestsExistLaw : Type 0
TestsExistLaw =
    (m : Machine) (g : ℕ)
    → (first : ℕ → Bool) × (kept : ℕ → Bool)
    × Tests first (IsAlive m (StartOf m g)) × Tests kept (Kept m (StartOf m g) first)

-- a machine's small heap can be compacted, whatever stays
abbrev pub CompactionExistsLaw : Type 0
CompactionExistsLaw =
    (m : Machine) (g : ℕ) (kept : ℕ → Bool) → IsLaid m → g ≤ 2
    → (moves : List Move) × (new : Layout) × IsCompacted m.layout g (survivors m g kept) moves new

-- every collection of a lawful machine has an outcome
abbrev pub CollectionExistsLaw : Type 0
CollectionExistsLaw =
    (m : Machine) (g : ℕ) (how : How) → IsLawful m → IsUsual g how
    → (answer : Collected) × (new : Machine) × Collects m g how answer new

-- ---- the layout that a collection leaves

-- a compaction of the small heap leaves a lawful layout, whatever stays
abbrev pub CompactionLayoutLaw : Type 0
CompactionLayoutLaw =
    (m : Machine) (g : ℕ) (kept : ℕ → Bool) (moves : List Move) (new : Layout) → IsLaid m → g ≤ 2
    → IsCompacted m.layout g (survivors m g kept) moves new → IsLawfulLayout new

-- and so does a sweep
abbrev pub SweepLayoutLaw : Type 0
SweepLayoutLaw = (m : Machine) (g : ℕ) (kept : ℕ → Bool) → IsLaid m → g ≤ 2
    → IsLawfulLayout (swept_small m.layout g (survivors m g kept))

-- and so does a whole collection, which also sweeps the large heap and releases segments
abbrev pub CollectionLayoutLaw : Type 0
CollectionLayoutLaw =
    (m : Machine) (g : ℕ) (how : How) (answer : Collected) (new : Machine) → IsLawful m → IsUsual g how
    → Collects m g how answer new → IsLawfulLayout new.layout

-- after a collection of a younger generation, objects and free items fill every segment from its first place to its end
abbrev pub YoungTilesLaw : Type 0
YoungTilesLaw = (m : Machine) (g : ℕ) (how : How) (answer : Collected) (new : Machine) → IsLawful m → g ≤ 1
    → IsUsual g how → Collects m g how answer new → AllByRecursion (IsTiled (pieces new)) new.layout.segments

-- a lawful state in which no thread is between the halves of a step stays lawful
abbrev pub CollectionStaysLawfulLaw : Type 0
CollectionStaysLawfulLaw = (m : Machine) (g : ℕ) (how : How) (answer : Collected) (new : Machine) → IsLawful m
    → lowest_in_step m ≡ None → IsUsual g how → Collects m g how answer new → IsLawful new

-- where objects are named by their places, a sweep leaves them so
abbrev pub SweepNamesLaw : Type 0
SweepNamesLaw = (m : Machine) (g : ℕ) (answer : Collected) (new : Machine) → IsPlaceNamed m
    → lowest_in_step m ≡ None → g ≤ 2 → IsUnslid m g → Collects m g Sweep answer new → IsPlaceNamed new

-- ---- the objects that a collection leaves

-- the object of this name has this generation
abbrev pub HasGeneration : Machine → ℕ → ℕ → Type 0
HasGeneration m name g = (o : Object) × (object_named m.objects name ≡ Some o) × (generation m.layout o.place ≡ g)

-- the generation after a collection of generation g, by the one before, and by whether the object is pinned and the
-- small heap was compacted
pub record IsPromoted (g : ℕ) (pinned compacted : Bool) (before after : ℕ) : Type 0 where
  pub old_stays : g < before → after ≡ before
  pub free_rises : before ≤ g → pinned ≡ false → after ≡ min 2 (before + 1)
  pub swept_rises : before ≤ g → compacted ≡ false → after ≡ min 2 (before + 1)
  pub none_skips : before ≤ g → after ≤ min 2 (before + 1)

-- A condemned object gets the next older generation, but a compaction may leave a pinned one in that or a younger one.
-- An older object keeps its generation.
abbrev pub PromotionLaw : Type 0
PromotionLaw =
    (m : Machine) (g : ℕ) (how : How) (answer : Collected) (new : Machine) → IsLawful m → IsUsual g how
    → Collects m g how answer new
    → (name before after : ℕ) → HasGeneration m name before → HasGeneration new name after
    → IsPromoted g (is_pinned m name) answer.compacted before after

-- the object of this name stands at the place
abbrev pub HasPlace : Machine → ℕ → ℕ → Type 0
HasPlace m name place = (o : Object) × (object_named m.objects name ≡ Some o) × (o.place ≡ place)

-- pinned objects stay where they are
abbrev pub PinnedStayLaw : Type 0
PinnedStayLaw =
    (m : Machine) (g : ℕ) (how : How) (answer : Collected) (new : Machine) → IsLawful m → IsUsual g how
    → Collects m g how answer new
    → (name before after : ℕ) → is_pinned m name ≡ true → HasPlace m name before → HasPlace new name after
    → after ≡ before

-- no object goes to a higher place
abbrev pub NoneRisesLaw : Type 0
NoneRisesLaw =
    (m : Machine) (g : ℕ) (how : How) (answer : Collected) (new : Machine) → IsLawful m → IsUsual g how
    → Collects m g how answer new
    → (name before after : ℕ) → HasPlace m name before → HasPlace new name after → after ≤ before

-- Objects of the small heap that aren't pinned keep their order: each stays below whatever stands above it, but a slide
-- may take an object of the large heap below it.
abbrev pub OrderLaw : Type 0
OrderLaw =
    (m : Machine) (g : ℕ) (how : How) (answer : Collected) (new : Machine) → IsLawful m → IsPlain g how
    → Collects m g how answer new
    → (one other low high low_after high_after : ℕ) → is_pinned m one ≡ false
    → HasPlace m one low → HasPlace m other high → is_in_small_heap m.layout low ≡ true
    → IsUnslid m g ⊎ (is_in_small_heap m.layout high ≡ true) → low < high
    → HasPlace new one low_after → HasPlace new other high_after → low_after < high_after

-- ---- free items

-- each free item that a compaction leaves in a condemned part of the small heap lies right before a pinned object
abbrev pub FreeBeforePinsLaw : Type 0
FreeBeforePinsLaw =
    (m : Machine) (g : ℕ) (how : How) (answer : Collected) (new : Machine) → IsLawful m → IsUsual g how
    → Collects m g how answer new → answer.compacted ≡ true
    → (p : Piece) → IsIn p new.layout.free → is_in_part is_small_or_ephemeral m.layout g p ≡ true
    → (o : Object) × IsIn o new.objects × (o.place ≡ piece_end p) × (is_pinned m o.name ≡ true)

-- ---- the slide of the large heap

-- the large heap of a machine can be slid
abbrev pub SlideExistsLaw : Type 0
SlideExistsLaw = (m : Machine) → IsLaid m → (moves : List Move) × (new : Machine) × SlidesLarge m moves new

-- and is lawful afterwards, where no context is left
abbrev pub SlideStaysLawfulLaw : Type 0
SlideStaysLawfulLaw = (m : Machine) (moves : List Move) (new : Machine) → IsLawful m → rest_pieces m.layout.rests ≡ []
    → SlidesLarge m moves new → IsLawful new

-- where the object of a name stands afterwards, by where it stood, and by whether it is pinned
pub record IsSlidTo (m : Machine) (pinned : Bool) (before after : ℕ) : Type 0 where
  pub lower : after ≤ before
  pub pinned_stays : pinned ≡ true → after ≡ before
  pub small_stays : is_in_small_heap m.layout before ≡ true → after ≡ before

-- no object goes to a higher place, and none that is pinned, or stands in the small heap, goes at all
abbrev pub SlidPlacesLaw : Type 0
SlidPlacesLaw =
    (m : Machine) (moves : List Move) (new : Machine) → IsLawful m → SlidesLarge m moves new
    → (name before after : ℕ) → HasPlace m name before → HasPlace new name after
    → IsSlidTo m (is_pinned m name) before after

-- each object keeps its generation
abbrev pub SlidAgesLaw : Type 0
SlidAgesLaw =
    (m : Machine) (moves : List Move) (new : Machine) → IsLawful m → SlidesLarge m moves new
    → (name before after : ℕ) → HasGeneration m name before → HasGeneration new name after → after ≡ before

-- each free item of the large heap lies right before a pinned object
abbrev pub SlidFreeBeforePinsLaw : Type 0
SlidFreeBeforePinsLaw =
    (m : Machine) (moves : List Move) (new : Machine) → IsLawful m → SlidesLarge m moves new
    → (p : Piece) → IsIn p new.layout.free → is_in_part (same_kind Large) m.layout 2 p ≡ true
    → (o : Object) × IsIn o new.objects × (o.place ≡ piece_end p) × (is_pinned m o.name ≡ true)

-- what a slide does to a machine's picture, it does to the machine, whatever its objects are called
abbrev pub SlideNamesLaw : Type 0
SlideNamesLaw =
    (m : Machine) (moves : List Move) (after : Machine) → IsLawful m → rest_pieces m.layout.rests ≡ []
    → SlidesLarge (picture m) moves after
    → (next : Machine) × SlidesLarge m moves next × (picture next ≡ picture after)

-- ---- a fitting

-- survivors of generation 1 can be fitted into older free items, whatever stays
abbrev pub FittingExistsLaw : Type 0
FittingExistsLaw =
    (m : Machine) (kept : ℕ → Bool) → IsLaid m → rest_pieces m.layout.rests ≡ []
    → (moves : List Move) × (new : Layout) × IsFitted m.layout (survivors m 1 kept) moves new

-- this leaves the memory as lawful, where older objects stay
abbrev pub FittingLaidLaw : Type 0
FittingLaidLaw =
    (m : Machine) (alive kept : ℕ → Bool) (moves : List Move) (new : Layout) → IsLawful m
    → rest_pieces m.layout.rests ≡ []
    → ((o : Object) → IsIn o m.objects → 1 < generation m.layout o.place → kept o.name ≡ true)
    → IsFitted m.layout (survivors m 1 kept) moves new
    → IsLaid (record m { objects = objects_after m alive kept moves; layout = new })

-- no object goes to a higher place, and none that is pinned goes at all
abbrev pub FittedPlacesLaw : Type 0
FittedPlacesLaw =
    (m : Machine) (kept : ℕ → Bool) (moves : List Move) (new : Layout) → IsLaid m → rest_pieces m.layout.rests ≡ []
    → IsFitted m.layout (survivors m 1 kept) moves new → (o : Object) → IsIn o m.objects
    → (moved_by moves o.place ≤ o.place) × (is_pinned m o.name ≡ true → moved_by moves o.place ≡ o.place)

-- what found room in an older item is of generation 2 then
abbrev pub FittedAgesLaw : Type 0
FittedAgesLaw =
    (m : Machine) (kept : ℕ → Bool) (moves : List Move) (new : Layout) → IsLaid m → rest_pieces m.layout.rests ≡ []
    → IsFitted m.layout (survivors m 1 kept) moves new → (o : Object) → IsIn o m.objects
    → is_moved (fit_of m.layout (survivors m 1 kept)).moves o.place ≡ true
    → generation new (moved_by moves o.place) ≡ 2

-- ---- the last pause of a background collection

-- every background collection of a lawful machine can end
abbrev pub BackgroundEndsLaw : Type 0
BackgroundEndsLaw = (m : Machine) (marking : Marking) → IsLawful m
    → (answer : Collected) × (new : Machine) × EndsBackground m marking answer new

-- its end leaves a lawful state, where no thread is between the halves of a step
abbrev pub BackgroundStaysLawfulLaw : Type 0
BackgroundStaysLawfulLaw =
    (m : Machine) (marking : Marking) (answer : Collected) (new : Machine) → IsLawful m → lowest_in_step m ≡ None
    → EndsBackground m marking answer new → IsLawful new

-- what it does to the picture of a machine, it does to the machine, whatever its objects are called
abbrev pub BackgroundNamesLaw : Type 0
BackgroundNamesLaw =
    (m : Machine) (marking : Marking) (answer : Collected) (after : Machine) → IsLawful m → IsLawfulMarking m marking
    → EndsBackground (picture m) (renamed_marking (place_of m.objects) marking) answer after
    → (next : Machine) × EndsBackground m marking answer next × (picture next ≡ picture after)

-- ---- names

-- What a collection does to the picture of a machine, it does to the machine, whatever its objects are called.
abbrev pub CollectionNamesLaw : Type 0
CollectionNamesLaw =
    (m : Machine) (g : ℕ) (how : How) (answer : Collected) (after : Machine) → IsLawful m → lowest_in_step m ≡ None
    → IsUsual g how
    → Collects (picture m) g how answer after
    → (next : Machine) × Collects m g how answer next × (picture next ≡ picture after)

-- The same of two collections, where the second goes on from the picture of what the first left.
abbrev pub TwoCollectionsNamesLaw : Type 0
TwoCollectionsNamesLaw =
    (m : Machine) (g1 g2 : ℕ) (how1 how2 : How) (one two : Collected) (after last : Machine) → IsLawful m
    → lowest_in_step m ≡ None → IsUsual g1 how1 → IsUsual g2 how2
    → Collects (picture m) g1 how1 one after → Collects (picture after) g2 how2 two last
    → (mid : Machine) × (next : Machine) × Collects m g1 how1 one mid × Collects mid g2 how2 two next
    × (picture mid ≡ picture after) × (picture next ≡ picture last)

-- ---- lines

-- a line is the line of one instruction at most
abbrev pub OneReadingLaw : Type 0
OneReadingLaw = (bytes : List ℕ) (i j : Instruction) → IsLine bytes i → IsLine bytes j → i ≡ j

-- whatever a line does, it reserves at most 2^30 bytes more
abbrev pub LineReservesLaw : Type 0
LineReservesLaw =
    (m : Machine) (i : Instruction) (outcome : Outcome) (new : Machine) → IsLawful m → Obeys m i outcome new
    → new.layout.top ≤ m.layout.top + 2 ^ 30

-- ---- what is seen

-- a lawful machine whose objects are named by their places stands for one whose objects are named by births
abbrev pub SeenStandsLaw : Type 0
SeenStandsLaw = (s : Machine) → IsPlaceNamed s → (m : Machine) × StandsFor s m

-- ---- what is counted

-- each of the four sums is at most the limit
pub record AreSumsWithin (m : Machine) (limit : ℕ) : Type 0 where
  pub spent0 : m.sums.spent0 ≤ limit
  pub spent_large : m.sums.spent_large ≤ limit
  pub promoted1 : m.sums.promoted1 ≤ limit
  pub promoted2 : m.sums.promoted2 ≤ limit

-- the sums of a lawful machine stay within its limit
abbrev pub BoundedSumsLaw : Type 0
BoundedSumsLaw = (m : Machine) → IsLawful m → AreSumsWithin m m.options.limit
