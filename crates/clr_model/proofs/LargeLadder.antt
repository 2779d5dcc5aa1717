-- The ladder of a large object: how each of its steps is taken, and what holds of all that it may come to.
use Rattle.std.proofs.Common.{◌≡◌, ℕ, ◌+◌, inl, inr, subst, sym, ◌⊎◌, Bool, true, false, ◌&&◌, nat_le, Option, None}
use Rattle.std.proofs.Common.{Some}
use Rattle.std.specs.Prelude.{MatchOption}
use Rattle.std.specs.Bool.{MatchBool}
use Rattle.clr_types.specs.Segments.{Layout}
use Rattle.clr_types.specs.declared.segment.SegKind.TheVariants.{Large}
use Rattle.clr_model.specs.declared.How.{How}
use Rattle.clr_model.specs.declared.How.TheVariants.{Decide, Compact}
use Rattle.clr_model.specs.declared.Collected.{Collected}
use Rattle.clr_model.specs.Machine.{Machine}
use Rattle.clr_model.specs.Lookups.{lowest_in_step}
use Rattle.clr_model.specs.Collection.{Collects}
use Rattle.clr_model.specs.Allocation.{Attempt, waits, out_of_room, out_of_memory, has_room_in, IsPlacedIn}
use Rattle.clr_model.specs.Allocation.{with_layout, with_segment, segment_for, allows, RoomedIn, RoomedOrAcquired}
use Rattle.clr_model.specs.Allocation.{LargeAfterFirst, PlacesLarge}
use Rattle.clr_model.proofs.SmallLadder.{either, either_option, chosen, passed_on}

module _ (size place : ℕ) (attempt : Attempt) (new : Machine) where
  -- ---- the rungs

  -- the budget and the heap have room
  abbrev spare : Machine → Bool
  spare m = nat_le (m.sums.spent_large + size) m.options.bl && has_room_in Large m.layout size

  -- the object has its place
  abbrev Placed : Machine → Type 0
  Placed m = RoomedIn Large m size place attempt new

  -- the machine stays, and a thread is waited for, or there is no room
  abbrev Waits : Machine → ℕ → Type 0
  Waits m k = (attempt ≡ waits k) × (new ≡ m)

  abbrev FindsNone : Machine → Type 0
  FindsNone m = (attempt ≡ out_of_room) × (new ≡ m)

  -- a new segment, and a place in that, or no memory for it
  abbrev pub TakesLarge : Machine → Type 0
  TakesLarge m =
      RoomedIn Large (with_layout m (with_segment m.layout Large (segment_for m size))) size place attempt new
      ⊎ ((attempt ≡ out_of_memory) × (new ≡ m))

  -- what follows the full compacting collection
  abbrev pub LargeAfterFull : Machine → Type 0
  LargeAfterFull m = RoomedOrAcquired Large m size place attempt new ((attempt ≡ out_of_room) × (new ≡ m))

  -- that collection, and what follows it
  abbrev Full : Machine → Type 0
  Full m = (answer : Collected) × (full : Machine) × Collects m 2 Compact answer full × LargeAfterFull full

  -- the first collection, and what follows it
  abbrev First : Machine → Type 0
  First m =
      (answer : Collected) × (first : Machine) × Collects m 2 Decide answer first
      × LargeAfterFirst first size place attempt new

  -- a wait, or the first collection
  abbrev Collecting : Machine → Type 0
  Collecting m = MatchOption (lowest_in_step m) (First m) (Waits m)

  -- ---- how a step is taken

  -- a place within the budget
  pub large_places : (m : Machine)
      → (nat_le (m.sums.spent_large + size) m.options.bl && has_room_in Large m.layout size) ≡ true
      → RoomedIn Large m size place attempt new → PlacesLarge m size place attempt new
  large_places m = chosen (spare m) (Placed m) (Collecting m)

  module _ (m : Machine)
      (none : (nat_le (m.sums.spent_large + size) m.options.bl && has_room_in Large m.layout size) ≡ false)
    where
      -- a thread is in mid-step
      pub large_waits : (k : ℕ) → lowest_in_step m ≡ Some k → attempt ≡ waits k → new ≡ m
          → PlacesLarge m size place attempt new
      large_waits k busy is same =
          passed_on (spare m) (Placed m) (Collecting m) none
          (subst (λ (r : Option ℕ). MatchOption r (First m) (Waits m)) (sym busy) (is, same))

      -- a collection
      pub large_collects : lowest_in_step m ≡ None → (answer : Collected) (first : Machine)
          → Collects m 2 Decide answer first → LargeAfterFirst first size place attempt new
          → PlacesLarge m size place attempt new
      large_collects idle answer first c made =
          passed_on (spare m) (Placed m) (Collecting m) none
          (subst (λ (r : Option ℕ). MatchOption r (First m) (Waits m)) (sym idle) (answer, first, c, made))

  -- a place after the first collection
  pub large_first_places : (m : Machine) → has_room_in Large m.layout size ≡ true
      → RoomedIn Large m size place attempt new → LargeAfterFirst m size place attempt new
  large_first_places m = chosen (has_room_in Large m.layout size) (Placed m) (Full m)

  -- none: a full compacting collection
  pub large_first_full : (m : Machine) → has_room_in Large m.layout size ≡ false → (answer : Collected)
      (full : Machine) → Collects m 2 Compact answer full → LargeAfterFull full
      → LargeAfterFirst m size place attempt new
  large_first_full m none answer full c made =
      passed_on (has_room_in Large m.layout size) (Placed m) (Full m) none (answer, full, c, made)

  -- a place after it
  pub large_full_places : (m : Machine) → has_room_in Large m.layout size ≡ true
      → RoomedIn Large m size place attempt new → LargeAfterFull m
  large_full_places m =
      chosen (has_room_in Large m.layout size) (Placed m)
      (MatchBool (allows m (segment_for m size)) (TakesLarge m) (FindsNone m))

  -- none, and the limit allows a segment more
  pub large_full_acquires : (m : Machine) → has_room_in Large m.layout size ≡ false
      → allows m (segment_for m size) ≡ true → TakesLarge m → LargeAfterFull m
  large_full_acquires m none may made =
      passed_on (has_room_in Large m.layout size) (Placed m)
      (MatchBool (allows m (segment_for m size)) (TakesLarge m) (FindsNone m)) none
      (chosen (allows m (segment_for m size)) (TakesLarge m) (FindsNone m) may made)

  -- none, and it doesn't
  pub large_full_none : (m : Machine) → has_room_in Large m.layout size ≡ false
      → allows m (segment_for m size) ≡ false → attempt ≡ out_of_room → new ≡ m → LargeAfterFull m
  large_full_none m none barred is same =
      passed_on (has_room_in Large m.layout size) (Placed m)
      (MatchBool (allows m (segment_for m size)) (TakesLarge m) (FindsNone m)) none
      (passed_on (allows m (segment_for m size)) (TakesLarge m) (FindsNone m) barred (is, same))

  -- ---- what it may come to

  -- What holds of a machine that stays, of one in which the size has a place and of one that has it in a new segment,
  -- and goes back over a collection, holds of all that the ladder comes to.
  module _ (Comes : Machine → Type 0) (stays : (m : Machine) → new ≡ m → Comes m)
      (places : (m : Machine) (layout : Layout) → IsPlacedIn Large m.layout size place layout
      → new ≡ with_layout m layout → Comes m)
      (acquires : (m : Machine) (layout : Layout) → allows m (segment_for m size) ≡ true
      → IsPlacedIn Large (with_segment m.layout Large (segment_for m size)) size place layout
      → new ≡ with_layout m layout → Comes m)
      (collects : (m : Machine) (g : ℕ) (how : How) (answer : Collected) (mid : Machine) → Collects m g how answer mid
      → Comes mid → Comes m)
    where
      -- by a place
      by_place : (m : Machine) → Placed m → Comes m
      by_place m (is, layout, placed, same) = places m layout placed same

      -- by a new segment
      by_segment : (m : Machine) → allows m (segment_for m size) ≡ true → TakesLarge m → Comes m
      by_segment m allowed (inl (is, layout, placed, same)) = acquires m layout allowed placed same
      by_segment m allowed (inr (is, same)) = stays m same

      -- after the full compacting collection
      after_full : (m : Machine) → LargeAfterFull m → Comes m
      after_full m h =
          let may = allows m (segment_for m size) in
          either (has_room_in Large m.layout size) (Placed m) (MatchBool may (TakesLarge m) (FindsNone m)) h
          (λ e. by_place m)
          (λ e more. either may (TakesLarge m) (FindsNone m) more (λ f. by_segment m f) (λ f same. stays m same.1))

      -- by that collection
      fully : (m : Machine) → Full m → Comes m
      fully m (answer, full, c, more) = collects m 2 Compact answer full c (after_full full more)

      -- after the first collection
      after_first : (m : Machine) → LargeAfterFirst m size place attempt new → Comes m
      after_first m h =
          either (has_room_in Large m.layout size) (Placed m) (Full m) h (λ e. by_place m) (λ e. fully m)

      -- by that collection
      firstly : (m : Machine) → First m → Comes m
      firstly m (answer, first, c, more) = collects m 2 Decide answer first c (after_first first more)

      -- by the whole ladder
      pub large_comes_by : (m : Machine) → PlacesLarge m size place attempt new → Comes m
      large_comes_by m h =
          either (spare m) (Placed m) (Collecting m) h (λ e. by_place m)
          (λ e c. either_option (lowest_in_step m) (First m) (Waits m) c (firstly m) (λ k same. stays m same.1))
