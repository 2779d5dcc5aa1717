-- The ladder of a small object: how each of its steps is taken, and what holds of all that it may come to.
use Rattle.std.proofs.Common.{◌≡◌, ℕ, ◌+◌, inl, inr, refl, subst, sym, ◌⊎◌, Bool, true, false, ◌&&◌, nat_le}
use Rattle.std.proofs.Common.{Option, None, Some}
use Rattle.std.specs.Prelude.{MatchOption}
use Rattle.std.specs.Bool.{MatchBool}
use Rattle.clr_types.specs.Segments.{Layout}
use Rattle.clr_model.specs.declared.How.{How}
use Rattle.clr_model.specs.declared.How.TheVariants.{Decide, Compact}
use Rattle.clr_model.specs.declared.Collected.{Collected}
use Rattle.clr_model.specs.Machine.{Machine}
use Rattle.clr_model.specs.Lookups.{lowest_in_step}
use Rattle.clr_model.specs.Collection.{Collects, generation_to_collect}
use Rattle.clr_model.specs.Allocation.{Attempt, roomed, waits, out_of_room, out_of_memory, has_room, own_fits}
use Rattle.clr_model.specs.Allocation.{IsRefilled, with_layout, sealed, allows, RoomedByRefill, SmallAfterFull}
use Rattle.clr_model.specs.Allocation.{SmallAfterFirst, SmallByCollection, MakesRoom}

-- ---- two cases

-- a proof for each case
pub either : {R : Type 0} (b : Bool) (P Q : Type 0) → MatchBool b P Q → (b ≡ true → P → R) → (b ≡ false → Q → R) → R
either true P Q h yes_then no_then = yes_then refl h
either false P Q h yes_then no_then = no_then refl h

-- the same of an option
pub either_option : {R X : Type 0} (o : Option X) (P : Type 0) (Q : X → Type 0) → MatchOption o P Q → (P → R)
    → ((x : X) → Q x → R) → R
either_option None P Q h none some = none h
either_option (Some x) P Q h none some = some x h

-- where the test is true, the first case is enough
pub chosen : (b : Bool) (P Q : Type 0) → b ≡ true → P → MatchBool b P Q
chosen true P Q e h = h
chosen false P Q e h = absurd cc

-- and where it is false, the second
pub passed_on : (b : Bool) (P Q : Type 0) → b ≡ false → Q → MatchBool b P Q
passed_on true P Q e h = absurd cc
passed_on false P Q e h = h

module _ (t size : ℕ) (attempt : Attempt) (new : Machine) where
  -- ---- the rungs

  -- the budget and the heap have room
  abbrev spare : Machine → Bool
  spare m = nat_le (m.sums.spent0 + size) m.options.b0 && has_room m.layout size

  -- the machine stays, and there is room, or a thread is waited for, or there is none
  abbrev Stays : Machine → Type 0
  Stays m = (attempt ≡ roomed) × (new ≡ m)

  abbrev Waits : Machine → ℕ → Type 0
  Waits m k = (attempt ≡ waits k) × (new ≡ m)

  abbrev FindsNone : Machine → Type 0
  FindsNone m = (attempt ≡ out_of_room) × (new ≡ m)

  -- a new segment, and a refill from that, or no memory for it
  abbrev pub TakesSegment : Machine → Type 0
  TakesSegment m =
      RoomedByRefill (with_layout m (sealed m.layout m.options.segment)) t size attempt new
      ⊎ ((attempt ≡ out_of_memory) × (new ≡ m))

  -- a full compacting collection, and what follows it
  abbrev Full : Machine → Type 0
  Full m =
      (answer : Collected) × (full : Machine) × Collects m 2 Compact answer full
      × SmallAfterFull full t size attempt new

  -- a wait, or the first collection
  abbrev Collecting : Machine → Type 0
  Collecting m = MatchOption (lowest_in_step m) (SmallByCollection m t size attempt new) (Waits m)

  -- ---- how a step is taken

  -- the size fits in the own context
  pub makes_own : (m : Machine) → own_fits m.layout t size ≡ true → attempt ≡ roomed → new ≡ m
      → MakesRoom m t size attempt new
  makes_own m own is same =
      chosen (own_fits m.layout t size) (Stays m)
      (MatchBool (spare m) (RoomedByRefill m t size attempt new) (Collecting m)) own (is, same)

  module _ (m : Machine) (own : own_fits m.layout t size ≡ false) where
    -- where the size doesn't fit there, the next steps decide
    lacks_own : MatchBool (spare m) (RoomedByRefill m t size attempt new) (Collecting m)
        → MakesRoom m t size attempt new
    lacks_own =
        passed_on (own_fits m.layout t size) (Stays m)
        (MatchBool (spare m) (RoomedByRefill m t size attempt new) (Collecting m)) own

    -- a refill within the budget
    pub makes_refill : nat_le (m.sums.spent0 + size) m.options.b0 ≡ true → has_room m.layout size ≡ true
        → RoomedByRefill m t size attempt new → MakesRoom m t size attempt new
    makes_refill within room refilled =
        lacks_own (chosen (spare m) (RoomedByRefill m t size attempt new) (Collecting m)
        (λ i. within i && room i) refilled)

    module _ (none : (nat_le (m.sums.spent0 + size) m.options.b0 && has_room m.layout size) ≡ false) where
      -- where there is none to spare, waits and collections decide
      lacks_spare : Collecting m → MakesRoom m t size attempt new
      lacks_spare collecting =
          lacks_own (passed_on (spare m) (RoomedByRefill m t size attempt new) (Collecting m) none collecting)

      -- a thread is in mid-step
      pub makes_wait : (k : ℕ) → lowest_in_step m ≡ Some k → attempt ≡ waits k → new ≡ m
          → MakesRoom m t size attempt new
      makes_wait k busy is same =
          lacks_spare (subst (λ (r : Option ℕ). MatchOption r (SmallByCollection m t size attempt new) (Waits m))
          (sym busy) (is, same))

      -- a collection
      pub makes_collection : lowest_in_step m ≡ None → SmallByCollection m t size attempt new
          → MakesRoom m t size attempt new
      makes_collection idle made =
          lacks_spare (subst (λ (r : Option ℕ). MatchOption r (SmallByCollection m t size attempt new) (Waits m))
          (sym idle) made)

  -- room after the first collection
  pub first_refill : (m : Machine) → has_room m.layout size ≡ true → RoomedByRefill m t size attempt new
      → SmallAfterFirst m t size attempt new
  first_refill m = chosen (has_room m.layout size) (RoomedByRefill m t size attempt new) (Full m)

  -- none: a full compacting collection
  pub first_full : (m : Machine) → has_room m.layout size ≡ false → (answer : Collected) (full : Machine)
      → Collects m 2 Compact answer full → SmallAfterFull full t size attempt new → SmallAfterFirst m t size attempt new
  first_full m none answer full c made =
      passed_on (has_room m.layout size) (RoomedByRefill m t size attempt new) (Full m) none (answer, full, c, made)

  -- room after it
  pub full_refill : (m : Machine) → has_room m.layout size ≡ true → RoomedByRefill m t size attempt new
      → SmallAfterFull m t size attempt new
  full_refill m =
      chosen (has_room m.layout size) (RoomedByRefill m t size attempt new)
      (MatchBool (allows m m.options.segment) (TakesSegment m) (FindsNone m))

  -- none, and the limit allows a segment more
  pub full_seals : (m : Machine) → has_room m.layout size ≡ false → allows m m.options.segment ≡ true
      → TakesSegment m → SmallAfterFull m t size attempt new
  full_seals m none may made =
      passed_on (has_room m.layout size) (RoomedByRefill m t size attempt new)
      (MatchBool (allows m m.options.segment) (TakesSegment m) (FindsNone m)) none
      (chosen (allows m m.options.segment) (TakesSegment m) (FindsNone m) may made)

  -- none, and it doesn't
  pub full_none : (m : Machine) → has_room m.layout size ≡ false → allows m m.options.segment ≡ false
      → attempt ≡ out_of_room → new ≡ m → SmallAfterFull m t size attempt new
  full_none m none barred is same =
      passed_on (has_room m.layout size) (RoomedByRefill m t size attempt new)
      (MatchBool (allows m m.options.segment) (TakesSegment m) (FindsNone m)) none
      (passed_on (allows m m.options.segment) (TakesSegment m) (FindsNone m) barred (is, same))

  -- ---- what it may come to

  -- What holds of a machine that stays, of one that a refill leaves and of one that a new segment and a refill leave,
  -- and goes back over a collection, holds of all that the ladder comes to.
  module _ (Comes : Machine → Type 0) (stays : (m : Machine) → new ≡ m → Comes m)
      (refills : (m : Machine) (layout : Layout) → IsRefilled m.layout t size layout → new ≡ with_layout m layout
      → Comes m)
      (acquires : (m : Machine) (layout : Layout) → allows m m.options.segment ≡ true
      → IsRefilled (sealed m.layout m.options.segment) t size layout → new ≡ with_layout m layout → Comes m)
      (collects : (m : Machine) (g : ℕ) (how : How) (answer : Collected) (mid : Machine) → Collects m g how answer mid
      → Comes mid → Comes m)
    where
      -- after a refill
      by_refill : (m : Machine) → RoomedByRefill m t size attempt new → Comes m
      by_refill m (is, layout, refill, same) = refills m layout refill same

      -- after a new segment
      by_seal : (m : Machine) → allows m m.options.segment ≡ true → TakesSegment m → Comes m
      by_seal m allowed (inl (is, layout, refill, same)) = acquires m layout allowed refill same
      by_seal m allowed (inr (is, same)) = stays m same

      -- after the full compacting collection
      after_full : (m : Machine) → SmallAfterFull m t size attempt new → Comes m
      after_full m h =
          let may = allows m m.options.segment in
          either (has_room m.layout size) (RoomedByRefill m t size attempt new)
          (MatchBool may (TakesSegment m) (FindsNone m)) h (λ e. by_refill m)
          (λ e more.
          either may (TakesSegment m) (FindsNone m) more
          (λ f. by_seal m f)
          (λ f same. stays m same.1))

      -- by that collection
      fully : (m : Machine) → Full m → Comes m
      fully m (answer, full, c, more) = collects m 2 Compact answer full c (after_full full more)

      -- after the first collection
      after_first : (m : Machine) → SmallAfterFirst m t size attempt new → Comes m
      after_first m h =
          either (has_room m.layout size) (RoomedByRefill m t size attempt new) (Full m) h (λ e. by_refill m)
          (λ e. fully m)

      -- by that collection
      by_collection : (m : Machine) → SmallByCollection m t size attempt new → Comes m
      by_collection m (answer, young, c, more) =
          collects m (generation_to_collect m) Decide answer young c (after_first young more)

      -- by the whole ladder
      pub comes_by : (m : Machine) → MakesRoom m t size attempt new → Comes m
      comes_by m h =
          either (own_fits m.layout t size) (Stays m)
          (MatchBool (spare m) (RoomedByRefill m t size attempt new) (Collecting m)) h (λ e same. stays m same.1)
          (λ e more.
          either (spare m) (RoomedByRefill m t size attempt new) (Collecting m) more (λ f. by_refill m)
          (λ f rest. either_option (lowest_in_step m) (SmallByCollection m t size attempt new) (Waits m) rest
          (by_collection m) (λ k same. stays m same.1)))
