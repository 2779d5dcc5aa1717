-- What making room and collections leave of the objects of generation 2, where a background collection runs afterwards.
use Rattle.std.proofs.Common.{◌≡◌, ℕ, ◌+◌, ◌<◌, ◌≤◌, ◌⊎◌, inl, inr, refl, sym, ap, subst, ◌∙◌, arith, Bool, true, false}
use Rattle.std.proofs.Common.{◌==◌, ◌&&◌, nat_le, nat_lt, if◌then◌else◌, Option, None}
use Rattle.std.specs.Prelude.{is_some, IsTrue, MatchOption}
use Rattle.std.specs.Bool.{MatchBool}
use Rattle.std.proofs.lemmas.Bool.{cases_lt, eq-eqb, false≢true}
use Rattle.clr_types.specs.Rising.{IsIn}
use Rattle.clr_types.specs.Segments.{Layout, generation}
use Rattle.clr_types.specs.declared.segment.SegKind.{SegKind}
use Rattle.clr_types.specs.declared.segment.SegKind.TheVariants.{Large, Pinned}
use Rattle.clr_types.proofs.ChangedLists.{rising-distinct}
use Rattle.clr_types.proofs.SortedLists.{same_by_key}
use Rattle.clr_model.specs.declared.How.{How}
use Rattle.clr_model.specs.declared.How.TheVariants.{Compact, Decide, Fit, Sweep}
use Rattle.clr_model.specs.declared.Collected.{Collected}
use Rattle.clr_model.specs.Machine.{Machine, Marking, Object}
use Rattle.clr_model.specs.Lookups.{lowest_in_step}
use Rattle.clr_model.specs.Collection.{generation_to_collect, marking_after, Collects, EndsBackground, SlidesIf}
use Rattle.clr_model.specs.Allocation.{Attempt, waits, out_of_memory, out_of_room, own_fits, has_room, has_room_in}
use Rattle.clr_model.specs.Allocation.{roomed, allows, sealed, segment_for, with_layout, with_segment, LargeAfterFirst}
use Rattle.clr_model.specs.Allocation.{MakesRoom, PinnedAfterFull, PlacesLarge, PlacesPinned, RoomedByRefill, RoomedIn}
use Rattle.clr_model.specs.Allocation.{RoomedOrAcquired, SmallAfterFirst, SmallAfterFull, SmallByCollection}
use Rattle.clr_model.specs.Lawful.{IsLawful}
use Rattle.clr_model.specs.Laws.{IsUsual}
use Rattle.clr_model.proofs.SmallLadder.{either, either_option}
use Rattle.clr_background.specs.Laws.{StaysPut}
use Rattle.clr_background.proofs.CarriedOver.{none_after_full}
use Rattle.clr_background.proofs.OlderObjects.{older_place, older_put}

-- each object of generation 2 is in its place, and nothing else has its name
pub record LeavesOld (m new : Machine) : Type 0 where
  pub puts : (o : Object) → IsIn o m.objects → 1 < generation m.layout o.place → StaysPut new o
  pub places : (p o : Object) → IsIn p new.objects → IsIn o m.objects → 1 < generation m.layout o.place
      → p.name ≡ o.name → p.place ≡ o.place

-- so it is where one runs
abbrev pub LeavesOldWhile : Machine → Machine → Type 0
LeavesOldWhile m new = IsTrue (is_some new.background) → LeavesOld m new

pub put_itself : (new : Machine) (o : Object) → IsIn o new.objects → StaysPut new o
put_itself new o i = record { object = o; present = i; name = refl; place = refl; type = refl; len = refl }

-- the same objects
pub same_leave : (m new : Machine) → IsLawful m → new.objects ≡ m.objects → LeavesOld m new
same_leave m new h same = record {
  puts = λ o i above. put_itself new o (subst (IsIn o) (sym same) i);
  places = λ p o j i above name.
      ap (λ (w : Object). w.place) (same_by_key (λ (w : Object). w.name) m.objects p o
      (rising-distinct (λ (w : Object). w.name) m.objects h.names_rise) (subst (IsIn p) same j) i name);
}

pub leaves_after : (m mid new : Machine) → LeavesOld m mid → new.objects ≡ mid.objects → LeavesOld m new
leaves_after m mid new l same = record {
  puts = λ o i above. let s = l.puts o i above in
      record {
        object = s.object;
        present = subst (IsIn s.object) (sym same) s.present;
        name = s.name;
        place = s.place;
        type = s.type;
        len = s.len;
      };
  places = λ p o j i above name. l.places p o (subst (IsIn p) same j) i above name;
}

none_runs : (r : Option Marking) → r ≡ None → IsTrue (is_some r) → ⊥
none_runs r e t = false≢true (sym (ap is_some e) ∙ t)

-- ---- collections

usual_at_most : (g : ℕ) (how : How) → IsUsual g how → g ≤ 2
usual_at_most g Decide least = least
usual_at_most g Compact least = least
usual_at_most g Sweep least = least
usual_at_most g Fit one = omega (arith, one)

slid_marking : (slides : Bool) (m new : Machine) → SlidesIf slides m new → new.background ≡ m.background
slid_marking true m new (moves, s) = ap (λ (w : Machine). w.background) s.state
slid_marking false m new same = ap (λ (w : Machine). w.background) same

-- a full one ends a background collection
full_ends : (m : Machine) (g : ℕ) (how : How) (answer : Collected) (new : Machine) → Collects m g how answer new
    → (g == 2) ≡ true → new.background ≡ None
full_ends m g how answer new c full =
    ap (λ (w : Machine). w.background) c.ends
    ∙ slid_marking (m.compacts_large && (g == 2)) c.collected c.slid c.slides
    ∙ ap (λ (w : Machine). w.background) c.collects.state
    ∙ ap (λ b. marking_after b m.background) full ∙ none_after_full m.background

-- and so does the last pause
pub last_pause_ends : (m : Machine) (marking : Marking) (answer : Collected) (new : Machine)
    → EndsBackground m marking answer new → new.background ≡ None
last_pause_ends m marking answer new c =
    ap (λ (w : Machine). w.background) c.ends ∙ ap (λ (w : Machine). w.background) c.collects.state
    ∙ none_after_full m.background

-- any other leaves old objects
pub collection_leaves : (m : Machine) (g : ℕ) (how : How) (answer : Collected) (new : Machine) → IsLawful m
    → IsUsual g how → Collects m g how answer new → LeavesOldWhile m new
collection_leaves m g how answer new h usual c runs = go (cases_lt g 2)
  where
    go : (g < 2) ⊎ (2 ≤ g) → LeavesOld m new
    go (inl young) = record {
      puts = λ o i above. older_put m h g (omega arith) how usual answer new c o i (omega arith);
      places = λ p o j i above name.
          older_place m h g (omega arith) how usual answer new c p o j i (omega arith) name;
    }
    go (inr old) =
        let most = usual_at_most g how usual in
        absurd (none_runs new.background
        (full_ends m g how answer new c (eq-eqb g 2 (omega (arith, most, old)))) runs)

pub last_pause_leaves : (m : Machine) (marking : Marking) (answer : Collected) (new : Machine)
    → EndsBackground m marking answer new → LeavesOldWhile m new
last_pause_leaves m marking answer new c runs =
    absurd (none_runs new.background (last_pause_ends m marking answer new c) runs)

-- ---- ladders

-- objects and the marking are as they were
record KeepsAll (m new : Machine) : Type 0 where
  pub objects : new.objects ≡ m.objects
  pub background : new.background ≡ m.background

-- or no background collection runs any more
abbrev KeepsOrEnds : Machine → Machine → Type 0
KeepsOrEnds m new = KeepsAll m new ⊎ (new.background ≡ None)

same_keeps : (m new : Machine) → new ≡ m → KeepsOrEnds m new
same_keeps m new same = inl (record {
  objects = ap (λ (w : Machine). w.objects) same;
  background = ap (λ (w : Machine). w.background) same;
})

relaid_keeps : (m new : Machine) (layout : Layout) → new ≡ with_layout m layout → KeepsOrEnds m new
relaid_keeps m new layout same = inl (record {
  objects = ap (λ (w : Machine). w.objects) same;
  background = ap (λ (w : Machine). w.background) same;
})

ended_stays : (m new : Machine) → m.background ≡ None → KeepsOrEnds m new → new.background ≡ None
ended_stays m new e (inl k) = k.background ∙ e
ended_stays m new e (inr none) = none

keeps_leave : (m new : Machine) → IsLawful m → KeepsOrEnds m new → LeavesOldWhile m new
keeps_leave m new h (inl k) runs = same_leave m new h k.objects
keeps_leave m new h (inr none) runs = absurd (none_runs new.background none runs)

module _ (size place : ℕ) (attempt : Attempt) (new : Machine) where
  -- a place, a segment more, or what is left to do
  tries : (kind : SegKind) (m : Machine) (otherwise : Type 0) → (otherwise → KeepsOrEnds m new)
      → RoomedOrAcquired kind m size place attempt new otherwise → KeepsOrEnds m new
  tries kind m otherwise left h =
      either (has_room_in kind m.layout size) (RoomedIn kind m size place attempt new)
      (MatchBool (allows m (segment_for m size)) Takes otherwise) h
      (λ e placed. relaid_keeps m new placed.1 placed.3)
      (λ e more. either (allows m (segment_for m size)) Takes otherwise more (λ f. takes) (λ f. left))
    where
      Takes : Type 0
      Takes =
          RoomedIn kind (with_layout m (with_segment m.layout kind (segment_for m size))) size place attempt new
          ⊎ ((attempt ≡ out_of_memory) × (new ≡ m))

      takes : Takes → KeepsOrEnds m new
      takes (inl placed) = relaid_keeps m new placed.1 placed.3
      takes (inr (is, same)) = same_keeps m new same

  -- the full compacting collection of a large or a pinned object, and the first two steps again
  after_full : (kind : SegKind) (m full : Machine) (answer : Collected) → Collects m 2 Compact answer full
      → RoomedOrAcquired kind full size place attempt new ((attempt ≡ out_of_room) × (new ≡ full)) → KeepsOrEnds m new
  after_full kind m full answer c more =
      inr (ended_stays full new (full_ends m 2 Compact answer full c refl)
      (tries kind full ((attempt ≡ out_of_room) × (new ≡ full)) (λ same. same_keeps full new same.1) more))

  pinned_keeps : (m : Machine) → PlacesPinned m size place attempt new → KeepsOrEnds m new
  pinned_keeps m =
      tries Pinned m
      (MatchOption (lowest_in_step m) (PinnedAfterFull m size place attempt new) (λ k. (attempt ≡ waits k) × (new ≡ m)))
      (λ h. either_option (lowest_in_step m) (PinnedAfterFull m size place attempt new)
      (λ k. (attempt ≡ waits k) × (new ≡ m)) h full (λ k same. same_keeps m new same.1))
    where
      full : PinnedAfterFull m size place attempt new → KeepsOrEnds m new
      full (answer, after, c, more) = after_full Pinned m after answer c more

  large_keeps : (m : Machine) → PlacesLarge m size place attempt new → KeepsOrEnds m new
  large_keeps m h =
      either (nat_le (m.sums.spent_large + size) m.options.bl && has_room_in Large m.layout size)
      (RoomedIn Large m size place attempt new) (MatchOption (lowest_in_step m) First Waits) h
      (λ e placed. relaid_keeps m new placed.1 placed.3)
      (λ e c. either_option (lowest_in_step m) First Waits c firstly (λ k same. same_keeps m new same.1))
    where
      First : Type 0
      First =
          (answer : Collected) × (first : Machine) × Collects m 2 Decide answer first
          × LargeAfterFirst first size place attempt new

      Waits : ℕ → Type 0
      Waits k = (attempt ≡ waits k) × (new ≡ m)

      Full : Machine → Type 0
      Full w =
          (answer : Collected) × (full : Machine) × Collects w 2 Compact answer full
          × RoomedOrAcquired Large full size place attempt new ((attempt ≡ out_of_room) × (new ≡ full))

      after : (first : Machine) → LargeAfterFirst first size place attempt new → KeepsOrEnds first new
      after first more =
          either (has_room_in Large first.layout size) (RoomedIn Large first size place attempt new) (Full first) more
          (λ e placed. relaid_keeps first new placed.1 placed.3)
          (λ e next. after_full Large first next.1 next.0 next.2 next.3)

      firstly : First → KeepsOrEnds m new
      firstly (answer, first, c, more) =
          inr (ended_stays first new (full_ends m 2 Decide answer first c refl) (after first more))

module _ (t size : ℕ) (attempt : Attempt) (new : Machine) where
  refill_keeps : (m : Machine) → RoomedByRefill m t size attempt new → KeepsOrEnds m new
  refill_keeps m (is, layout, refill, same) = relaid_keeps m new layout same

  small_full : (m : Machine) → SmallAfterFull m t size attempt new → KeepsOrEnds m new
  small_full m h =
      either (has_room m.layout size) (RoomedByRefill m t size attempt new)
      (MatchBool (allows m m.options.segment) Takes ((attempt ≡ out_of_room) × (new ≡ m))) h
      (λ e. refill_keeps m)
      (λ e more. either (allows m m.options.segment) Takes ((attempt ≡ out_of_room) × (new ≡ m)) more (λ f. takes)
      (λ f same. same_keeps m new same.1))
    where
      Takes : Type 0
      Takes =
          RoomedByRefill (with_layout m (sealed m.layout m.options.segment)) t size attempt new
          ⊎ ((attempt ≡ out_of_memory) × (new ≡ m))

      takes : Takes → KeepsOrEnds m new
      takes (inl (is, layout, refill, same)) = relaid_keeps m new layout same
      takes (inr (is, same)) = same_keeps m new same

  small_first : (m : Machine) → SmallAfterFirst m t size attempt new → KeepsOrEnds m new
  small_first m h =
      either (has_room m.layout size) (RoomedByRefill m t size attempt new) Full h (λ e. refill_keeps m)
      (λ e next. inr (ended_stays next.1 new (full_ends m 2 Compact next.0 next.1 next.2 refl)
      (small_full next.1 next.3)))
    where
      Full : Type 0
      Full =
          (answer : Collected) × (full : Machine) × Collects m 2 Compact answer full
          × SmallAfterFull full t size attempt new

  -- the first collection of a small object may be a young one
  by_collection : (m : Machine) → IsLawful m → SmallByCollection m t size attempt new → LeavesOldWhile m new
  by_collection m h (answer, young, c, more) runs = go (small_first young more)
    where
      chosen : (a b : Bool) → (if a then (if b then 2 else 1) else 0) ≤ 2
      chosen true true = omega arith
      chosen true false = omega arith
      chosen false b = omega arith

      least : generation_to_collect m ≤ 2
      least = chosen (nat_lt m.options.b1 m.sums.promoted1) (nat_lt m.options.b2 m.sums.promoted2)

      go : KeepsOrEnds young new → LeavesOld m new
      go (inl k) =
          leaves_after m young new (collection_leaves m (generation_to_collect m) Decide answer young h least c
          (subst (λ r. IsTrue (is_some r)) k.background runs)) k.objects
      go (inr none) = absurd (none_runs new.background none runs)

  pub room_leaves : (m : Machine) → IsLawful m → MakesRoom m t size attempt new → LeavesOldWhile m new
  room_leaves m lawful h =
      either (own_fits m.layout t size) ((attempt ≡ roomed) × (new ≡ m)) (MatchBool spare Refill Collecting) h
      (λ e same. keeps_leave m new lawful (same_keeps m new same.1))
      (λ e more. either spare Refill Collecting more (λ f r. keeps_leave m new lawful (refill_keeps m r))
      (λ f rest. either_option (lowest_in_step m) (SmallByCollection m t size attempt new) Waits rest
      (by_collection m lawful) (λ k same. keeps_leave m new lawful (same_keeps m new same.1))))
    where
      spare : Bool
      spare = nat_le (m.sums.spent0 + size) m.options.b0 && has_room m.layout size

      Refill : Type 0
      Refill = RoomedByRefill m t size attempt new

      Waits : ℕ → Type 0
      Waits k = (attempt ≡ waits k) × (new ≡ m)

      Collecting : Type 0
      Collecting = MatchOption (lowest_in_step m) (SmallByCollection m t size attempt new) Waits

pub large_leaves : (size place : ℕ) (attempt : Attempt) (new m : Machine) → IsLawful m
    → PlacesLarge m size place attempt new → LeavesOldWhile m new
large_leaves size place attempt new m h placed = keeps_leave m new h (large_keeps size place attempt new m placed)

pub pinned_leaves : (size place : ℕ) (attempt : Attempt) (new m : Machine) → IsLawful m
    → PlacesPinned m size place attempt new → LeavesOldWhile m new
pinned_leaves size place attempt new m h placed = keeps_leave m new h (pinned_keeps size place attempt new m placed)
