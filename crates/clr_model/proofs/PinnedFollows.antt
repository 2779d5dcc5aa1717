-- The ladder of a pinned object on what is seen: what it comes to there, it comes to in each machine that is seen so.
use Rattle.std.proofs.Common.{◌≡◌, ℕ, refl, sym, ap, ◌∙◌, arith, true, false, Some, None, inl, inr}
use Rattle.clr_types.specs.Segments.{Layout}
use Rattle.clr_types.specs.declared.segment.SegKind.TheVariants.{Pinned}
use Rattle.clr_model.specs.declared.How.TheVariants.{Compact}
use Rattle.clr_model.specs.Machine.{Machine}
use Rattle.clr_model.specs.Lookups.{lowest_in_step}
use Rattle.clr_model.specs.Allocation.{Attempt, roomed, waits, out_of_room, out_of_memory, has_room_in, IsPlacedIn}
use Rattle.clr_model.specs.Allocation.{with_layout, segment_for, allows, PlacesPinned, RoomedOrAcquired}
use Rattle.clr_model.specs.Run.{StandsFor}
use Rattle.clr_model.specs.RoomFollows.{HasCollected}
use Rattle.clr_model.proofs.CollectFollows.{lowest_in_step-picture}
use Rattle.clr_model.proofs.RoomFollows.{of_picture, IsLeft, collection_left, LeavesParts, relaid_leaves}
use Rattle.clr_model.proofs.RoomFollows.{collected_leaves}
use Rattle.clr_model.specs.PinnedFollows.{acquired_for, ComesToPinned, FollowsPinnedFails, FollowsToPinned}
use Rattle.clr_model.proofs.KindAdded.{acquired_lawful}
use Rattle.clr_model.proofs.PinnedLadder.{FindsNone, pinned_acquires, pinned_collects, pinned_comes_by, pinned_else}
use Rattle.clr_model.proofs.PinnedLadder.{pinned_places, pinned_waits}

-- ---- from each machine to what is seen, and back

-- what each machine that is stood for comes to is what is said of what is seen
pub follows_to_pinned : (old : Machine) (size : ℕ) (new : Machine)
    → ((m : Machine) → StandsFor old m → (ready : Machine) × ComesToPinned m size ready × StandsFor new ready)
    → FollowsToPinned old size new
unfolding FollowsToPinned
follows_to_pinned old size new f = f

-- and may be used of each
pub to_pinned_followed : (old : Machine) (size : ℕ) (new : Machine) → FollowsToPinned old size new → (m : Machine)
    → StandsFor old m → (ready : Machine) × ComesToPinned m size ready × StandsFor new ready
unfolding FollowsToPinned
to_pinned_followed old size new f = f

-- the same where no place is found
pub follows_pinned_fails : (old : Machine) (size : ℕ) (attempt : Attempt) (new : Machine)
    → ((m : Machine) → StandsFor old m
    → (ready : Machine) × ((place : ℕ) → PlacesPinned m size place attempt ready) × StandsFor new ready)
    → FollowsPinnedFails old size attempt new
unfolding FollowsPinnedFails
follows_pinned_fails old size attempt new f = f

-- and may be used of each
pub pinned_fails_followed : (old : Machine) (size : ℕ) (attempt : Attempt) (new : Machine)
    → FollowsPinnedFails old size attempt new → (m : Machine) → StandsFor old m
    → (ready : Machine) × ((place : ℕ) → PlacesPinned m size place attempt ready) × StandsFor new ready
unfolding FollowsPinnedFails
pinned_fails_followed old size attempt new f = f

-- ---- the ladder

-- what is seen with one more stands for a machine with one more
acquired_stands : (size : ℕ) (s m : Machine) → StandsFor s m → allows m (segment_for m size) ≡ true
    → StandsFor (acquired_for size s) (acquired_for size m)
acquired_stands size s m stands may = record {
  lawful = record { lawful = acquired_lawful Pinned refl m stands.lawful.lawful size may; born = stands.lawful.born };
  seen_is = ap (acquired_for size) stands.seen_is;
}

module _ (s : Machine) (size : ℕ) where
  -- a place
  pub pinned_place : has_room_in Pinned s.layout size ≡ true → FollowsToPinned s size s
  pinned_place room =
      follows_to_pinned s size s
      (λ m stands. (
        m,
        λ place layout placed. pinned_places size place roomed (with_layout m layout) _ m
            (of_picture (λ w. has_room_in Pinned w.layout size ≡ true) s m stands room) (refl, layout, placed, refl),
        stands,
      ))

  module _ (none : has_room_in Pinned s.layout size ≡ false) where
    -- nor is there one in a machine that is seen so
    none_of : (m : Machine) → StandsFor s m → has_room_in Pinned m.layout size ≡ false
    none_of m stands = of_picture (λ w. has_room_in Pinned w.layout size ≡ false) s m stands none

    module _ (may : allows s (segment_for s size) ≡ true) where
      -- and it allows a segment more
      may_of : (m : Machine) → StandsFor s m → allows m (segment_for m size) ≡ true
      may_of m stands = of_picture (λ w. allows w (segment_for w size) ≡ true) s m stands may

      -- else a new segment, where the limit allows one, and a place in that
      pub pinned_acquired : FollowsToPinned s size (acquired_for size s)
      pinned_acquired =
          follows_to_pinned s size (acquired_for size s)
          (λ m stands. (
            acquired_for size m,
            λ place layout placed. pinned_acquires size place roomed (with_layout m layout) _ m (none_of m stands)
                (may_of m stands) (inl (refl, layout, placed, refl)),
            acquired_stands size s m stands (may_of m stands),
          ))

      -- or there is no memory for it
      pub pinned_lacks : FollowsPinnedFails s size out_of_memory s
      pinned_lacks =
          follows_pinned_fails s size out_of_memory s
          (λ m stands. (
            m,
            λ place. pinned_acquires size place out_of_memory m _ m (none_of m stands) (may_of m stands)
                (inr (refl, refl)),
            stands,
          ))

    module _ (barred : allows s (segment_for s size) ≡ false) where
      barred_of : (m : Machine) → StandsFor s m → allows m (segment_for m size) ≡ false
      barred_of m stands = of_picture (λ w. allows w (segment_for w size) ≡ false) s m stands barred

      -- else a wait for a thread that is in mid-step
      pub pinned_wait : (k : ℕ) → lowest_in_step s ≡ Some k → FollowsPinnedFails s size (waits k) s
      pinned_wait k busy =
          follows_pinned_fails s size (waits k) s
          (λ m stands. (
            m,
            λ place. pinned_waits size place (waits k) m m (none_of m stands) (barred_of m stands) k
                (sym (lowest_in_step-picture m) ∙ of_picture (λ w. lowest_in_step w ≡ Some k) s m stands busy) refl
                refl,
            stands,
          ))

      module _ (idle : lowest_in_step s ≡ None) (s1 : Machine) (full : HasCollected s 2 Compact s1) where
        -- Else a full compacting collection, and what follows it. What is open there, as the place, is open still.
        by_full : (attempt : Attempt) (Open : Machine → Type 0) (at : (w : Machine) → Open w → ℕ)
            (to : (w : Machine) → Open w → Machine) (new : Machine)
            → ((m : Machine) → IsLeft s1 m
            → (ready : Machine) × ((x : Open ready) → RoomedOrAcquired Pinned m size (at ready x) attempt (to ready x)
            (FindsNone size (at ready x) attempt (to ready x) m)) × StandsFor new ready)
            → (m : Machine) → StandsFor s m
            → (ready : Machine) × ((x : Open ready) → PlacesPinned m size (at ready x) attempt (to ready x))
            × StandsFor new ready
        by_full attempt Open at to new more m stands =
            let still : lowest_in_step m ≡ None =
            sym (lowest_in_step-picture m) ∙ of_picture (λ w. lowest_in_step w ≡ None) s m stands idle in
            let (answer, mid, done, left) = collection_left s 2 Compact s1 (omega arith) full m stands still in
            let (ready, made, shown) = more mid left in (
              ready,
              λ x. pinned_collects size (at ready x) attempt (to ready x) m (none_of m stands) (barred_of m stands)
                  still answer mid done (made x),
              shown,
            )

        -- a place that the machine has for the size
        abbrev HasPlace : Machine → Type 0
        HasPlace m = (place : ℕ) × (layout : Layout) × IsPlacedIn Pinned m.layout size place layout

        -- to a place after it
        full_to_pinned : (new : Machine)
            → ((m : Machine) → IsLeft s1 m
            → (ready : Machine) × ((x : HasPlace ready) → RoomedOrAcquired Pinned m size x.0 roomed
            (with_layout ready x.1) (FindsNone size x.0 roomed (with_layout ready x.1) m)) × StandsFor new ready)
            → FollowsToPinned s size new
        full_to_pinned new more =
            follows_to_pinned s size new
            (λ m stands.
            let (ready, made, shown) =
            by_full roomed HasPlace (λ w x. x.0) (λ w x. with_layout w x.1) new more m stands in
            (ready, λ place layout placed. made (place, layout, placed), shown))

        -- or to none
        full_fails : (attempt : Attempt)
            → ((m : Machine) → IsLeft s1 m → (place : ℕ)
            → RoomedOrAcquired Pinned m size place attempt m (FindsNone size place attempt m m))
            → FollowsPinnedFails s size attempt s1
        full_fails attempt more =
            follows_pinned_fails s size attempt s1
            (by_full attempt (λ w. ℕ) (λ w place. place) (λ w place. w) s1
            (λ m left. (m, more m left, left.stands)))

        -- where there is one then
        pub pinned_full : has_room_in Pinned s1.layout size ≡ true → FollowsToPinned s size s1
        pinned_full room =
            full_to_pinned s1
            (λ m left. (
              m,
              λ x. pinned_places size x.0 roomed (with_layout m x.1) _ m
                  (of_picture (λ w. has_room_in Pinned w.layout size ≡ true) s1 m left.stands room)
                  (refl, x.1, x.2, refl),
              left.stands,
            ))

        module _ (still_none : has_room_in Pinned s1.layout size ≡ false) where
          none_left : (m : Machine) → StandsFor s1 m → has_room_in Pinned m.layout size ≡ false
          none_left m stands = of_picture (λ w. has_room_in Pinned w.layout size ≡ false) s1 m stands still_none

          -- else there is no room, where the limit allows no segment more
          pub pinned_none : allows s1 (segment_for s1 size) ≡ false → FollowsPinnedFails s size out_of_room s1
          pinned_none over =
              full_fails out_of_room
              (λ m left place. pinned_else size place out_of_room m _ m (none_left m left.stands)
              (of_picture (λ w. allows w (segment_for w size) ≡ false) s1 m left.stands over) (refl, refl))

          module _ (may : allows s1 (segment_for s1 size) ≡ true) where
            may_left : (m : Machine) → StandsFor s1 m → allows m (segment_for m size) ≡ true
            may_left m stands = of_picture (λ w. allows w (segment_for w size) ≡ true) s1 m stands may

            -- where it allows one, a new segment, and a place in that
            pub pinned_full_acquired : FollowsToPinned s size (acquired_for size s1)
            pinned_full_acquired =
                full_to_pinned (acquired_for size s1)
                (λ m left. (
                  acquired_for size m,
                  λ x. pinned_acquires size x.0 roomed (with_layout m x.1) _ m (none_left m left.stands)
                      (may_left m left.stands) (inl (refl, x.1, x.2, refl)),
                  acquired_stands size s1 m left.stands (may_left m left.stands),
                ))

            -- or there is no memory for it
            pub pinned_full_lacks : FollowsPinnedFails s size out_of_memory s1
            pinned_full_lacks =
                full_fails out_of_memory
                (λ m left place. pinned_acquires size place out_of_memory m _ m (none_left m left.stands)
                (may_left m left.stands) (inr (refl, refl)))

-- ---- what the ladder leaves

-- it leaves types, options, what threads have begun, and who holds the others
pub pinned_leaves : (size place : ℕ) (attempt : Attempt) (new m : Machine) → PlacesPinned m size place attempt new
    → LeavesParts m new
pinned_leaves size place attempt new =
    pinned_comes_by size place attempt new (λ m. LeavesParts m new) (λ m same. relaid_leaves m new m.layout same)
    (λ m layout placed same. relaid_leaves m new layout same)
    (λ m layout allowed placed same. relaid_leaves m new layout same)
    (λ m g how answer mid c. collected_leaves m new g how answer mid c)
