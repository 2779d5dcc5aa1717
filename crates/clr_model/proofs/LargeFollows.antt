-- The ladder of a large object on what is seen: what it comes to there, it comes to in each machine that is seen so.
use Rattle.std.proofs.Common.{◌≡◌, ℕ, ◌+◌, ◌≤◌, List, refl, sym, ap, subst, ◌∙◌, arith, true, false, ◌&&◌, nat_le}
use Rattle.std.proofs.Common.{Option, Some, None, unwrap_or, inl, inr, is_some}
use Rattle.clr_types.specs.Types.{TypeRow, type_row, form_at, is_array, size_of}
use Rattle.clr_types.specs.Segments.{Layout}
use Rattle.clr_types.specs.declared.segment.SegKind.TheVariants.{Large}
use Rattle.clr_model.specs.declared.How.TheVariants.{Decide, Compact}
use Rattle.clr_model.specs.declared.Reply.TheVariants.{Place}
use Rattle.clr_model.specs.Machine.{Options, Machine}
use Rattle.clr_model.specs.Lookups.{lowest_in_step}
use Rattle.clr_model.specs.Updates.{born_at}
use Rattle.clr_model.specs.Picture.{picture}
use Rattle.clr_model.specs.Allocation.{Attempt, roomed, waits, out_of_room, out_of_memory, has_room_in, IsPlacedIn}
use Rattle.clr_model.specs.Allocation.{with_layout, with_segment, segment_for, allows, LargeAfterFirst, PlacesLarge}
use Rattle.clr_model.specs.Instructions.{Instruction, new_object}
use Rattle.clr_model.specs.Outcomes.{Outcome, answered}
use Rattle.clr_model.specs.Step.{Fails, with_entry_of, with_spent_large}
use Rattle.clr_model.specs.Run.{StandsFor, Follows}
use Rattle.clr_model.specs.RoomFollows.{HasCollected}
use Rattle.clr_model.specs.LargeFollows.{ComesToPlace, FollowsToPlace, FollowsLargeFails}
use Rattle.clr_model.proofs.Carried.{carried, follows}
use Rattle.clr_model.proofs.CollectFollows.{lowest_in_step-picture}
use Rattle.clr_model.proofs.Birth.{born_size, IsBirth}
use Rattle.clr_model.proofs.LargeBirth.{born_large, seen_at_place, large_stands}
use Rattle.clr_model.proofs.BirthLine.{MayBearLarge, asks_large, new_obeys_large}
use Rattle.clr_model.proofs.BirthFollows.{may_bear_large_of-picture, asked_birth}
use Rattle.clr_model.proofs.SegmentAdded.{acquired_lawful}
use Rattle.clr_model.proofs.RoomFollows.{of_picture, IsLeft, collection_left, LeavesParts, relaid_leaves}
use Rattle.clr_model.proofs.RoomFollows.{collected_leaves}
use Rattle.clr_model.proofs.LargeLadder.{LargeAfterFull, large_places, large_waits, large_collects, large_first_places}
use Rattle.clr_model.proofs.LargeLadder.{large_first_full, large_full_places, large_full_acquires, large_full_none}
use Rattle.clr_model.proofs.LargeLadder.{large_comes_by}

-- ---- from each machine to what is seen, and back

-- what each machine that is stood for comes to is what is said of what is seen
pub follows_to_place : (old : Machine) (size : ℕ) (new : Machine)
    → ((m : Machine) → StandsFor old m → (ready : Machine) × ComesToPlace m size ready × StandsFor new ready)
    → FollowsToPlace old size new
unfolding FollowsToPlace
follows_to_place old size new f = f

-- and may be used of each
pub to_place_followed : (old : Machine) (size : ℕ) (new : Machine) → FollowsToPlace old size new → (m : Machine)
    → StandsFor old m → (ready : Machine) × ComesToPlace m size ready × StandsFor new ready
unfolding FollowsToPlace
to_place_followed old size new f = f

-- the same where no place is found
pub follows_large_fails : (old : Machine) (size : ℕ) (attempt : Attempt) (new : Machine)
    → ((m : Machine) → StandsFor old m
    → (ready : Machine) × ((place : ℕ) → PlacesLarge m size place attempt ready) × StandsFor new ready)
    → FollowsLargeFails old size attempt new
unfolding FollowsLargeFails
follows_large_fails old size attempt new f = f

-- and may be used of each
pub large_fails_followed : (old : Machine) (size : ℕ) (attempt : Attempt) (new : Machine)
    → FollowsLargeFails old size attempt new → (m : Machine) → StandsFor old m
    → (ready : Machine) × ((place : ℕ) → PlacesLarge m size place attempt ready) × StandsFor new ready
unfolding FollowsLargeFails
large_fails_followed old size attempt new f = f

-- ---- the ladder

-- a place that the machine has for the size
abbrev HasPlace : ℕ → Machine → Type 0
HasPlace size m = (place : ℕ) × (layout : Layout) × IsPlacedIn Large m.layout size place layout

module _ (s : Machine) (size : ℕ) where
  -- a place within the budget
  pub place_within : (nat_le (s.sums.spent_large + size) s.options.bl && has_room_in Large s.layout size) ≡ true
      → FollowsToPlace s size s
  place_within spare =
      follows_to_place s size s
      (λ m stands. (
        m,
        λ place layout placed. large_places size place roomed (with_layout m layout) m
            (of_picture
            (λ w. (nat_le (w.sums.spent_large + size) w.options.bl && has_room_in Large w.layout size) ≡ true) s m
            stands spare) (refl, layout, placed, refl),
        stands,
      ))

  module _ (spare : (nat_le (s.sums.spent_large + size) s.options.bl && has_room_in Large s.layout size) ≡ false) where
    -- nor is there one in a machine that is seen so
    spare_of : (m : Machine) → StandsFor s m
        → (nat_le (m.sums.spent_large + size) m.options.bl && has_room_in Large m.layout size) ≡ false
    spare_of m stands =
        of_picture (λ w. (nat_le (w.sums.spent_large + size) w.options.bl && has_room_in Large w.layout size) ≡ false) s
        m stands spare

    -- else a wait for a thread that is in mid-step
    pub place_waits : (k : ℕ) → lowest_in_step s ≡ Some k → FollowsLargeFails s size (waits k) s
    place_waits k busy =
        follows_large_fails s size (waits k) s
        (λ m stands. (
          m,
          λ place. large_waits size place (waits k) m m (spare_of m stands) k
              (sym (lowest_in_step-picture m) ∙ of_picture (λ w. lowest_in_step w ≡ Some k) s m stands busy) refl refl,
          stands,
        ))

    module _ (idle : lowest_in_step s ≡ None) (s1 : Machine) (first : HasCollected s 2 Decide s1) where
      -- Else a collection, and what follows it. What is open there, as the place, is open still.
      by_first : (attempt : Attempt) (Open : Machine → Type 0) (at : (w : Machine) → Open w → ℕ)
          (to : (w : Machine) → Open w → Machine) (new : Machine)
          → ((m : Machine) → IsLeft s1 m
          → (ready : Machine) × ((x : Open ready) → LargeAfterFirst m size (at ready x) attempt (to ready x))
          × StandsFor new ready)
          → (m : Machine) → StandsFor s m
          → (ready : Machine) × ((x : Open ready) → PlacesLarge m size (at ready x) attempt (to ready x))
          × StandsFor new ready
      by_first attempt Open at to new more m stands =
          let still : lowest_in_step m ≡ None =
          sym (lowest_in_step-picture m) ∙ of_picture (λ w. lowest_in_step w ≡ None) s m stands idle in
          let (answer, mid, done, left) = collection_left s 2 Decide s1 (omega arith) first m stands still in
          let (ready, made, shown) = more mid left in (
            ready,
            λ x. large_collects size (at ready x) attempt (to ready x) m (spare_of m stands) still answer mid done
                (made x),
            shown,
          )

      -- to a place after it
      first_to_place : (new : Machine)
          → ((m : Machine) → IsLeft s1 m
          → (ready : Machine) × ((x : HasPlace size ready) → LargeAfterFirst m size x.0 roomed (with_layout ready x.1))
          × StandsFor new ready)
          → FollowsToPlace s size new
      first_to_place new more =
          follows_to_place s size new
          (λ m stands.
          let (ready, made, shown) =
          by_first roomed (HasPlace size) (λ w x. x.0) (λ w x. with_layout w x.1) new more m stands in
          (ready, λ place layout placed. made (place, layout, placed), shown))

      -- where there is one then
      pub place_first : has_room_in Large s1.layout size ≡ true → FollowsToPlace s size s1
      place_first room =
          first_to_place s1
          (λ m left. (
            m,
            λ x. large_first_places size x.0 roomed (with_layout m x.1) m
                (of_picture (λ w. has_room_in Large w.layout size ≡ true) s1 m left.stands room)
                (refl, x.1, x.2, refl),
            left.stands,
          ))

      module _ (lacks : has_room_in Large s1.layout size ≡ false) (s2 : Machine)
          (full : HasCollected s1 2 Compact s2) where
        -- else a full compacting collection, and what follows it
        by_full : (attempt : Attempt) (Open : Machine → Type 0) (at : (w : Machine) → Open w → ℕ)
            (to : (w : Machine) → Open w → Machine) (new : Machine)
            → ((m : Machine) → IsLeft s2 m
            → (ready : Machine) × ((x : Open ready) → LargeAfterFull size (at ready x) attempt (to ready x) m)
            × StandsFor new ready)
            → (m : Machine) → IsLeft s1 m
            → (ready : Machine) × ((x : Open ready) → LargeAfterFirst m size (at ready x) attempt (to ready x))
            × StandsFor new ready
        by_full attempt Open at to new more m left =
            let (answer, mid, done, now) = collection_left s1 2 Compact s2 (omega arith) full m left.stands left.idle in
            let (ready, made, shown) = more mid now in (
              ready,
              λ x. large_first_full size (at ready x) attempt (to ready x) m
                  (of_picture (λ w. has_room_in Large w.layout size ≡ false) s1 m left.stands lacks) answer mid done
                  (made x),
              shown,
            )

        -- to a place after it
        full_to_place : (new : Machine)
            → ((m : Machine) → IsLeft s2 m
            → (ready : Machine) × ((x : HasPlace size ready) → LargeAfterFull size x.0 roomed (with_layout ready x.1) m)
            × StandsFor new ready)
            → FollowsToPlace s size new
        full_to_place new more =
            first_to_place new (by_full roomed (HasPlace size) (λ w x. x.0) (λ w x. with_layout w x.1) new more)

        -- or to none
        full_fails : (attempt : Attempt)
            → ((m : Machine) → IsLeft s2 m → (place : ℕ) → LargeAfterFull size place attempt m m)
            → FollowsLargeFails s size attempt s2
        full_fails attempt more =
            follows_large_fails s size attempt s2
            (by_first attempt (λ w. ℕ) (λ w place. place) (λ w place. w) s2
            (by_full attempt (λ w. ℕ) (λ w place. place) (λ w place. w) s2
            (λ m left. (m, more m left, left.stands))))

        -- where there is one then
        pub place_full : has_room_in Large s2.layout size ≡ true → FollowsToPlace s size s2
        place_full room =
            full_to_place s2
            (λ m left. (
              m,
              λ x. large_full_places size x.0 roomed (with_layout m x.1) m
                  (of_picture (λ w. has_room_in Large w.layout size ≡ true) s2 m left.stands room)
                  (refl, x.1, x.2, refl),
              left.stands,
            ))

        module _ (none : has_room_in Large s2.layout size ≡ false) where
          -- nor is there one in a machine that is seen so
          none_of : (m : Machine) → StandsFor s2 m → has_room_in Large m.layout size ≡ false
          none_of m stands = of_picture (λ w. has_room_in Large w.layout size ≡ false) s2 m stands none

          -- else there is no room, where the limit allows no segment more
          pub place_none : allows s2 (segment_for s2 size) ≡ false → FollowsLargeFails s size out_of_room s2
          place_none barred =
              full_fails out_of_room
              (λ m left place. large_full_none size place out_of_room m m (none_of m left.stands)
              (of_picture (λ w. allows w (segment_for w size) ≡ false) s2 m left.stands barred) refl refl)

          module _ (may : allows s2 (segment_for s2 size) ≡ true) where
            -- and so it does in a machine that is seen so
            may_of : (m : Machine) → StandsFor s2 m → allows m (segment_for m size) ≡ true
            may_of m stands = of_picture (λ w. allows w (segment_for w size) ≡ true) s2 m stands may

            -- where the limit allows one, a new segment, and a place in that
            pub place_acquired : FollowsToPlace s size
                (with_layout s2 (with_segment s2.layout Large (segment_for s2 size)))
            place_acquired =
                full_to_place (with_layout s2 (with_segment s2.layout Large (segment_for s2 size)))
                (λ m left. (
                  with_layout m (with_segment m.layout Large (segment_for m size)),
                  λ x. large_full_acquires size x.0 roomed (with_layout m x.1) m (none_of m left.stands)
                      (may_of m left.stands) (inl (refl, x.1, x.2, refl)),
                  record {
                    lawful = record {
                      lawful = acquired_lawful m left.stands.lawful.lawful size (may_of m left.stands);
                      born = left.stands.lawful.born;
                    };
                    seen_is = ap (λ (w : Machine). with_layout w (with_segment w.layout Large (segment_for w size)))
                        left.stands.seen_is;
                  },
                ))

            -- or there is no memory for it
            pub place_lacks : FollowsLargeFails s size out_of_memory s2
            place_lacks =
                full_fails out_of_memory
                (λ m left place. large_full_acquires size place out_of_memory m m (none_of m left.stands)
                (may_of m left.stands) (inr (refl, refl)))

-- ---- what the ladder leaves

-- it leaves types, options, what threads have begun, and who holds the others
pub place_leaves : (size place : ℕ) (attempt : Attempt) (new m : Machine) → PlacesLarge m size place attempt new
    → LeavesParts m new
place_leaves size place attempt new =
    large_comes_by size place attempt new (λ m. LeavesParts m new) (λ m same. relaid_leaves m new m.layout same)
    (λ m layout placed same. relaid_leaves m new layout same)
    (λ m layout allowed placed same. relaid_leaves m new layout same)
    (λ m g how answer mid c. collected_leaves m new g how answer mid c)

-- ---- the line that makes an object

-- an object that might be may be under the same types
birth_left : (m ready : Machine) (type len : ℕ) → ready.types ≡ m.types → IsBirth m type len → IsBirth ready type len
birth_left m ready type len same h = record {
  typed = subst (λ (rows : List TypeRow). is_some (type_row rows type) ≡ true) (sym same) h.typed;
  class = subst (λ (rows : List TypeRow). is_array (form_at rows type) ≡ false → len ≡ 0) (sym same) h.class;
  most = subst (λ (rows : List TypeRow). size_of (form_at rows type) len ≤ 1073741824) (sym same) h.most;
}

module _ (s : Machine) (t k : ℕ) (name : List ℕ) (len : Option ℕ) (type : ℕ)
    (may : MayBearLarge s t k name len type) (s' : Machine) where
  abbrev i : Instruction
  i = new_object t k name len

  abbrev l : ℕ
  l = unwrap_or len 0

  -- where there is a place, the object is born there
  pub new_follows_large : FollowsToPlace s (born_size s type (unwrap_or len 0)) s' → (place : ℕ) (layout : Layout)
      → IsPlacedIn Large s'.layout (born_size s type (unwrap_or len 0)) place layout
      → Follows s (new_object t k name len) (answered (Place place))
      (seen_at_place s' layout t k place type (unwrap_or len 0))
  new_follows_large comes_to place layout placed =
      follows s i _ _
      (carried i (λ s. MayBearLarge s t k name len type × FollowsToPlace s (born_size s type l) s'
      × IsPlacedIn Large s'.layout (born_size s type l) place layout)
      (λ s. answered (Place place)) (λ s. seen_at_place s' layout t k place type l)
      (λ m named given.
      let size = born_size m type l in
      let (ready, comes, after) =
      to_place_followed (picture m) size s' given.1 m (record { lawful = named; seen_is = refl }) in
      let h = may_bear_large_of-picture m t k name len type given.0 in
      let there : IsPlacedIn Large ready.layout size place layout =
      of_picture (λ w. IsPlacedIn Large w.layout size place layout) s' ready after given.2 in
      let made = comes place layout there in
      let leaves = place_leaves size place roomed (with_layout ready layout) m made in
      let same : born_size ready type l ≡ size =
      ap (λ (rows : List TypeRow). size_of (form_at rows type) l) leaves.types in
      let threshold : ready.options.large ≡ m.options.large = ap (λ (o : Options). o.large) leaves.options in
      let large = h.is_large in
      let birth = birth_left m ready type l leaves.types
      (asked_birth m t k name len type (asks_large m t k name len type h) h.most) in (
        born_large ready layout t k place type l,
        new_obeys_large m t k name len type h _ _ (
          roomed,
          with_layout ready layout,
          place,
          made,
          inl (
            refl,
            (
              refl,
              ap (with_spent_large (with_entry_of (born_at (with_layout ready layout) t k place type l) type
                  (ready.born + 1))) same,
            ),
          ),
        ),
        subst (λ (w : Machine). StandsFor (seen_at_place w layout t k place type l)
            (born_large ready layout t k place type l)) after.seen_is
            (large_stands ready type l after.lawful birth (omega arith) place layout
            (subst (λ n. IsPlacedIn Large ready.layout n place layout) (sym same) there) t k),
      ))
      s (may, comes_to, placed))

  -- where there is none, the line is refused, and what was done for it stays
  pub new_follows_large_fails : (attempt : Attempt) (outcome : Outcome)
      → FollowsLargeFails s (born_size s type (unwrap_or len 0)) attempt s' → Fails attempt outcome
      → Follows s (new_object t k name len) outcome s'
  new_follows_large_fails attempt outcome comes_to fails =
      follows s i _ _
      (carried i (λ s. MayBearLarge s t k name len type × FollowsLargeFails s (born_size s type l) attempt s')
      (λ s. outcome) (λ s. s')
      (λ m named given.
      let (ready, made, after) =
      large_fails_followed (picture m) (born_size m type l) attempt s' given.1 m
      (record { lawful = named; seen_is = refl }) in (
        ready,
        new_obeys_large m t k name len type (may_bear_large_of-picture m t k name len type given.0) _ _
            (attempt, ready, 0, made 0, inr (fails, refl)),
        after,
      ))
      s (may, comes_to))
