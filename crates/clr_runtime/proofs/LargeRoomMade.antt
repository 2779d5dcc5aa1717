-- The ladder of a large object, on what is seen of a runtime's parts: what each of its exits comes to.
use Rattle.std.proofs.Common.{◌≡◌, ◌∙◌, ℕ, true, false, refl, ap, sym, subst}
use Rattle.std.proofs.Common.{Result, Ok, Err, None, Some}
use Rattle.std.specs.Prelude.{OnErr, OnOk}
use Rattle.clr_types.specs.declared.segment.SegKind.TheVariants.{Large}
use Rattle.clr_heap.specs.declared.heap.segments.AcquireFault.{AcquireFault}
use Rattle.clr_heap.specs.declared.heap.segments.AcquireFault.TheVariants.{NoMemory, OverLimit}
use Rattle.clr_model.specs.declared.Collected.{Collected}
use Rattle.clr_model.specs.declared.How.TheVariants.{Compact, Decide}
use Rattle.clr_model.specs.Allocation.{has_room_in, out_of_memory, out_of_room, waits}
use Rattle.clr_model.specs.Collection.{Collects}
use Rattle.clr_model.specs.LargeFollows.{FollowsLargeFails, FollowsToPlace}
use Rattle.clr_model.specs.Lookups.{lowest_in_step}
use Rattle.clr_model.specs.Machine.{Machine}
use Rattle.clr_model.specs.Picture.{picture}
use Rattle.clr_model.specs.RoomFollows.{HasCollected}
use Rattle.clr_model.proofs.LargeFollows.{place_acquired, place_first, place_full, place_lacks, place_none}
use Rattle.clr_model.proofs.LargeFollows.{place_waits, place_within}
use Rattle.clr_runtime.specs.LargeRooms.{has_place_in_budget}
use Rattle.clr_runtime.specs.Segments.{IsAcquired}
use Rattle.clr_runtime.specs.Rooms.{attempt_of}
use Rattle.clr_runtime.proofs.RoomMade.{collected_of, room_result}

module _ (size : ℕ) (s : Machine) where
  -- a place within the budget
  pub placed_within : (new : Machine) → has_place_in_budget s size ≡ true → new ≡ s → FollowsToPlace s size new
  placed_within new spare same = subst (FollowsToPlace s size) (sym same) (place_within s size spare)

  -- a wait for a thread that is in mid-step
  pub placed_after_wait : has_place_in_budget s size ≡ false → (tried : Machine) → tried ≡ s → (k : ℕ)
      → lowest_in_step tried ≡ Some k → FollowsLargeFails s size (waits k) tried
  placed_after_wait spare tried same k busy =
      subst (FollowsLargeFails s size (waits k)) (sym same)
      (place_waits s size spare k (sym (ap lowest_in_step same) ∙ busy))

  module _ (idle : lowest_in_step s ≡ None) (spare : has_place_in_budget s size ≡ false) (tried : Machine)
      (kept : tried ≡ s) (s1 : Machine) (answer : Collected)
      (once : (after : Machine) × Collects tried 2 Decide answer after × (s1 ≡ picture after)) where
    collected : HasCollected s 2 Decide s1
    collected = collected_of tried s 2 2 Decide s1 answer kept refl once

    -- a place after a full collection
    pub placed_after_first : (new : Machine) → has_room_in Large s1.layout size ≡ true → new ≡ s1
        → FollowsToPlace s size new
    placed_after_first new room same =
        subst (FollowsToPlace s size) (sym same) (place_first s size spare idle s1 collected room)

    module _ (lacks : has_room_in Large s1.layout size ≡ false) (again : Machine) (stays : again ≡ s1) (s2 : Machine)
        (more : Collected)
        (twice : (after : Machine) × Collects again 2 Compact more after × (s2 ≡ picture after)) where
      compacted : HasCollected s1 2 Compact s2
      compacted = collected_of again s1 2 2 Compact s2 more stays refl twice

      -- a place after a full compacting collection
      pub placed_after_full : (new : Machine) → has_room_in Large s2.layout size ≡ true → new ≡ s2
          → FollowsToPlace s size new
      placed_after_full new room same =
          subst (FollowsToPlace s size) (sym same)
          (place_full s size spare idle s1 collected lacks s2 compacted room)

      module _ (none : has_room_in Large s2.layout size ≡ false) (last : Machine) (is : last ≡ s2) where
        -- a place in a new segment
        pub placed_in_new : (new : Machine) (result : Result (Unit {0}) AcquireFault)
            → IsAcquired Large last new size result → OnOk result (FollowsToPlace s size new)
        placed_in_new new (Ok done) made =
            let (may, same) = subst (λ (m : Machine). IsAcquired Large m new size (Ok done)) is made in
            subst (FollowsToPlace s size) (sym same)
            (place_acquired s size spare idle s1 collected lacks s2 compacted none may)
        placed_in_new new (Err fault) made = tt

        -- or none
        pub placed_nowhere : (new : Machine) (result : Result (Unit {0}) AcquireFault)
            → IsAcquired Large last new size result
            → OnErr result (FollowsLargeFails s size (attempt_of (room_result result)) new)
        placed_nowhere new (Ok done) made = tt
        placed_nowhere new (Err OverLimit) made =
            let (barred, same) = subst (λ (m : Machine). IsAcquired Large m new size (Err OverLimit)) is made in
            subst (FollowsLargeFails s size out_of_room) (sym same)
            (place_none s size spare idle s1 collected lacks s2 compacted none barred)
        placed_nowhere new (Err NoMemory) made =
            let (may, same) = subst (λ (m : Machine). IsAcquired Large m new size (Err NoMemory)) is made in
            subst (FollowsLargeFails s size out_of_memory) (sym same)
            (place_lacks s size spare idle s1 collected lacks s2 compacted none may)
