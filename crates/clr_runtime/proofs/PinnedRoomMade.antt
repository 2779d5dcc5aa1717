-- The ladder of a pinned object, on what is seen of a runtime's parts: what each of its exits comes to.
use Rattle.std.proofs.Common.{◌≡◌, ◌∙◌, ℕ, true, false, inl, inr, refl, ap, sym, subst, Result, Ok, Err, None, Some}
use Rattle.std.specs.Prelude.{OnErr, OnOk}
use Rattle.clr_types.specs.declared.segment.SegKind.TheVariants.{Pinned}
use Rattle.clr_heap.specs.declared.heap.segments.AcquireFault.{AcquireFault}
use Rattle.clr_heap.specs.declared.heap.segments.AcquireFault.TheVariants.{NoMemory, OverLimit}
use Rattle.clr_model.specs.declared.Collected.{Collected}
use Rattle.clr_model.specs.declared.How.TheVariants.{Compact}
use Rattle.clr_model.specs.Allocation.{has_room_in, out_of_memory, out_of_room, waits}
use Rattle.clr_model.specs.Collection.{Collects}
use Rattle.clr_model.specs.Lookups.{lowest_in_step}
use Rattle.clr_model.specs.Machine.{Machine}
use Rattle.clr_model.specs.Picture.{picture}
use Rattle.clr_model.specs.PinnedFollows.{FollowsPinnedFails, FollowsToPinned}
use Rattle.clr_model.specs.RoomFollows.{HasCollected}
use Rattle.clr_model.proofs.PinnedFollows.{pinned_acquired, pinned_full, pinned_full_acquired, pinned_full_lacks}
use Rattle.clr_model.proofs.PinnedFollows.{pinned_lacks, pinned_none, pinned_place, pinned_wait}
use Rattle.clr_runtime.specs.PinnedRooms.{IsPinnedRoom}
use Rattle.clr_runtime.specs.Rooms.{attempt_of}
use Rattle.clr_runtime.specs.Segments.{allows_for, IsAcquired}
use Rattle.clr_runtime.proofs.RoomMade.{collected_of, room_result}
use Rattle.clr_runtime.proofs.SegmentFits.{segment_fits}

-- ---- one look for a place, and a new segment

-- where there is no place, a segment was acquired for one or not
pub acquired_room : (old mid new : Machine) (size : ℕ) → mid ≡ old → has_room_in Pinned old.layout size ≡ false
    → (result : Result (Unit {0}) AcquireFault) → IsAcquired Pinned mid new size result
    → IsPinnedRoom old new size result
acquired_room old mid new size stays none (Ok done) made =
    let (may, same) = subst (λ (m : Machine). IsAcquired Pinned m new size (Ok done)) stays made in
    inr (none, may, same)
acquired_room old mid new size stays none (Err OverLimit) made =
    let (barred, same) = subst (λ (m : Machine). IsAcquired Pinned m new size (Err OverLimit)) stays made in
    (none, barred, same)
acquired_room old mid new size stays none (Err NoMemory) made =
    let (may, same) = subst (λ (m : Machine). IsAcquired Pinned m new size (Err NoMemory)) stays made in
    (none, may, same)

-- a fault by its name
pub room_as : (old new : Machine) (size : ℕ) (fault named : AcquireFault) → fault ≡ named
    → IsPinnedRoom old new size (Err fault) → IsPinnedRoom old new size (Err named)
room_as old new size fault named same = subst (λ (f : AcquireFault). IsPinnedRoom old new size (Err f)) same

-- so there is room where a place was found
pub pinned_room_fits : (old new : Machine) (size : ℕ) → IsPinnedRoom old new size (Ok tt)
    → has_room_in Pinned new.layout size ≡ true
pinned_room_fits old new size (inl (room, same)) =
    ap (λ (m : Machine). has_room_in Pinned m.layout size) same ∙ room
pinned_room_fits old new size (inr (none, may, same)) =
    ap (λ (m : Machine). has_room_in Pinned m.layout size) same ∙ segment_fits Pinned refl old size

-- ---- the ladder

module _ (size : ℕ) (s : Machine) where
  -- a place that is there, or in a new segment
  pub pinned_first : (new : Machine) → IsPinnedRoom s new size (Ok tt) → FollowsToPinned s size new
  pinned_first new (inl (room, same)) = subst (FollowsToPinned s size) (sym same) (pinned_place s size room)
  pinned_first new (inr (none, may, same)) = subst (FollowsToPinned s size) (sym same) (pinned_acquired s size none may)

  -- no memory for the segment
  pub pinned_first_lacks : (new : Machine) → IsPinnedRoom s new size (Err NoMemory)
      → FollowsPinnedFails s size out_of_memory new
  pinned_first_lacks new (none, may, same) =
      subst (FollowsPinnedFails s size out_of_memory) (sym same) (pinned_lacks s size none may)

  module _ (tried : Machine) (lacks : IsPinnedRoom s tried size (Err OverLimit)) where
    none : has_room_in Pinned s.layout size ≡ false
    none = lacks.0

    barred : allows_for s size ≡ false
    barred = lacks.1

    kept : tried ≡ s
    kept = lacks.2

    -- a wait for a thread that is in mid-step
    pub pinned_after_wait : (k : ℕ) → lowest_in_step tried ≡ Some k → FollowsPinnedFails s size (waits k) tried
    pinned_after_wait k busy =
        subst (FollowsPinnedFails s size (waits k)) (sym kept)
        (pinned_wait s size none barred k (sym (ap lowest_in_step kept) ∙ busy))

    module _ (calm : lowest_in_step tried ≡ None) (s1 : Machine) (answer : Collected)
        (once : (after : Machine) × Collects tried 2 Compact answer after × (s1 ≡ picture after)) where
      idle : lowest_in_step s ≡ None
      idle = sym (ap lowest_in_step kept) ∙ calm

      collected : HasCollected s 2 Compact s1
      collected = collected_of tried s 2 2 Compact s1 answer kept refl once

      -- a place after the full compacting collection
      pub pinned_again : (new : Machine) (result : Result (Unit {0}) AcquireFault) → IsPinnedRoom s1 new size result
          → OnOk result (FollowsToPinned s size new)
      pinned_again new (Ok done) (inl (room, same)) =
          subst (FollowsToPinned s size) (sym same) (pinned_full s size none barred idle s1 collected room)
      pinned_again new (Ok done) (inr (nowhere, may, same)) =
          subst (FollowsToPinned s size) (sym same)
          (pinned_full_acquired s size none barred idle s1 collected nowhere may)
      pinned_again new (Err fault) made = tt

      -- or none
      pub pinned_nowhere : (new : Machine) (result : Result (Unit {0}) AcquireFault) → IsPinnedRoom s1 new size result
          → OnErr result (FollowsPinnedFails s size (attempt_of (room_result result)) new)
      pinned_nowhere new (Ok done) made = tt
      pinned_nowhere new (Err OverLimit) (nowhere, over, same) =
          subst (FollowsPinnedFails s size out_of_room) (sym same)
          (pinned_none s size none barred idle s1 collected nowhere over)
      pinned_nowhere new (Err NoMemory) (nowhere, may, same) =
          subst (FollowsPinnedFails s size out_of_memory) (sym same)
          (pinned_full_lacks s size none barred idle s1 collected nowhere may)
