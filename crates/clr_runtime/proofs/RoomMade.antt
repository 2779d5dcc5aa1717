-- The ladder of an allocation, on what is seen of a runtime's parts: what each of its exits comes to.
use Rattle.std.proofs.Common.{◌≡◌, ◌∙◌, ℕ, true, false, refl, sym, ap, subst, Result, Ok, Err, None, Some}
use Rattle.std.specs.Prelude.{OnOk}
use Rattle.clr_types.specs.Ranges.{IsLawfulSize}
use Rattle.clr_heap.specs.declared.heap.segments.AcquireFault.{AcquireFault}
use Rattle.clr_heap.specs.declared.heap.segments.AcquireFault.TheVariants.{NoMemory, OverLimit}
use Rattle.clr_model.specs.declared.Collected.{Collected}
use Rattle.clr_model.specs.declared.How.{How}
use Rattle.clr_model.specs.declared.How.TheVariants.{Compact, Decide}
use Rattle.clr_model.specs.Allocation.{out_of_memory, out_of_room, own_fits, roomed, waits}
use Rattle.clr_model.specs.Collection.{Collects, generation_to_collect}
use Rattle.clr_model.specs.Lookups.{is_step, is_thread, lowest_in_step, step_of}
use Rattle.clr_model.specs.Machine.{Machine}
use Rattle.clr_model.specs.Picture.{picture}
use Rattle.clr_model.specs.RoomFollows.{FollowsRoom, HasCollected}
use Rattle.clr_model.proofs.RoomFollows.{room_first, room_full, room_lacks, room_none, room_refill, room_sealed}
use Rattle.clr_model.proofs.RoomFollows.{room_waits}
use Rattle.clr_runtime.specs.Rooms.{attempt_of, IsRefill, IsRefillInBudget, IsSealedRefill}
use Rattle.clr_runtime.specs.RuntimeView.{seen}
use Rattle.clr_runtime.specs.declared.parts.Parts.{Parts}
use Rattle.clr_runtime.specs.declared.rooms.NoRoom.{NoRoom}
use Rattle.clr_runtime.specs.declared.rooms.NoRoom.TheVariants.{Acquire}

-- what a collection tells is one of what was seen at first, where nothing changed in between
pub collected_of : (s m : Machine) (g n : ℕ) (how : How) (new : Machine) (answer : Collected) → s ≡ m → g ≡ n
    → ((after : Machine) × Collects s g how answer after × (new ≡ picture after)) → HasCollected m n how new
collected_of s m g n how new answer same which_is (after, collects, is) = (
  answer,
  after,
  subst (λ (k : ℕ). Collects m k how answer after) which_is
      (subst (λ (x : Machine). Collects x g how answer after) same collects),
  is,
)

-- what the last step of a ladder answers, as an answer of the ladder
abbrev pub room_result : Result (Unit {0}) AcquireFault → Result (Unit {0}) NoRoom
room_result (Ok done) = Ok done
room_result (Err fault) = Err (Acquire fault)

module _ (t size : ℕ) (thread : is_thread t ≡ true) (sized : IsLawfulSize size) (p : Parts)
    (own : own_fits (seen p).layout t size ≡ false) where
  -- a refill within the budget
  pub made_in_budget : is_step (step_of (seen p) t) ≡ false → (q : Parts) → IsRefillInBudget p q t size true
      → FollowsRoom (seen p) t size roomed (seen q)
  made_in_budget idle q (within, made) =
      subst (FollowsRoom (seen p) t size roomed) (sym made.same)
      (room_refill (seen p) t size (seen q).layout thread idle sized own within made.refilled)

  -- a wait for a thread that is in mid-step
  pub made_to_wait : (q : Parts) → IsRefillInBudget p q t size false → (k : ℕ) → lowest_in_step (seen q) ≡ Some k
      → FollowsRoom (seen p) t size (waits k) (seen q)
  made_to_wait q tried k busy =
      subst (FollowsRoom (seen p) t size (waits k)) (sym (ap seen tried.1))
      (room_waits (seen p) t size own tried.0 k (sym (ap (λ (r : Parts). lowest_in_step (seen r)) tried.1) ∙ busy))

  module _ (q : Parts) (tried : IsRefillInBudget p q t size false) (calm : lowest_in_step (seen q) ≡ None) (g : ℕ)
      (due : g ≡ generation_to_collect (seen q)) (p1 : Parts) (answer : Collected)
      (first : (after : Machine) × Collects (seen q) g Decide answer after × (seen p1 ≡ picture after)) where
    none_steps : lowest_in_step (seen p) ≡ None
    none_steps = sym (ap (λ (r : Parts). lowest_in_step (seen r)) tried.1) ∙ calm

    young : HasCollected (seen p) (generation_to_collect (seen p)) Decide (seen p1)
    young =
        let same = ap seen tried.1 in
        collected_of (seen q) (seen p) g (generation_to_collect (seen p)) Decide (seen p1) answer same
        (due ∙ ap generation_to_collect same) first

    -- a refill after a collection of the generation that the sums choose
    pub made_after_first : (r : Parts) → IsRefill p1 r t size true → FollowsRoom (seen p) t size roomed (seen r)
    made_after_first r made =
        subst (FollowsRoom (seen p) t size roomed) (sym made.same)
        (room_first (seen p) t size own tried.0 none_steps (seen p1) young (seen r).layout thread sized made.refilled)

    module _ (r : Parts) (lacks : IsRefill p1 r t size false) (p2 : Parts) (more : Collected)
        (second : (after : Machine) × Collects (seen r) 2 Compact more after × (seen p2 ≡ picture after)) where
      full : HasCollected (seen p1) 2 Compact (seen p2)
      full = collected_of (seen r) (seen p1) 2 2 Compact (seen p2) more (ap seen lacks.1) refl second

      -- a refill after a full compacting collection
      pub made_after_full : (last : Parts) → IsRefill p2 last t size true
          → FollowsRoom (seen p) t size roomed (seen last)
      made_after_full last made =
          subst (FollowsRoom (seen p) t size roomed) (sym made.same)
          (room_full (seen p) t size own tried.0 none_steps (seen p1) young lacks.0 (seen p2) full (seen last).layout
          thread sized made.refilled)

      module _ (full_up : Parts) (none : IsRefill p2 full_up t size false) where
        -- a context in a new segment, or none
        made_with_segment : (new : Machine) (result : Result (Unit {0}) AcquireFault)
            → IsSealedRefill (seen p2) new t size result
            → FollowsRoom (seen p) t size (attempt_of (room_result result)) new
        made_with_segment new (Ok done) (may, made) =
            subst (FollowsRoom (seen p) t size roomed) (sym made.same)
            (room_sealed (seen p) t size own tried.0 none_steps (seen p1) young lacks.0 (seen p2) full none.0 may
            new.layout thread sized made.refilled)
        made_with_segment new (Err OverLimit) (barred, same) =
            subst (FollowsRoom (seen p) t size out_of_room) (sym same)
            (room_none (seen p) t size own tried.0 none_steps (seen p1) young lacks.0 (seen p2) full none.0 barred)
        made_with_segment new (Err NoMemory) (may, same) =
            subst (FollowsRoom (seen p) t size out_of_memory) (sym same)
            (room_lacks (seen p) t size own tried.0 none_steps (seen p1) young lacks.0 (seen p2) full none.0 may)

        -- the same from the parts that the refill left
        pub made_by_sealing : (last : Parts) (result : Result (Unit {0}) AcquireFault)
            → IsSealedRefill (seen full_up) (seen last) t size result
            → FollowsRoom (seen p) t size (attempt_of (room_result result)) (seen last)
        made_by_sealing last result made =
            made_with_segment (seen last) result
            (subst (λ (m : Machine). IsSealedRefill m (seen last) t size result) (ap seen none.1) made)

-- where sealing gave a context, the size fits in it
pub sealing_fits : (old new : Machine) (t size : ℕ) (result : Result (Unit {0}) AcquireFault)
    → IsSealedRefill old new t size result → OnOk result (own_fits new.layout t size ≡ true)
sealing_fits old new t size (Ok done) (may, made) = made.fits
sealing_fits old new t size (Err OverLimit) none = tt
sealing_fits old new t size (Err NoMemory) none = tt
