-- The line that makes an object, on what is seen: its checks.
use Rattle.std.proofs.Common.{◌≡◌, ◌∙◌, ℕ, ◌<◌, ◌≤◌, nat_lt, Bool, true, false, List, length, refl, sym, ap}
use Rattle.std.proofs.Common.{subst, arith, Option, Some, None, unwrap_or, if◌then◌else◌, is_some, is_none}
use Rattle.std.specs.Prelude.{Err}
use Rattle.std.proofs.lemmas.Bool.{both_ways, ltb-false, ltb-true}
use Rattle.clr_types.specs.Ranges.{IsLawfulSize}
use Rattle.clr_types.specs.Types.{TypeRow, form_at, has_finalizer, is_array, type_row}
use Rattle.clr_types.proofs.TailTaken.{size-lawful}
use Rattle.clr_heap.specs.Parts.{IsMakeable}
use Rattle.clr_safe.specs.Threads.{Threads}
use Rattle.clr_runtime.specs.Shown.{Ahead, shown}
use Rattle.clr_view.specs.World.{World}
use Rattle.clr_heap.specs.declared.heap.segments.AcquireFault.TheVariants.{NoMemory, OverLimit}
use Rattle.clr_model.specs.declared.Refusal.{Refusal}
use Rattle.clr_model.specs.declared.Refusal.TheVariants as refusal
use Rattle.clr_model.specs.declared.Refusal.TheVariants.{BadShape, NoSlot, TooBig, UnknownType}
use Rattle.clr_model.specs.Instructions.{new_object}
use Rattle.clr_model.specs.Machine.{Machine, Options, Sums}
use Rattle.clr_model.specs.Outcomes.{refused}
use Rattle.clr_model.specs.LargeFollows.{FollowsLargeFails}
use Rattle.clr_model.specs.RoomFollows.{FollowsRoom}
use Rattle.clr_model.specs.Run.{Follows}
use Rattle.clr_model.specs.Step.{Fails}
use Rattle.clr_model.proofs.BirthFollows.{new_follows_large_memory, new_follows_local, new_follows_memory}
use Rattle.clr_model.proofs.BirthFollows.{new_follows_shape, new_follows_size, new_follows_type}
use Rattle.clr_model.proofs.BirthLine.{MayBear, MayBearLarge}
use Rattle.clr_model.proofs.LargeFollows.{new_follows_large_fails}
use Rattle.clr_model.proofs.LineChecks.{MayRun}
use Rattle.clr_model.proofs.RoomFollows.{new_follows_fails}
use Rattle.clr_runtime.specs.Births.{IsMeasured, Measured}
use Rattle.clr_runtime.specs.Checks.{thread_refusal}
use Rattle.clr_runtime.specs.Outcomes.{refusal_of_room}
use Rattle.clr_runtime.specs.Rooms.{attempt_of}
use Rattle.clr_runtime.specs.RuntimeView.{IsShown}
use Rattle.clr_runtime.specs.declared.births.Request.{Request}
use Rattle.clr_runtime.specs.declared.rooms.NoRoom.{NoRoom}
use Rattle.clr_runtime.specs.declared.rooms.NoRoom.TheVariants.{Acquire, Wait}
use Rattle.clr_runtime.proofs.NamesChecked.{may_run}
use Rattle.clr_runtime.proofs.RuntimeKept.{room_follows}
use Rattle.clr_runtime.proofs.TypeNumbers.{number_from-bounds}

-- how it is told that there is no room is how the attempt fails
pub fails-so : (why : NoRoom) (r : Refusal) → r ≡ refusal_of_room why → Fails (attempt_of (Err why)) (refused r)
fails-so (Wait k) r same = ap refused same
fails-so (Acquire OverLimit) r same = ap refused same
fails-so (Acquire NoMemory) r same = ap refused same

-- a class has no length
no-length : (array : Bool) (given : Option ℕ) → (if array then is_some given else is_none given) ≡ true
    → array ≡ false → unwrap_or given 0 ≡ 0
no-length true given suited class = absurd (both_ways true class refl)
no-length false None suited class = refl
no-length false (Some n) suited class = absurd (both_ways false refl suited)

-- ---- an object that may be made

module _ (rows : List TypeRow) (local : ℕ) (name : List ℕ) (len : Option ℕ) (request : Request)
    (is : IsMeasured rows local name len request) where
  -- the type is one of the table's, and not that of unused space
  pub known : (0 < request.type_id.0) × (request.type_id.0 ≤ length rows)
  known =
      let b = number_from-bounds 1 rows name request.type_id.0 is.suited.known in
      let low = b.0 in
      let high = b.1 in
      (omega arith, omega arith)

  -- an object of this type and length may stand in the heap
  pub makeable : IsMakeable rows request.type_id.0 request.len
  makeable =
      let type = request.type_id.0 in
      let lawful = size-lawful (form_at rows type) (unwrap_or len 0) in
      let most = is.most in
      let same = is.size_is in
      let (low, high) = known in
      subst (IsMakeable rows type) (sym is.len_is)
      (record {
        known = high;
        no_length = no-length (is_array (form_at rows type)) len is.suited.suited;
        least = lawful.0;
        most = omega arith;
        whole = lawful.1;
        free = λ none. absurd (omega arith);
      })

  -- it has the bytes of one, in whole words
  pub size_lawful : IsLawfulSize request.size
  size_lawful =
      subst IsLawfulSize (sym is.size_is) (size-lawful (form_at rows request.type_id.0) (unwrap_or len 0))

-- ---- the checks

module _ {w : World} {sums : Sums} {options : Options} {threads : Threads} {ahead : Ahead}
    (is : IsShown w sums options threads ahead)
    (t local : ℕ) (name : List ℕ) (len : Option ℕ) where
  abbrev s : Machine
  s = shown w sums options threads ahead

  abbrev rows : List TypeRow
  rows = w.rows

  module _ (passed : thread_refusal s t ≡ None) where
    run : MayRun s t
    run = may_run s t passed

    -- the line is refused for the first of the checks on the object that fails
    pub measured_follows : (r : Refusal) → Measured rows local name len (Err r)
        → Follows s (new_object t local name len) (refused r) s
    measured_follows UnknownType none = new_follows_type s t local name len run none
    measured_follows BadShape (type, known, unsuited) = new_follows_shape s t local name len type run known unsuited
    measured_follows NoSlot (type, is, high) = new_follows_local s t local name len type run is.known is.suited high
    measured_follows TooBig (type, is, low, big) =
        new_follows_size s t local name len type run is.known is.suited low big
    measured_follows _ none = absurd none

    module _ (request : Request) (measured : IsMeasured rows local name len request) where
      -- no check fails, and the object is small
      pub may_bear : request.size < options.large → MayBear s t local name len request.type_id.0
      may_bear small = record {
        run = run;
        known = measured.suited.known;
        shape = measured.suited.suited;
        local = measured.local;
        small = let same = measured.size_is in omega (arith, same, small);
      }

      -- or it is large
      pub may_bear_large : options.large ≤ request.size → MayBearLarge s t local name len request.type_id.0
      may_bear_large least = record {
        run = run;
        known = measured.suited.known;
        shape = measured.suited.suited;
        local = measured.local;
        is_large = let same = measured.size_is in omega (arith, same, least);
        most = let same = measured.size_is in let most = measured.most in omega (arith, same, most);
      }

      -- there is no memory for the finalisation entry that the type wants
      lacks-entry : has_finalizer (type_row rows request.type_id.0) ≡ true
          → Follows s (new_object t local name len) (refused refusal.NoMemory) s
      lacks-entry final = go (nat_lt request.size options.large) refl
        where
          go : (b : Bool) → nat_lt request.size options.large ≡ b
              → Follows s (new_object t local name len) (refused refusal.NoMemory) s
          go true e =
              new_follows_memory s t local name len request.type_id.0
              (may_bear (ltb-true request.size options.large e)) final
          go false e =
              new_follows_large_memory s t local name len request.type_id.0
              (may_bear_large (ltb-false request.size options.large e)) final

      -- the same where room was made in the queue
      pub lacks_follows : (entries ready : List ℕ) → entries ≡ w.entries → ready ≡ w.ready
          → request.finalizer ≡ true
          → Follows s (new_object t local name len) (refused refusal.NoMemory)
          (shown (record w { entries = entries; ready = ready }) sums options threads ahead)
      lacks_follows entries ready kept waiting final =
          room_follows is entries ready kept waiting (new_object t local name len) (refused refusal.NoMemory)
          (lacks-entry (sym measured.entry ∙ final))

      -- no room was made, and what was done for it stays
      pub fails_follows : request.size < options.large → (new : Machine) (why : NoRoom) (r : Refusal)
          → r ≡ refusal_of_room why
          → FollowsRoom (shown w sums options threads ahead) t request.size (attempt_of (Err why)) new
          → Follows (shown w sums options threads ahead) (new_object t local name len) (refused r) new
      fails_follows small new why r told room =
          new_follows_fails s t local name len request.type_id.0 (may_bear small) new (attempt_of (Err why))
          (refused r) (subst (λ b. FollowsRoom s t b (attempt_of (Err why)) new) measured.size_is room)
          (fails-so why r told)

      -- the same for a large object
      pub large_fails_follows : options.large ≤ request.size → (new : Machine) (why : NoRoom) (r : Refusal)
          → r ≡ refusal_of_room why
          → FollowsLargeFails (shown w sums options threads ahead) request.size (attempt_of (Err why)) new
          → Follows (shown w sums options threads ahead) (new_object t local name len) (refused r) new
      large_fails_follows least new why r told failed =
          new_follows_large_fails s t local name len request.type_id.0 (may_bear_large least) new
          (attempt_of (Err why)) (refused r)
          (subst (λ b. FollowsLargeFails s b (attempt_of (Err why)) new) measured.size_is failed)
          (fails-so why r told)
