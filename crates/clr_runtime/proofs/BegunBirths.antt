-- An object that is born later: the line that makes its room, on what a runtime shows, and what that leaves of it.
use Rattle.std.proofs.Common.{◌≡◌, ◌∙◌, ℕ, ◌+◌, ◌-◌, ◌<◌, ◌≤◌, List, Bool, true, false, refl, sym, subst, arith}
use Rattle.std.proofs.Common.{None, Option, length, set, unwrap_or}
use Rattle.std.specs.Prelude.{Err}
use Rattle.clr_types.specs.Types.{has_finalizer, type_row}
use Rattle.clr_types.specs.declared.TypeId.{TypeId}
use Rattle.clr_model.specs.declared.Refusal.{Refusal}
use Rattle.clr_model.specs.declared.Refusal.TheVariants.{BadShape, NoMemory, NoSlot, TooBig, UnknownType}
use Rattle.clr_model.specs.declared.Reply.TheVariants.{Done}
use Rattle.clr_model.specs.Allocation.{own_fits, roomed}
use Rattle.clr_model.specs.Instructions.{begin_new}
use Rattle.clr_model.specs.Lookups.{is_step, is_thread}
use Rattle.clr_model.specs.Machine.{begun_new, Machine, Options, Sums}
use Rattle.clr_model.specs.Outcomes.{answered, refused}
use Rattle.clr_model.specs.RoomFollows.{FollowsRoom}
use Rattle.clr_model.specs.Run.{Follows}
use Rattle.clr_model.specs.Updates.{with_step}
use Rattle.clr_model.proofs.LineChecks.{MayRun}
use Rattle.clr_model.proofs.SeenStands.{follows_sound}
use Rattle.clr_safe.specs.Threads.{begun_by, births_owed, owed_in, step_by, Threads}
use Rattle.clr_safe.specs.declared.begun.Begun.{Begun}
use Rattle.clr_safe.specs.declared.begun.Begun.TheVariants.{Birth}
use Rattle.clr_safe.proofs.Entries.{owed-no_more, owed-one_more}
use Rattle.clr_view.specs.World.{World}
use Rattle.clr_runtime.specs.Births.{IsMeasured, Measured}
use Rattle.clr_runtime.specs.Checks.{thread_refusal}
use Rattle.clr_options.specs.Options.{options_of}
use Rattle.clr_runtime.specs.Outcomes.{refusal_of_room}
use Rattle.clr_runtime.specs.Rooms.{attempt_of}
use Rattle.clr_runtime.specs.RuntimeView.{ahead_of, IsRuntime, IsShown, IsToldBy, seen, sums_of, world_of}
use Rattle.clr_runtime.specs.Shown.{Ahead, shown}
use Rattle.clr_runtime.specs.declared.births.Request.{Request}
use Rattle.clr_runtime.specs.declared.parts.Parts.{Parts}
use Rattle.clr_runtime.specs.declared.rooms.NoRoom.{NoRoom}
use Rattle.clr_runtime.proofs.BeginNewLines.{begin_follows_fails, begin_follows_large, begin_follows_local}
use Rattle.clr_runtime.proofs.BeginNewLines.{begin_follows_memory, begin_follows_room, begin_follows_shape}
use Rattle.clr_runtime.proofs.BeginNewLines.{begin_follows_type}
use Rattle.clr_runtime.proofs.BirthDone.{HasItsRoom}
use Rattle.clr_runtime.proofs.BirthLines.{fails-so, may_bear}
use Rattle.clr_runtime.proofs.NamesChecked.{may_run}
use Rattle.clr_runtime.proofs.RuntimeKept.{room_follows}
use Rattle.clr_runtime.proofs.StepsBegun.{begun-shown, begun-within, finalizers-begun, idle-no_store, stores-begun}
use Rattle.clr_runtime.proofs.StepsBegun.{threads_kept}
use Rattle.clr_runtime.proofs.StepsBegun.{told-begun, with_begun}
use Rattle.clr_runtime.proofs.StepsKept.{tables-by}

-- ---- the checks

module _ {w : World} {sums : Sums} {options : Options} {threads : Threads} {ahead : Ahead}
    (is : IsShown w sums options threads ahead)
    (t local : ℕ) (name : List ℕ) (len : Option ℕ) where
  abbrev s : Machine
  s = shown w sums options threads ahead

  module _ (passed : thread_refusal s t ≡ None) where
    run : MayRun s t
    run = may_run s t passed

    -- the line is refused for the first of the checks on the object that fails
    pub begin_measured : (r : Refusal) → Measured w.rows local name len (Err r)
        → Follows s (begin_new t local name len) (refused r) s
    begin_measured UnknownType none = begin_follows_type s t local name len run none
    begin_measured BadShape (type, known, unsuited) =
        begin_follows_shape s t local name len type run known unsuited
    begin_measured NoSlot (type, is, high) = begin_follows_local s t local name len type run is.known is.suited high
    begin_measured TooBig (type, asked, low, big) =
        let large = is.sound.lawful.options.large_greatest in
        let segment = is.sound.lawful.options.segment_greatest in
        begin_follows_large s t local name len type run asked.known asked.suited low
        (omega (arith, large, segment, big))
    begin_measured _ none = absurd none

    module _ (request : Request) (measured : IsMeasured w.rows local name len request) where
      -- the object is large
      pub begin_large : options.large ≤ request.size → Follows s (begin_new t local name len) (refused TooBig) s
      begin_large least =
          let same = measured.size_is in
          begin_follows_large s t local name len request.type_id.0 run measured.suited.known measured.suited.suited
          measured.local (omega (arith, same, least))

      module _ (small : request.size < options.large) where
        -- there is no memory for the finalisation entry that the type wants
        pub begin_lacks : (entries ready : List ℕ) → entries ≡ w.entries → ready ≡ w.ready → request.finalizer ≡ true
            → Follows s (begin_new t local name len) (refused NoMemory)
            (shown (record w { entries = entries; ready = ready }) sums options threads ahead)
        begin_lacks entries ready kept waiting final =
            room_follows is entries ready kept waiting (begin_new t local name len) (refused NoMemory)
            (begin_follows_memory s t local name len request.type_id.0
            (may_bear is t local name len passed request measured small) (sym measured.entry ∙ final))

        -- no room was made, and what was done for it stays
        pub begin_fails : (new : Machine) (why : NoRoom) (r : Refusal) → r ≡ refusal_of_room why
            → FollowsRoom s t request.size (attempt_of (Err why)) new
            → Follows s (begin_new t local name len) (refused r) new
        begin_fails new why r told room =
            begin_follows_fails s t local name len request.type_id.0
            (may_bear is t local name len passed request measured small) new (attempt_of (Err why)) (refused r)
            (subst (λ b. FollowsRoom s t b (attempt_of (Err why)) new) measured.size_is room) (fails-so why r told)

-- ---- the room is made

-- what is owed with one thread more that has begun an object
owed-begun : (xs : List Begun) (i : ℕ) (type : TypeId) (len local spare : ℕ) (finalizer : Bool) → i < length xs
    → (finalizer ≡ true → owed_in xs + 1 ≤ spare) → owed_in xs ≤ spare
    → owed_in (set xs i (Birth type len local finalizer)) ≤ spare
owed-begun xs i type len local spare true within more owed =
    let one = owed-one_more xs i (Birth type len local true) within in let room = more refl in omega (arith, one, room)
owed-begun xs i type len local spare false within more owed =
    let none = owed-no_more xs i (Birth type len local false) within refl in omega (arith, none, owed)

module _ (p : Parts) (t local : ℕ) (type : TypeId) (len : ℕ) (finalizer : Bool) where
  abbrev what : Begun
  what = Birth type len local finalizer

  module _ (next : Threads) (same : next ≡ with_begun p.safe t (Birth type len local finalizer)) (old : Machine)
      (name : List ℕ) (given : Option ℕ) (size : ℕ) (has : HasItsRoom old (seen p) t local name given type.0 size)
      (len_is : len ≡ unwrap_or given 0) where
    birth-begun : Follows old (begin_new t local name given) (answered Done)
        (seen (record p { safe = with_begun p.safe t (Birth type len local finalizer) }))
    birth-begun =
        subst (Follows old (begin_new t local name given) (answered Done))
        (begun-shown (world_of p) (sums_of p.sums) (options_of p.options) p.safe (ahead_of p) t what)
        (subst (λ n. Follows old (begin_new t local name given) (answered Done)
        (with_step (seen p) t (begun_new type.0 n local))) (sym len_is)
        (begin_follows_room old t local name given type.0 has.may (seen p)
        (subst (λ b. FollowsRoom old t b roomed (seen p)) has.is has.room)
        (subst (λ b. own_fits (seen p).layout t b ≡ true) has.is has.fits)))

    -- the thread has begun the object
    pub birth_begun : Follows old (begin_new t local name given) (answered Done) (seen (record p { safe = next }))
    birth_begun =
        subst (λ (threads : Threads). Follows old (begin_new t local name given) (answered Done)
        (seen (record p { safe = threads }))) (sym same) birth-begun

    -- and what holds of every runtime still holds
    pub birth_begun_kept : IsRuntime p → is_thread t ≡ true → is_step (step_by (begun_by p.safe t)) ≡ false
        → (finalizer ≡ true → births_owed p.safe + 1 ≤ p.roots.finals.spare)
        → finalizer ≡ has_finalizer (type_row p.types type.0) → IsRuntime (record p { safe = next })
    birth_begun_kept is thread idle more final =
        subst (λ (threads : Threads). IsRuntime (record p { safe = threads })) (sym same)
        (record {
          shown = threads_kept is.shown (with_begun p.safe t what)
              (stores-begun p.safe t what (idle-no_store p.safe t idle))
              (follows_sound old (begin_new t local name given) (answered Done) _ has.sound birth-begun);
          heap = is.heap;
          tables = tables-by p.types p.space.heap p.space.cards p.space.bricks
              (IsToldBy p.types p.space.heap p.space.cards p.safe)
              (IsToldBy p.types p.space.heap p.space.cards (with_begun p.safe t what))
              (told-begun p.types p.space.heap p.space.cards p.safe t what (idle-no_store p.safe t idle)) is.tables;
          owed = owed-begun p.safe.begun (t - 1) type len local p.roots.finals.spare finalizer
              (begun-within is.shown t thread) more is.owed;
          finalizers = finalizers-begun p.types p.safe t what is.finalizers final;
          index = is.index;
          large = is.large;
          pinned = is.pinned;
          limit = is.limit;
          ready = is.ready;
        })
