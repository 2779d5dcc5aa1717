-- A thread that has finished the birth of its object: what it needs, and what it leaves of a runtime.
use Rattle.std.proofs.Common.{◌≡◌, ◌∙◌, ℕ, zero, suc, ◌+◌, ◌-◌, ◌<◌, ◌≤◌, List, [], ◌∷◌, length, Bool, true, refl, sym}
use Rattle.std.proofs.Common.{ap, subst, arith, false, if◌then◌else◌, is_some, slice_set}
use Rattle.std.specs.Prelude.{slice_get}
use Rattle.clr_types.specs.Types.{form_at, size_of, type_row, TypeRow}
use Rattle.clr_types.specs.declared.TypeId.{TypeId}
use Rattle.clr_types.proofs.ChangedLists.{append_left, length-slice_set}
use Rattle.clr_types.proofs.TailTaken.{size-lawful}
use Rattle.clr_heap.specs.Parts.{IsMakeable}
use Rattle.clr_heap.specs.View.{frame, HeapView}
use Rattle.clr_model.specs.declared.Reply.TheVariants.{Place}
use Rattle.clr_model.specs.Allocation.{context_front, own_fits}
use Rattle.clr_model.specs.Instructions.{finish_step}
use Rattle.clr_model.specs.Lookups.{is_thread, local_index, step_of}
use Rattle.clr_model.specs.Machine.{begun_new, begun_store, Machine, no_step, Object}
use Rattle.clr_model.specs.Outcomes.{answered}
use Rattle.clr_model.specs.Run.{Follows}
use Rattle.clr_model.specs.Updates.{with_step}
use Rattle.clr_model.proofs.FrontBirth.{born_entries, IsFrontBirth, seen_at_front}
use Rattle.clr_model.proofs.SeenStands.{follows_sound}
use Rattle.clr_safe.specs.Threads.{begun_by, births_owed, owes_entry, step_by}
use Rattle.clr_safe.specs.declared.begun.Begun.TheVariants.{Birth, Nothing}
use Rattle.clr_safe.proofs.Entries.{owed-no_more, owed-paid, steps_of-set}
use Rattle.clr_view.specs.Clean.{AreClean}
use Rattle.clr_view.specs.Marks.{IsUnmarked}
use Rattle.clr_view.specs.View.{AreFreeHeads, HasNewborn}
use Rattle.clr_view.specs.World.{World}
use Rattle.clr_options.specs.Options.{options_of}
use Rattle.clr_runtime.specs.RuntimeView.{ahead_of, IsRuntime, IsShown, seen, sums_of, world_of}
use Rattle.clr_runtime.specs.Shown.{shown}
use Rattle.clr_runtime.specs.declared.parts.Parts.{Parts}
use Rattle.clr_runtime.proofs.BirthDone.{spent_more}
use Rattle.clr_runtime.proofs.FinishLines.{begun_birth, finish_birth_done}
use Rattle.clr_runtime.proofs.RuntimeKept.{small_enough}
use Rattle.clr_runtime.proofs.StepsBegun.{begun-within, stores-begun, with_begun}
use Rattle.clr_runtime.proofs.StepsSeen.{step-seen}
use Rattle.clr_types.specs.Rising.{IsIn}
use Rattle.clr_types.proofs.SortedLists.{into_sorted_by}
use Rattle.clr_runtime.specs.Marked.{marking_by}
use Rattle.clr_runtime.proofs.MarkedKept.{running_marking, stays_marked, still_taken}

-- a type that is there is one of the table's, and not that of unused space
type-there : (rows : List TypeRow) (type : ℕ) → is_some (type_row rows type) ≡ true → (0 < type) × (type ≤ length rows)
type-there rows zero e = absurd cc
type-there rows (suc n) e = let within = go rows n e in (omega arith, omega (arith, within))
  where
    go : (xs : List TypeRow) (i : ℕ) → is_some (slice_get xs i) ≡ true → i < length xs
    go [] i e = absurd cc
    go (x ∷ xs) zero e = omega arith
    go (x ∷ xs) (suc i) e = let within = go xs i e in omega (arith, within)

module _ (p : Parts) (is : IsRuntime p) (t : ℕ) (thread : is_thread t ≡ true) (type : TypeId) (len local : ℕ)
    (finalizer : Bool) (begun : begun_by p.safe t ≡ Birth type len local finalizer) where
  -- what is begun is seen
  birth-step : step_of (seen p) t ≡ begun_new type.0 len local
  birth-step =
      step-seen (world_of p) (sums_of p.sums) (options_of p.options) p.safe (ahead_of p) t ∙ ap step_by begun

  -- so the object may be born
  pub birth_may : IsFrontBirth (seen p) t local type.0 len
  birth_may = begun_birth (seen p) is.shown.sound.lawful t type.0 len local thread birth-step

  pub birth_known : (0 < type.0) × (type.0 ≤ length p.types)
  birth_known = type-there p.types type.0 birth_may.typed

  pub birth_most : size_of (form_at p.types type.0) len ≤ 1073741824
  birth_most = small_enough is.shown (size_of (form_at p.types type.0) len) birth_may.small

  pub birth_makeable : IsMakeable p.types type.0 len
  birth_makeable =
      let lawful = size-lawful (form_at p.types type.0) len in
      let (low, high) = birth_known in
      record {
        known = high;
        no_length = birth_may.class;
        least = lawful.0;
        most = birth_most;
        whole = lawful.1;
        free = λ none. absurd (omega (arith, low, none));
      }

  pub birth_room : own_fits (frame p.space.heap) t (size_of (form_at p.types type.0) len) ≡ true
  birth_room = birth_may.fits

  -- what was owed is paid
  paid : finalizer ≡ true → births_owed (with_begun p.safe t Nothing) + 1 ≡ births_owed p.safe
  paid final =
      owed-paid p.safe.begun (t - 1) Nothing (begun-within is.shown t thread) (ap owes_entry begun ∙ final) refl

  pub birth_entry : finalizer ≡ true → 1 ≤ p.roots.finals.spare
  birth_entry final = let one = paid final in let owed = is.owed in omega (arith, one, owed)

  -- and what the other threads owe still has its room
  pub birth_owed : (left : ℕ) → left + (if finalizer then 1 else 0) ≡ p.roots.finals.spare
      → births_owed (with_begun p.safe t Nothing) ≤ left
  birth_owed left taken = go finalizer refl taken
    where
      go : (b : Bool) → finalizer ≡ b → left + (if b then 1 else 0) ≡ p.roots.finals.spare
          → births_owed (with_begun p.safe t Nothing) ≤ left
      go true e taken = let one = paid e in let owed = is.owed in omega (arith, one, owed, taken)
      go false e taken =
          let none = owed-no_more p.safe.begun (t - 1) Nothing (begun-within is.shown t thread) refl in
          let owed = is.owed in omega (arith, none, owed, taken)

  -- it has begun no store
  pub birth_no_store : (object slot : ℕ) → step_by (begun_by p.safe t) ≡ begun_store object slot → ⊥
  birth_no_store object slot e = clash (sym (ap step_by begun) ∙ e)
    where
      clash : begun_new type.0 len local ≡ begun_store object slot → ⊥
      clash f = cc

  -- ---- what is seen after the birth

  module _ (new : HeapView) (place j size : ℕ) (entries ready : List ℕ)
      (newborn : HasNewborn p.types p.space.heap new t type.0 len) (at : place ≡ context_front (frame p.space.heap) t)
      (index : j ≡ local_index t local) (size_is : size ≡ size_of (form_at p.types type.0) len)
      (registered : entries ≡ born_entries (seen p) type.0 place) (waiting : ready ≡ p.roots.finals.ready) where
    abbrev born_world : World
    born_world = record (world_of p) {
      heap = new;
      locals = slice_set p.roots.locals.items j place;
      entries = entries;
      ready = ready;
    }

    abbrev after : Machine
    after = shown born_world (spent_more (sums_of p.sums) size) (options_of p.options) (with_begun p.safe t Nothing)
        (ahead_of p)

    born-shown : seen_at_front (with_step (seen p) t no_step) t local type.0 len ≡ after
    born-shown =
        let listed : born_entries (seen p) type.0 (context_front (frame p.space.heap) t) ≡ entries =
        ap (born_entries (seen p) type.0) (sym at) ∙ sym registered in
        λ k. record after {
          objects = sym newborn.objects k;
          locals = slice_set p.roots.locals.items (sym index k) (sym at k);
          entries = listed k;
          ready = sym waiting k;
          steps = sym (steps_of-set p.safe.begun (t - 1) Nothing) k;
          layout = sym newborn.layout k;
          sums = spent_more (sums_of p.sums) (sym size_is k);
        }

    -- the object is born, and the thread has finished its step
    pub birth_finished : Follows (seen p) (finish_step t) (answered (Place place))
        (shown (record (world_of p) {
          heap = new;
          locals = slice_set p.roots.locals.items j place;
          entries = entries;
          ready = ready;
        }) (spent_more (sums_of p.sums) size) (options_of p.options) (with_begun p.safe t Nothing) (ahead_of p))
    birth_finished =
        subst (λ n. Follows (seen p) (finish_step t) (answered (Place n)) after) (sym at)
        (subst (Follows (seen p) (finish_step t) (answered (Place (context_front (frame p.space.heap) t)))) born-shown
        (finish_birth_done (seen p) t type.0 len local thread birth-step))

    -- and what holds of the parts of a runtime still holds
    pub birth_finished_shown : (IsUnmarked p.types p.space.heap → IsUnmarked p.types new)
        → (AreFreeHeads p.types p.space.heap → AreFreeHeads p.types new)
        → (AreClean p.types p.space.heap → AreClean p.types new)
        → IsShown (record (world_of p) {
          heap = new;
          locals = slice_set p.roots.locals.items j place;
          entries = entries;
          ready = ready;
        }) (spent_more (sums_of p.sums) size) (options_of p.options) (with_begun p.safe t Nothing) (ahead_of p)
    birth_finished_shown unmarked heads clean = record {
      locals = length-slice_set p.roots.locals.items j place ∙ is.shown.locals;
      held = newborn.held;
      unmarked = unmarked is.shown.unmarked;
      free_heads = heads is.shown.free_heads;
      clean = clean is.shown.clean;
      sound = follows_sound (seen p) (finish_step t) (answered (Place place)) after is.shown.sound birth_finished;
      marked = λ running.
          stays_marked (seen p) after p.background
          (record {
            objects = still_taken (seen p) after (marking_by p.background.shades) is.shown.sound.lawful.marking
                (running_marking p.background running)
                (follows_sound (seen p) (finish_step t) (answered (Place place)) after is.shown.sound
                birth_finished).lawful
                (λ o here. subst (IsIn o) (sym newborn.objects)
                (into_sorted_by (λ (o : Object). o.name) o _ (append_left _ here)));
            forms = λ o here. refl;
            stores = stores-begun p.safe t Nothing birth_no_store;
          }) (is.shown.marked running);
    }
