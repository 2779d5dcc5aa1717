-- What a runtime shows where a thread begins a step or ends it, and what still holds of its parts.
use Rattle.std.proofs.Common.{◌≡◌, ◌∙◌, inl, inr, ℕ, ◌-◌, ◌<◌, List, length, map, set, refl, sym, ap, subst}
use Rattle.std.proofs.Common.{[], ◌∷◌, zero, suc, Bool, true, false, get_or, None, Option, Some}
use Rattle.std.specs.List.{AllByRecursion}
use Rattle.clr_types.specs.Rising.{IsIn}
use Rattle.clr_types.specs.Types.{has_finalizer, type_row, TypeRow}
use Rattle.clr_types.specs.declared.TypeId.{TypeId}
use Rattle.clr_types.proofs.ChangedLists.{all-slice_set}
use Rattle.clr_covers.specs.Covers.{CoverView}
use Rattle.clr_heap.specs.View.{HeapView}
use Rattle.clr_model.specs.Lawful.{IsPlaceNamed}
use Rattle.clr_model.specs.Lookups.{is_step, is_thread}
use Rattle.clr_model.specs.Machine.{begun_store, Options, Sums}
use Rattle.clr_model.specs.Updates.{with_step}
use Rattle.clr_safe.specs.Threads.{begun_by, step_by, steps_of, Threads}
use Rattle.clr_safe.specs.declared.begun.Begun.{Begun}
use Rattle.clr_safe.specs.declared.begun.Begun.TheVariants.{Birth, Nothing}
use Rattle.clr_safe.proofs.Entries.{among-still, entry-within, step_of-begun, steps_of-set}
use Rattle.clr_view.specs.View.{objects_in}
use Rattle.clr_view.specs.World.{World}
use Rattle.clr_runtime.specs.Shown.{Ahead, shown}
use Rattle.clr_model.specs.declared.Reply.TheVariants.{Done}
use Rattle.clr_model.specs.Instructions.{resume_others, suspend_others}
use Rattle.clr_model.specs.Outcomes.{answered}
use Rattle.clr_model.specs.Run.{Follows}
use Rattle.clr_model.proofs.LineChecks.{MayRun}
use Rattle.clr_model.proofs.SeenStands.{follows_sound}
use Rattle.clr_options.specs.Options.{options_of}
use Rattle.clr_runtime.specs.RuntimeView.{ahead_of, IsBegunStore, IsRuntime, IsShown, IsToldBy, seen, sums_of}
use Rattle.clr_runtime.specs.RuntimeView.{TellsFinalizer}
use Rattle.clr_runtime.specs.RuntimeView.{world_of}
use Rattle.clr_runtime.specs.declared.parts.Parts.{Parts}
use Rattle.clr_runtime.proofs.StepsKept.{tables-by}
use Rattle.clr_runtime.proofs.SuspendLines.{resume_done, suspend_done}
use Rattle.clr_runtime.proofs.MarkedKept.{stays_marked}

-- the thread has begun this
abbrev pub with_begun : Threads → ℕ → Begun → Threads
with_begun threads t what = record threads { begun = set threads.begun (t - 1) what }

-- and so it is seen
pub begun-shown : (w : World) (sums : Sums) (options : Options) (threads : Threads) (ahead : Ahead) (t : ℕ)
    (what : Begun)
    → with_step (shown w sums options threads ahead) t (step_by what)
    ≡ shown w sums options (record threads { begun = set threads.begun (t - 1) what }) ahead
begun-shown w sums options threads ahead t what =
    ap (λ steps. record (shown w sums options threads ahead) { steps = steps })
    (sym (steps_of-set threads.begun (t - 1) what))

module _ {w : World} {sums : Sums} {options : Options} {threads : Threads} {ahead : Ahead}
    (is : IsShown w sums options threads ahead) where
  -- each thread has its entry
  pub begun-within : (t : ℕ) → is_thread t ≡ true → t - 1 < length threads.begun
  begun-within t thread = entry-within t (length threads.begun) thread (counted threads.begun ∙ is.sound.lawful.steps)
    where
      counted : (xs : List Begun) → length xs ≡ length (map step_by xs)
      counted [] = refl
      counted (x ∷ xs) = ap suc (counted xs)

  -- where what is shown of other threads is sound, all that holds of the parts still holds
  pub threads_kept : (next : Threads)
      → ((name slot : ℕ) → IsIn (begun_store name slot) (steps_of threads)
      → IsIn (begun_store name slot) (steps_of next))
      → IsPlaceNamed (shown w sums options next ahead) → IsShown w sums options next ahead
  threads_kept next stores sound = record {
    locals = is.locals;
    held = is.held;
    unmarked = is.unmarked;
    free_heads = is.free_heads;
    clean = is.clean;
    sound = sound;
    marked = λ running.
        stays_marked (shown w sums options threads ahead) (shown w sums options next ahead) ahead.background
        (record { objects = λ o here took. here; forms = λ o here. refl; stores = stores }) (is.marked running);
  }

-- stores that are begun go on where the thread had begun none
pub stores-begun : (threads : Threads) (t : ℕ) (what : Begun)
    → ((object slot : ℕ) → step_by (begun_by threads t) ≡ begun_store object slot → ⊥) → (name slot : ℕ)
    → IsIn (begun_store name slot) (steps_of threads)
    → IsIn (begun_store name slot) (steps_of (with_begun threads t what))
stores-begun threads t what none name slot j =
    subst (IsIn (begun_store name slot)) (sym (steps_of-set threads.begun (t - 1) what))
    (among-still (begun_store name slot) (steps_of threads) (t - 1) (step_by what) j
    (λ e. none name slot (sym (step_of-begun threads t) ∙ e)))

-- what tells whether a type has a finaliser is told of what was begun, too
pub finalizers-begun : (rows : List TypeRow) (threads : Threads) (t : ℕ) (what : Begun)
    → AllByRecursion (TellsFinalizer rows) threads.begun → TellsFinalizer rows what
    → AllByRecursion (TellsFinalizer rows) (set threads.begun (t - 1) what)
finalizers-begun rows threads t what tells here =
    all-slice_set (TellsFinalizer rows) threads.begun (t - 1) what tells here

-- what a thread has begun tells whether the type has a finaliser
pub finalizer-of : (rows : List TypeRow) (threads : Threads) (t : ℕ) (type : TypeId) (len local : ℕ) (finalizer : Bool)
    → begun_by threads t ≡ Birth type len local finalizer → AllByRecursion (TellsFinalizer rows) threads.begun
    → finalizer ≡ has_finalizer (type_row rows type.0)
finalizer-of rows threads t type len local finalizer begun tells =
    subst (TellsFinalizer rows) begun (go threads.begun (t - 1) tells)
  where
    go : (xs : List Begun) (i : ℕ) → AllByRecursion (TellsFinalizer rows) xs
        → TellsFinalizer rows (get_or xs i Nothing)
    go [] i all = tt
    go (x ∷ xs) zero all = all.0
    go (x ∷ xs) (suc i) all = go xs i all.1

-- ---- what is told of references to younger objects

module _ (rows : List TypeRow) (h : HeapView) (cards : List (CoverView ℕ)) (threads : Threads) (t : ℕ)
    (what : Begun) where
  -- an address that a store tells which isn't the thread's own is told still
  pub store-still : (a : ℕ) (store : IsBegunStore rows (objects_in rows h) (steps_of threads) a)
      → (step_by (begun_by threads t) ≡ begun_store store.object.name store.slot → ⊥)
      → IsBegunStore rows (objects_in rows h) (steps_of (with_begun threads t what)) a
  store-still a store apart = record {
    object = store.object;
    present = store.present;
    slot = store.slot;
    begun = subst (IsIn (begun_store store.object.name store.slot)) (sym (steps_of-set threads.begun (t - 1) what))
        (among-still (begun_store store.object.name store.slot) (steps_of threads) (t - 1) (step_by what) store.begun
        (λ e. apart (sym (step_of-begun threads t) ∙ e)));
    address = store.address;
  }

  -- where the thread had begun no store, all that was told is told still
  pub told-begun : ((object slot : ℕ) → step_by (begun_by threads t) ≡ begun_store object slot → ⊥) → (a : ℕ)
      → IsToldBy rows h cards threads a → IsToldBy rows h cards (with_begun threads t what) a
  told-begun none a told = elim told [
    | inl by_card ↦ inl by_card
    | inr store ↦ inr (store-still a store (none store.object.name store.slot))
  ]

-- a thread that isn't in mid-step has begun no store
pub idle-no_store : (threads : Threads) (t : ℕ) → is_step (step_by (begun_by threads t)) ≡ false → (object slot : ℕ)
    → step_by (begun_by threads t) ≡ begun_store object slot → ⊥
idle-no_store threads t idle object slot e = clash (sym (ap is_step e) ∙ idle)
  where
    clash : true ≡ false → ⊥
    clash f = cc

-- ---- another holder

-- with another holder, of which what is shown is sound, a runtime is one still
held_kept : (p : Parts) (holder : Option ℕ)
    → IsPlaceNamed (shown (world_of p) (sums_of p.sums) (options_of p.options) (record p.safe { holder = holder })
    (ahead_of p))
    → IsRuntime p → IsRuntime (record p { safe = record p.safe { holder = holder } })
held_kept p holder sound is = record {
  shown = threads_kept is.shown (record p.safe { holder = holder }) (λ name slot j. j) sound;
  heap = is.heap;
  tables =
      tables-by p.types p.space.heap p.space.cards p.space.bricks (IsToldBy p.types p.space.heap p.space.cards p.safe)
      (IsToldBy p.types p.space.heap p.space.cards (record p.safe { holder = holder })) (λ a told. told) is.tables;
  owed = is.owed;
  finalizers = is.finalizers;
  index = is.index;
  large = is.large;
  pinned = is.pinned;
  limit = is.limit;
  ready = is.ready;
}

module _ (p : Parts) (t : ℕ) (run : MayRun (seen p) t) (next : Threads) where
  -- a thread holds all others
  pub suspended : next ≡ record p.safe { holder = Some t }
      → Follows (seen p) (suspend_others t) (answered Done) (seen (record p { safe = next }))
  suspended same =
      subst (λ (threads : Threads). Follows (seen p) (suspend_others t) (answered Done)
      (seen (record p { safe = threads }))) (sym same) (suspend_done (seen p) t run)

  pub suspend_kept : next ≡ record p.safe { holder = Some t } → IsRuntime p → IsRuntime (record p { safe = next })
  suspend_kept same is =
      subst (λ (threads : Threads). IsRuntime (record p { safe = threads })) (sym same)
      (held_kept p (Some t)
      (follows_sound (seen p) (suspend_others t) (answered Done) _ is.shown.sound (suspend_done (seen p) t run)) is)

  -- or lets them go
  pub resumed : next ≡ record p.safe { holder = None }
      → Follows (seen p) (resume_others t) (answered Done) (seen (record p { safe = next }))
  resumed same =
      subst (λ (threads : Threads). Follows (seen p) (resume_others t) (answered Done)
      (seen (record p { safe = threads }))) (sym same) (resume_done (seen p) t run)

  pub resume_kept : next ≡ record p.safe { holder = None } → IsRuntime p → IsRuntime (record p { safe = next })
  resume_kept same is =
      subst (λ (threads : Threads). IsRuntime (record p { safe = threads })) (sym same)
      (held_kept p None
      (follows_sound (seen p) (resume_others t) (answered Done) _ is.shown.sound (resume_done (seen p) t run)) is)
