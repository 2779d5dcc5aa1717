-- What a line does to a machine, in one of a few ways.
use Rattle.std.proofs.Common.{◌≡◌, ℕ, ◌+◌, ◌-◌, ◌⊎◌, inl, inr, List, [], ◌∷◌, ◌++◌, length, refl, sym, ap, subst, ◌∙◌}
use Rattle.std.proofs.Common.{Bool, true, false, if◌then◌else◌, not, ◌&&◌, nat_le, unwrap_or, Option, Some, None}
use Rattle.std.proofs.Common.{slice_set}
use Rattle.std.specs.Prelude.{is_some, MatchOption, slice_get}
use Rattle.std.specs.Bool.{MatchBool}
use Rattle.std.specs.FinMap as finmap
use Rattle.clr_types.specs.Rising.{IsIn}
use Rattle.clr_types.specs.Types.{TypeRow, form_at, has_finalizer, mt_of, size_of, type_row}
use Rattle.clr_types.specs.Segments.{Layout}
use Rattle.clr_types.specs.declared.handle.Handle.{Handle}
use Rattle.clr_types.specs.declared.handle.Kind.{Kind}
use Rattle.clr_model.specs.declared.How.{How}
use Rattle.clr_model.specs.declared.How.TheVariants.{Compact, Decide, Fit, Sweep}
use Rattle.clr_model.specs.declared.Collected.{Collected}
use Rattle.clr_model.specs.declared.Refusal.{Refusal}
use Rattle.clr_model.specs.declared.Refusal.TheVariants as refusal
use Rattle.clr_model.specs.declared.Reply.{Reply}
use Rattle.clr_model.specs.declared.Reply.TheVariants as reply
use Rattle.clr_model.specs.Machine.{Value, ref, num, ThreadStep, no_step, begun_store, begun_new, Sums, Machine}
use Rattle.clr_model.specs.Machine.{Marking}
use Rattle.clr_model.specs.Lookups.{is_step, is_thread, local_of, lowest_in_step, object_has_finalizer, slots_of_named}
use Rattle.clr_model.specs.Lookups.{step_of, step_or_none, type_of_named}
use Rattle.clr_model.specs.Background.{IsBegun, ScansUpTo}
use Rattle.clr_model.specs.Reach.{is_suppressed}
use Rattle.clr_model.specs.Picture.{picture}
use Rattle.clr_model.specs.Sos.{dumpobj_text, eeheap_text, gchandles_text, finalizequeue_text}
use Rattle.clr_model.specs.Updates.{born_at, with_entry, with_flag, with_handle, with_local, with_slot, with_step}
use Rattle.clr_model.specs.Updates.{without_handle}
use Rattle.clr_model.specs.Collection.{Collects, EndsBackground}
use Rattle.clr_model.specs.Allocation.{Attempt, context_front, front_taken, MakesRoom, PlacesLarge, PlacesPinned}
use Rattle.clr_model.specs.Lawful.{IsLawful}
use Rattle.clr_model.specs.Laws.{IsUsual}
use Rattle.clr_model.specs.LineGrammar.{IsHowForm, IsWellFormed}
use Rattle.clr_model.specs.Instructions.{Instruction, define_type, new_object, get_slot, set_slot, put_number}
use Rattle.clr_model.specs.Instructions.{read_number, copy_local, clear_local, suppress_object, reregister_object}
use Rattle.clr_model.specs.Instructions.{collect_heap, suspend_others, resume_others, begin_set, begin_new, finish_step}
use Rattle.clr_model.specs.Instructions.{create_handle, fetch_target, fetch_second, free_handle, take_ready, dump_heap}
use Rattle.clr_model.specs.Instructions.{dump_object, show_root, show_segments, verify_heap, show_handles, show_queues}
use Rattle.clr_model.specs.Instructions.{where_is, compact_large_once, new_pinned, begin_background, step_background}
use Rattle.clr_model.specs.Instructions.{end_background, show_size, look_at}
use Rattle.clr_model.specs.Checks.{refusal as first_refusal, blocked, first_of_all, made_size, mid_step, not_mid_step}
use Rattle.clr_model.specs.Checks.{refuse_if, unknown_thread}
use Rattle.clr_model.specs.Outcomes.{Outcome, answered, refused}
use Rattle.clr_model.specs.Step.{born_small, row_of, with_type, MakesSmall, MakesLarge, MakesPinned, BeginsNew}
use Rattle.clr_model.specs.Step.{FinishesStep, Reregisters, CollectsByLine, CreatesHandle, ShowsRoot, Shows}
use Rattle.clr_model.specs.Step.{BeginsBackground, EndsByLine, StepsBackground, WantsMemory, Replies, Does, Obeys}
use Rattle.clr_model.specs.Step.{type_named, name_in, target_of, second_of, head_or_null, tail_of, stored_number}
use Rattle.clr_model.specs.Step.{new_row, with_entry_of, with_spent_large}
use Rattle.clr_model.proofs.SmallLadder.{either, either_option}
use Rattle.clr_background.specs.Log.{CompletesStore}
use Rattle.clr_background.proofs.CarriedOver.{CarriesOver, collects_carries, large_carries, last_pause_carries}
use Rattle.clr_background.proofs.CarriedOver.{pinned_carries, room_carries, same_carries}
use Rattle.clr_background.proofs.Members.{stays_in_set}
use Rattle.clr_background.proofs.OldStays.{LeavesOldWhile, collection_leaves, large_leaves, last_pause_leaves}
use Rattle.clr_background.proofs.OldStays.{pinned_leaves, room_leaves, same_leave}

-- ---- the ways

-- a name that a line comes by: null, or what a local, a slot of a local's object, a handle or the front of the
-- f-reachable queue names
pub data IsComeBy (m : Machine) (x : ℕ) : Type 0 where
  as_null : x ≡ 0 → IsComeBy m x
  by_local : (t k : ℕ) → x ≡ local_of m t k → IsComeBy m x
  by_slot : (t k index : ℕ) → x ≡ name_in (slice_get (slots_of_named m (local_of m t k)) index) → IsComeBy m x
  by_target : (h : ℕ) → x ≡ target_of (finmap.get m.handles h) → IsComeBy m x
  by_second : (h : ℕ) → x ≡ second_of (finmap.get m.handles h) → IsComeBy m x
  by_queue : x ≡ head_or_null m.ready → IsComeBy m x

abbrev pub IsComeByIn : Machine → Value → Type 0
IsComeByIn m (ref x) = IsComeBy m x
IsComeByIn m (num n) = Unit {0}

-- a line that collects does so as a collection may
abbrev pub IsUsualLine : Instruction → Type 0
IsUsualLine (collect_heap t g how) = IsUsual g how
IsUsualLine _ = Unit {0}

usual_form : (g : ℕ) (how : How) → IsHowForm g how → IsUsual g how
usual_form g Decide formed = formed
usual_form g Compact formed = formed
usual_form g Sweep formed = formed
usual_form g Fit formed = formed

-- as a line of the grammar does
pub usual_line : (i : Instruction) → IsWellFormed i → IsUsualLine i
usual_line (collect_heap t g how) formed = usual_form g how formed.1
usual_line _ formed = tt

-- room is made, or a collection is
pub record Rearranges (m : Machine) (i : Instruction) (new : Machine) : Type 0 where
  pub carries : CarriesOver m new
  pub leaves : IsLawful m → IsUsualLine i → LeavesOldWhile m new

-- what threads have begun is begun still, but for the store that the line completes
abbrev pub StepsGoOn : Machine → Instruction → List ThreadStep → Type 0
StepsGoOn m i steps = (name slot : ℕ) → IsIn (begun_store name slot) m.steps
    → IsIn (begun_store name slot) steps ⊎ CompletesStore m i name slot

-- an object is born, with these steps, layout and sums beside it, and has its entry or none
abbrev pub with_birth : Machine → List ThreadStep → Layout → Sums → Bool → ℕ → ℕ → ℕ → ℕ → ℕ → Machine
with_birth m steps layout sums entered t local place type len =
    let born = born_at (record m { steps = steps; layout = layout }) t local place type len in
    record (if entered then with_entry born (m.born + 1) else born) { sums = sums }

pub data Change (m : Machine) (i : Instruction) (new : Machine) : Type 0 where
  rearranged : Rearranges m i new → Change m i new
  takes_name : (t k x : ℕ) → IsComeBy m x → new ≡ with_local m t k x → Change m i new
  takes_queued : (t k : ℕ)
      → new ≡ record (with_local m t k (head_or_null m.ready)) { ready = tail_of m.ready } → Change m i new
  stores_value : (t into index : ℕ) (v : Value) → IsComeByIn m v
      → ((x : ℕ) → v ≡ ref x → CompletesStore m i (local_of m t into) index)
      → new ≡ with_slot m (local_of m t into) index v → Change m i new
  begins_store : (t into index from : ℕ) → is_thread t ≡ true → is_step (step_of m t) ≡ false
      → new ≡ with_step (with_slot m (local_of m t into) index (ref (local_of m t from))) t
      (begun_store (local_of m t into) index) → Change m i new
  sets_flag : (name : ℕ) (flag : Bool) → new ≡ with_flag m name flag → Change m i new
  adds_entry : (x : ℕ) → IsComeBy m x → new ≡ with_entry m x → Change m i new
  adds_handle : (h : ℕ) (row : Handle) → IsComeBy m row.target → IsComeBy m row.second → new ≡ with_handle m h row
      → Change m i new
  frees_handle : (h : ℕ) → new ≡ without_handle m h → Change m i new
  adds_type : (row : TypeRow) → new ≡ record m { types = m.types ++ (row ∷ []) } → Change m i new
  goes_on : (ready : Machine) → Rearranges m i ready → (steps : List ThreadStep) (holder : Option ℕ) (flag : Bool)
      → StepsGoOn m i steps → new ≡ record ready { steps = steps; holder = holder; compacts_large = flag }
      → Change m i new
  gives_birth : (ready : Machine) → Rearranges m i ready → (steps : List ThreadStep) (layout : Layout) (sums : Sums)
      (entered : Bool) (t local place type len : ℕ) → StepsGoOn m i steps
      → new ≡ with_birth ready steps layout sums entered t local place type len → Change m i new
  begins_marking : (marking : Marking) → m.background ≡ None → IsBegun m marking
      → new ≡ record m { background = Some marking } → Change m i new
  scans_on : (old : Marking) (n count : ℕ) (marking : Marking) → m.background ≡ Some old
      → ScansUpTo m n old count marking → new ≡ record m { background = Some marking } → Change m i new

-- ---- checks

-- where no check fails, there is the thread, and it isn't between the halves of a step, unless the line is the other
-- half
may_begin : (thread : Bool) (held : Option Refusal) (stepping : Bool) (more : List (Option Refusal))
    → first_of_all (refuse_if (not thread) refusal.UnknownThread ∷ held
    ∷ refuse_if (stepping && true) refusal.MidStep ∷ more) ≡ None
    → (thread ≡ true) × (stepping ≡ false)
may_begin false held stepping more e = absurd cc
may_begin true (Some r) stepping more e = absurd cc
may_begin true None true more e = absurd cc
may_begin true None false more e = (refl, refl)

-- and no background collection runs, if the line is its first pause
none_runs_yet : (a b c d : Option Refusal) (r : Option Marking) (more : List (Option Refusal))
    → first_of_all (a ∷ b ∷ c ∷ d ∷ refuse_if (is_some r) refusal.BackgroundRunning ∷ more) ≡ None → r ≡ None
none_runs_yet (Some q) b c d r more e = absurd cc
none_runs_yet None (Some q) c d r more e = absurd cc
none_runs_yet None None (Some q) d r more e = absurd cc
none_runs_yet None None None (Some q) r more e = absurd cc
none_runs_yet None None None None (Some marking) more e = absurd cc
none_runs_yet None None None None None more e = refl

-- ---- steps of threads

-- a begun store goes on where this thread begins or ends another thing
store_goes_on : (m : Machine) (t : ℕ) (s : ThreadStep) (name slot : ℕ) → IsIn (begun_store name slot) m.steps
    → IsIn (begun_store name slot) (slice_set m.steps (t - 1) s) ⊎ (step_of m t ≡ begun_store name slot)
store_goes_on m t s name slot j = elim (stays_in_set m.steps (t - 1) s (begun_store name slot) j) [
  | inl l ↦ inl l
  | inr e ↦ inr (ap step_or_none e)
]

-- a thread that isn't in the midst of a step has begun no store
pub idle_stores : (m : Machine) (t : ℕ) (name slot : ℕ) → is_step (step_of m t) ≡ false
    → step_of m t ≡ begun_store name slot → ⊥
idle_stores m t name slot idle e = go (sym (ap is_step e) ∙ idle)
  where
    go : true ≡ false → ⊥
    go f = cc

-- so all stores go on where one begins something
pub idle_goes_on : (m : Machine) (t : ℕ) (s : ThreadStep) → is_step (step_of m t) ≡ false → (name slot : ℕ)
    → IsIn (begun_store name slot) m.steps → IsIn (begun_store name slot) (slice_set m.steps (t - 1) s)
idle_goes_on m t s idle name slot j = elim (store_goes_on m t s name slot j) [
  | inl l ↦ l
  | inr e ↦ absurd (idle_stores m t name slot idle e)
]

-- ---- what lines have in common

module _ (m : Machine) (i : Instruction) where
  nothing : Rearranges m i m
  nothing = record { carries = same_carries m m refl; leaves = λ h formed runs. same_leave m m h refl }

  all_go_on : StepsGoOn m i m.steps
  all_go_on name slot j = inl j

  room : (t size : ℕ) (attempt : Attempt) (ready : Machine) → MakesRoom m t size attempt ready → Rearranges m i ready
  room t size attempt ready made = record {
    carries = room_carries t size attempt ready m made;
    leaves = λ h line. room_leaves t size attempt ready m h made;
  }

  still_begun : (ready : Machine) → CarriesOver m ready → StepsGoOn m i ready.steps
  still_begun ready c name slot j = inl (subst (IsIn (begun_store name slot)) (sym c.steps) j)

  module _ (outcome : Outcome) (new : Machine) where
    -- ---- one outcome

    still : new ≡ m → Change m i new
    still same = rearranged (subst (Rearranges m i) (sym same) nothing)

    comes_to : (ready : Machine) → Rearranges m i ready → new ≡ ready → Change m i new
    comes_to ready made same = rearranged (subst (Rearranges m i) (sym same) made)

    or_wants : (after : Machine) (reply_is : Reply) → (new ≡ after → Change m i new)
        → Replies outcome reply_is new after ⊎ WantsMemory m outcome new → Change m i new
    or_wants after reply_is done (inl (replied, same)) = done same
    or_wants after reply_is done (inr (wants, same)) = still same

    -- ---- lines that make objects

    module _ (t local type len : ℕ) where
      abbrev size : ℕ
      size = size_of (form_at m.types type) len

      born_in_context : (ready : Machine) → Rearranges m i ready → (steps : List ThreadStep) → StepsGoOn m i steps
          → new ≡ born_small (record ready { steps = steps }) t local type len → Change m i new
      born_in_context ready made steps go_on same =
          gives_birth ready made steps
          (front_taken ready.layout t (size_of (form_at ready.types type) len))
          (born_small (record ready { steps = steps }) t local type len).sums
          (has_finalizer (type_row ready.types type)) t local (context_front ready.layout t) type len go_on same

      makes_small : MakesSmall m t local type len outcome new → Change m i new
      makes_small (attempt, ready, made, inl (is, (replied, same))) =
          let r = room t size attempt ready made in
          born_in_context ready r ready.steps (still_begun ready r.carries) same
      makes_small (attempt, ready, made, inr (fails, same)) =
          comes_to ready (room t size attempt ready made) same

      large : (place : ℕ) (attempt : Attempt) (ready : Machine) → PlacesLarge m size place attempt ready
          → Rearranges m i ready
      large place attempt ready placed = record {
        carries = large_carries size place attempt ready m placed;
        leaves = λ h line. large_leaves size place attempt ready m h placed;
      }

      makes_large : MakesLarge m t local type len outcome new → Change m i new
      makes_large (attempt, ready, place, placed, inl (is, (replied, same))) =
          let r = large place attempt ready placed in
          let born = with_entry_of (born_at ready t local place type len) type (ready.born + 1) in
          gives_birth ready r ready.steps ready.layout (with_spent_large born size).sums
          (has_finalizer (type_row ready.types type)) t local place type len (still_begun ready r.carries) same
      makes_large (attempt, ready, place, placed, inr (fails, same)) =
          comes_to ready (large place attempt ready placed) same

      pinned : (place : ℕ) (attempt : Attempt) (ready : Machine) → PlacesPinned m size place attempt ready
          → Rearranges m i ready
      pinned place attempt ready placed = record {
        carries = pinned_carries size place attempt ready m placed;
        leaves = λ h line. pinned_leaves size place attempt ready m h placed;
      }

      makes_pinned : MakesPinned m t local type len outcome new → Change m i new
      makes_pinned (attempt, ready, place, placed, inl (is, (replied, same))) =
          let r = pinned place attempt ready placed in
          gives_birth ready r ready.steps ready.layout ready.sums false t local place type len
          (still_begun ready r.carries) same
      makes_pinned (attempt, ready, place, placed, inr (fails, same)) =
          comes_to ready (pinned place attempt ready placed) same

      -- a thread that has begun nothing begins something
      begins_new : is_step (step_of m t) ≡ false → BeginsNew m t local type len outcome new → Change m i new
      begins_new idle (attempt, ready, made, inl (is, (replied, same))) =
          let r = room t size attempt ready made in
          goes_on ready r (slice_set ready.steps (t - 1) (begun_new type len local)) ready.holder ready.compacts_large
          (λ name slot j. inl (subst (λ ss. IsIn (begun_store name slot) (slice_set ss (t - 1)
          (begun_new type len local))) (sym r.carries.steps)
          (idle_goes_on m t (begun_new type len local) idle name slot j))) same
      begins_new idle (attempt, ready, made, inr (fails, same)) =
          comes_to ready (room t size attempt ready made) same

    -- ---- other lines with cases

    reregisters : (t local : ℕ) → Reregisters m (local_of m t local) outcome new → Change m i new
    reregisters t local h =
        let name = local_of m t local in
        let flagged = Replies outcome reply.Done new (with_flag m name false) in
        let entered = Replies outcome reply.Done new (with_entry m name) ⊎ WantsMemory m outcome new in
        either (object_has_finalizer m name) (MatchBool (is_suppressed m name) flagged entered)
        (Replies outcome reply.Done new m) h
        (λ e more.
        either (is_suppressed m name) flagged entered more
        (λ f done. sets_flag name false done.1)
        (λ f. or_wants (with_entry m name) reply.Done (adds_entry name (by_local t local refl))))
        (λ e done. still done.1)

    suppresses : (name : ℕ) (b : Bool) → new ≡ (if b then with_flag m name true else m) → Change m i new
    suppresses name true same = sets_flag name true same
    suppresses name false same = still same

    collects : (g : ℕ) (how : How) → (IsUsualLine i → IsUsual g how) → CollectsByLine m g how outcome new
        → Change m i new
    collects g how usual h =
        let waiting = λ (k : ℕ). (outcome ≡ refused (refusal.Wait k)) × (new ≡ m) in
        either_option (lowest_in_step m)
        ((answer : Collected) × Collects m g how answer new × (outcome ≡ answered (reply.Collected answer))) waiting h
        done (λ k same. still same.1)
      where
        done : (answer : Collected) × Collects m g how answer new × (outcome ≡ answered (reply.Collected answer))
            → Change m i new
        done (answer, c, replied) = rearranged (record {
          carries = collects_carries m g how answer new c;
          leaves = λ h line. collection_leaves m g how answer new h (usual line) c;
        })

    begins_background : m.background ≡ None → BeginsBackground m outcome new → Change m i new
    begins_background none h =
        let waiting = λ (k : ℕ). (outcome ≡ refused (refusal.Wait k)) × (new ≡ m) in
        either_option (lowest_in_step m)
        (((marking : Marking) × IsBegun m marking
        × Replies outcome reply.Done new (record m { background = Some marking })) ⊎ WantsMemory m outcome new) waiting
        h
        done (λ k same. still same.1)
      where
        done : ((marking : Marking) × IsBegun m marking
            × Replies outcome reply.Done new (record m { background = Some marking })) ⊎ WantsMemory m outcome new
            → Change m i new
        done (inl (marking, is, (replied, same))) = begins_marking marking none is same
        done (inr (wants, same)) = still same

    ends_background : EndsByLine m outcome new → Change m i new
    ends_background h =
        let waiting = λ (k : ℕ). (outcome ≡ refused (refusal.Wait k)) × (new ≡ m) in
        either_option (lowest_in_step m)
        ((marking : Marking) × (m.background ≡ Some marking) × (answer : Collected)
        × EndsBackground m marking answer new × (outcome ≡ answered (reply.Collected answer))) waiting h
        done (λ k same. still same.1)
      where
        done : (marking : Marking) × (m.background ≡ Some marking) × (answer : Collected)
            × EndsBackground m marking answer new × (outcome ≡ answered (reply.Collected answer)) → Change m i new
        done (marking, runs, answer, c, replied) = rearranged (record {
          carries = last_pause_carries m marking answer new c;
          leaves = λ h line. last_pause_leaves m marking answer new c;
        })

    steps_background : (n : ℕ) → StepsBackground m n outcome new → Change m i new
    steps_background n (old, runs, count, marking, scans, (replied, same)) =
        scans_on old n count marking runs scans same

    creates : (t local : ℕ) (kind : Kind) (second : Option ℕ)
        → CreatesHandle m (row_of m t kind local second) outcome new → Change m i new
    creates t local kind None (inl (h, low, free, (replied, same))) =
        adds_handle h (row_of m t kind local None) (by_local t local refl) (as_null refl) same
    creates t local kind (Some k) (inl (h, low, free, (replied, same))) =
        adds_handle h (row_of m t kind local (Some k)) (by_local t local refl) (by_local t k refl) same
    creates t local kind second (inr (wants, same)) = still same

    shows : (text : List ℕ) → Shows m text outcome new → Change m i new
    shows text (inl (shown, same)) = still same
    shows text (inr (wants, same)) = still same

    shows_root : (a : ℕ) → ShowsRoot m a outcome new → Change m i new
    shows_root a (inl (text, is, shown, same)) = still same
    shows_root a (inr (inl (none, shown, same))) = still same
    shows_root a (inr (inr (wants, same))) = still same

-- the other half of a step
finishes : (m : Machine) (t : ℕ) (outcome : Outcome) (new : Machine) (s : ThreadStep) → FinishesStep m t s outcome new
    → Change m (finish_step t) new
finishes m t outcome new no_step h = absurd h
finishes m t outcome new (begun_store object slot) (replied, same) =
    goes_on m (nothing m (finish_step t)) (slice_set m.steps (t - 1) no_step) m.holder m.compacts_large
    (store_goes_on m t no_step) same
finishes m t outcome new (begun_new type len local) (replied, same) =
    born_in_context m (finish_step t) outcome new t local type len m (nothing m (finish_step t))
    (slice_set m.steps (t - 1) no_step) (store_goes_on m t no_step) same

-- ---- every line

does : (m : Machine) (i : Instruction) (outcome : Outcome) (new : Machine) → first_refusal m i ≡ None
    → Does m i outcome new → Change m i new
does m (define_type name form finalizer) outcome new e d =
    or_wants m _ outcome new (with_type m name form finalizer) (reply.Mt (mt_of (length m.types + 1)))
    (adds_type (new_row name form finalizer)) d
does m (new_object t local name len) outcome new e (inl d) =
    let type = type_named m name in let l = unwrap_or len 0 in
    either (nat_le m.options.large (made_size m name len)) (MakesLarge m t local type l outcome new)
    (MakesSmall m t local type l outcome new) d
    (λ f. makes_large m _ outcome new t local type l) (λ f. makes_small m _ outcome new t local type l)
does m (new_object t local name len) outcome new e (inr (final, (wants, same))) = still m _ outcome new same
does m (get_slot t to from index) outcome new e (replied, same) =
    takes_name t to (name_in (slice_get (slots_of_named m (local_of m t from)) index)) (by_slot t from index refl) same
does m (set_slot t into index from) outcome new e (replied, same) =
    stores_value t into index (ref (local_of m t from)) (by_local t from refl) (λ x f. (refl, refl)) same
does m (put_number t into index value) outcome new e (replied, same) =
    stores_value t into index (num (stored_number (form_at m.types (type_of_named m (local_of m t into))) value)) tt
    (λ x f. absurd (no_reference x f)) same
  where
    no_reference : (x : ℕ) → num (stored_number (form_at m.types (type_of_named m (local_of m t into))) value) ≡ ref x
        → ⊥
    no_reference x f = cc
does m (read_number t from index) outcome new e (replied, same) = still m _ outcome new same
does m (copy_local t to from) outcome new e (replied, same) =
    takes_name t to (local_of m t from) (by_local t from refl) same
does m (clear_local t local) outcome new e (replied, same) = takes_name t local 0 (as_null refl) same
does m (suppress_object t local) outcome new e (replied, same) =
    suppresses m _ outcome new (local_of m t local) (object_has_finalizer m (local_of m t local)) same
does m (reregister_object t local) outcome new e d = reregisters m _ outcome new t local d
does m (collect_heap t g how) outcome new e d =
    collects m (collect_heap t g how) outcome new g how (λ usual. usual) d
does m (suspend_others t) outcome new e (replied, same) =
    goes_on m (nothing m _) m.steps (Some t) m.compacts_large (all_go_on m (suspend_others t)) same
does m (resume_others t) outcome new e (replied, same) =
    goes_on m (nothing m _) m.steps None m.compacts_large (all_go_on m (resume_others t)) same
does m (begin_set t into index from) outcome new e (replied, same) =
    let may = may_begin (is_thread t) _ (is_step (step_of m t)) _ e in
    begins_store t into index from may.0 may.1 same
does m (begin_new t local name len) outcome new e (inl d) =
    let may = may_begin (is_thread t) _ (is_step (step_of m t)) _ e in
    begins_new m _ outcome new t local (type_named m name) (unwrap_or len 0) may.1 d
does m (begin_new t local name len) outcome new e (inr (final, (wants, same))) = still m _ outcome new same
does m (finish_step t) outcome new e d = finishes m t outcome new (step_of m t) d
does m (create_handle t kind local second) outcome new e d = creates m _ outcome new t local kind second d
does m (fetch_target t to h) outcome new e (replied, same) =
    takes_name t to (target_of (finmap.get m.handles h)) (by_target h refl) same
does m (fetch_second t to h) outcome new e (replied, same) =
    takes_name t to (second_of (finmap.get m.handles h)) (by_second h refl) same
does m (free_handle t h) outcome new e (replied, same) = frees_handle h same
does m (take_ready t to) outcome new e (replied, same) = takes_queued t to same
does m (compact_large_once t) outcome new e (replied, same) =
    goes_on m (nothing m _) m.steps m.holder true (all_go_on m (compact_large_once t)) same
does m (new_pinned t local name len) outcome new e d =
    makes_pinned m _ outcome new t local (type_named m name) len d
does m (begin_background t) outcome new e d =
    begins_background m _ outcome new
    (none_runs_yet (unknown_thread (begin_background t)) (blocked m (begin_background t))
    (mid_step m (begin_background t)) (not_mid_step m (begin_background t)) m.background _ e) d
does m (step_background n) outcome new e d = steps_background m _ outcome new n d
does m (end_background t) outcome new e d = ends_background m _ outcome new d
does m (dump_heap options) outcome new e (inl (live, tests, shown, same)) = still m _ outcome new same
does m (dump_heap options) outcome new e (inr (wants, same)) = still m _ outcome new same
does m (dump_object a) outcome new e d = shows m _ outcome new (dumpobj_text (picture m) a) d
does m (show_root a) outcome new e d = shows_root m _ outcome new a d
does m show_segments outcome new e d = shows m _ outcome new (eeheap_text m) d
does m verify_heap outcome new e (replied, same) = still m _ outcome new same
does m show_handles outcome new e d = shows m _ outcome new (gchandles_text (picture m)) d
does m show_queues outcome new e d = shows m _ outcome new (finalizequeue_text (picture m)) d
does m (where_is a) outcome new e (replied, same) = still m _ outcome new same
does m (show_size a) outcome new e (inl (reached, tests, (replied, same))) = still m _ outcome new same
does m (show_size a) outcome new e (inr (wants, same)) = still m _ outcome new same
does m (look_at look) outcome new e (inl (text, tells, shown, same)) = still m _ outcome new same
does m (look_at look) outcome new e (inr (wants, same)) = still m _ outcome new same

-- A line that is refused does nothing, and another does one of these.
pub line_changes : (m : Machine) (i : Instruction) (outcome : Outcome) (new : Machine) → Obeys m i outcome new
    → Change m i new
line_changes m i outcome new obeys = go (first_refusal m i) refl obeys
  where
    go : (r : Option Refusal) → first_refusal m i ≡ r
        → MatchOption r (Does m i outcome new) (λ q. (outcome ≡ refused q) × (new ≡ m)) → Change m i new
    go None e d = does m i outcome new e d
    go (Some q) e d = still m i outcome new d.1
