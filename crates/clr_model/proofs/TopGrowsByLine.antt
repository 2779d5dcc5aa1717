-- How much a line reserves: no more than 2^30 bytes, whatever it is.
use Rattle.std.proofs.Common.{◌≡◌, ℕ, ◌+◌, ◌⊎◌, inl, inr, List, length, refl, ap, ◌∙◌, arith, Bool, true, false}
use Rattle.std.proofs.Common.{if◌then◌else◌, nat_le, unwrap_or, Some}
use Rattle.std.specs.Bool.{MatchBool}
use Rattle.clr_types.specs.Types.{form_at, has_finalizer, mt_of, size_of, type_row}
use Rattle.clr_types.specs.declared.handle.Handle.{Handle}
use Rattle.clr_model.specs.declared.How.{How}
use Rattle.clr_model.specs.declared.Collected.{Collected}
use Rattle.clr_model.specs.declared.Reply.{Reply}
use Rattle.clr_model.specs.declared.Reply.TheVariants as reply
use Rattle.clr_model.specs.declared.Refusal.TheVariants as refusal
use Rattle.clr_model.specs.Machine.{ThreadStep, no_step, begun_store, begun_new, Marking, Machine}
use Rattle.clr_model.specs.Lookups.{lowest_in_step, object_has_finalizer, local_of, step_of}
use Rattle.clr_model.specs.Reach.{is_suppressed}
use Rattle.clr_model.specs.Picture.{picture}
use Rattle.clr_model.specs.Sos.{dumpobj_text, eeheap_text, gchandles_text, finalizequeue_text}
use Rattle.clr_model.specs.Updates.{with_entry, with_flag, with_handle, with_step, born_at}
use Rattle.clr_model.specs.Collection.{Collects, EndsBackground}
use Rattle.clr_model.specs.Allocation.{context_front, front_taken, with_layout}
use Rattle.clr_model.specs.Instructions.{Instruction, define_type, new_object, get_slot, set_slot, put_number}
use Rattle.clr_model.specs.Instructions.{read_number, copy_local, clear_local, suppress_object, reregister_object}
use Rattle.clr_model.specs.Instructions.{collect_heap, suspend_others, resume_others, begin_set, begin_new, finish_step}
use Rattle.clr_model.specs.Instructions.{create_handle, fetch_target, fetch_second, free_handle, take_ready, dump_heap}
use Rattle.clr_model.specs.Instructions.{dump_object, show_root, show_segments, verify_heap, show_handles, show_queues}
use Rattle.clr_model.specs.Instructions.{where_is, compact_large_once, new_pinned, begin_background, step_background}
use Rattle.clr_model.specs.Instructions.{end_background, show_size, look_at}
use Rattle.clr_model.specs.Background.{IsBegun}
use Rattle.clr_model.specs.Step.{BeginsBackground, EndsByLine, MakesPinned, StepsBackground}
use Rattle.clr_model.proofs.CollectionKeeps.{last_pause_keeps}
use Rattle.clr_model.specs.Checks.{refusal as first_refusal, made_size}
use Rattle.clr_model.specs.Outcomes.{Outcome, answered, refused}
use Rattle.clr_model.specs.Step.{born_small, row_of, with_type, MakesSmall, MakesLarge, BeginsNew, FinishesStep}
use Rattle.clr_model.specs.Step.{Reregisters, CollectsByLine, CreatesHandle, ShowsRoot, Shows, WantsMemory, Replies}
use Rattle.clr_model.specs.Step.{Does, type_named}
use Rattle.clr_model.specs.Laws.{LineReservesLaw}
use Rattle.clr_model.proofs.SmallLadder.{either, either_option}
use Rattle.clr_model.proofs.TopGrows.{ReservesLittle, none_is_little, collection_reserves, room_reserves}
use Rattle.clr_model.proofs.TopGrows.{pinned_reserves, place_reserves}

-- ---- states with the same segments

-- what a line does leaves the highest end of a reservation as it is
same_top : (m new after : Machine) → new ≡ after → after.layout.top ≡ m.layout.top → ReservesLittle m new
same_top m new after same top = let e = ap (λ (w : Machine). w.layout.top) same in omega arith

still : (m new : Machine) → new ≡ m → ReservesLittle m new
still m new same = same_top m new m same refl

entry_top : (m : Machine) (name : ℕ) (b : Bool) → (if b then with_entry m name else m).layout.top ≡ m.layout.top
entry_top m name true = refl
entry_top m name false = refl

flag_top : (m : Machine) (name : ℕ) (b : Bool) → (if b then with_flag m name true else m).layout.top ≡ m.layout.top
flag_top m name true = refl
flag_top m name false = refl

born_top : (m : Machine) (t local type len : ℕ) → (born_small m t local type len).layout.top ≡ m.layout.top
born_top m t local type len =
    let size = size_of (form_at m.types type) len in
    let born = born_at (with_layout m (front_taken m.layout t size)) t local (context_front m.layout t) type len in
    entry_top born (m.born + 1) (has_finalizer (type_row m.types type))

-- the state after an attempt to make room
follows_room : (m ready new : Machine) → ReservesLittle m ready → new.layout.top ≡ ready.layout.top
    → ReservesLittle m new
follows_room m ready new little same = omega arith

-- ---- lines that make objects

module _ (m : Machine) (t local type len : ℕ) (outcome : Outcome) (new : Machine) where
  abbrev size : ℕ
  size = size_of (form_at m.types type) len

  makes_small : MakesSmall m t local type len outcome new → ReservesLittle m new
  makes_small (attempt, ready, room, inl (is, (replied, same))) =
      follows_room m ready new (room_reserves t size attempt ready m room)
      (ap (λ (w : Machine). w.layout.top) same ∙ born_top ready t local type len)
  makes_small (attempt, ready, room, inr (fails, same)) =
      follows_room m ready new (room_reserves t size attempt ready m room) (ap (λ (w : Machine). w.layout.top) same)

  makes_large : MakesLarge m t local type len outcome new → ReservesLittle m new
  makes_large (attempt, ready, place, placed, inl (is, (replied, same))) =
      follows_room m ready new (place_reserves size place attempt ready m placed)
      (ap (λ (w : Machine). w.layout.top) same
      ∙ entry_top (born_at ready t local place type len) (ready.born + 1) (has_finalizer (type_row ready.types type)))
  makes_large (attempt, ready, place, placed, inr (fails, same)) =
      follows_room m ready new (place_reserves size place attempt ready m placed)
      (ap (λ (w : Machine). w.layout.top) same)

  makes_pinned : MakesPinned m t local type len outcome new → ReservesLittle m new
  makes_pinned (attempt, ready, place, placed, inl (is, (replied, same))) =
      follows_room m ready new (pinned_reserves size place attempt ready m placed)
      (ap (λ (w : Machine). w.layout.top) same)
  makes_pinned (attempt, ready, place, placed, inr (fails, same)) =
      follows_room m ready new (pinned_reserves size place attempt ready m placed)
      (ap (λ (w : Machine). w.layout.top) same)

  begins_new : BeginsNew m t local type len outcome new → ReservesLittle m new
  begins_new (attempt, ready, room, inl (is, (replied, same))) =
      follows_room m ready new (room_reserves t size attempt ready m room) (ap (λ (w : Machine). w.layout.top) same)
  begins_new (attempt, ready, room, inr (fails, same)) =
      follows_room m ready new (room_reserves t size attempt ready m room) (ap (λ (w : Machine). w.layout.top) same)

-- ---- other lines with cases

module _ (m : Machine) (outcome : Outcome) (new : Machine) where
  -- it does something to the same segments, or wants memory
  or_wants : (after : Machine) (reply_is : Reply) → after.layout.top ≡ m.layout.top
      → Replies outcome reply_is new after ⊎ WantsMemory m outcome new → ReservesLittle m new
  or_wants after reply_is top (inl (replied, same)) = same_top m new after same top
  or_wants after reply_is top (inr (wants, same)) = still m new same

  finishes : (t : ℕ) (s : ThreadStep) → FinishesStep m t s outcome new → ReservesLittle m new
  finishes t no_step h = absurd h
  finishes t (begun_store object slot) (replied, same) = same_top m new (with_step m t no_step) same refl
  finishes t (begun_new type len local) (replied, same) =
      same_top m new (born_small (with_step m t no_step) t local type len) same
      (born_top (with_step m t no_step) t local type len)

  reregisters : (name : ℕ) → Reregisters m name outcome new → ReservesLittle m new
  reregisters name h =
      let flagged = Replies outcome reply.Done new (with_flag m name false) in
      let entered = Replies outcome reply.Done new (with_entry m name) ⊎ WantsMemory m outcome new in
      either (object_has_finalizer m name) (MatchBool (is_suppressed m name) flagged entered)
      (Replies outcome reply.Done new m) h
      (λ e more.
      either (is_suppressed m name) flagged entered more (λ f done. same_top m new (with_flag m name false) done.1 refl)
      (λ f. or_wants (with_entry m name) reply.Done refl))
      (λ e done. still m new done.1)

  collects : (g : ℕ) (how : How) → CollectsByLine m g how outcome new → ReservesLittle m new
  collects g how h =
      let waiting = λ (k : ℕ). (outcome ≡ refused (refusal.Wait k)) × (new ≡ m) in
      either_option (lowest_in_step m)
      ((answer : Collected) × Collects m g how answer new × (outcome ≡ answered (reply.Collected answer))) waiting h
      done (λ k same. still m new same.1)
    where
      done : (answer : Collected) × Collects m g how answer new × (outcome ≡ answered (reply.Collected answer))
          → ReservesLittle m new
      done (answer, c, replied) = none_is_little m new (collection_reserves m g how answer new c)

  begins_background : BeginsBackground m outcome new → ReservesLittle m new
  begins_background h =
      let waiting = λ (k : ℕ). (outcome ≡ refused (refusal.Wait k)) × (new ≡ m) in
      either_option (lowest_in_step m)
      (((marking : Marking) × IsBegun m marking
      × Replies outcome reply.Done new (record m { background = Some marking })) ⊎ WantsMemory m outcome new) waiting h
      begun (λ k same. still m new same.1)
    where
      begun : ((marking : Marking) × IsBegun m marking
          × Replies outcome reply.Done new (record m { background = Some marking })) ⊎ WantsMemory m outcome new
          → ReservesLittle m new
      begun (inl (marking, is, (replied, same))) = same_top m new (record m { background = Some marking }) same refl
      begun (inr (wants, same)) = still m new same

  steps_background : (n : ℕ) → StepsBackground m n outcome new → ReservesLittle m new
  steps_background n (old, runs, count, marking, scans, (replied, same)) =
      same_top m new (record m { background = Some marking }) same refl

  ends_background : EndsByLine m outcome new → ReservesLittle m new
  ends_background h =
      let waiting = λ (k : ℕ). (outcome ≡ refused (refusal.Wait k)) × (new ≡ m) in
      either_option (lowest_in_step m)
      ((marking : Marking) × (m.background ≡ Some marking) × (answer : Collected)
      × EndsBackground m marking answer new × (outcome ≡ answered (reply.Collected answer))) waiting h
      done (λ k same. still m new same.1)
    where
      done : (marking : Marking) × (m.background ≡ Some marking) × (answer : Collected)
          × EndsBackground m marking answer new × (outcome ≡ answered (reply.Collected answer)) → ReservesLittle m new
      done (marking, runs, answer, c, replied) =
          let keeps = last_pause_keeps m marking answer new c in
          none_is_little m new (record { top = keeps.top; options = keeps.options })

  creates : (row : Handle) → CreatesHandle m row outcome new → ReservesLittle m new
  creates row (inl (h, low, free, (replied, same))) = same_top m new (with_handle m h row) same refl
  creates row (inr (wants, same)) = still m new same

  shows : (text : List ℕ) → Shows m text outcome new → ReservesLittle m new
  shows text (inl (shown, same)) = still m new same
  shows text (inr (wants, same)) = still m new same

  shows_root : (a : ℕ) → ShowsRoot m a outcome new → ReservesLittle m new
  shows_root a (inl (text, is, shown, same)) = still m new same
  shows_root a (inr (inl (none, shown, same))) = still m new same
  shows_root a (inr (inr (wants, same))) = still m new same

-- ---- every line

does : (m : Machine) (i : Instruction) (outcome : Outcome) (new : Machine) → Does m i outcome new → ReservesLittle m new
does m (define_type name form finalizer) outcome new h =
    or_wants m outcome new (with_type m name form finalizer) (reply.Mt (mt_of (length m.types + 1))) refl h
does m (new_object t local name len) outcome new (inl h) =
    let type = type_named m name in let l = unwrap_or len 0 in
    either (nat_le m.options.large (made_size m name len)) (MakesLarge m t local type l outcome new)
    (MakesSmall m t local type l outcome new) h
    (λ e. makes_large m t local type l outcome new) (λ e. makes_small m t local type l outcome new)
does m (new_object t local name len) outcome new (inr (final, (wants, same))) = still m new same
does m (get_slot t to from index) outcome new (replied, same) = same_top m new _ same refl
does m (set_slot t into index from) outcome new (replied, same) = same_top m new _ same refl
does m (put_number t into index value) outcome new (replied, same) = same_top m new _ same refl
does m (read_number t from index) outcome new (replied, same) = still m new same
does m (copy_local t to from) outcome new (replied, same) = same_top m new _ same refl
does m (clear_local t local) outcome new (replied, same) = same_top m new _ same refl
does m (suppress_object t local) outcome new (replied, same) =
    same_top m new _ same (flag_top m (local_of m t local) (object_has_finalizer m (local_of m t local)))
does m (reregister_object t local) outcome new h = reregisters m outcome new (local_of m t local) h
does m (collect_heap t g how) outcome new h = collects m outcome new g how h
does m (suspend_others t) outcome new (replied, same) = same_top m new _ same refl
does m (resume_others t) outcome new (replied, same) = same_top m new _ same refl
does m (begin_set t into index from) outcome new (replied, same) = same_top m new _ same refl
does m (begin_new t local name len) outcome new (inl h) =
    begins_new m t local (type_named m name) (unwrap_or len 0) outcome new h
does m (begin_new t local name len) outcome new (inr (final, (wants, same))) = still m new same
does m (finish_step t) outcome new h = finishes m outcome new t (step_of m t) h
does m (create_handle t kind local second) outcome new h = creates m outcome new (row_of m t kind local second) h
does m (fetch_target t to h) outcome new (replied, same) = same_top m new _ same refl
does m (fetch_second t to h) outcome new (replied, same) = same_top m new _ same refl
does m (free_handle t h) outcome new (replied, same) = same_top m new _ same refl
does m (take_ready t to) outcome new (replied, same) = same_top m new _ same refl
does m (compact_large_once t) outcome new (replied, same) = same_top m new _ same refl
does m (new_pinned t local name len) outcome new h = makes_pinned m t local (type_named m name) len outcome new h
does m (begin_background t) outcome new h = begins_background m outcome new h
does m (step_background n) outcome new h = steps_background m outcome new n h
does m (end_background t) outcome new h = ends_background m outcome new h
does m (dump_heap options) outcome new (inl (live, tests, shown, same)) = still m new same
does m (dump_heap options) outcome new (inr (wants, same)) = still m new same
does m (dump_object a) outcome new h = shows m outcome new (dumpobj_text (picture m) a) h
does m (show_root a) outcome new h = shows_root m outcome new a h
does m show_segments outcome new h = shows m outcome new (eeheap_text m) h
does m verify_heap outcome new (replied, same) = still m new same
does m show_handles outcome new h = shows m outcome new (gchandles_text (picture m)) h
does m show_queues outcome new h = shows m outcome new (finalizequeue_text (picture m)) h
does m (where_is a) outcome new (replied, same) = still m new same
does m (show_size a) outcome new (inl (reached, tests, (replied, same))) = still m new same
does m (show_size a) outcome new (inr (wants, same)) = still m new same
does m (look_at look) outcome new (inl (text, tells, shown, same)) = still m new same
does m (look_at look) outcome new (inr (wants, same)) = still m new same

-- A line reserves at most 2^30 bytes, which is the greatest limit.
pub line_reserves : LineReservesLaw
line_reserves m i outcome new h obeys =
    let little : ReservesLittle m new =
    either_option (first_refusal m i) (Does m i outcome new) (λ r. (outcome ≡ refused r) × (new ≡ m)) obeys
    (does m i outcome new) (λ r same. still m new same.1) in
    let limit = h.options.limit_greatest in
    omega arith
