-- The tables of an image are read back.
use Rattle.std.proofs.Common.{◌≡◌, ℕ, ◌≤◌, ◌<◌, ◌+◌, ◌-◌, ◌^◌, ◌==◌, Bool, true, false}
use Rattle.std.proofs.Common.{List, [], ◌∷◌, ◌++◌, length, refl, arith, ap, sym, ◌∙◌, subst, Option, Some, None}
use Rattle.std.proofs.Common.{le-leb, lt-ltb, cond, length-append, append_assoc, slice_get}
use Rattle.std.proofs.lemmas.Bool.Decides.{nat_tests}
use Rattle.std.specs.List.{AllByRecursion, flat_map}
use Rattle.clr_types.specs.HandleCode.{kind_back, kind_of_number, number_of_kind}
use Rattle.clr_types.specs.Types.{TypeRow}
use Rattle.clr_types.specs.declared.handle.Handle.{Handle}
use Rattle.clr_types.specs.declared.handle.Kind.{Kind}
use Rattle.clr_types.specs.declared.handle.Kind.TheVariants.{Strong, Pinned, Weak, WeakLong, Dependent}
use Rattle.clr_fields.specs.Fields.{anything, field, is_from_to, is_up_to, is_zero, times}
use Rattle.clr_save.specs.ReadsBack.{ReadsBack}
use Rattle.clr_format.specs.Saved.{handle_bytes, number_or_zero, queue_bytes, word_bytes, words_bytes}
use Rattle.clr_format.specs.TableFields.{all_handles, all_steps, begun_fields, handle_fields, idle_fields, is_above}
use Rattle.clr_format.specs.TableFields.{is_new_length, is_number, is_second, more_handles, more_places, more_steps}
use Rattle.clr_format.specs.TableFields.{queue_fields, step_fields, store_fields, Tables, tables_fields}
use Rattle.clr_format.specs.TableFields.{thread_or_none}
use Rattle.clr_save.specs.Writable.{AreWords, AreWrittenHandles, AreWrittenTables, IsHolder, IsWord, IsWrittenHandle}
use Rattle.clr_save.specs.Writable.{IsWrittenStep}
use Rattle.clr_save.specs.Written.{bytes_of_tables, step_bytes}
use Rattle.clr_format.specs.declared.head.Head.{Head}
use Rattle.clr_sos.specs.declared.step.Step.{Step}
use Rattle.clr_sos.specs.declared.step.Step.TheVariants.{Idle, Store, Begun}
use Rattle.clr_save.proofs.Written.{appended_all, gives_back, last_back, same_bytes, same_value, StepsBack}
use Rattle.clr_save.proofs.Written.{then_back, times_back, word_back, word_then}

-- one element more at the end
abbrev pub appended : {X : Type 0} → List X → X → List X
appended xs x = xs ++ x ∷ []

-- ---- what a thread has begun

up_to : (high n : ℕ) → n ≤ high → is_up_to high n ≡ true
up_to high n h = le-leb n high h

idle_back : ReadsBack idle_fields (words_bytes (0 ∷ 0 ∷ 0 ∷ 0 ∷ [])) Idle
unfolding idle_fields
idle_back =
    let small : 0 < 2 ^ 64 = omega arith in
    word_then is_zero _ 0 _ _ small refl
    (word_then is_zero _ 0 _ _ small refl
    (word_then is_zero _ 0 _ _ small refl (word_then is_zero _ 0 _ _ small refl (gives_back Idle))))

store_back : (object slot : ℕ) → object < 2 ^ 64 → slot < 2 ^ 64
    → ReadsBack store_fields (words_bytes (object ∷ slot ∷ 0 ∷ 0 ∷ [])) (Store object slot)
unfolding store_fields
store_back object slot fits slot_fits =
    let small : 0 < 2 ^ 64 = omega arith in
    word_then anything _ object _ _ fits refl
    (word_then anything _ slot _ _ slot_fits refl
    (word_then is_zero _ 0 _ _ small refl (word_then is_zero _ 0 _ _ small refl (gives_back (Store object slot)))))

begun_back : (head : Head) (rows : List TypeRow) (t len local front : ℕ) → t < 2 ^ 64
    → is_from_to 1 (length rows) t ≡ true → is_new_length rows head.large t len ≡ true → len < 2 ^ 64 → local ≤ 63
    → front < 2 ^ 64 → ReadsBack (begun_fields head rows) (words_bytes (t ∷ len ∷ local ∷ front ∷ []))
    (Begun (record { 0 = t }) len local front)
unfolding begun_fields
begun_back head rows t len local front small known new len_fits local_fits front_fits =
    word_then (is_from_to 1 (length rows)) _ t _ _ small known
    (word_then (is_new_length rows head.large t) _ len _ _ len_fits new
    (word_then (is_up_to 63) _ local _ _ (omega arith) (up_to 63 local local_fits)
    (word_then anything _ front _ _ front_fits refl (gives_back (Begun (record { 0 = t }) len local front)))))

step_back : (head : Head) (rows : List TypeRow) (step : Step)
    → IsWrittenStep rows head.large step → ReadsBack (step_fields head rows) (step_bytes step) step
unfolding step_fields
step_back head rows Idle is = word_then (is_up_to 2) _ 0 _ _ (omega arith) refl idle_back
step_back head rows (Store object slot) is =
    word_then (is_up_to 2) _ 1 _ _ (omega arith) refl (store_back object slot is.0 is.1)
step_back head rows (Begun t len local front) is =
    word_then (is_up_to 2) _ 2 _ _ (omega arith) refl
    (begun_back head rows t.0 len local front is.5 is.0 is.1 is.2 is.3 is.4)

more_step_back : (head : Head) (rows : List TypeRow) (steps : List Step) (step : Step)
    → IsWrittenStep rows head.large step → ReadsBack (more_steps head rows steps) (step_bytes step)
    (appended steps step)
unfolding more_steps
more_step_back head rows steps step is =
    last_back (step_fields head rows) _ (step_bytes step) step _ (step_back head rows step is) (gives_back _)

steps_back : (head : Head) (rows : List TypeRow) (steps more : List Step)
    → AllByRecursion (IsWrittenStep rows head.large) more
    → StepsBack (more_steps head rows) appended step_bytes steps more
steps_back head rows steps [] all = tt
steps_back head rows steps (step ∷ more) all =
    (more_step_back head rows steps step all.0, steps_back head rows (appended steps step) more all.1)

-- ---- handles

kind_known : (k : Kind) → is_up_to 4 (number_of_kind k) ≡ true
kind_known Strong = refl
kind_known Pinned = refl
kind_known Weak = refl
kind_known WeakLong = refl
kind_known Dependent = refl

kind_small : (k : Kind) → number_of_kind k < 2 ^ 64
kind_small Strong = omega arith
kind_small Pinned = omega arith
kind_small Weak = omega arith
kind_small WeakLong = omega arith
kind_small Dependent = omega arith

same_handle : (row : Handle)
    → (let h : Handle = record {
      kind = kind_of_number (number_of_kind row.kind);
      target = row.target;
      second =
          row.second;
    }
    in h) ≡ row
same_handle row = let e = kind_back row.kind in rw e refl

handle_back : (handles : List (ℕ × Handle)) (h : ℕ) (row : Handle) → is_number handles h ≡ true → h < 65536
    → IsWrittenHandle row → ReadsBack (handle_fields handles) (handle_bytes (h, row)) (h, row)
unfolding handle_fields
handle_back handles h row next few is =
    word_then (is_number handles) _ h _ _ (omega arith) next
    (word_then (is_up_to 4) _ (number_of_kind row.kind) _ _ (kind_small row.kind) (kind_known row.kind)
    (word_then anything _ row.target _ _ is.target_fits refl
    (word_then (is_second (number_of_kind row.kind) row.target) _ row.second _ _ is.second_fits is.second
    (same_value _ [] _ _ (ap (λ (r : Handle). (h, r)) (same_handle row)) (gives_back _)))))

more_handle_back : (handles : List (ℕ × Handle)) (h : ℕ) (row : Handle) → is_number handles h ≡ true → h < 65536
    → IsWrittenHandle row → ReadsBack (more_handles handles) (handle_bytes (h, row)) (appended handles (h, row))
unfolding more_handles
more_handle_back handles h row next few is =
    last_back (handle_fields handles) _ (handle_bytes (h, row)) (h, row) _ (handle_back handles h row next few is)
    (gives_back _)

last_handle : (handles : List (ℕ × Handle)) (entry : ℕ × Handle)
    → slice_get (appended handles entry) (length handles) ≡ Some entry
last_handle [] entry = refl
last_handle (other ∷ handles) entry = last_handle handles entry

above_last : (handles : List (ℕ × Handle)) (h : ℕ) (row : Handle) (n : ℕ) → h + 1 ≤ n
    → is_above (slice_get (appended handles (h, row)) (length (appended handles (h, row)) - 1)) n ≡ true
above_last handles h row n less =
    let count = length-append handles ((h, row) ∷ []) in
    let at : length (appended handles (h, row)) - 1 ≡ length handles = omega arith in
    let last = last_handle handles (h, row) in
    let above = lt-ltb h n (omega arith) in
    ap (λ i. is_above (slice_get (appended handles (h, row)) i) n) at
    ∙ ap (λ (entry : Option (ℕ × Handle)). is_above entry n) last ∙ above

handles_back : (handles more : List (ℕ × Handle)) (low : ℕ)
    → ((n : ℕ) → low ≤ n → is_above (slice_get handles (length handles - 1)) n ≡ true) → AreWrittenHandles low more
    → StepsBack more_handles appended handle_bytes handles more
handles_back handles [] low above are = tt
handles_back handles ((h, row) ∷ more) low above are =
    let over = above h are.0 in
    let below = lt-ltb h 65536 are.1 in
    let next : is_number handles h ≡ true = rw (over, below) refl in (
      more_handle_back handles h row next are.1 are.2,
      handles_back (appended handles (h, row)) more (h + 1) (above_last handles h row) are.3,
    )

all_handles_back : (handles : List (ℕ × Handle)) → length handles ≤ 65536 → AreWrittenHandles 0 handles
    → ReadsBack all_handles (word_bytes (length handles) ++ flat_map handle_bytes handles) handles
unfolding all_handles
all_handles_back handles most are =
    word_then (is_up_to 65536) _ (length handles) _ _ (omega arith) (up_to 65536 (length handles) most)
    (same_value _ (flat_map handle_bytes handles) _ handles (appended_all [] handles)
    (times_back more_handles appended handle_bytes [] handles (handles_back [] handles 0 (λ n low. refl) are)))

-- ---- queues

place_back : (places : List ℕ) (place : ℕ) → place < 2 ^ 64
    → ReadsBack (more_places places) (word_bytes place) (appended places place)
unfolding more_places
place_back places place fits =
    last_back (field anything) _ (word_bytes place) place _ (word_back anything place fits refl) (gives_back _)

places_back : (places more : List ℕ) → AllByRecursion IsWord more
    → StepsBack more_places appended word_bytes places more
places_back places [] fit = tt
places_back places (place ∷ more) fit =
    (place_back places place fit.0, places_back (appended places place) more fit.1)

queue_back : (places : List ℕ) → AreWords places → ReadsBack queue_fields (queue_bytes places) places
unfolding queue_fields
queue_back places are =
    word_then anything _ (length places) _ _ are.count refl
    (same_value _ (words_bytes places) _ places (appended_all [] places)
    (times_back more_places appended word_bytes [] places (places_back [] places are.each)))

-- ---- all

holder_fits : (holder : Option ℕ) → IsHolder holder → number_or_zero holder ≤ 16
holder_fits None is = omega arith
holder_fits (Some t) is = is.1

same_holder : (holder : Option ℕ) → IsHolder holder → thread_or_none (number_or_zero holder) ≡ holder
same_holder None is = refl
same_holder (Some t) is = go (t == 0) refl
  where
    go : (b : Bool) → (t == 0) ≡ b → cond b None (Some t) ≡ Some t
    go true e = absurd (let low = is.0 in grind (arith, nat_tests))
    go false e = refl

tables_shape : (t : Tables) → bytes_of_tables t
    ≡ word_bytes (number_or_zero t.holder) ++ (flat_map step_bytes t.steps
    ++ ((word_bytes (length t.handles) ++ flat_map handle_bytes t.handles)
    ++ (queue_bytes t.entries ++ queue_bytes t.ready)))
unfolding bytes_of_tables
tables_shape t =
    ap (λ bs. word_bytes (number_or_zero t.holder) ++ (flat_map step_bytes t.steps ++ bs))
    (sym (append_assoc (word_bytes (length t.handles)) (flat_map handle_bytes t.handles)
    (queue_bytes t.entries ++ queue_bytes t.ready)))

pub tables_back : (head : Head) (rows : List TypeRow) (t : Tables)
    → AreWrittenTables rows head.large t → ReadsBack (tables_fields head rows) (bytes_of_tables t) t
unfolding tables_fields
tables_back head rows t are =
    let low = holder_fits t.holder are.holder in
    same_bytes (tables_fields head rows) _ (bytes_of_tables t) t (sym (tables_shape t))
    (word_then (is_up_to 16) _ (number_or_zero t.holder) _ t (omega arith) (up_to 16 (number_or_zero t.holder) low)
    (then_back (all_steps head rows) _ (flat_map step_bytes t.steps) _ t.steps t
    (subst (λ (n : ℕ). ReadsBack (times n (more_steps head rows) []) (flat_map step_bytes t.steps) t.steps) are.threads
    (same_value _ (flat_map step_bytes t.steps) _ t.steps (appended_all [] t.steps)
    (times_back (more_steps head rows) appended step_bytes [] t.steps (steps_back head rows [] t.steps are.steps))))
    (then_back all_handles _ (word_bytes (length t.handles) ++ flat_map handle_bytes t.handles) _ t.handles t
    (all_handles_back t.handles are.few_handles are.handles)
    (then_back queue_fields _ (queue_bytes t.entries) _ t.entries t (queue_back t.entries are.entries)
    (last_back queue_fields _ (queue_bytes t.ready) t.ready t (queue_back t.ready are.ready)
    (same_value _ [] _ t
    (ap (λ (o : Option ℕ). record {
      holder = o;
      steps = t.steps;
      handles = t.handles;
      entries = t.entries;
      ready = t.ready;
    })
    (same_holder t.holder are.holder)) (gives_back _)))))))
