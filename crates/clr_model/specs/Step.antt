-- What each line does: the state and the outcome that the machine may go on to.
use Rattle.std.specs.Prelude.{◌≡◌, ℕ, ◌+◌, ◌%◌, ◌<◌, List, [], ◌∷◌, ◌++◌, length, if◌then◌else◌, nat_le, Bool, true}
use Rattle.std.specs.Prelude.{false, ◌⊎◌, IsTrue, Option, Some, None, MatchOption, MatchBool, slice_get, unwrap_or}
use Rattle.std.specs.Prelude.{codes, count_by}
use Rattle.std.specs.FinMap as finmap
use Rattle.clr_types.specs.Rising.{Tests}
use Rattle.clr_types.specs.Types.{TypeRow, Form, mt_of, is_bytes, number_of, size_of, type_row, form_at, has_finalizer}
use Rattle.clr_types.specs.declared.handle.Kind.{Kind}
use Rattle.clr_model.specs.declared.How.{How}
use Rattle.clr_model.specs.declared.Collected.{Collected}
use Rattle.clr_model.specs.declared.Life.{Life}
use Rattle.clr_model.specs.declared.Life.TheVariants as life
use Rattle.clr_model.specs.declared.Reply.{Reply}
use Rattle.clr_model.specs.declared.Reply.TheVariants as reply
use Rattle.clr_model.specs.declared.Refusal.TheVariants as refusal
use Rattle.clr_types.specs.declared.handle.Handle.{Handle}
use Rattle.clr_model.specs.Machine.{Value, ref, num, ThreadStep, no_step, begun_store, begun_new, Marking, Machine}
use Rattle.clr_model.specs.Lookups.{object_has_finalizer, place_of, type_of_named, slots_of_named}
use Rattle.clr_model.specs.Lookups.{local_of, step_of, lowest_in_step, bytes_where}
use Rattle.clr_model.specs.Picture.{picture}
use Rattle.clr_model.specs.Reach.{Live, SlotReach, is_suppressed}
use Rattle.clr_model.specs.Background.{IsBegun, ScansUpTo}
use Rattle.clr_model.specs.Collection.{Collects, EndsBackground}
use Rattle.clr_model.specs.Updates.{with_local, with_slot, with_flag, with_step, with_handle, without_handle}
use Rattle.clr_model.specs.Updates.{with_entry, born_at}
use Rattle.clr_model.specs.Allocation.{Attempt, roomed, waits, out_of_room, out_of_memory, MakesRoom, PlacesLarge}
use Rattle.clr_model.specs.Allocation.{PlacesPinned}
use Rattle.clr_model.specs.Allocation.{context_front, front_taken, with_layout}
use Rattle.clr_model.specs.Instructions.{Instruction, define_type, new_object, get_slot, set_slot, put_number}
use Rattle.clr_model.specs.Instructions.{read_number, copy_local, clear_local, suppress_object, reregister_object}
use Rattle.clr_model.specs.Instructions.{collect_heap, suspend_others, resume_others, begin_set, begin_new, finish_step}
use Rattle.clr_model.specs.Instructions.{create_handle, fetch_target, fetch_second, free_handle, take_ready, dump_heap}
use Rattle.clr_model.specs.Instructions.{dump_object, show_root, show_segments, verify_heap, show_handles, show_queues}
use Rattle.clr_model.specs.Instructions.{where_is, compact_large_once, new_pinned, begin_background, step_background}
use Rattle.clr_model.specs.Instructions.{end_background, show_size, look_at}
use Rattle.clr_model.specs.Checks.{refusal as first_refusal, made_size}
use Rattle.clr_model.specs.Sos.{dumpheap_text, dumpobj_text, IsRootText, eeheap_text, gchandles_text}
use Rattle.clr_model.specs.Sos.{finalizequeue_text, where_of, line}
use Rattle.clr_model.specs.Looks.{IsLookText}
use Rattle.clr_model.specs.Outcomes.{Outcome, answered, shown, refused}

-- ---- outcomes

-- want of memory, which leaves the state
abbrev pub WantsMemory : Machine → Outcome → Machine → Type 0
WantsMemory m outcome new = (outcome ≡ refused refusal.NoMemory) × (new ≡ m)

-- the text is shown, or there is no memory for it
abbrev pub Shows : Machine → List ℕ → Outcome → Machine → Type 0
Shows m text outcome new = ((outcome ≡ shown text) × (new ≡ m)) ⊎ WantsMemory m outcome new

abbrev pub Replies : Outcome → Reply → Machine → Machine → Type 0
Replies outcome reply new after = (outcome ≡ answered reply) × (new ≡ after)

-- the place of what a local or a slot names, and 0 for null
abbrev pub RepliesName : Machine → Outcome → ℕ → Machine → Machine → Type 0
RepliesName m outcome name new after = Replies outcome (reply.Place (place_of m.objects name)) new after

-- ---- values

abbrev pub name_in : Option Value → ℕ
name_in None = 0
name_in (Some (ref name)) = name
name_in (Some (num number)) = 0

abbrev pub number_in : Option Value → ℕ
number_in None = 0
number_in (Some (ref name)) = 0
number_in (Some (num number)) = number

-- a byte's slot takes a number modulo 256
abbrev pub stored_number : Form → ℕ → ℕ
stored_number form value = if is_bytes form then value % 256 else value

abbrev pub target_of : Option Handle → ℕ
target_of None = 0
target_of (Some row) = row.target

abbrev pub second_of : Option Handle → ℕ
second_of None = 0
second_of (Some row) = row.second

abbrev pub head_or_null : List ℕ → ℕ
head_or_null [] = 0
head_or_null (x ∷ xs) = x

abbrev pub tail_of : List ℕ → List ℕ
tail_of [] = []
tail_of (x ∷ xs) = xs

-- ---- births

-- where the type has a finaliser, the object is put among the finalisation entries when it is born
abbrev pub with_entry_of : Machine → ℕ → ℕ → Machine
with_entry_of m type name = if has_finalizer (type_row m.types type) then with_entry m name else m

abbrev pub with_spent : Machine → ℕ → Machine
with_spent m size = record m { sums = record m.sums { spent0 = m.sums.spent0 + size } }

abbrev pub with_spent_large : Machine → ℕ → Machine
with_spent_large m size = record m { sums = record m.sums { spent_large = m.sums.spent_large + size } }

-- a small object is born at the front of its thread's context
abbrev pub born_small : Machine → ℕ → ℕ → ℕ → ℕ → Machine
born_small m t local type len =
    let size = size_of (form_at m.types type) len in
    let place = context_front m.layout t in
    with_spent (with_entry_of (born_at (with_layout m (front_taken m.layout t size)) t local place type len) type
    (m.born + 1)) size

-- what an attempt that gives no room comes to: it waits, finds no room, or lacks memory
abbrev pub Fails : Attempt → Outcome → Type 0
Fails roomed outcome = ⊥
Fails (waits k) outcome = outcome ≡ refused (refusal.Wait k)
Fails out_of_room outcome = outcome ≡ refused refusal.Oom
Fails out_of_memory outcome = outcome ≡ refused refusal.NoMemory

-- a new small object: room in the thread's context, and the birth there
abbrev pub MakesSmall : Machine → ℕ → ℕ → ℕ → ℕ → Outcome → Machine → Type 0
MakesSmall m t local type len outcome new =
    (attempt : Attempt) × (ready : Machine) × MakesRoom m t (size_of (form_at m.types type) len) attempt ready
    × ((attempt ≡ roomed × Replies outcome (reply.Place (context_front ready.layout t)) new
    (born_small ready t local type len))
    ⊎ (Fails attempt outcome × (new ≡ ready)))

-- a new large object: a place in the large heap, and the birth there
abbrev pub MakesLarge : Machine → ℕ → ℕ → ℕ → ℕ → Outcome → Machine → Type 0
MakesLarge m t local type len outcome new =
    (attempt : Attempt) × (ready : Machine) × (place : ℕ)
    × PlacesLarge m (size_of (form_at m.types type) len) place attempt ready
    × ((attempt ≡ roomed
    × Replies outcome (reply.Place place) new
    (with_spent_large (with_entry_of (born_at ready t local place type len) type (ready.born + 1))
    (size_of (form_at m.types type) len)))
    ⊎ (Fails attempt outcome × (new ≡ ready)))

-- a new pinned object: a place in a pinned segment, and the birth there, which no sum counts
abbrev pub MakesPinned : Machine → ℕ → ℕ → ℕ → ℕ → Outcome → Machine → Type 0
MakesPinned m t local type len outcome new =
    (attempt : Attempt) × (ready : Machine) × (place : ℕ)
    × PlacesPinned m (size_of (form_at m.types type) len) place attempt ready
    × ((attempt ≡ roomed × Replies outcome (reply.Place place) new (born_at ready t local place type len))
    ⊎ (Fails attempt outcome × (new ≡ ready)))

-- what is begun is kept with the thread
abbrev pub BeginsNew : Machine → ℕ → ℕ → ℕ → ℕ → Outcome → Machine → Type 0
BeginsNew m t local type len outcome new =
    (attempt : Attempt) × (ready : Machine) × MakesRoom m t (size_of (form_at m.types type) len) attempt ready
    × ((attempt ≡ roomed × Replies outcome reply.Done new (with_step ready t (begun_new type len local)))
    ⊎ (Fails attempt outcome × (new ≡ ready)))

-- Before any change memory may be wanting for the finalisation entry of the object.
abbrev pub WantsEntry : Machine → ℕ → Outcome → Machine → Type 0
WantsEntry m type outcome new = IsTrue (has_finalizer (type_row m.types type)) × WantsMemory m outcome new

-- the other half of a step
abbrev pub FinishesStep : Machine → ℕ → ThreadStep → Outcome → Machine → Type 0
FinishesStep m t no_step outcome new = ⊥
FinishesStep m t (begun_store object slot) outcome new = Replies outcome reply.Done new (with_step m t no_step)
FinishesStep m t (begun_new type len local) outcome new =
    Replies outcome (reply.Place (context_front m.layout t)) new (born_small (with_step m t no_step) t local type len)

-- ---- lines

abbrev pub type_named : Machine → List ℕ → ℕ
type_named m name = unwrap_or (number_of m.types name) 0

abbrev pub new_row : List ℕ → Form → Bool → TypeRow
new_row name form finalizer = record { name = name; form = form; finalizer = finalizer }

abbrev pub with_type : Machine → List ℕ → Form → Bool → Machine
with_type m name form finalizer = record m { types = m.types ++ (new_row name form finalizer ∷ []) }

-- `reregister` clears a set flag, and else appends an entry, for which there may be no memory
abbrev pub Reregisters : Machine → ℕ → Outcome → Machine → Type 0
Reregisters m name outcome new =
    MatchBool (object_has_finalizer m name)
    (MatchBool (is_suppressed m name)
    (Replies outcome reply.Done new (with_flag m name false))
    (Replies outcome reply.Done new (with_entry m name) ⊎ WantsMemory m outcome new))
    (Replies outcome reply.Done new m)

abbrev pub CollectsByLine : Machine → ℕ → How → Outcome → Machine → Type 0
CollectsByLine m g how outcome new =
    MatchOption (lowest_in_step m)
    ((answer : Collected) × Collects m g how answer new × (outcome ≡ answered (reply.Collected answer)))
    (λ k. (outcome ≡ refused (refusal.Wait k)) × (new ≡ m))

-- the first pause of a background collection, for which there may be no memory
abbrev pub BeginsBackground : Machine → Outcome → Machine → Type 0
BeginsBackground m outcome new =
    MatchOption (lowest_in_step m)
    (((marking : Marking) × IsBegun m marking
    × Replies outcome reply.Done new (record m { background = Some marking }))
    ⊎ WantsMemory m outcome new)
    (λ k. (outcome ≡ refused (refusal.Wait k)) × (new ≡ m))

abbrev pub StepsBackground : Machine → ℕ → Outcome → Machine → Type 0
StepsBackground m n outcome new =
    (old : Marking) × (m.background ≡ Some old) × (count : ℕ) × (marking : Marking) × ScansUpTo m n old count marking
    × Replies outcome (reply.Scanned count (length marking.gray)) new (record m { background = Some marking })

abbrev pub EndsByLine : Machine → Outcome → Machine → Type 0
EndsByLine m outcome new =
    MatchOption (lowest_in_step m)
    ((marking : Marking) × (m.background ≡ Some marking) × (answer : Collected) × EndsBackground m marking answer new
    × (outcome ≡ answered (reply.Collected answer)))
    (λ k. (outcome ≡ refused (refusal.Wait k)) × (new ≡ m))

abbrev pub CreatesHandle : Machine → Handle → Outcome → Machine → Type 0
CreatesHandle m row outcome new =
    ((h : ℕ) × (h < 65536) × (finmap.get m.handles h ≡ None)
    × Replies outcome (reply.HandleNumber h) new (with_handle m h row))
    ⊎ WantsMemory m outcome new

abbrev pub row_of : Machine → ℕ → Kind → ℕ → Option ℕ → Handle
row_of m t kind local None = record { kind = kind; target = local_of m t local; second = 0 }
row_of m t kind local (Some second) = record { kind = kind; target = local_of m t local; second = local_of m t second }

-- a chain from a root to the object is shown, or `none` where the roots don't reach it, or there is no memory to tell
abbrev pub ShowsRoot : Machine → ℕ → Outcome → Machine → Type 0
ShowsRoot m a outcome new =
    ((text : List ℕ) × IsRootText (picture m) a text × (outcome ≡ shown text) × (new ≡ m))
    ⊎ (((Live (picture m) a → ⊥) × (outcome ≡ shown (line (codes "none" ∷ []))) × (new ≡ m))
    ⊎ WantsMemory m outcome new)

-- only the options on life ask what the roots reach
abbrev pub TestsLife : Life → (ℕ → Bool) → (ℕ → Type 0) → Type 0
TestsLife life.Any live P = Unit {0}
TestsLife life.Live live P = Tests live P
TestsLife life.Dead live P = Tests live P

-- What a line that no check refuses does.
abbrev pub Does : Machine → Instruction → Outcome → Machine → Type 0
Does m (define_type name form finalizer) outcome new =
    Replies outcome (reply.Mt (mt_of (length m.types + 1))) new (with_type m name form finalizer)
    ⊎ WantsMemory m outcome new
Does m (new_object t local name len) outcome new =
    let type = type_named m name in
    MatchBool (nat_le m.options.large (made_size m name len)) (MakesLarge m t local type (unwrap_or len 0) outcome new)
    (MakesSmall m t local type (unwrap_or len 0) outcome new)
    ⊎ WantsEntry m type outcome new
Does m (get_slot t to from index) outcome new =
    let name = name_in (slice_get (slots_of_named m (local_of m t from)) index) in
    RepliesName m outcome name new (with_local m t to name)
Does m (set_slot t into index from) outcome new =
    Replies outcome reply.Done new (with_slot m (local_of m t into) index (ref (local_of m t from)))
Does m (put_number t into index value) outcome new =
    Replies outcome reply.Done new (with_slot m (local_of m t into) index
    (num (stored_number (form_at m.types (type_of_named m (local_of m t into))) value)))
Does m (read_number t from index) outcome new =
    Replies outcome (reply.Number (number_in (slice_get (slots_of_named m (local_of m t from)) index))) new m
Does m (copy_local t to from) outcome new =
    RepliesName m outcome (local_of m t from) new (with_local m t to (local_of m t from))
Does m (clear_local t local) outcome new = Replies outcome reply.Done new (with_local m t local 0)
Does m (suppress_object t local) outcome new =
    Replies outcome reply.Done new (if object_has_finalizer m (local_of m t local) then
    with_flag m (local_of m t local) true else m)
Does m (reregister_object t local) outcome new = Reregisters m (local_of m t local) outcome new
Does m (collect_heap t g how) outcome new = CollectsByLine m g how outcome new
Does m (suspend_others t) outcome new = Replies outcome reply.Done new (record m { holder = Some t })
Does m (resume_others t) outcome new = Replies outcome reply.Done new (record m { holder = None })
Does m (begin_set t into index from) outcome new =
    Replies outcome reply.Done new (with_step (with_slot m (local_of m t into) index (ref (local_of m t from))) t
    (begun_store (local_of m t into) index))
Does m (begin_new t local name len) outcome new =
    let type = type_named m name in
    BeginsNew m t local type (unwrap_or len 0) outcome new ⊎ WantsEntry m type outcome new
Does m (finish_step t) outcome new = FinishesStep m t (step_of m t) outcome new
Does m (create_handle t kind local second) outcome new = CreatesHandle m (row_of m t kind local second) outcome new
Does m (fetch_target t to h) outcome new =
    let name = target_of (finmap.get m.handles h) in RepliesName m outcome name new (with_local m t to name)
Does m (fetch_second t to h) outcome new =
    let name = second_of (finmap.get m.handles h) in RepliesName m outcome name new (with_local m t to name)
Does m (free_handle t h) outcome new = Replies outcome reply.Done new (without_handle m h)
Does m (take_ready t to) outcome new =
    let name = head_or_null m.ready in
    RepliesName m outcome name new (record (with_local m t to name) { ready = tail_of m.ready })
Does m (compact_large_once t) outcome new = Replies outcome reply.Done new (record m { compacts_large = true })
Does m (new_pinned t local name len) outcome new = MakesPinned m t local (type_named m name) len outcome new
Does m (begin_background t) outcome new = BeginsBackground m outcome new
Does m (step_background n) outcome new = StepsBackground m n outcome new
Does m (end_background t) outcome new = EndsByLine m outcome new
Does m (dump_heap options) outcome new =
    ((live : ℕ → Bool) × TestsLife options.life live (Live (picture m))
    × (outcome ≡ shown (dumpheap_text (picture m) live options)) × (new ≡ m))
    ⊎ WantsMemory m outcome new
Does m (dump_object a) outcome new = Shows m (dumpobj_text (picture m) a) outcome new
Does m (show_root a) outcome new = ShowsRoot m a outcome new
Does m show_segments outcome new = Shows m (eeheap_text m) outcome new
Does m verify_heap outcome new = Replies outcome reply.Clean new m
Does m show_handles outcome new = Shows m (gchandles_text (picture m)) outcome new
Does m show_queues outcome new = Shows m (finalizequeue_text (picture m)) outcome new
Does m (where_is a) outcome new = Replies outcome (reply.Where (where_of (picture m) a)) new m
Does m (show_size a) outcome new =
    ((reached : ℕ → Bool) × Tests reached (SlotReach (picture m) a)
    × Replies outcome (reply.Size a (count_by (λ o. reached o.name) (picture m).objects)
    (bytes_where (picture m) (λ o. reached o.name))) new m)
    ⊎ WantsMemory m outcome new
Does m (look_at look) outcome new =
    ((text : List ℕ) × IsLookText (picture m) look text × (outcome ≡ shown text) × (new ≡ m))
    ⊎ WantsMemory m outcome new

-- one line that is an instruction: the first check that fails, or what it does
abbrev pub Obeys : Machine → Instruction → Outcome → Machine → Type 0
Obeys m i outcome new =
    MatchOption (first_refusal m i) (Does m i outcome new) (λ r. (outcome ≡ refused r) × (new ≡ m))
