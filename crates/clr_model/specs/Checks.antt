-- The checks of a line, in their order: the first that fails is why the line is refused.
use Rattle.std.specs.Prelude.{ℕ, ◌+◌, List, [], ◌∷◌, length, if◌then◌else◌, ◌==◌, nat_lt, nat_le, Bool, true, false}
use Rattle.std.specs.Prelude.{◌&&◌, ◌||◌, not, Option, Some, None, is_some, is_none, slice_get, unwrap_or}
use Rattle.std.specs.List.{list_any, list_all}
use Rattle.std.specs.FinMap as finmap
use Rattle.clr_types.specs.declared.handle.Kind.TheVariants.{Dependent}
use Rattle.clr_types.specs.Types.{TypeRow, Form, size_of, is_array, is_lawful_form, number_of, number_with_free, mt_of}
use Rattle.clr_types.specs.Types.{form_at, is_array_with_references}
use Rattle.clr_model.specs.declared.Refusal.{Refusal}
use Rattle.clr_model.specs.declared.Refusal.TheVariants.{UnknownThread, Blocked, MidStep, NotMidStep, UnknownType}
use Rattle.clr_model.specs.declared.Refusal.TheVariants.{DuplicateType, BadShape, TooManyTypes, NoSlot, Null, Index}
use Rattle.clr_model.specs.declared.Refusal.TheVariants.{NotReference, IsReference, NoHandle, HandleKind}
use Rattle.clr_model.specs.declared.Refusal.TheVariants.{TooManyHandles, TooBig, NoObject, Empty, HasReferences}
use Rattle.clr_model.specs.declared.Refusal.TheVariants.{BackgroundRunning, NoBackground}
use Rattle.clr_types.specs.declared.handle.Handle.{Handle}
use Rattle.clr_model.specs.Machine.{Value, ref, num, Object, Machine}
use Rattle.clr_model.specs.Lookups.{object_at, slots_of_named, is_thread, local_of, step_of, is_step}
use Rattle.clr_types.specs.Kinds.{is_dependent}
use Rattle.clr_model.specs.Instructions.{Instruction, define_type, new_object, get_slot, set_slot, put_number}
use Rattle.clr_model.specs.Instructions.{read_number, copy_local, clear_local, suppress_object, reregister_object}
use Rattle.clr_model.specs.Instructions.{collect_heap, suspend_others, resume_others, begin_set, begin_new, finish_step}
use Rattle.clr_model.specs.Instructions.{create_handle, fetch_target, fetch_second, free_handle, take_ready, dump_heap}
use Rattle.clr_model.specs.Instructions.{dump_object, show_root, where_is, compact_large_once, new_pinned}
use Rattle.clr_model.specs.Instructions.{begin_background, step_background, end_background, show_size, look_at}
use Rattle.clr_model.specs.declared.look.Look.{Look}
use Rattle.clr_model.specs.declared.look.Look.TheVariants.{DumpArray, DumpMt, GcRoots, PathTo, Retained}

-- ---- what a line speaks of

-- the thread of a line
abbrev pub thread_of : Instruction → Option ℕ
thread_of (new_object t local name len) = Some t
thread_of (get_slot t to from index) = Some t
thread_of (set_slot t into index from) = Some t
thread_of (put_number t into index value) = Some t
thread_of (read_number t from index) = Some t
thread_of (copy_local t to from) = Some t
thread_of (clear_local t local) = Some t
thread_of (suppress_object t local) = Some t
thread_of (reregister_object t local) = Some t
thread_of (collect_heap t g how) = Some t
thread_of (suspend_others t) = Some t
thread_of (resume_others t) = Some t
thread_of (begin_set t into index from) = Some t
thread_of (begin_new t local name len) = Some t
thread_of (finish_step t) = Some t
thread_of (create_handle t kind local second) = Some t
thread_of (fetch_target t to h) = Some t
thread_of (fetch_second t to h) = Some t
thread_of (free_handle t h) = Some t
thread_of (take_ready t to) = Some t
thread_of (compact_large_once t) = Some t
thread_of (new_pinned t local name len) = Some t
thread_of (begin_background t) = Some t
thread_of (end_background t) = Some t
thread_of _ = None

abbrev pub list_of : {X : Type 0} → Option X → List X
list_of None = []
list_of (Some x) = x ∷ []

-- the locals that a line names
abbrev pub locals_of : Instruction → List ℕ
locals_of (new_object t local name len) = local ∷ []
locals_of (get_slot t to from index) = to ∷ from ∷ []
locals_of (set_slot t into index from) = into ∷ from ∷ []
locals_of (put_number t into index value) = into ∷ []
locals_of (read_number t from index) = from ∷ []
locals_of (copy_local t to from) = to ∷ from ∷ []
locals_of (clear_local t local) = local ∷ []
locals_of (suppress_object t local) = local ∷ []
locals_of (reregister_object t local) = local ∷ []
locals_of (begin_set t into index from) = into ∷ from ∷ []
locals_of (begin_new t local name len) = local ∷ []
locals_of (create_handle t kind local second) = local ∷ list_of second
locals_of (fetch_target t to h) = to ∷ []
locals_of (fetch_second t to h) = to ∷ []
locals_of (take_ready t to) = to ∷ []
locals_of (new_pinned t local name len) = local ∷ []
locals_of _ = []

-- the local whose object a line works on
abbrev pub object_local : Instruction → Option ℕ
object_local (get_slot t to from index) = Some from
object_local (set_slot t into index from) = Some into
object_local (put_number t into index value) = Some into
object_local (read_number t from index) = Some from
object_local (suppress_object t local) = Some local
object_local (reregister_object t local) = Some local
object_local (begin_set t into index from) = Some into
object_local (create_handle t Dependent local second) = Some local
object_local _ = None

-- the slot that a line works on, and whether that is to be a reference
abbrev pub slot_index : Instruction → Option (ℕ × Bool)
slot_index (get_slot t to from index) = Some (index, true)
slot_index (set_slot t into index from) = Some (index, true)
slot_index (begin_set t into index from) = Some (index, true)
slot_index (put_number t into index value) = Some (index, false)
slot_index (read_number t from index) = Some (index, false)
slot_index _ = None

-- the handle that a line names
abbrev pub handle_of : Instruction → Option ℕ
handle_of (fetch_target t to h) = Some h
handle_of (fetch_second t to h) = Some h
handle_of (free_handle t h) = Some h
handle_of _ = None

-- the type and the length of an object that a line would make
abbrev pub made_by : Instruction → Option (List ℕ × Option ℕ)
made_by (new_object t local name len) = Some (name, len)
made_by (begin_new t local name len) = Some (name, len)
made_by (new_pinned t local name len) = Some (name, Some len)
made_by _ = None

-- ---- one check each

abbrev pub refuse_if : Bool → Refusal → Option Refusal
refuse_if test refusal = if test then Some refusal else None

abbrev pub with_some : {X : Type 0} → Option X → (X → Option Refusal) → Option Refusal
with_some None check = None
with_some (Some x) check = check x

-- the thread's number is none
abbrev pub unknown_thread : Instruction → Option Refusal
unknown_thread i = with_some (thread_of i) (λ t. refuse_if (not (is_thread t)) UnknownThread)

-- another thread holds the suspension, and this one isn't in mid-step
abbrev pub blocked : Machine → Instruction → Option Refusal
blocked m i = with_some (thread_of i)
    (λ t. with_some m.holder (λ h. refuse_if (not (h == t) && not (is_step (step_of m t))) (Blocked h)))

abbrev pub is_finish : Instruction → Bool
is_finish (finish_step t) = true
is_finish _ = false

-- a thread in mid-step may do nothing but the other half, and no other thread may do that
abbrev pub mid_step : Machine → Instruction → Option Refusal
mid_step m i = with_some (thread_of i) (λ t. refuse_if (is_step (step_of m t) && not (is_finish i)) MidStep)

abbrev pub not_mid_step : Machine → Instruction → Option Refusal
not_mid_step m i = with_some (thread_of i) (λ t. refuse_if (not (is_step (step_of m t)) && is_finish i) NotMidStep)

-- a background collection begins where none runs, and goes on and ends where one does
abbrev pub background : Machine → Instruction → Option Refusal
background m (begin_background t) = refuse_if (is_some m.background) BackgroundRunning
background m (step_background n) = refuse_if (is_none m.background) NoBackground
background m (end_background t) = refuse_if (is_none m.background) NoBackground
background m _ = None

-- a defined type has this method table word, or it is that of free items
abbrev pub has_mt_from : ℕ → List TypeRow → ℕ → Bool
has_mt_from n [] mt = false
has_mt_from n (row ∷ rows) mt = (mt_of n == mt) || has_mt_from (n + 1) rows mt

abbrev pub has_mt : List TypeRow → ℕ → Bool
has_mt rows mt = (mt_of 0 == mt) || has_mt_from 1 rows mt

-- the method table word that a line that looks asks for
abbrev pub looked_mt : Look → Option ℕ
looked_mt (DumpMt mt) = Some mt
looked_mt _ = None

abbrev pub knows_mt : List TypeRow → Option ℕ → Bool
knows_mt rows None = true
knows_mt rows (Some mt) = has_mt rows mt

-- the type isn't there: of a new object a defined one, of `dumpheap` and `dumpmt` also `Free`
abbrev pub unknown_type : Machine → Instruction → Option Refusal
unknown_type m (dump_heap o) =
    refuse_if (not (list_all (has_mt m.types) (list_of o.mt)) || not
    (list_all (λ n. is_some (number_with_free m.types n)) (list_of o.name))) UnknownType
unknown_type m (look_at look) = refuse_if (not (knows_mt m.types (looked_mt look))) UnknownType
unknown_type m i = with_some (made_by i) (λ made. refuse_if (is_none (number_of m.types made.0)) UnknownType)

abbrev pub duplicate_type : Machine → Instruction → Option Refusal
duplicate_type m (define_type name form finalizer) = refuse_if (is_some (number_with_free m.types name)) DuplicateType
duplicate_type m _ = None

-- the form of the type that a line makes an object of
abbrev pub made_form : Machine → List ℕ → Form
made_form m name = form_at m.types (unwrap_or (number_of m.types name) 0)

-- a form out of bounds; a length with a class, or an array without one
abbrev pub bad_shape : Machine → Instruction → Option Refusal
bad_shape m (define_type name form finalizer) = refuse_if (not (is_lawful_form form finalizer)) BadShape
bad_shape m i = with_some (made_by i)
    (λ made. refuse_if (not (if is_array (made_form m made.0) then is_some made.1 else is_none made.1)) BadShape)

abbrev pub too_many_types : Machine → Instruction → Option Refusal
too_many_types m (define_type name form finalizer) = refuse_if (nat_le 1000 (length m.types)) TooManyTypes
too_many_types m _ = None

-- a pinned object is an array without references
abbrev pub has_references : Machine → Instruction → Option Refusal
has_references m (new_pinned t local name len) =
    refuse_if (is_array_with_references (made_form m name)) HasReferences
has_references m _ = None

abbrev pub no_slot : Instruction → Option Refusal
no_slot i = refuse_if (list_any (λ k. nat_le 64 k) (locals_of i)) NoSlot

abbrev pub null : Machine → Instruction → Option Refusal
null m i = with_some (thread_of i) (λ t. with_some (object_local i) (λ k. refuse_if (local_of m t k == 0) Null))

-- the slots of the object that a line works on
abbrev pub slots_at : Machine → Option ℕ → Option ℕ → List Value
slots_at m (Some t) (Some k) = slots_of_named m (local_of m t k)
slots_at m (Some t) None = []
slots_at m None k = []

abbrev pub worked_slots : Machine → Instruction → List Value
worked_slots m i = slots_at m (thread_of i) (object_local i)

abbrev pub index : Machine → Instruction → Option Refusal
index m i = with_some (slot_index i) (λ s. refuse_if (nat_le (length (worked_slots m i)) s.0) Index)

abbrev pub is_reference_slot : Option Value → Bool
is_reference_slot (Some (ref name)) = true
is_reference_slot (Some (num number)) = false
is_reference_slot None = false

-- a number where a reference is wanted, or the other way round
abbrev pub wrong_slot : Machine → Instruction → Option Refusal
wrong_slot m i = with_some (slot_index i) (λ s.
    if is_reference_slot (slice_get (worked_slots m i) s.0)
    then refuse_if (not s.1) IsReference
    else refuse_if s.1 NotReference)

abbrev pub no_handle : Machine → Instruction → Option Refusal
no_handle m i = with_some (handle_of i) (λ h. refuse_if (is_none (finmap.get m.handles h)) NoHandle)

abbrev pub is_dependent_row : Option Handle → Bool
is_dependent_row None = false
is_dependent_row (Some row) = is_dependent row.kind

abbrev pub handle_kind : Machine → Instruction → Option Refusal
handle_kind m (fetch_second t to h) = refuse_if (not (is_dependent_row (finmap.get m.handles h))) HandleKind
handle_kind m _ = None

abbrev pub too_many_handles : Machine → Instruction → Option Refusal
too_many_handles m (create_handle t kind local second) = refuse_if (nat_le 65536 (finmap.len m.handles)) TooManyHandles
too_many_handles m _ = None

-- the size of an object that a line would make
abbrev pub made_size : Machine → List ℕ → Option ℕ → ℕ
made_size m name len = size_of (made_form m name) (unwrap_or len 0)

-- no object may have more than 2^30 bytes, and a birth in two steps makes small objects alone
abbrev pub too_big : Machine → Instruction → Option Refusal
too_big m (begin_new t local name len) =
    refuse_if (nat_lt 1073741824 (made_size m name len) || nat_le m.options.large (made_size m name len)) TooBig
too_big m i = with_some (made_by i) (λ made.
    refuse_if (nat_lt 1073741824 (made_size m made.0 made.1)) TooBig)

-- the address that a line shows
abbrev pub address_of : Instruction → Option ℕ
address_of (dump_object a) = Some a
address_of (show_root a) = Some a
address_of (where_is a) = Some a
address_of (show_size a) = Some a
address_of _ = None

-- the objects that a line that looks asks for
abbrev pub looked_objects : Look → List ℕ
looked_objects (DumpArray start length a) = a ∷ []
looked_objects (GcRoots a) = a ∷ []
looked_objects (PathTo a b) = a ∷ b ∷ []
looked_objects (Retained a) = a ∷ []
looked_objects _ = []

-- one of the objects isn't there
abbrev pub is_missing : List Object → List ℕ → Bool
is_missing objects [] = false
is_missing objects (a ∷ []) = is_none (object_at objects a)
is_missing objects (a ∷ b ∷ more) = is_none (object_at objects a) || is_missing objects (b ∷ more)

abbrev pub no_object : Machine → Instruction → Option Refusal
no_object m (look_at look) = refuse_if (is_missing m.objects (looked_objects look)) NoObject
no_object m i = with_some (address_of i) (λ a. refuse_if (is_none (object_at m.objects a)) NoObject)

abbrev pub empty : Machine → Instruction → Option Refusal
empty m (take_ready t to) = refuse_if (length m.ready == 0) Empty
empty m _ = None

-- ---- all checks

abbrev pub first_of_all : List (Option Refusal) → Option Refusal
first_of_all [] = None
first_of_all (None ∷ checks) = first_of_all checks
first_of_all (Some refusal ∷ checks) = Some refusal

-- the first check that fails, apart from those that depend on the course of the line
abbrev pub refusal : Machine → Instruction → Option Refusal
refusal m i = first_of_all (
    unknown_thread i ∷ blocked m i ∷ mid_step m i ∷ not_mid_step m i ∷ background m i ∷ unknown_type m i
    ∷ duplicate_type m i ∷ bad_shape m i
    ∷ too_many_types m i ∷ has_references m i ∷ no_slot i ∷ null m i ∷ index m i ∷ wrong_slot m i ∷ no_handle m i
    ∷ handle_kind m i
    ∷ too_many_handles m i ∷ too_big m i ∷ no_object m i ∷ empty m i ∷ [])
