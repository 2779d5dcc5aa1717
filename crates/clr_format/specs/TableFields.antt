-- The tables of an image: who holds all others, what threads have begun, the handles and the queues. What they name is
-- checked later.
use Rattle.std.specs.Prelude.{ℕ, ◌==◌, nat_lt, List, [], ◌∷◌, ◌++◌, length, replicate, Bool, ◌-◌, slice_get}
use Rattle.std.specs.Prelude.{true, not, ◌&&◌, ◌||◌, if◌then◌else◌, Option, Some, None}
use Rattle.clr_types.specs.HandleCode.{kind_of_number}
use Rattle.clr_types.specs.Kinds.{is_dependent}
use Rattle.clr_types.specs.Types.{TypeRow, form_at, is_array, size_of}
use Rattle.clr_types.specs.declared.handle.Handle.{Handle}
pub use Rattle.clr_sos.specs.Steps.{is_new_length}
use Rattle.clr_sos.specs.declared.step.Step.{Step}
use Rattle.clr_sos.specs.declared.step.Step.TheVariants.{Idle, Store, Begun}
use Rattle.clr_fields.specs.Fields.{anything, Fields, field, gives, is_from_to, is_up_to, is_zero, times, ◌>>=◌}
use Rattle.clr_format.specs.declared.head.Head.{Head}

-- the tables, the handles with their numbers
pub record Tables : Type 0 where
  pub holder : Option ℕ
  pub steps : List Step
  pub handles : List (ℕ × Handle)
  pub entries : List ℕ
  pub ready : List ℕ

abbrev pub thread_or_none : ℕ → Option ℕ
thread_or_none t = if t == 0 then None else Some t

-- ---- what threads have begun

unfoldable pub idle_fields : Fields Step
idle_fields = do
  object ← field is_zero
  slot ← field is_zero
  c ← field is_zero
  d ← field is_zero
  gives Idle

unfoldable pub store_fields : Fields Step
store_fields = do
  object ← field anything
  slot ← field anything
  c ← field is_zero
  d ← field is_zero
  gives (Store object slot)

unfoldable pub begun_fields : Head → List TypeRow → Fields Step
begun_fields head rows = do
  t ← field (is_from_to 1 (length rows))
  len ← field (is_new_length rows head.large t)
  local ← field (is_up_to 63)
  front ← field anything
  gives (Begun (record { 0 = t }) len local front)

-- the words behind the number of a kind of step
abbrev pub step_with : Head → List TypeRow → ℕ → Fields Step
step_with head rows kind =
    if kind == 0 then idle_fields else (if kind == 1 then store_fields else begun_fields head rows)

-- what one thread has begun
unfoldable pub step_fields : Head → List TypeRow → Fields Step
step_fields head rows = do
  kind ← field (is_up_to 2)
  step_with head rows kind

unfoldable pub more_steps : Head → List TypeRow → List Step → Fields (List Step)
more_steps head rows steps = do
  step ← step_fields head rows
  gives (steps ++ step ∷ [])

-- ---- handles and queues

-- above the number of another handle, where there is one
abbrev pub is_above : Option (ℕ × Handle) → ℕ → Bool
is_above None h = true
is_above (Some (k, row)) h = nat_lt k h

-- a number below 65,536, above that of the handle before
abbrev pub is_number : List (ℕ × Handle) → ℕ → Bool
is_number handles h = is_above (slice_get handles (length handles - 1)) h && nat_lt h 65536

-- a second one has a dependent handle whose primary isn't null
abbrev pub is_second : ℕ → ℕ → ℕ → Bool
is_second kind target second = (second == 0) || (is_dependent (kind_of_number kind) && not (target == 0))

unfoldable pub handle_fields : List (ℕ × Handle) → Fields (ℕ × Handle)
handle_fields handles = do
  h ← field (is_number handles)
  kind ← field (is_up_to 4)
  target ← field anything
  second ← field (is_second kind target)
  gives (h, record { kind = kind_of_number kind; target = target; second = second })

unfoldable pub more_handles : List (ℕ × Handle) → Fields (List (ℕ × Handle))
more_handles handles = do
  handle ← handle_fields handles
  gives (handles ++ handle ∷ [])

unfoldable pub more_places : List ℕ → Fields (List ℕ)
more_places places = do
  place ← field anything
  gives (places ++ place ∷ [])

-- a count, which may be any, and so many places
unfoldable pub queue_fields : Fields (List ℕ)
queue_fields = do
  n ← field anything
  times n more_places []

abbrev pub all_steps : Head → List TypeRow → Fields (List Step)
all_steps head rows = times 16 (more_steps head rows) []

unfoldable pub all_handles : Fields (List (ℕ × Handle))
all_handles = do
  n ← field (is_up_to 65536)
  times n more_handles []

-- ---- all tables

unfoldable pub tables_fields : Head → List TypeRow → Fields Tables
tables_fields head rows = do
  holder ← field (is_up_to 16)
  steps ← all_steps head rows
  handles ← all_handles
  entries ← queue_fields
  ready ← queue_fields
  gives (record {
    holder = thread_or_none holder;
    steps = steps;
    handles = handles;
    entries = entries;
    ready = ready;
  })

-- an image of the first version has none
abbrev pub no_tables : Tables
no_tables = record { holder = None; steps = replicate 16 Idle; handles = []; entries = []; ready = [] }
