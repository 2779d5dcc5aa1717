-- What threads have begun, and who holds the others, as contracts see it.
use Rattle.std.specs.Prelude.{ℕ, ◌+◌, ◌-◌, if◌then◌else◌, List, [], ◌∷◌, map, replicate, get_or, Bool, false}
use Rattle.std.specs.Prelude.{Option, None, Some, ◌≡◌, length, not}
use Rattle.std.specs.List.{list_all}
use Rattle.clr_model.specs.Lookups.{is_step}
use Rattle.clr_model.specs.Machine.{ThreadStep, no_step, begun_store, begun_new}
use Rattle.clr_safe.specs.declared.begun.Begun.{Begun}
use Rattle.clr_safe.specs.declared.begun.Begun.TheVariants.{Nothing, Store, Birth}

-- what each of 16 threads has begun, from thread 1 on, and the thread that holds all others
pub record Threads : Type 0 where
  pub begun : List Begun
  pub holder : Option ℕ

-- nothing is begun, and no thread holds the others
abbrev pub no_threads : Threads
no_threads = record { begun = replicate 16 Nothing; holder = None }

-- what thread t has begun
abbrev pub begun_by : Threads → ℕ → Begun
begun_by threads t = get_or threads.begun (t - 1) Nothing

-- what is begun as a step of the machine
abbrev pub step_by : Begun → ThreadStep
step_by Nothing = no_step
step_by (Store object slot) = begun_store object slot
step_by (Birth type len local finalizer) = begun_new type.0 len local

abbrev pub steps_of : Threads → List ThreadStep
steps_of threads = map step_by threads.begun

-- it is an object that is to have a finalisation entry
abbrev pub owes_entry : Begun → Bool
owes_entry Nothing = false
owes_entry (Store object slot) = false
owes_entry (Birth type len local finalizer) = finalizer

abbrev pub owed_by : Begun → ℕ
owed_by what = if owes_entry what then 1 else 0

abbrev pub owed_in : List Begun → ℕ
owed_in [] = 0
owed_in (what ∷ more) = owed_by what + owed_in more

-- how many such objects are begun
abbrev pub births_owed : Threads → ℕ
births_owed threads = owed_in threads.begun

-- whether no thread has begun anything
abbrev pub are_idle : List Begun → Bool
are_idle begun = list_all (λ what. not (is_step (step_by what))) begun

-- and none holds the others
abbrev pub are_quiet : List Begun → Option ℕ → Bool
are_quiet begun None = are_idle begun
are_quiet begun (Some t) = false

-- what holds of what is kept: each thread has its place, and `quiet` says whether all rest
pub record IsSafe (begun : List Begun) (holder : Option ℕ) (is_quiet : Bool) : Type 0 where
  pub all : length begun ≡ 16
  pub quiet : is_quiet ≡ are_quiet begun holder
