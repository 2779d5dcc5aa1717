-- Whether all threads rest: nothing is begun, and no thread holds the others.
use Rattle.std.proofs.Common.{◌≡◌, ℕ, ◌<◌, List, [], ◌∷◌, length, get_or, set, replicate, Bool, true, false, not, refl}
use Rattle.std.proofs.Common.{ap, sym, ◌∙◌, ◌↔◌, arith, Option, Some, None}
use Rattle.std.proofs.lemmas.List.{get_or-set_same, length-set}
use Rattle.std.proofs.lemmas.List.Folds.{list_all_at}
use Rattle.clr_model.specs.Lookups.{is_step}
use Rattle.clr_safe.specs.declared.begun.Begun.{Begun}
use Rattle.clr_safe.specs.declared.begun.Begun.TheVariants.{Birth, Nothing, Store}
use Rattle.clr_safe.specs.Threads.{are_idle, are_quiet, no_threads, step_by, Threads}

-- where no thread has begun a step, each has begun nothing
all-nothing : (begun : List Begun) → are_idle begun ≡ true → begun ≡ replicate (length begun) Nothing
all-nothing [] idle = refl
all-nothing (Nothing ∷ more) idle = ap (λ rest. Nothing ∷ rest) (all-nothing more idle)
all-nothing (Store object slot ∷ more) idle = absurd (cc idle)
all-nothing (Birth type len local finalizer ∷ more) idle = absurd (cc idle)

quiet-threads : (begun : List Begun) (holder : Option ℕ) → length begun ≡ 16 → are_quiet begun holder ≡ true
    → ◌≡◌ {A = Threads} (record { begun = begun; holder = holder }) no_threads
quiet-threads begun (Some t) all quiet = absurd (cc quiet)
quiet-threads begun None all quiet =
    let each = all-nothing begun quiet ∙ ap (λ n. replicate n Nothing) all in
    ap (λ (b : List Begun). record { begun = b; holder = None }) each

-- which is told exactly
pub quiet-exact : (threads : Threads) (begun : List Begun) (holder : Option ℕ) (quiet : Bool)
    → ◌≡◌ {A = Threads} (record { begun = begun; holder = holder }) threads → length begun ≡ 16
    → quiet ≡ are_quiet begun holder → (quiet ≡ true) ↔ (threads ≡ no_threads)
quiet-exact threads begun holder quiet seen all told = (
  λ yes. sym seen ∙ quiet-threads begun holder all (sym told ∙ yes),
  λ none. told ∙ ap (λ (t : Threads). are_quiet t.begun t.holder) (seen ∙ none),
)

-- while a thread is in mid-step they don't rest
pub not_quiet : (begun : List Begun) (i : ℕ) (what : Begun) (holder : Option ℕ) → i < length begun
    → is_step (step_by what) ≡ true → are_quiet (set begun i what) holder ≡ false
not_quiet begun i what (Some t) within step = refl
not_quiet begun i what None within step =
    let count : length (set begun i what) ≡ length begun = length-set begun i what in
    let here : get_or (set begun i what) i what ≡ what = get_or-set_same begun i what what within in
    let busy : not (is_step (step_by (get_or (set begun i what) i what))) ≡ false =
    ap (λ w. not (is_step (step_by w))) here ∙ ap not step in
    list_all_at (λ w. not (is_step (step_by w))) (set begun i what) i what (omega arith) busy
