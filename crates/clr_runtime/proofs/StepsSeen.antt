-- What a runtime shows of the steps that threads have begun.
use Rattle.std.proofs.Common.{◌≡◌, ◌∙◌, ◌-◌, ℕ, zero, suc, List, [], ◌∷◌, map, get_or, refl, ap, None}
use Rattle.std.specs.Prelude.{slice_get}
use Rattle.clr_model.specs.Lookups.{lowest_step_from, step_of, step_or_none}
use Rattle.clr_model.specs.Machine.{Options, Sums}
use Rattle.clr_safe.specs.Threads.{begun_by, step_by, steps_of, Threads}
use Rattle.clr_safe.specs.declared.begun.Begun.{Begun}
use Rattle.clr_safe.specs.declared.begun.Begun.TheVariants.{Nothing}
use Rattle.clr_view.specs.World.{World}
use Rattle.clr_runtime.specs.Shown.{Ahead, shown}

-- what is begun at a place of a list, as a step of the list of steps
step-at : (begun : List Begun) (i : ℕ)
    → step_or_none (slice_get (map step_by begun) i) ≡ step_by (get_or begun i Nothing)
step-at [] i = refl
step-at (what ∷ more) zero = refl
step-at (what ∷ more) (suc i) = step-at more i

-- what a thread has begun is seen as its step
pub step-seen : (w : World) (sums : Sums) (options : Options) (threads : Threads) (ahead : Ahead) (t : ℕ)
    → step_of (shown w sums options threads ahead) t ≡ step_by (begun_by threads t)
step-seen w sums options threads ahead t = step-at threads.begun (t - 1)

-- where no thread is in mid-step, none is while what is begun stays
pub still_calm : (first last : Threads) → last ≡ first → lowest_step_from 1 (steps_of first) ≡ None
    → lowest_step_from 1 (steps_of last) ≡ None
still_calm first last same calm = ap (λ (t : Threads). lowest_step_from 1 (steps_of t)) same ∙ calm
