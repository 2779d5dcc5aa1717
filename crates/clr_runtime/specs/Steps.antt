-- The lines that begin a step and finish it: what is checked of their thread, and what their calls tell.
use Rattle.std.specs.Prelude.{ℕ, List, ◌∷◌, [], None, Option, Some, Result, Ok, Err}
use Rattle.clr_model.specs.declared.Refusal.{Refusal}
use Rattle.clr_model.specs.declared.Reply.TheVariants.{Done, Place}
use Rattle.clr_model.specs.Checks.{blocked, first_of_all, mid_step, not_mid_step, unknown_thread}
use Rattle.clr_model.specs.Instructions.{begin_new, finish_step}
use Rattle.clr_model.specs.Machine.{Machine}
use Rattle.clr_model.specs.Outcomes as model
use Rattle.clr_model.specs.Run.{Follows}
use Rattle.clr_runtime.specs.Births.{IsMeasured}
use Rattle.clr_runtime.specs.Outcomes.{done_outcome}
use Rattle.clr_runtime.specs.RuntimeView.{seen}
use Rattle.clr_runtime.specs.declared.births.Request.{Request}
use Rattle.clr_runtime.specs.declared.parts.Parts.{Parts}

-- The checks on the thread of a line that finishes a step: there is such a thread, and it is in mid-step. One that
-- isn't
-- may be held by another one.
abbrev pub finish_checks : Machine → ℕ → List (Option Refusal)
finish_checks s t =
    let line = finish_step t in
    unknown_thread line ∷ blocked s line ∷ mid_step s line ∷ not_mid_step s line ∷ []

-- the first of them that fails
abbrev pub finish_refusal : Machine → ℕ → Option Refusal
finish_refusal s t = first_of_all (finish_checks s t)

-- what a call tells that finishes a step: nothing of a store, and the place of an object
abbrev pub step_outcome : Result (Option ℕ) Refusal → model.Outcome
step_outcome (Ok None) = model.answered Done
step_outcome (Ok (Some place)) = model.answered (Place place)
step_outcome (Err refusal) = model.refused refusal

-- each line that begins an object which is asked for is followed so
abbrev pub FollowsBegun : Parts → Parts → ℕ → ℕ → Request → Result (Unit {0}) Refusal → Type 0
FollowsBegun old new t local request result =
    (name : List ℕ) (len : Option ℕ) → IsMeasured old.types local name len request
    → Follows (seen old) (begin_new t local name len) (done_outcome result) (seen new)
