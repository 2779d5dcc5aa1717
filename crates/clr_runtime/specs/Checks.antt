-- The checks on the thread and the locals that a line names, as the machine makes them.
use Rattle.std.specs.Prelude.{ℕ, List, ◌∷◌, [], ◌++◌, nat_le, Option}
use Rattle.std.specs.List.{list_any}
use Rattle.clr_model.specs.declared.Refusal.{Refusal}
use Rattle.clr_model.specs.declared.Refusal.TheVariants.{NoSlot}
use Rattle.clr_model.specs.Checks.{blocked, first_of_all, mid_step, not_mid_step, refuse_if, unknown_thread}
use Rattle.clr_model.specs.Instructions.{suspend_others}
use Rattle.clr_model.specs.Machine.{Machine}

-- The checks on the thread of a line that finishes no step: there is such a thread, no other one holds it, and it is
-- not in mid-step. `suspend` is such a line, and they are the same for each.
abbrev pub thread_checks : Machine → ℕ → List (Option Refusal)
thread_checks s t =
    let line = suspend_others t in
    unknown_thread line ∷ blocked s line ∷ mid_step s line ∷ not_mid_step s line ∷ []

-- the first of them that fails
abbrev pub thread_refusal : Machine → ℕ → Option Refusal
thread_refusal s t = first_of_all (thread_checks s t)

-- the first check that fails where the line also names these locals, each of which is to be below 64
abbrev pub names_refusal : Machine → ℕ → List ℕ → Option Refusal
names_refusal s t locals =
    first_of_all (thread_checks s t ++ refuse_if (list_any (λ k. nat_le 64 k) locals) NoSlot ∷ [])
