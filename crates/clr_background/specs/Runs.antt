-- Lines over which a background collection runs on.
use Rattle.std.specs.Prelude.{◌≡◌, ℕ, Bool, IsTrue, is_some, Some}
use Rattle.clr_model.specs.Machine.{Machine, Marking}
use Rattle.clr_model.specs.Lawful.{IsBirthNamed}
use Rattle.clr_model.specs.Instructions.{Instruction}
use Rattle.clr_model.specs.LineGrammar.{IsWellFormed}
use Rattle.clr_model.specs.Outcomes.{Outcome}
use Rattle.clr_model.specs.Step.{Obeys}
use Rattle.clr_background.specs.Log.{LogsLine}

-- Lines of threads and steps of the marker, in any order, after each of which one runs. Where one runs before the first
-- line, it is that one all the time: what ends one leaves none.
pub data RunsOn : Machine → Machine → Type 0 where
  at_once : {m : Machine} → RunsOn m m
  by_line : {m next last : Machine} (i : Instruction) (outcome : Outcome) → Obeys m i outcome next
      → IsTrue (is_some next.background) → RunsOn next last → RunsOn m last

-- The same, over lawful states and lines of the grammar, with the log that is kept beside them.
pub data LogsOn : Machine → (ℕ → Bool) → Machine → (ℕ → Bool) → Type 0 where
  at_once : {m : Machine} {log : ℕ → Bool} → LogsOn m log m log
  by_line : {m next last : Machine} {log mid end : ℕ → Bool} (i : Instruction) (outcome : Outcome)
      (old new : Marking) → IsBirthNamed m → IsWellFormed i → Obeys m i outcome next → m.background ≡ Some old
      → next.background ≡ Some new → LogsLine m i old new log mid → LogsOn next mid last end → LogsOn m log last end
