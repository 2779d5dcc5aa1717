-- Lines of bytes: which instruction one says, and what it does.
use Rattle.std.specs.Prelude.{◌≡◌, ℕ, ◌<◌, ◌≤◌, List, length}
use Rattle.clr_model.specs.declared.Refusal.TheVariants as refusal
use Rattle.clr_model.specs.Machine.{Machine}
use Rattle.clr_model.specs.Instructions.{Instruction}
use Rattle.clr_model.specs.LineGrammar.{IsLine}
use Rattle.clr_model.specs.Outcomes.{Outcome, refused}
use Rattle.clr_model.specs.Run.{StandsFor}
use Rattle.clr_model.specs.Step.{Obeys}

-- the bytes are the line of this instruction
pub record Reads (bytes : List ℕ) (i : Instruction) : Type 0 where
  pub short : length bytes ≤ 4096
  pub line : IsLine bytes i

-- One line of bytes is refused for its length, or for its syntax where it says nothing, or it is obeyed.
pub data Step (m : Machine) (bytes : List ℕ) (outcome : Outcome) (new : Machine) : Type 0 where
  too_long : 4096 < length bytes → outcome ≡ refused refusal.TooLong → new ≡ m → Step m bytes outcome new
  no_syntax : length bytes ≤ 4096 → ((i : Instruction) → Reads bytes i → ⊥) → outcome ≡ refused refusal.Syntax → new ≡ m
      → Step m bytes outcome new
  obeyed : (i : Instruction) → Reads bytes i → Obeys m i outcome new → Step m bytes outcome new

-- each state that is stood for before has a next one, by the step of a line of bytes, that is stood for afterwards
unfoldable pub FollowsLine : Machine → List ℕ → Outcome → Machine → Type 0
FollowsLine old line outcome new = (m : Machine) → StandsFor old m
    → (next : Machine) × Step m line outcome next × StandsFor new next
