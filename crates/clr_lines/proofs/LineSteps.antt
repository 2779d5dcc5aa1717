-- What a line does, from what its command does.
use Rattle.std.proofs.Common.{◌≤◌, ◌<◌, ◌-◌, ℕ, List, length}
use Rattle.std.proofs.Common.{refl, subst}
use Rattle.clr_model.specs.declared.command.Command.{Command}
use Rattle.clr_model.specs.declared.Refusal.TheVariants as refusal
use Rattle.clr_model.specs.Machine.{Machine}
use Rattle.clr_model.specs.Instructions.{Instruction, dump_heap, instruction_of, plain}
use Rattle.clr_model.specs.LineGrammar.{IsLine}
use Rattle.clr_model.specs.Outcomes.{Outcome, refused}
use Rattle.clr_model.specs.Run.{Follows}
use Rattle.clr_script.specs.Readings.{IsNoLine, IsReadAs}
use Rattle.clr_lines.specs.Lines.{no_syntax, obeyed, too_long, FollowsLine}

-- a line that is read does what its instruction does
pub line_follows : (old new : Machine) (bytes : List ℕ) (i : Instruction) (outcome : Outcome) → length bytes ≤ 4096
    → IsLine bytes i → Follows old i outcome new → FollowsLine old bytes outcome new
unfolding Follows FollowsLine
line_follows old new bytes i outcome short line steps m stands =
    let step = steps m stands in
    (step.0, obeyed i (record { short = short; line = line }) step.1, step.2)

-- a line that is no line of the grammar is refused
pub unread_follows : (old : Machine) (bytes : List ℕ) → length bytes ≤ 4096 → IsNoLine bytes
    → FollowsLine old bytes (refused refusal.Syntax) old
unfolding FollowsLine
unread_follows old bytes short none m stands = (m, no_syntax short (λ i r. none i r.line) refl refl, stands)

-- a line that is too long is refused
pub long_follows : (old : Machine) (bytes : List ℕ) → 4096 < length bytes
    → FollowsLine old bytes (refused refusal.TooLong) old
unfolding FollowsLine
long_follows old bytes long m stands = (m, too_long long refl refl, stands)

-- ---- commands

-- An instruction whose options are written out does what it does without: of the sizes only what they are is told.
plain_follows : (old new : Machine) (i : Instruction) (outcome : Outcome) → Follows old (plain i) outcome new
    → Follows old i outcome new
unfolding Follows
plain_follows old new (dump_heap options) outcome steps = steps
plain_follows old new i outcome steps = steps

module _ (bytes : List ℕ) (command : Command) (short : length bytes ≤ 4096) (read : IsReadAs bytes command) where
  -- it is obeyed
  pub command_follows : (old new : Machine) (outcome : Outcome)
      → Follows old (instruction_of command) outcome new → FollowsLine old bytes outcome new
  command_follows old new outcome steps =
      let (i, line, e) = read in
      line_follows old new bytes i outcome short line
      (plain_follows old new i outcome (subst (λ (j : Instruction). Follows old j outcome new) e steps))
