-- What a reader answers, told by the instruction that the words spell.
use Rattle.std.specs.Prelude.{◌≡◌, ℕ, Bool, List, None, Option, Some, ◌==◌, bytes_eq, codes, if◌then◌else◌}
use Rattle.std.specs.Option.{option_map}
use Rattle.clr_model.specs.declared.How.{How}
use Rattle.clr_model.specs.declared.How.TheVariants.{Fit}
use Rattle.clr_model.specs.declared.command.Command.{Command}
use Rattle.clr_types.specs.declared.shape.Shape.{Shape}
use Rattle.clr_types.specs.Types.{form_of}
use Rattle.clr_model.specs.Instructions.{Instruction, define_type, instruction_of, plain}
use Rattle.clr_model.specs.LineGrammar.{IsLine}

-- the command stands for the instruction, and there is none where there is none
abbrev pub Reads : Option Command → Option Instruction → Type 0
Reads result spelled = option_map instruction_of result ≡ option_map plain spelled

-- the definition of a type of this name, by the shape and the finaliser that were read
abbrev pub defined : List ℕ → Option (Shape × Bool) → Option Instruction
defined name read = option_map (λ p. define_type name (form_of p.0) p.1) read

-- the bytes are the line of an instruction for which the command stands
abbrev pub IsReadAs : List ℕ → Command → Type 0
IsReadAs bytes command = (i : Instruction) × IsLine bytes i × (instruction_of command ≡ plain i)

-- the bytes are the line of no instruction
abbrev pub IsNoLine : List ℕ → Type 0
IsNoLine bytes = (i : Instruction) → IsLine bytes i → ⊥

-- the kind of collection of a generation that the third of its words names
abbrev pub fitting_in : ℕ → List ℕ → Option How
fitting_in g word = if bytes_eq word (codes "fitting") then (if g == 1 then Some Fit else None) else None
