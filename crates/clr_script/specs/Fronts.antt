-- Lines of threads, read from their front.
use Rattle.std.specs.Prelude.{◌≡◌, ◌≢◌, ℕ, List, [], ◌∷◌, ◌++◌}
use Rattle.std.specs.List.{AllByRecursion}
use Rattle.clr_model.specs.declared.command.Command.{Command}
use Rattle.clr_model.specs.Instructions.{Instruction, instruction_of}
use Rattle.clr_model.specs.LineGrammar.{IsLine, IsWellFormed, IsWord, spelling, thread_word}

-- words with a space before each
abbrev pub behind : List (List ℕ) → List ℕ
behind [] = []
behind (word ∷ words) = (32 ∷ word) ++ behind words

-- ---- whole lines

-- the line of this thread whose verb begins with these letters, and that goes on with this text, is the command's
abbrev pub SpellsBehind : ℕ → List ℕ → List ℕ → Command → Type 0
SpellsBehind t letters text command = IsLine (thread_word t ++ ((32 ∷ letters) ++ text)) (instruction_of command)

-- ---- lines in front of a text

-- no byte is a line feed
abbrev pub IsUnfed : List ℕ → Type 0
IsUnfed = AllByRecursion (λ (b : ℕ). b ≢ 10)

-- the line of this instruction stands in front of a text, and a line feed and the rest behind it
pub record IsInFront (i : Instruction) (text rest : List ℕ) : Type 0 where
  pub formed : IsWellFormed i
  pub cut : text ≡ spelling i ++ (10 ∷ rest)
  pub unfed : IsUnfed (spelling i)

-- Where this text stands behind the verb of a thread's line, that line is the instruction's, and ends before the rest.
abbrev pub Continues : List ℕ → (ℕ → Instruction) → List ℕ → List ℕ → Type 0
Continues verb instruction text rest = (t : ℕ) → IsWord t
    → IsInFront (instruction t) (thread_word t ++ ((32 ∷ verb) ++ text)) rest
