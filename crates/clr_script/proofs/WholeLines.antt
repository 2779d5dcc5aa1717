-- What is read of the words of a line is what the line says.
use Rattle.std.proofs.Common.{◌≡◌, ◌∙◌, ℕ, List, ◌∷◌, refl, ap, Option, Some, None, Err, IfOk}
use Rattle.std.specs.Prelude.{ok_or}
use Rattle.std.specs.Option.{option_map}
use Rattle.clr_model.specs.declared.Refusal.{Refusal}
use Rattle.clr_model.specs.declared.command.Command.{Command}
use Rattle.clr_model.specs.Instructions.{Instruction, plain}
use Rattle.clr_model.specs.LineGrammar.{words}
use Rattle.clr_model.specs.Parsing.{thread_in, line_in, instruction_in}
use Rattle.clr_model.proofs.UnspacedWords.{line_read, line_told}
use Rattle.clr_script.specs.Readings.{Reads, IsReadAs, IsNoLine}

-- a reader of words reads the line
from_words : (bytes word : List ℕ) (ws : List (List ℕ)) (read : Option Command) → words bytes ≡ word ∷ ws
    → Reads read (line_in (thread_in word) word ws) → Reads read (instruction_in (words bytes))
unfolding instruction_in
from_words bytes word ws read is reads = rw is reads

-- a command that is read says what the line says
is_read : (bytes : List ℕ) (command : Command) → Reads (Some command) (instruction_in (words bytes))
    → IsReadAs bytes command
is_read bytes command reads = go (instruction_in (words bytes)) refl reads
  where
    go : (found : Option Instruction) → instruction_in (words bytes) ≡ found → Reads (Some command) found
        → IsReadAs bytes command
    go None is h = absurd cc
    go (Some i) is h = (i, line_told bytes i is, cc)

-- and where none is read the line says nothing
is_none : (bytes : List ℕ) → Reads None (instruction_in (words bytes)) → IsNoLine bytes
is_none bytes reads i line = let e : None ≡ Some (plain i) = reads ∙ ap (option_map plain) (line_read bytes i line) in
    absurd cc

pub line_is_read : (bytes word : List ℕ) (ws : List (List ℕ)) (read : Option Command) (refusal : Refusal)
    → words bytes ≡ word ∷ ws → Reads read (line_in (thread_in word) word ws)
    → IfOk (ok_or read refusal) (λ command. IsReadAs bytes command)
line_is_read bytes word ws None refusal is reads = tt
line_is_read bytes word ws (Some command) refusal is reads =
    is_read bytes command (from_words bytes word ws (Some command) is reads)

pub line_is_none : (bytes word : List ℕ) (ws : List (List ℕ)) (read : Option Command) (refusal : Refusal)
    → words bytes ≡ word ∷ ws → Reads read (line_in (thread_in word) word ws)
    → ok_or read refusal ≡ Err refusal → IsNoLine bytes
line_is_none bytes word ws None refusal is reads e = is_none bytes (from_words bytes word ws None is reads)
line_is_none bytes word ws (Some command) refusal is reads e = absurd cc
