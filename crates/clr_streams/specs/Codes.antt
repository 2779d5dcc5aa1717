-- The exit codes of the program.
use Rattle.std.specs.Prelude.{ℕ}
use Rattle.clr_streams.specs.declared.status.Status.{Status}
use Rattle.clr_streams.specs.declared.status.Status.TheVariants.{Done, Usage, ReadFault, WriteFault, Memory, TooMuch}
use Rattle.clr_streams.specs.declared.status.Status.TheVariants.{BadImage}

abbrev pub code_of : Status → ℕ
code_of Done = 0
code_of Usage = 2
code_of ReadFault = 3
code_of WriteFault = 4
code_of Memory = 5
code_of TooMuch = 6
code_of BadImage = 7
