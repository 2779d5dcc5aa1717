-- Why lines are refused: the numbers of the checks.
use Rattle.std.specs.Prelude.{ℕ}
use Rattle.clr_model.specs.declared.Refusal.{Refusal}
use Rattle.clr_model.specs.declared.Refusal.TheVariants.{TooLong, Syntax, UnknownThread, Blocked, MidStep, NotMidStep}
use Rattle.clr_model.specs.declared.Refusal.TheVariants.{UnknownType, DuplicateType, BadShape, TooManyTypes, NoSlot}
use Rattle.clr_model.specs.declared.Refusal.TheVariants.{Null, Index, NotReference, IsReference, NoHandle, HandleKind}
use Rattle.clr_model.specs.declared.Refusal.TheVariants.{TooManyHandles, TooBig, Wait, Oom, NoObject, Empty, NoMemory}
use Rattle.clr_model.specs.declared.Refusal.TheVariants.{HasReferences, BackgroundRunning, NoBackground}

-- the number of the check that a refusal names
abbrev pub number_of_refusal : Refusal → ℕ
number_of_refusal TooLong = 1
number_of_refusal Syntax = 2
number_of_refusal UnknownThread = 3
number_of_refusal (Blocked t) = 4
number_of_refusal MidStep = 5
number_of_refusal NotMidStep = 6
number_of_refusal UnknownType = 7
number_of_refusal DuplicateType = 8
number_of_refusal BadShape = 9
number_of_refusal TooManyTypes = 10
number_of_refusal NoSlot = 11
number_of_refusal Null = 12
number_of_refusal Index = 13
number_of_refusal NotReference = 14
number_of_refusal IsReference = 14
number_of_refusal NoHandle = 15
number_of_refusal HandleKind = 16
number_of_refusal TooManyHandles = 17
number_of_refusal TooBig = 18
number_of_refusal (Wait t) = 19
number_of_refusal Oom = 20
number_of_refusal NoObject = 21
number_of_refusal Empty = 22
number_of_refusal NoMemory = 23
number_of_refusal HasReferences = 24
number_of_refusal BackgroundRunning = 25
number_of_refusal NoBackground = 26
