-- What the results of a runtime's calls say.
use Rattle.std.specs.Prelude.{ℕ, Result, Ok, Err}
use Rattle.clr_model.specs.declared.Collected as code
use Rattle.clr_model.specs.declared.Reply.TheVariants.{Collected, Done, HandleNumber, Mt, Number, Place, Scanned}
use Rattle.clr_model.specs.declared.Refusal.{Refusal}
use Rattle.clr_model.specs.declared.Refusal.TheVariants as refusal
use Rattle.clr_types.specs.declared.fault.DefineFault.{DefineFault}
use Rattle.clr_types.specs.declared.fault.DefineFault.TheVariants as fault
use Rattle.clr_handles.specs.declared.fault.CreateFault.{CreateFault}
use Rattle.clr_handles.specs.declared.fault.CreateFault.TheVariants as creation
use Rattle.clr_heap.specs.declared.heap.segments.AcquireFault.TheVariants as acquisition
use Rattle.clr_bgmark.specs.declared.background.Progress.{Progress}
use Rattle.clr_model.specs.Outcomes as model
use Rattle.clr_runtime.specs.declared.rooms.NoRoom.{NoRoom}
use Rattle.clr_runtime.specs.declared.rooms.NoRoom.TheVariants as room

-- what a call tells that gives a method table word
abbrev pub mt_outcome : Result ℕ Refusal → model.Outcome
mt_outcome (Ok mt) = model.answered (Mt mt)
mt_outcome (Err refusal) = model.refused refusal

-- what a call tells that gives a place, 0 for null
abbrev pub place_outcome : Result ℕ Refusal → model.Outcome
place_outcome (Ok place) = model.answered (Place place)
place_outcome (Err refusal) = model.refused refusal

-- what a call tells that gives a number
abbrev pub number_outcome : Result ℕ Refusal → model.Outcome
number_outcome (Ok number) = model.answered (Number number)
number_outcome (Err refusal) = model.refused refusal

-- what a call tells that gives the number of a handle
abbrev pub handle_outcome : Result ℕ Refusal → model.Outcome
handle_outcome (Ok h) = model.answered (HandleNumber h)
handle_outcome (Err refusal) = model.refused refusal

-- what a call tells that collects
abbrev pub collected_outcome : Result code.Collected Refusal → model.Outcome
collected_outcome (Ok collected) = model.answered (Collected collected)
collected_outcome (Err refusal) = model.refused refusal

-- what a call tells that scans gray objects
abbrev pub scanned_outcome : Result Progress Refusal → model.Outcome
scanned_outcome (Ok progress) = model.answered (Scanned progress.scanned progress.gray)
scanned_outcome (Err refusal) = model.refused refusal

-- what a call tells that gives nothing
abbrev pub done_outcome : Result (Unit {0}) Refusal → model.Outcome
done_outcome (Ok nothing) = model.answered Done
done_outcome (Err refusal) = model.refused refusal

-- how a refusal of the table of types is told
abbrev pub refusal_of_fault : DefineFault → Refusal
refusal_of_fault fault.Duplicate = refusal.DuplicateType
refusal_of_fault fault.BadShape = refusal.BadShape
refusal_of_fault fault.TooManyTypes = refusal.TooManyTypes
refusal_of_fault fault.NoMemory = refusal.NoMemory

-- how a refusal of the table of handles is told
abbrev pub refusal_of_create : CreateFault → Refusal
refusal_of_create creation.TooManyHandles = refusal.TooManyHandles
refusal_of_create creation.NoMemory = refusal.NoMemory

-- how it is told that there is no room for an object: a thread is waited for, or no segment was acquired
abbrev pub refusal_of_room : NoRoom → Refusal
refusal_of_room (room.Wait k) = refusal.Wait k
refusal_of_room (room.Acquire acquisition.OverLimit) = refusal.Oom
refusal_of_room (room.Acquire acquisition.NoMemory) = refusal.NoMemory
