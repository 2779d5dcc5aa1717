-- What the outcome of a line says.
use Rattle.std.specs.Prelude.{ℕ, Option, Some, None, Result, Ok, Err, Vec}
use Rattle.std.specs.Global.{Global}
use Rattle.clr_model.specs.Outcomes as model
use Rattle.clr_model.specs.declared.Refusal.{Refusal}
use Rattle.clr_model.specs.declared.Refusal.TheVariants as refusal
use Rattle.clr_model.specs.declared.Reply.TheVariants as reply
use Rattle.clr_model.specs.declared.Where.{Where}
use Rattle.clr_objsize.specs.declared.sizes.Total.{Total}
use Rattle.clr_script.specs.ReplyLines.{IsShowable}
use Rattle.clr_sos.specs.declared.fault.SosFault.{SosFault}
use Rattle.clr_sos.specs.declared.fault.SosFault.TheVariants as fault
use Rattle.clr_lines.specs.declared.outcome.Outcome.{Outcome}
use Rattle.clr_lines.specs.declared.outcome.Outcome.TheVariants as code

abbrev pub outcome_of : Outcome → model.Outcome
outcome_of (code.Reply reply) = model.answered reply
outcome_of (code.Text text) = model.shown text.items
outcome_of (code.Refused refusal) = model.refused refusal

abbrev pub CanShow : Outcome → Type 0
CanShow (code.Reply reply) = IsShowable reply
CanShow (code.Text text) = Unit {0}
CanShow (code.Refused refusal) = Unit {0}

-- ---- commands that show the heap

-- how it is told that there is nothing to show
abbrev pub refusal_of : SosFault → Refusal
refusal_of fault.UnknownType = refusal.UnknownType
refusal_of fault.NoObject = refusal.NoObject
refusal_of fault.NoMemory = refusal.NoMemory

-- what a command tells that finds its text, or a fault
abbrev pub found_outcome : Result (Vec ℕ Global) SosFault → model.Outcome
found_outcome (Ok text) = model.shown text.items
found_outcome (Err fault) = model.refused (refusal_of fault)

-- what a command tells that lacks nothing but memory
abbrev pub text_outcome : {E : Type 0} → Result (Vec ℕ Global) E → model.Outcome
text_outcome (Ok text) = model.shown text.items
text_outcome (Err none) = model.refused refusal.NoMemory

-- what a command tells that looks for the place of an object
abbrev pub where_outcome : Option Where → model.Outcome
where_outcome None = model.refused refusal.NoObject
where_outcome (Some place) = model.answered (reply.Where place)

-- what a command tells that counts what the object at the place holds
abbrev pub size_outcome : ℕ → Result Total SosFault → model.Outcome
size_outcome a (Ok total) = model.answered (reply.Size a total.objects total.bytes)
size_outcome a (Err fault) = model.refused (refusal_of fault)
