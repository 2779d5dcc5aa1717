-- The object is made, or the line is refused for the first check that fails.
use Rattle.std.proofs.Common.{ap, Some}
use Rattle.clr_model.specs.declared.Refusal.{Refusal}
use Rattle.clr_model.specs.declared.Refusal.TheVariants.{Oom}
use Rattle.clr_runtime.proofs.Counted.{measure-not-oom, memory-not-oom, refused-as, thread-not-oom}
use Rattle.std.proofs.Common.{◌+◌, ◌≤◌, sym, subst, ◌∙◌, refl}
use Rattle.clr_model.specs.Instructions.{new_object}
use Rattle.clr_runtime.specs.Births.{IsKnown}
use Rattle.clr_runtime.specs.Outcomes.{place_outcome}
use Rattle.clr_runtime.specs.RuntimeView.{RuntimeView, seen}
use Rattle.clr_runtime.proofs.RuntimeKept.{follows_reserved, reserved_kept}
use Rattle.clr_runtime.proofs.BirthLines.{lacks_follows, measured_follows}
use Rattle.clr_runtime.proofs.NamesChecked.{thread_refused}
use Rattle.clr_runtime.proofs.runtime.Runtime.new_known.Goals as goal

-- the types of a lawful machine are lawful
pub measure-requires-clause-lawful : goal.measure-requires-clause-lawful
measure-requires-clause-lawful c = c.self.invariant.shown.sound.lawful.types

pub returns-in-Some-clause-follows : goal.returns-in-Some-clause-follows
returns-in-Some-clause-follows c =
    thread_refused
    (new_object c.args.t c.args.local c.args.name.now c.args.len) c.args.t refl refl c.args.self.now.machine
    c.in-Some.refusal (sym c.refused_thread.ensures.value ∙ c.in-Some.is)

pub returns-in-Err-clause-follows : goal.returns-in-Err-clause-follows
returns-in-Err-clause-follows c =
    let passed = rw (← c.self.view_is) at (sym c.refused_thread.ensures.value ∙ c.in_default.is) in
    rw (← c.self.view_is)
    (measured_follows c.self.invariant.shown c.args.t c.args.local c.args.name.now c.args.len passed
    c.in-Err.refusal c.in-Err.ensures)

-- there is no memory for an entry
pub returns-in_default-reserve_entry-clause-follows : goal.returns-in_default-reserve_entry-clause-follows
returns-in_default-reserve_entry-clause-follows c =
    let finals = c.reserve_entry.new.finals in
    let passed = rw (← c.self.view_is) at (sym c.refused_thread.ensures.value ∙ c.in_default.is) in
    rw (← c.self.view_is)
    (lacks_follows c.self.invariant.shown c.args.t c.args.local c.args.name.now c.args.len passed
    c.in-Ok.request c.in-Ok.ensures finals.entries finals.ready c.reserve_entry.ensures.entries
    c.reserve_entry.ensures.ready c.in_default-reserve_entry.ensures.err)

-- no check is told as a lack of room
pub returns-in-Some-clause-grew : goal.returns-in-Some-clause-grew
returns-in-Some-clause-grew c = λ oom.
    absurd (thread-not-oom c.args.self.now.machine c.args.t
    (sym c.refused_thread.ensures.value ∙ c.in-Some.is
    ∙ ap (λ (r : Refusal). Some r) (refused-as c.in-Some.refusal Oom oom)))

pub returns-in-Err-clause-grew : goal.returns-in-Err-clause-grew
returns-in-Err-clause-grew c = λ oom.
    absurd (measure-not-oom c.self.inside.parts.types c.args.local c.args.name.now c.args.len c.in-Err.refusal
    c.in-Err.ensures (refused-as c.in-Err.refusal Oom oom))

pub returns-in_default-reserve_entry-clause-grew : goal.returns-in_default-reserve_entry-clause-grew
returns-in_default-reserve_entry-clause-grew c = λ oom. absurd (memory-not-oom oom)

-- ---- what calls ask for

pub measure-requires-clause-known : goal.measure-requires-clause-known
measure-requires-clause-known c =
    subst (λ (v : RuntimeView). IsKnown v.machine.types c.args.name.now c.args.known) (sym c.self.view_is) c.requires

pub reserve_entry-requires : goal.reserve_entry-requires
reserve_entry-requires c = record { few = c.births_owed-owed.ensures.few }

pub make_small-requires-clause-runtime : goal.make_small-requires-clause-runtime
make_small-requires-clause-runtime c =
    let room = c.reserve_entry.ensures in
    reserved_kept c.self.inside.parts c.reserve_entry.new.finals room.entries room.ready room.spare c.self.invariant

pub make_small-requires-clause-passed : goal.make_small-requires-clause-passed
make_small-requires-clause-passed c =
    rw (← c.self.view_is) at (sym c.refused_thread.ensures.value ∙ c.in_default.is)

pub make_small-requires-clause-asked : goal.make_small-requires-clause-asked
make_small-requires-clause-asked c = (c.args.name.now, c.args.len, c.in-Ok.ensures)

pub make_small-requires-clause-entry : goal.make_small-requires-clause-entry
make_small-requires-clause-entry c = λ wanted.
    subst (λ owed. owed + 1 ≤ c.reserve_entry.new.finals.spare) c.births_owed-owed.ensures.count
    (c.in-Ok-reserve_entry.ensures.ok wanted)

pub make_small-requires-clause-small : goal.make_small-requires-clause-small
make_small-requires-clause-small c = c.if-request-large.true

pub make_large-requires-clause-runtime : goal.make_large-requires-clause-runtime
make_large-requires-clause-runtime c =
    let room = c.reserve_entry.ensures in
    reserved_kept c.self.inside.parts c.reserve_entry.new.finals room.entries room.ready room.spare c.self.invariant

pub make_large-requires-clause-passed : goal.make_large-requires-clause-passed
make_large-requires-clause-passed c =
    rw (← c.self.view_is) at (sym c.refused_thread.ensures.value ∙ c.in_default.is)

pub make_large-requires-clause-asked : goal.make_large-requires-clause-asked
make_large-requires-clause-asked c = (c.args.name.now, c.args.len, c.in-Ok.ensures)

pub make_large-requires-clause-entry : goal.make_large-requires-clause-entry
make_large-requires-clause-entry c = λ wanted.
    subst (λ owed. owed + 1 ≤ c.reserve_entry.new.finals.spare) c.births_owed-owed.ensures.count
    (c.in-Ok-reserve_entry.ensures.ok wanted)

pub make_large-requires-clause-large : goal.make_large-requires-clause-large
make_large-requires-clause-large c = c.if-request-large.false

-- ---- what the line leaves

pub invariant_of-self : goal.invariant_of-self
invariant_of-self c =
    let room = c.reserve_entry.ensures in
    reserved_kept c.self.inside.parts c.reserve_entry.new.finals room.entries room.ready room.spare c.self.invariant

pub invariant_of-self-then-request-large : goal.invariant_of-self-then-request-large
invariant_of-self-then-request-large c = c.make_small.ensures.runtime

pub returns-then-request-large-clause-follows : goal.returns-then-request-large-clause-follows
returns-then-request-large-clause-follows c =
    let finals = c.reserve_entry.new.finals in
    let room = c.reserve_entry.ensures in
    rw (← c.self.view_is)
    (follows_reserved c.self.invariant.shown finals.entries finals.ready room.entries room.ready
    (new_object c.args.t c.args.local c.args.name.now c.args.len) (place_outcome c.make_small.result)
    (seen c.make_small.new.parts) (c.make_small.ensures.made c.args.name.now c.args.len c.in-Ok.ensures))

pub returns-then-request-large-clause-grew : goal.returns-then-request-large-clause-grew
returns-then-request-large-clause-grew c = rw (← c.self.view_is) c.make_small.ensures.grew

pub invariant_of-self-2 : goal.invariant_of-self-2
invariant_of-self-2 c = c.make_large.ensures.runtime

pub returns-clause-follows : goal.returns-clause-follows
returns-clause-follows c =
    let finals = c.reserve_entry.new.finals in
    let room = c.reserve_entry.ensures in
    rw (← c.self.view_is)
    (follows_reserved c.self.invariant.shown finals.entries finals.ready room.entries room.ready
    (new_object c.args.t c.args.local c.args.name.now c.args.len) (place_outcome c.make_large.result)
    (seen c.make_large.new.parts) (c.make_large.ensures.made c.args.name.now c.args.len c.in-Ok.ensures))

pub returns-clause-grew : goal.returns-clause-grew
returns-clause-grew c = rw (← c.self.view_is) c.make_large.ensures.grew
