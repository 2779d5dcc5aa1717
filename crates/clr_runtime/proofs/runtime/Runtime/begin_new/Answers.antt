-- There is room for the object, or the line is refused for the first check that fails.
use Rattle.std.proofs.Common.{ap, Some}
use Rattle.clr_model.specs.declared.Refusal.{Refusal}
use Rattle.clr_model.specs.declared.Refusal.TheVariants.{Oom}
use Rattle.clr_runtime.proofs.Counted.{measure-not-oom, memory-not-oom, refused-as, size-not-oom, thread-not-oom}
use Rattle.std.proofs.Common.{◌+◌, ◌≤◌, ◌∙◌, refl, subst, sym}
use Rattle.clr_model.specs.Instructions.{begin_new}
use Rattle.clr_runtime.specs.Outcomes.{done_outcome}
use Rattle.clr_runtime.specs.RuntimeView.{seen}
use Rattle.clr_runtime.proofs.RuntimeKept.{follows_reserved, reserved_kept}
use Rattle.clr_runtime.proofs.BegunBirths.{begin_lacks, begin_large, begin_measured}
use Rattle.clr_runtime.proofs.NamesChecked.{thread_refused}
use Rattle.clr_runtime.proofs.runtime.Runtime.begin_new.Goals as goal

-- the types of a lawful machine are lawful
pub measure-requires-clause-lawful : goal.measure-requires-clause-lawful
measure-requires-clause-lawful c = c.self.invariant.shown.sound.lawful.types

pub returns-in-Some-clause-follows : goal.returns-in-Some-clause-follows
returns-in-Some-clause-follows c =
    thread_refused
    (begin_new c.args.t c.args.local c.args.name.now c.args.len) c.args.t refl refl c.args.self.now.machine
    c.in-Some.refusal (sym c.refused_thread.ensures.value ∙ c.in-Some.is)

pub returns-in-Err-clause-follows : goal.returns-in-Err-clause-follows
returns-in-Err-clause-follows c =
    let passed = rw (← c.self.view_is) at (sym c.refused_thread.ensures.value ∙ c.in_default.is) in
    rw (← c.self.view_is)
    (begin_measured c.self.invariant.shown c.args.t c.args.local c.args.name.now c.args.len passed
    c.in-Err.refusal c.in-Err.ensures)

-- the object is large
pub returns-then-request-large-clause-follows : goal.returns-then-request-large-clause-follows
returns-then-request-large-clause-follows c =
    let passed = rw (← c.self.view_is) at (sym c.refused_thread.ensures.value ∙ c.in_default.is) in
    rw (← c.self.view_is)
    (begin_large c.self.invariant.shown c.args.t c.args.local c.args.name.now c.args.len passed c.in-Ok.request
    c.in-Ok.ensures c.if-request-large.true)

-- there is no memory for an entry
pub returns-in_default-reserve_entry-clause-follows : goal.returns-in_default-reserve_entry-clause-follows
returns-in_default-reserve_entry-clause-follows c =
    let finals = c.reserve_entry.new.finals in
    let passed = rw (← c.self.view_is) at (sym c.refused_thread.ensures.value ∙ c.in_default.is) in
    rw (← c.self.view_is)
    (begin_lacks c.self.invariant.shown c.args.t c.args.local c.args.name.now c.args.len passed c.in-Ok.request
    c.in-Ok.ensures c.if-request-large.false finals.entries finals.ready c.reserve_entry.ensures.entries
    c.reserve_entry.ensures.ready c.in_default-reserve_entry.ensures.err)

-- no check is told as a lack of room
pub returns-in-Some-clause-grew : goal.returns-in-Some-clause-grew
returns-in-Some-clause-grew c = λ oom.
    absurd (thread-not-oom c.args.self.now.machine c.args.t
    (sym c.refused_thread.ensures.value ∙ c.in-Some.is
    ∙ ap (λ (r : Refusal). Some r) (refused-as c.in-Some.refusal Oom oom)))

pub returns-in-Err-clause-grew : goal.returns-in-Err-clause-grew
returns-in-Err-clause-grew c = λ oom.
    absurd (measure-not-oom c.self.inside.parts.types c.args.local c.args.name.now c.args.len c.in-Err.refusal
    c.in-Err.ensures (refused-as c.in-Err.refusal Oom oom))

pub returns-in_default-reserve_entry-clause-grew : goal.returns-in_default-reserve_entry-clause-grew
returns-in_default-reserve_entry-clause-grew c = λ oom. absurd (memory-not-oom oom)

pub returns-then-request-large-clause-grew : goal.returns-then-request-large-clause-grew
returns-then-request-large-clause-grew c = λ oom. absurd (size-not-oom oom)

-- ---- what calls ask for

pub reserve_entry-requires : goal.reserve_entry-requires
reserve_entry-requires c = record { few = c.births_owed-owed.ensures.few }

pub begin_small-requires-clause-runtime : goal.begin_small-requires-clause-runtime
begin_small-requires-clause-runtime c =
    let room = c.reserve_entry.ensures in
    reserved_kept c.self.inside.parts c.reserve_entry.new.finals room.entries room.ready room.spare c.self.invariant

pub begin_small-requires-clause-passed : goal.begin_small-requires-clause-passed
begin_small-requires-clause-passed c =
    rw (← c.self.view_is) at (sym c.refused_thread.ensures.value ∙ c.in_default.is)

pub begin_small-requires-clause-asked : goal.begin_small-requires-clause-asked
begin_small-requires-clause-asked c = (c.args.name.now, c.args.len, c.in-Ok.ensures)

pub begin_small-requires-clause-entry : goal.begin_small-requires-clause-entry
begin_small-requires-clause-entry c = λ wanted.
    subst (λ owed. owed + 1 ≤ c.reserve_entry.new.finals.spare) c.births_owed-owed.ensures.count
    (c.in-Ok-reserve_entry.ensures.ok wanted)

pub begin_small-requires-clause-small : goal.begin_small-requires-clause-small
begin_small-requires-clause-small c = c.if-request-large.false

-- ---- what the line leaves

pub invariant_of-self : goal.invariant_of-self
invariant_of-self c =
    let room = c.reserve_entry.ensures in
    reserved_kept c.self.inside.parts c.reserve_entry.new.finals room.entries room.ready room.spare c.self.invariant

pub invariant_of-self-2 : goal.invariant_of-self-2
invariant_of-self-2 c = c.begin_small.ensures.runtime

pub returns-clause-follows : goal.returns-clause-follows
returns-clause-follows c =
    let finals = c.reserve_entry.new.finals in
    let room = c.reserve_entry.ensures in
    rw (← c.self.view_is)
    (follows_reserved c.self.invariant.shown finals.entries finals.ready room.entries room.ready
    (begin_new c.args.t c.args.local c.args.name.now c.args.len) (done_outcome c.begin_small.result)
    (seen c.begin_small.new.parts) (c.begin_small.ensures.begun c.args.name.now c.args.len c.in-Ok.ensures))

pub returns-clause-grew : goal.returns-clause-grew
returns-clause-grew c = rw (← c.self.view_is) c.begin_small.ensures.grew
