-- Each exit of the ladder, behind its first step.
use Rattle.std.proofs.Common.{◌≡◌, ◌<◌, ap, arith, ◌∙◌, Result, Ok, Err, subst, sym}
use Rattle.clr_heap.specs.declared.heap.segments.AcquireFault.{AcquireFault}
use Rattle.clr_heap.specs.declared.heap.segments.AcquireFault.TheVariants.{OverLimit}
use Rattle.clr_runtime.specs.declared.rooms.NoRoom.TheVariants.{Acquire}
use Rattle.clr_model.specs.RoomFollows.{FollowsRoom}
use Rattle.clr_runtime.specs.Rooms.{attempt_of, IsSealedRefill}
use Rattle.clr_runtime.specs.RuntimeView.{seen}
use Rattle.clr_runtime.specs.Slides.{CountsCollection, Grew}
use Rattle.clr_runtime.proofs.Counted.{compacting, grown, made-not-refused, surely, wait-not-full}
use Rattle.clr_runtime.proofs.RefillKept.{thread-idle, thread-known}
use Rattle.clr_options.specs.declared.options.Options.{Options}
use Rattle.clr_runtime.specs.declared.parts.Parts.{Parts}
use Rattle.clr_runtime.proofs.RuntimeKept.{small_enough}
use Rattle.clr_runtime.proofs.RoomMade.{made_after_first, made_after_full, made_by_sealing, made_in_budget}
use Rattle.clr_runtime.proofs.RoomMade.{made_to_wait, room_result, sealing_fits}
use Rattle.clr_runtime.proofs.SpareKept.{spare-past, spare-same, spare-then}
use Rattle.clr_runtime.proofs.StepsSeen.{still_calm}
use Rattle.clr_runtime.proofs.rooms.find_room.Goals as goal
use Rattle.clr_runtime.proofs.rooms.find_room.Goals.{After-refill_by_sealing}

pub refill_in_budget-requires-clause-most : goal.refill_in_budget-requires-clause-most
refill_in_budget-requires-clause-most c = small_enough c.requires.runtime.shown c.args.size c.requires.small

pub refill-requires-clause-most : goal.refill-requires-clause-most
refill-requires-clause-most c = small_enough c.requires.runtime.shown c.args.size c.requires.small

pub refill-requires-2-clause-most : goal.refill-requires-2-clause-most
refill-requires-2-clause-most c = small_enough c.requires.runtime.shown c.args.size c.requires.small

-- neither steps that found no room nor collections change the options
pub refill_by_sealing-requires-clause-small : goal.refill_by_sealing-requires-clause-small
refill_by_sealing-requires-clause-small c =
    let first = ap (λ (p : Parts). p.options) c.if-refill_in_budget.ensures.refilled.1 in
    let second = ap (λ (p : Parts). p.options) c.if-refill.ensures.refilled.1 in
    let third = ap (λ (p : Parts). p.options) c.if-refill-2.ensures.refilled.1 in
    subst (λ (o : Options). c.args.size < o.large)
    (sym (third ∙ c.collect_for_room-2.ensures.options ∙ second ∙ c.collect_for_room.ensures.options ∙ first))
    c.requires.small

pub returns-then-refill_in_budget-clause-room : goal.returns-then-refill_in_budget-clause-room
returns-then-refill_in_budget-clause-room c =
    made_in_budget c.args.thread c.args.size
    (thread-known c.args.thread c.requires.positive c.requires.few) (c.requires.least, c.requires.whole)
    c.args.parts.now c.requires.full c.requires.idle
    c.refill_in_budget.new.parts c.if-refill_in_budget.ensures.refilled

-- a thread is in mid-step
pub returns-in-Err-clause-room : goal.returns-in-Err-clause-room
returns-in-Err-clause-room c =
    made_to_wait c.args.thread c.args.size
    (thread-known c.args.thread c.requires.positive c.requires.few) (c.requires.least, c.requires.whole)
    c.args.parts.now c.requires.full c.refill_in_budget.new.parts
    c.if-refill_in_budget.ensures.refilled c.in-Err.k c.in-Err.ensures.busy

pub refill-requires-clause-idle : goal.refill-requires-clause-idle
refill-requires-clause-idle c =
    thread-idle (seen c.collect_for_room.new.parts) c.args.thread
    (still_calm c.refill_in_budget.new.parts.safe c.collect_for_room.new.parts.safe c.collect_for_room.ensures.safe
    c.in_default.ensures.safe)

pub collect_for_room-requires-2-clause-idle : goal.collect_for_room-requires-2-clause-idle
collect_for_room-requires-2-clause-idle c =
    still_calm c.refill_in_budget.new.parts.safe c.refill.new.parts.safe
    (c.refill.ensures.safe ∙ c.collect_for_room.ensures.safe) c.in_default.ensures.safe

pub refill-requires-2-clause-idle : goal.refill-requires-2-clause-idle
refill-requires-2-clause-idle c =
    thread-idle (seen c.collect_for_room-2.new.parts) c.args.thread
    (still_calm c.refill_in_budget.new.parts.safe c.collect_for_room-2.new.parts.safe
    (c.collect_for_room-2.ensures.safe ∙ c.refill.ensures.safe ∙ c.collect_for_room.ensures.safe)
    c.in_default.ensures.safe)

pub refill_by_sealing-requires-clause-idle : goal.refill_by_sealing-requires-clause-idle
refill_by_sealing-requires-clause-idle c =
    still_calm c.refill_in_budget.new.parts.safe c.refill-2.new.parts.safe
    (c.refill-2.ensures.safe ∙ c.collect_for_room-2.ensures.safe ∙ c.refill.ensures.safe
    ∙ c.collect_for_room.ensures.safe)
    c.in_default.ensures.safe

pub returns-then-refill-clause-room : goal.returns-then-refill-clause-room
returns-then-refill-clause-room c =
    made_after_first c.args.thread c.args.size
    (thread-known c.args.thread c.requires.positive c.requires.few) (c.requires.least, c.requires.whole)
    c.args.parts.now c.requires.full c.refill_in_budget.new.parts
    c.if-refill_in_budget.ensures.refilled c.in_default.ensures.safe c.generation_due-g.result
    c.generation_due-g.ensures.due c.collect_for_room.new.parts c.collect_for_room.result
    c.collect_for_room.ensures.collected c.refill.new.parts
    c.if-refill.ensures.refilled

pub returns-then-refill-2-clause-room : goal.returns-then-refill-2-clause-room
returns-then-refill-2-clause-room c =
    made_after_full c.args.thread c.args.size
    (thread-known c.args.thread c.requires.positive c.requires.few) (c.requires.least, c.requires.whole)
    c.args.parts.now c.requires.full c.refill_in_budget.new.parts
    c.if-refill_in_budget.ensures.refilled c.in_default.ensures.safe c.generation_due-g.result
    c.generation_due-g.ensures.due c.collect_for_room.new.parts c.collect_for_room.result
    c.collect_for_room.ensures.collected c.refill.new.parts
    c.if-refill.ensures.refilled c.collect_for_room-2.new.parts c.collect_for_room-2.result
    c.collect_for_room-2.ensures.collected c.refill-2.new.parts c.if-refill-2.ensures.refilled

pub refill_by_sealing-requires-clause-no_contexts : goal.refill_by_sealing-requires-clause-no_contexts
refill_by_sealing-requires-clause-no_contexts c =
    ap (λ (p : Parts). p.space.heap.rests) c.if-refill-2.ensures.refilled.1 ∙ c.collect_for_room-2.ensures.no_contexts

-- what the last step comes to
by_sealing : (c : After-refill_by_sealing) (result : Result (Unit {0}) AcquireFault)
    → IsSealedRefill (seen c.refill-2.new.parts) (seen c.refill_by_sealing.new.parts) c.args.thread c.args.size result
    → FollowsRoom (seen c.args.parts.now) c.args.thread c.args.size (attempt_of (room_result result))
    (seen c.refill_by_sealing.new.parts)
by_sealing c =
    made_by_sealing c.args.thread c.args.size
    (thread-known c.args.thread c.requires.positive c.requires.few) (c.requires.least, c.requires.whole)
    c.args.parts.now c.requires.full c.refill_in_budget.new.parts
    c.if-refill_in_budget.ensures.refilled c.in_default.ensures.safe c.generation_due-g.result
    c.generation_due-g.ensures.due c.collect_for_room.new.parts c.collect_for_room.result
    c.collect_for_room.ensures.collected c.refill.new.parts
    c.if-refill.ensures.refilled c.collect_for_room-2.new.parts c.collect_for_room-2.result
    c.collect_for_room-2.ensures.collected c.refill-2.new.parts c.if-refill-2.ensures.refilled
    c.refill_by_sealing.new.parts

pub returns-in-Ok-clause-room : goal.returns-in-Ok-clause-room
returns-in-Ok-clause-room c =
    let at = (goal.at.returns-in-Ok-clause-room c).After-refill_by_sealing in
    by_sealing at (Ok tt) c.in-Ok.ensures.refilled

pub returns-in-Ok-clause-fits : goal.returns-in-Ok-clause-fits
returns-in-Ok-clause-fits c =
    sealing_fits (seen c.refill-2.new.parts) (seen c.refill_by_sealing.new.parts) c.args.thread c.args.size (Ok tt)
    c.in-Ok.ensures.refilled

pub returns-in-Err-refill_by_sealing-clause-room : goal.returns-in-Err-refill_by_sealing-clause-room
returns-in-Err-refill_by_sealing-clause-room c =
    let at = (goal.at.returns-in-Err-refill_by_sealing-clause-room c).After-refill_by_sealing in
    by_sealing at (Err c.in-Err-refill_by_sealing.fault) c.in-Err-refill_by_sealing.ensures.refilled

-- ---- what calls ask for

pub refill_in_budget-requires-clause-runtime : goal.refill_in_budget-requires-clause-runtime
refill_in_budget-requires-clause-runtime c = c.requires.runtime

pub refill_in_budget-requires-clause-idle : goal.refill_in_budget-requires-clause-idle
refill_in_budget-requires-clause-idle c = c.requires.idle

pub refill_in_budget-requires-clause-positive : goal.refill_in_budget-requires-clause-positive
refill_in_budget-requires-clause-positive c = c.requires.positive

pub refill_in_budget-requires-clause-few : goal.refill_in_budget-requires-clause-few
refill_in_budget-requires-clause-few c = c.requires.few

pub refill_in_budget-requires-clause-least : goal.refill_in_budget-requires-clause-least
refill_in_budget-requires-clause-least c = c.requires.least

pub refill_in_budget-requires-clause-whole : goal.refill_in_budget-requires-clause-whole
refill_in_budget-requires-clause-whole c = c.requires.whole

pub collect_for_room-requires-clause-generation : goal.collect_for_room-requires-clause-generation
collect_for_room-requires-clause-generation c = c.generation_due-g.ensures.within

pub collect_for_room-requires-clause-usual : goal.collect_for_room-requires-clause-usual
collect_for_room-requires-clause-usual c = c.generation_due-g.ensures.within

pub collect_for_room-requires-clause-runtime : goal.collect_for_room-requires-clause-runtime
collect_for_room-requires-clause-runtime c = c.refill_in_budget.ensures.runtime

pub collect_for_room-requires-clause-idle : goal.collect_for_room-requires-clause-idle
collect_for_room-requires-clause-idle c = c.in_default.ensures.safe

pub refill-requires-clause-runtime : goal.refill-requires-clause-runtime
refill-requires-clause-runtime c = c.collect_for_room.ensures.runtime

pub refill-requires-clause-positive : goal.refill-requires-clause-positive
refill-requires-clause-positive c = c.requires.positive

pub refill-requires-clause-few : goal.refill-requires-clause-few
refill-requires-clause-few c = c.requires.few

pub refill-requires-clause-least : goal.refill-requires-clause-least
refill-requires-clause-least c = c.requires.least

pub refill-requires-clause-whole : goal.refill-requires-clause-whole
refill-requires-clause-whole c = c.requires.whole

pub collect_for_room-requires-2-clause-generation : goal.collect_for_room-requires-2-clause-generation
collect_for_room-requires-2-clause-generation c = omega arith

pub collect_for_room-requires-2-clause-usual : goal.collect_for_room-requires-2-clause-usual
collect_for_room-requires-2-clause-usual c = omega arith

pub collect_for_room-requires-2-clause-runtime : goal.collect_for_room-requires-2-clause-runtime
collect_for_room-requires-2-clause-runtime c = c.refill.ensures.runtime

pub refill-requires-2-clause-runtime : goal.refill-requires-2-clause-runtime
refill-requires-2-clause-runtime c = c.collect_for_room-2.ensures.runtime

pub refill-requires-2-clause-positive : goal.refill-requires-2-clause-positive
refill-requires-2-clause-positive c = c.requires.positive

pub refill-requires-2-clause-few : goal.refill-requires-2-clause-few
refill-requires-2-clause-few c = c.requires.few

pub refill-requires-2-clause-least : goal.refill-requires-2-clause-least
refill-requires-2-clause-least c = c.requires.least

pub refill-requires-2-clause-whole : goal.refill-requires-2-clause-whole
refill-requires-2-clause-whole c = c.requires.whole

pub refill_by_sealing-requires-clause-runtime : goal.refill_by_sealing-requires-clause-runtime
refill_by_sealing-requires-clause-runtime c = c.refill-2.ensures.runtime

pub refill_by_sealing-requires-clause-positive : goal.refill_by_sealing-requires-clause-positive
refill_by_sealing-requires-clause-positive c = c.requires.positive

pub refill_by_sealing-requires-clause-few : goal.refill_by_sealing-requires-clause-few
refill_by_sealing-requires-clause-few c = c.requires.few

pub refill_by_sealing-requires-clause-least : goal.refill_by_sealing-requires-clause-least
refill_by_sealing-requires-clause-least c = c.requires.least

pub refill_by_sealing-requires-clause-whole : goal.refill_by_sealing-requires-clause-whole
refill_by_sealing-requires-clause-whole c = c.requires.whole

-- ---- what stays

pub returns-then-refill_in_budget-clause-types : goal.returns-then-refill_in_budget-clause-types
returns-then-refill_in_budget-clause-types c =
    c.refill_in_budget.ensures.types

pub returns-then-refill_in_budget-clause-safe : goal.returns-then-refill_in_budget-clause-safe
returns-then-refill_in_budget-clause-safe c =
    c.refill_in_budget.ensures.safe

pub returns-then-refill_in_budget-clause-spare : goal.returns-then-refill_in_budget-clause-spare
returns-then-refill_in_budget-clause-spare c =
    spare-same c.args.parts.now.roots.finals c.refill_in_budget.new.parts.roots.finals
    c.refill_in_budget.ensures.finals

pub returns-then-refill_in_budget-clause-runtime : goal.returns-then-refill_in_budget-clause-runtime
returns-then-refill_in_budget-clause-runtime c = c.refill_in_budget.ensures.runtime

pub returns-in-Err-clause-types : goal.returns-in-Err-clause-types
returns-in-Err-clause-types c =
    c.refill_in_budget.ensures.types

pub returns-in-Err-clause-safe : goal.returns-in-Err-clause-safe
returns-in-Err-clause-safe c =
    c.refill_in_budget.ensures.safe

pub returns-in-Err-clause-spare : goal.returns-in-Err-clause-spare
returns-in-Err-clause-spare c =
    spare-same c.args.parts.now.roots.finals c.refill_in_budget.new.parts.roots.finals
    c.refill_in_budget.ensures.finals

pub returns-in-Err-clause-runtime : goal.returns-in-Err-clause-runtime
returns-in-Err-clause-runtime c = c.refill_in_budget.ensures.runtime

pub returns-then-refill-clause-types : goal.returns-then-refill-clause-types
returns-then-refill-clause-types c =
    c.refill.ensures.types ∙ c.collect_for_room.ensures.types ∙ c.refill_in_budget.ensures.types

pub returns-then-refill-clause-safe : goal.returns-then-refill-clause-safe
returns-then-refill-clause-safe c =
    c.refill.ensures.safe ∙ c.collect_for_room.ensures.safe ∙ c.refill_in_budget.ensures.safe

pub returns-then-refill-clause-spare : goal.returns-then-refill-clause-spare
returns-then-refill-clause-spare c =
    spare-then c.args.parts.now.roots.finals c.collect_for_room.new.parts.roots.finals
    c.refill.new.parts.roots.finals (spare-past c.args.parts.now.roots.finals
    c.refill_in_budget.new.parts.roots.finals c.collect_for_room.new.parts.roots.finals (spare-same
    c.args.parts.now.roots.finals c.refill_in_budget.new.parts.roots.finals c.refill_in_budget.ensures.finals)
    c.collect_for_room.ensures.spare) c.refill.ensures.finals

pub returns-then-refill-clause-runtime : goal.returns-then-refill-clause-runtime
returns-then-refill-clause-runtime c = c.refill.ensures.runtime

pub returns-then-refill-2-clause-types : goal.returns-then-refill-2-clause-types
returns-then-refill-2-clause-types c =
    c.refill-2.ensures.types ∙ c.collect_for_room-2.ensures.types ∙ c.refill.ensures.types ∙
    c.collect_for_room.ensures.types ∙ c.refill_in_budget.ensures.types

pub returns-then-refill-2-clause-safe : goal.returns-then-refill-2-clause-safe
returns-then-refill-2-clause-safe c =
    c.refill-2.ensures.safe ∙ c.collect_for_room-2.ensures.safe ∙ c.refill.ensures.safe ∙
    c.collect_for_room.ensures.safe ∙ c.refill_in_budget.ensures.safe

pub returns-then-refill-2-clause-spare : goal.returns-then-refill-2-clause-spare
returns-then-refill-2-clause-spare c =
    spare-then c.args.parts.now.roots.finals c.collect_for_room-2.new.parts.roots.finals
    c.refill-2.new.parts.roots.finals (spare-past c.args.parts.now.roots.finals c.refill.new.parts.roots.finals
    c.collect_for_room-2.new.parts.roots.finals (spare-then c.args.parts.now.roots.finals
    c.collect_for_room.new.parts.roots.finals c.refill.new.parts.roots.finals (spare-past
    c.args.parts.now.roots.finals c.refill_in_budget.new.parts.roots.finals
    c.collect_for_room.new.parts.roots.finals (spare-same c.args.parts.now.roots.finals
    c.refill_in_budget.new.parts.roots.finals c.refill_in_budget.ensures.finals) c.collect_for_room.ensures.spare)
    c.refill.ensures.finals) c.collect_for_room-2.ensures.spare) c.refill-2.ensures.finals

pub returns-then-refill-2-clause-runtime : goal.returns-then-refill-2-clause-runtime
returns-then-refill-2-clause-runtime c = c.refill-2.ensures.runtime

pub returns-in-Ok-clause-types : goal.returns-in-Ok-clause-types
returns-in-Ok-clause-types c =
    c.in-Ok.ensures.types ∙ c.refill-2.ensures.types ∙ c.collect_for_room-2.ensures.types ∙ c.refill.ensures.types ∙
    c.collect_for_room.ensures.types ∙ c.refill_in_budget.ensures.types

pub returns-in-Ok-clause-safe : goal.returns-in-Ok-clause-safe
returns-in-Ok-clause-safe c =
    c.in-Ok.ensures.safe ∙ c.refill-2.ensures.safe ∙ c.collect_for_room-2.ensures.safe ∙ c.refill.ensures.safe ∙
    c.collect_for_room.ensures.safe ∙ c.refill_in_budget.ensures.safe

pub returns-in-Ok-clause-spare : goal.returns-in-Ok-clause-spare
returns-in-Ok-clause-spare c =
    spare-then c.args.parts.now.roots.finals c.refill-2.new.parts.roots.finals
    c.refill_by_sealing.new.parts.roots.finals (spare-then c.args.parts.now.roots.finals
    c.collect_for_room-2.new.parts.roots.finals c.refill-2.new.parts.roots.finals (spare-past
    c.args.parts.now.roots.finals c.refill.new.parts.roots.finals c.collect_for_room-2.new.parts.roots.finals
    (spare-then c.args.parts.now.roots.finals c.collect_for_room.new.parts.roots.finals
    c.refill.new.parts.roots.finals (spare-past c.args.parts.now.roots.finals
    c.refill_in_budget.new.parts.roots.finals c.collect_for_room.new.parts.roots.finals (spare-same
    c.args.parts.now.roots.finals c.refill_in_budget.new.parts.roots.finals c.refill_in_budget.ensures.finals)
    c.collect_for_room.ensures.spare) c.refill.ensures.finals) c.collect_for_room-2.ensures.spare)
    c.refill-2.ensures.finals) c.in-Ok.ensures.finals

pub returns-in-Ok-clause-runtime : goal.returns-in-Ok-clause-runtime
returns-in-Ok-clause-runtime c = c.in-Ok.ensures.runtime

pub returns-in-Err-refill_by_sealing-clause-types : goal.returns-in-Err-refill_by_sealing-clause-types
returns-in-Err-refill_by_sealing-clause-types c =
    c.in-Err-refill_by_sealing.ensures.types ∙ c.refill-2.ensures.types ∙ c.collect_for_room-2.ensures.types ∙
    c.refill.ensures.types ∙ c.collect_for_room.ensures.types ∙ c.refill_in_budget.ensures.types

pub returns-in-Err-refill_by_sealing-clause-safe : goal.returns-in-Err-refill_by_sealing-clause-safe
returns-in-Err-refill_by_sealing-clause-safe c =
    c.in-Err-refill_by_sealing.ensures.safe ∙ c.refill-2.ensures.safe ∙ c.collect_for_room-2.ensures.safe ∙
    c.refill.ensures.safe ∙ c.collect_for_room.ensures.safe ∙ c.refill_in_budget.ensures.safe

pub returns-in-Err-refill_by_sealing-clause-spare : goal.returns-in-Err-refill_by_sealing-clause-spare
returns-in-Err-refill_by_sealing-clause-spare c =
    spare-then c.args.parts.now.roots.finals c.refill-2.new.parts.roots.finals
    c.refill_by_sealing.new.parts.roots.finals (spare-then c.args.parts.now.roots.finals
    c.collect_for_room-2.new.parts.roots.finals c.refill-2.new.parts.roots.finals (spare-past
    c.args.parts.now.roots.finals c.refill.new.parts.roots.finals c.collect_for_room-2.new.parts.roots.finals
    (spare-then c.args.parts.now.roots.finals c.collect_for_room.new.parts.roots.finals
    c.refill.new.parts.roots.finals (spare-past c.args.parts.now.roots.finals
    c.refill_in_budget.new.parts.roots.finals c.collect_for_room.new.parts.roots.finals (spare-same
    c.args.parts.now.roots.finals c.refill_in_budget.new.parts.roots.finals c.refill_in_budget.ensures.finals)
    c.collect_for_room.ensures.spare) c.refill.ensures.finals) c.collect_for_room-2.ensures.spare)
    c.refill-2.ensures.finals) c.in-Err-refill_by_sealing.ensures.finals

pub returns-in-Err-refill_by_sealing-clause-runtime : goal.returns-in-Err-refill_by_sealing-clause-runtime
returns-in-Err-refill_by_sealing-clause-runtime c = c.in-Err-refill_by_sealing.ensures.runtime

pub returns-then-refill_in_budget-clause-fits : goal.returns-then-refill_in_budget-clause-fits
returns-then-refill_in_budget-clause-fits c = c.if-refill_in_budget.ensures.refilled.1.fits

pub returns-then-refill-clause-fits : goal.returns-then-refill-clause-fits
returns-then-refill-clause-fits c = c.if-refill.ensures.refilled.fits

pub returns-then-refill-2-clause-fits : goal.returns-then-refill-2-clause-fits
returns-then-refill-2-clause-fits c = c.if-refill-2.ensures.refilled.fits

-- ---- what is counted

pub returns-then-refill_in_budget-clause-grew : goal.returns-then-refill_in_budget-clause-grew
returns-then-refill_in_budget-clause-grew c = λ full. absurd (made-not-refused tt (Acquire OverLimit) full)

pub returns-in-Err-clause-grew : goal.returns-in-Err-clause-grew
returns-in-Err-clause-grew c = λ full. absurd (wait-not-full c.in-Err.k full)

pub returns-then-refill-clause-grew : goal.returns-then-refill-clause-grew
returns-then-refill-clause-grew c = λ full. absurd (made-not-refused tt (Acquire OverLimit) full)

pub returns-then-refill-2-clause-grew : goal.returns-then-refill-2-clause-grew
returns-then-refill-2-clause-grew c = λ full. absurd (made-not-refused tt (Acquire OverLimit) full)

pub returns-in-Ok-clause-grew : goal.returns-in-Ok-clause-grew
returns-in-Ok-clause-grew c = λ full. absurd (made-not-refused tt (Acquire OverLimit) full)

-- the second collection compacted
pub returns-in-Err-refill_by_sealing-clause-grew : goal.returns-in-Err-refill_by_sealing-clause-grew
returns-in-Err-refill_by_sealing-clause-grew c = λ full.
    let start = c.args.parts.now.collector.slides in
    let first = c.collect_for_room in
    let second = c.collect_for_room-2 in
    let (after, collects, is) = second.ensures.collected in
    let one : CountsCollection first.result.compacted start first.new.parts.collector.slides =
    subst (λ n. CountsCollection first.result.compacted n first.new.parts.collector.slides)
    c.refill_in_budget.ensures.slides
    first.ensures.slides in
    let two : Grew c.refill.new.parts.collector.slides second.new.parts.collector.slides =
    surely second.result.compacted c.refill.new.parts.collector.slides second.new.parts.collector.slides
    (compacting (seen c.refill.new.parts) 2 second.result after collects) second.ensures.slides in
    let last : c.refill_by_sealing.new.parts.collector.slides ≡ second.new.parts.collector.slides =
    c.in-Err-refill_by_sealing.ensures.slides ∙ c.refill-2.ensures.slides in
    subst (Grew start) (sym last)
    (grown first.result.compacted start first.new.parts.collector.slides second.new.parts.collector.slides one
    (subst (λ n. Grew n second.new.parts.collector.slides) c.refill.ensures.slides two))
