-- Each exit of the ladder.
use Rattle.std.proofs.Common.{arith, Err, Ok, ◌∙◌, subst, sym}
use Rattle.clr_heap.specs.declared.heap.segments.AcquireFault.TheVariants.{NoMemory, OverLimit}
use Rattle.clr_runtime.specs.declared.rooms.NoRoom.TheVariants.{Acquire}
use Rattle.clr_runtime.specs.PinnedRooms.{IsPinnedRoom}
use Rattle.clr_runtime.specs.RuntimeView.{seen}
use Rattle.clr_runtime.specs.Slides.{CountsCollection, Grew}
use Rattle.clr_runtime.proofs.Counted.{compacting, lacking-not-full, made-not-refused, surely, wait-not-full}
use Rattle.clr_runtime.proofs.PinnedRoomMade.{pinned_after_wait, pinned_again, pinned_first, pinned_first_lacks}
use Rattle.clr_runtime.proofs.PinnedRoomMade.{pinned_nowhere, pinned_room_fits, room_as}
use Rattle.clr_runtime.proofs.pinned.make_pinned_room.Goals as goal
use Rattle.clr_runtime.proofs.pinned.make_pinned_room.Goals.{In-Err-OverLimit}

pub returns-in-Ok-clause-place : goal.returns-in-Ok-clause-place
returns-in-Ok-clause-place c =
    pinned_first c.args.size (seen c.args.parts.now) (seen c.find_or_acquire.new.parts) c.in-Ok.ensures.room

pub returns-in-Ok-clause-fits : goal.returns-in-Ok-clause-fits
returns-in-Ok-clause-fits c =
    pinned_room_fits (seen c.args.parts.now) (seen c.find_or_acquire.new.parts) c.args.size c.in-Ok.ensures.room

pub returns-in-Err-NoMemory-clause-err : goal.returns-in-Err-NoMemory-clause-err
returns-in-Err-NoMemory-clause-err c =
    pinned_first_lacks c.args.size (seen c.args.parts.now) (seen c.find_or_acquire.new.parts)
    (room_as (seen c.args.parts.now) (seen c.find_or_acquire.new.parts) c.args.size c.in-Err-NoMemory.field-0 NoMemory
    c.in-Err-NoMemory.field-0-is c.in-Err-NoMemory.ensures.room)

-- the first look finds none, and the limit allows no segment
lacks : (c : In-Err-OverLimit)
    → IsPinnedRoom (seen c.args.parts.now) (seen c.find_or_acquire.new.parts) c.args.size (Err OverLimit)
lacks c =
    room_as (seen c.args.parts.now) (seen c.find_or_acquire.new.parts) c.args.size c.in-Err-OverLimit.field-0 OverLimit
    c.in-Err-OverLimit.field-0-is c.in-Err-OverLimit.ensures.room

-- a thread is in mid-step
pub returns-in-Err-clause-err : goal.returns-in-Err-clause-err
returns-in-Err-clause-err c =
    pinned_after_wait c.args.size (seen c.args.parts.now) (seen c.find_or_acquire.new.parts)
    (lacks (goal.at.returns-in-Err-clause-err c).In-Err-OverLimit) c.in-Err.k c.in-Err.ensures.busy

pub returns-in-Ok-find_or_acquire-clause-place : goal.returns-in-Ok-find_or_acquire-clause-place
returns-in-Ok-find_or_acquire-clause-place c =
    pinned_again c.args.size (seen c.args.parts.now) (seen c.find_or_acquire.new.parts)
    (lacks (goal.at.returns-in-Ok-find_or_acquire-clause-place c).In-Err-OverLimit) c.in_default.ensures.safe
    (seen c.collect_parts.new.parts) c.collect_parts.result c.collect_parts.ensures.collected
    (seen c.find_or_acquire-2.new.parts) (Ok tt)
    c.in-Ok-find_or_acquire.ensures.room

pub returns-in-Ok-find_or_acquire-clause-fits : goal.returns-in-Ok-find_or_acquire-clause-fits
returns-in-Ok-find_or_acquire-clause-fits c =
    pinned_room_fits (seen c.collect_parts.new.parts) (seen c.find_or_acquire-2.new.parts) c.args.size
    c.in-Ok-find_or_acquire.ensures.room

pub returns-in-Err-find_or_acquire-clause-err : goal.returns-in-Err-find_or_acquire-clause-err
returns-in-Err-find_or_acquire-clause-err c =
    pinned_nowhere c.args.size (seen c.args.parts.now) (seen c.find_or_acquire.new.parts)
    (lacks (goal.at.returns-in-Err-find_or_acquire-clause-err c).In-Err-OverLimit) c.in_default.ensures.safe
    (seen c.collect_parts.new.parts) c.collect_parts.result c.collect_parts.ensures.collected
    (seen c.find_or_acquire-2.new.parts) (Err c.in-Err-find_or_acquire.fault)
    c.in-Err-find_or_acquire.ensures.room

-- ---- what is counted

-- the collection compacted
pub returns-in-Err-find_or_acquire-clause-grew : goal.returns-in-Err-find_or_acquire-clause-grew
returns-in-Err-find_or_acquire-clause-grew c = λ full.
    let first = c.find_or_acquire in
    let once = c.collect_parts in
    let last = c.find_or_acquire-2 in
    let (after, collects, is) = once.ensures.collected in
    let before : CountsCollection once.result.compacted c.args.parts.now.collector.slides
    once.new.parts.collector.slides =
    subst (λ n. CountsCollection once.result.compacted n once.new.parts.collector.slides) first.ensures.slides
    once.ensures.slides
    in
    let counted = surely once.result.compacted c.args.parts.now.collector.slides once.new.parts.collector.slides
    (compacting (seen first.new.parts) 2 once.result after collects) before in
    subst (Grew c.args.parts.now.collector.slides) (sym last.ensures.slides) counted

pub returns-in-Ok-clause-grew : goal.returns-in-Ok-clause-grew
returns-in-Ok-clause-grew c = λ full. absurd (made-not-refused tt (Acquire OverLimit) full)

pub returns-in-Err-NoMemory-clause-grew : goal.returns-in-Err-NoMemory-clause-grew
returns-in-Err-NoMemory-clause-grew c = λ full. absurd (lacking-not-full full)

pub returns-in-Err-clause-grew : goal.returns-in-Err-clause-grew
returns-in-Err-clause-grew c = λ full. absurd (wait-not-full c.in-Err.k full)

pub returns-in-Ok-find_or_acquire-clause-grew : goal.returns-in-Ok-find_or_acquire-clause-grew
returns-in-Ok-find_or_acquire-clause-grew c = λ full. absurd (made-not-refused tt (Acquire OverLimit) full)

-- ---- what calls ask for

pub find_or_acquire-requires-clause-runtime : goal.find_or_acquire-requires-clause-runtime
find_or_acquire-requires-clause-runtime c = c.requires.runtime

pub find_or_acquire-requires-clause-most : goal.find_or_acquire-requires-clause-most
find_or_acquire-requires-clause-most c = c.requires.most

pub collect_parts-requires-clause-generation : goal.collect_parts-requires-clause-generation
collect_parts-requires-clause-generation c = omega arith

pub collect_parts-requires-clause-usual : goal.collect_parts-requires-clause-usual
collect_parts-requires-clause-usual c = omega arith

pub collect_parts-requires-clause-runtime : goal.collect_parts-requires-clause-runtime
collect_parts-requires-clause-runtime c = c.find_or_acquire.ensures.runtime

pub collect_parts-requires-clause-idle : goal.collect_parts-requires-clause-idle
collect_parts-requires-clause-idle c = c.in_default.ensures.safe

pub find_or_acquire-requires-2-clause-runtime : goal.find_or_acquire-requires-2-clause-runtime
find_or_acquire-requires-2-clause-runtime c = c.collect_parts.ensures.runtime

pub find_or_acquire-requires-2-clause-most : goal.find_or_acquire-requires-2-clause-most
find_or_acquire-requires-2-clause-most c = c.requires.most

-- ---- what stays

pub returns-in-Ok-clause-types : goal.returns-in-Ok-clause-types
returns-in-Ok-clause-types c =
    c.find_or_acquire.ensures.types

pub returns-in-Ok-clause-safe : goal.returns-in-Ok-clause-safe
returns-in-Ok-clause-safe c =
    c.find_or_acquire.ensures.safe

pub returns-in-Ok-clause-runtime : goal.returns-in-Ok-clause-runtime
returns-in-Ok-clause-runtime c = c.find_or_acquire.ensures.runtime

pub returns-in-Err-NoMemory-clause-types : goal.returns-in-Err-NoMemory-clause-types
returns-in-Err-NoMemory-clause-types c =
    c.find_or_acquire.ensures.types

pub returns-in-Err-NoMemory-clause-safe : goal.returns-in-Err-NoMemory-clause-safe
returns-in-Err-NoMemory-clause-safe c =
    c.find_or_acquire.ensures.safe

pub returns-in-Err-NoMemory-clause-runtime : goal.returns-in-Err-NoMemory-clause-runtime
returns-in-Err-NoMemory-clause-runtime c = c.find_or_acquire.ensures.runtime

pub returns-in-Err-clause-types : goal.returns-in-Err-clause-types
returns-in-Err-clause-types c =
    c.find_or_acquire.ensures.types

pub returns-in-Err-clause-safe : goal.returns-in-Err-clause-safe
returns-in-Err-clause-safe c =
    c.find_or_acquire.ensures.safe

pub returns-in-Err-clause-runtime : goal.returns-in-Err-clause-runtime
returns-in-Err-clause-runtime c = c.find_or_acquire.ensures.runtime

pub returns-in-Ok-find_or_acquire-clause-types : goal.returns-in-Ok-find_or_acquire-clause-types
returns-in-Ok-find_or_acquire-clause-types c =
    c.find_or_acquire-2.ensures.types ∙ c.collect_parts.ensures.types ∙ c.find_or_acquire.ensures.types

pub returns-in-Ok-find_or_acquire-clause-safe : goal.returns-in-Ok-find_or_acquire-clause-safe
returns-in-Ok-find_or_acquire-clause-safe c =
    c.find_or_acquire-2.ensures.safe ∙ c.collect_parts.ensures.safe ∙ c.find_or_acquire.ensures.safe

pub returns-in-Ok-find_or_acquire-clause-runtime : goal.returns-in-Ok-find_or_acquire-clause-runtime
returns-in-Ok-find_or_acquire-clause-runtime c = c.find_or_acquire-2.ensures.runtime

pub returns-in-Err-find_or_acquire-clause-types : goal.returns-in-Err-find_or_acquire-clause-types
returns-in-Err-find_or_acquire-clause-types c =
    c.find_or_acquire-2.ensures.types ∙ c.collect_parts.ensures.types ∙ c.find_or_acquire.ensures.types

pub returns-in-Err-find_or_acquire-clause-safe : goal.returns-in-Err-find_or_acquire-clause-safe
returns-in-Err-find_or_acquire-clause-safe c =
    c.find_or_acquire-2.ensures.safe ∙ c.collect_parts.ensures.safe ∙ c.find_or_acquire.ensures.safe

pub returns-in-Err-find_or_acquire-clause-runtime : goal.returns-in-Err-find_or_acquire-clause-runtime
returns-in-Err-find_or_acquire-clause-runtime c = c.find_or_acquire-2.ensures.runtime
