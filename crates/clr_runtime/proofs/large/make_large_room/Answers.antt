-- Each exit of the ladder.
use Rattle.std.proofs.Common.{◌≡◌, ◌+◌, ◌&&◌, ap, arith, Bool, true, false, nat_le, refl, sym, ◌∙◌, Ok, Err, subst}
use Rattle.clr_heap.specs.declared.heap.segments.AcquireFault.TheVariants.{OverLimit}
use Rattle.clr_model.specs.Allocation.{has_room_in}
use Rattle.clr_model.specs.Machine.{Machine}
use Rattle.clr_runtime.specs.declared.rooms.NoRoom.TheVariants.{Acquire}
use Rattle.clr_types.specs.declared.segment.SegKind.TheVariants.{Large}
use Rattle.clr_runtime.specs.RuntimeView.{seen}
use Rattle.clr_runtime.specs.Slides.{CountsCollection, Grew}
use Rattle.clr_runtime.proofs.Counted.{compacting, grown, made-not-refused, surely, wait-not-full}
use Rattle.clr_runtime.proofs.LargeRoomMade.{placed_after_first, placed_after_full, placed_in_new}
use Rattle.clr_runtime.proofs.LargeRoomMade.{placed_after_wait, placed_nowhere, placed_within}
use Rattle.clr_runtime.proofs.SegmentFits.{acquired_fits}
use Rattle.clr_runtime.proofs.SpareKept.{spare-past, spare-same, spare-then}
use Rattle.clr_runtime.proofs.StepsSeen.{still_calm}
use Rattle.clr_runtime.proofs.large.make_large_room.Goals as goal

pub returns-then-has_room_in_budget-clause-place : goal.returns-then-has_room_in_budget-clause-place
returns-then-has_room_in_budget-clause-place c =
    placed_within c.args.size (seen c.args.parts.now) (seen c.has_room_in_budget.new.parts)
    (sym c.has_room_in_budget.ensures.place ∙ c.if-has_room_in_budget.true) c.has_room_in_budget.ensures.seen

-- a thread is in mid-step
pub returns-in-Err-clause-err : goal.returns-in-Err-clause-err
returns-in-Err-clause-err c =
    placed_after_wait c.args.size (seen c.args.parts.now)
    (sym c.has_room_in_budget.ensures.place ∙ c.if-has_room_in_budget.false) (seen c.has_room_in_budget.new.parts)
    c.has_room_in_budget.ensures.seen c.in-Err.k c.in-Err.ensures.busy

pub collect_parts-requires-2-clause-idle : goal.collect_parts-requires-2-clause-idle
collect_parts-requires-2-clause-idle c =
    still_calm c.has_room_in_budget.new.parts.safe c.has_large_room.new.parts.safe
    (c.has_large_room.ensures.safe ∙ c.collect_parts.ensures.safe) c.in_default.ensures.safe

pub returns-then-has_large_room-clause-place : goal.returns-then-has_large_room-clause-place
returns-then-has_large_room-clause-place c =
    placed_after_first c.args.size (seen c.args.parts.now)
    (still_calm c.has_room_in_budget.new.parts.safe c.args.parts.now.safe (sym c.has_room_in_budget.ensures.safe)
    c.in_default.ensures.safe)
    (sym c.has_room_in_budget.ensures.place ∙ c.if-has_room_in_budget.false) (seen c.has_room_in_budget.new.parts)
    c.has_room_in_budget.ensures.seen (seen c.collect_parts.new.parts) c.collect_parts.result
    c.collect_parts.ensures.collected (seen c.has_large_room.new.parts)
    (sym c.has_large_room.ensures.place ∙ c.if-has_large_room.true) c.has_large_room.ensures.seen

pub returns-then-has_large_room-2-clause-place : goal.returns-then-has_large_room-2-clause-place
returns-then-has_large_room-2-clause-place c =
    placed_after_full c.args.size (seen c.args.parts.now)
    (still_calm c.has_room_in_budget.new.parts.safe c.args.parts.now.safe (sym c.has_room_in_budget.ensures.safe)
    c.in_default.ensures.safe)
    (sym c.has_room_in_budget.ensures.place ∙ c.if-has_room_in_budget.false) (seen c.has_room_in_budget.new.parts)
    c.has_room_in_budget.ensures.seen (seen c.collect_parts.new.parts) c.collect_parts.result
    c.collect_parts.ensures.collected (sym c.has_large_room.ensures.place ∙ c.if-has_large_room.false)
    (seen c.has_large_room.new.parts) c.has_large_room.ensures.seen (seen c.collect_parts-2.new.parts)
    c.collect_parts-2.result c.collect_parts-2.ensures.collected (seen c.has_large_room-2.new.parts)
    (sym c.has_large_room-2.ensures.place ∙ c.if-has_large_room-2.true) c.has_large_room-2.ensures.seen

pub returns-in-Ok-clause-place : goal.returns-in-Ok-clause-place
returns-in-Ok-clause-place c =
    placed_in_new c.args.size (seen c.args.parts.now)
    (still_calm c.has_room_in_budget.new.parts.safe c.args.parts.now.safe (sym c.has_room_in_budget.ensures.safe)
    c.in_default.ensures.safe)
    (sym c.has_room_in_budget.ensures.place ∙ c.if-has_room_in_budget.false) (seen c.has_room_in_budget.new.parts)
    c.has_room_in_budget.ensures.seen (seen c.collect_parts.new.parts) c.collect_parts.result
    c.collect_parts.ensures.collected (sym c.has_large_room.ensures.place ∙ c.if-has_large_room.false)
    (seen c.has_large_room.new.parts) c.has_large_room.ensures.seen (seen c.collect_parts-2.new.parts)
    c.collect_parts-2.result c.collect_parts-2.ensures.collected
    (sym c.has_large_room-2.ensures.place ∙ c.if-has_large_room-2.false) (seen c.has_large_room-2.new.parts)
    c.has_large_room-2.ensures.seen (seen c.acquire_for.new.parts) (Ok tt) c.in-Ok.ensures.acquired

pub returns-in-Ok-clause-fits : goal.returns-in-Ok-clause-fits
returns-in-Ok-clause-fits c =
    acquired_fits Large refl (seen c.has_large_room-2.new.parts) (seen c.acquire_for.new.parts) c.args.size (Ok tt)
    c.in-Ok.ensures.acquired

pub returns-in-Err-acquire_for-clause-err : goal.returns-in-Err-acquire_for-clause-err
returns-in-Err-acquire_for-clause-err c =
    placed_nowhere c.args.size (seen c.args.parts.now)
    (still_calm c.has_room_in_budget.new.parts.safe c.args.parts.now.safe (sym c.has_room_in_budget.ensures.safe)
    c.in_default.ensures.safe)
    (sym c.has_room_in_budget.ensures.place ∙ c.if-has_room_in_budget.false) (seen c.has_room_in_budget.new.parts)
    c.has_room_in_budget.ensures.seen (seen c.collect_parts.new.parts) c.collect_parts.result
    c.collect_parts.ensures.collected (sym c.has_large_room.ensures.place ∙ c.if-has_large_room.false)
    (seen c.has_large_room.new.parts) c.has_large_room.ensures.seen (seen c.collect_parts-2.new.parts)
    c.collect_parts-2.result c.collect_parts-2.ensures.collected
    (sym c.has_large_room-2.ensures.place ∙ c.if-has_large_room-2.false) (seen c.has_large_room-2.new.parts)
    c.has_large_room-2.ensures.seen (seen c.acquire_for.new.parts) (Err c.in-Err-acquire_for.fault)
    c.in-Err-acquire_for.ensures.acquired

-- ---- what calls ask for

pub has_room_in_budget-requires-clause-runtime : goal.has_room_in_budget-requires-clause-runtime
has_room_in_budget-requires-clause-runtime c = c.requires.runtime

pub has_room_in_budget-requires-clause-most : goal.has_room_in_budget-requires-clause-most
has_room_in_budget-requires-clause-most c = c.requires.most

pub collect_parts-requires-clause-generation : goal.collect_parts-requires-clause-generation
collect_parts-requires-clause-generation c = omega arith

pub collect_parts-requires-clause-usual : goal.collect_parts-requires-clause-usual
collect_parts-requires-clause-usual c = omega arith

pub collect_parts-requires-clause-runtime : goal.collect_parts-requires-clause-runtime
collect_parts-requires-clause-runtime c = c.has_room_in_budget.ensures.runtime

pub collect_parts-requires-clause-idle : goal.collect_parts-requires-clause-idle
collect_parts-requires-clause-idle c = c.in_default.ensures.safe

pub has_large_room-requires-clause-runtime : goal.has_large_room-requires-clause-runtime
has_large_room-requires-clause-runtime c = c.collect_parts.ensures.runtime

pub has_large_room-requires-clause-most : goal.has_large_room-requires-clause-most
has_large_room-requires-clause-most c = c.requires.most

pub collect_parts-requires-2-clause-generation : goal.collect_parts-requires-2-clause-generation
collect_parts-requires-2-clause-generation c = omega arith

pub collect_parts-requires-2-clause-usual : goal.collect_parts-requires-2-clause-usual
collect_parts-requires-2-clause-usual c = omega arith

pub collect_parts-requires-2-clause-runtime : goal.collect_parts-requires-2-clause-runtime
collect_parts-requires-2-clause-runtime c = c.has_large_room.ensures.runtime

pub has_large_room-requires-2-clause-runtime : goal.has_large_room-requires-2-clause-runtime
has_large_room-requires-2-clause-runtime c = c.collect_parts-2.ensures.runtime

pub has_large_room-requires-2-clause-most : goal.has_large_room-requires-2-clause-most
has_large_room-requires-2-clause-most c = c.requires.most

pub acquire_for-requires-clause-runtime : goal.acquire_for-requires-clause-runtime
acquire_for-requires-clause-runtime c = c.has_large_room-2.ensures.runtime

pub acquire_for-requires-clause-most : goal.acquire_for-requires-clause-most
acquire_for-requires-clause-most c = c.requires.most

-- ---- what stays

pub returns-then-has_room_in_budget-clause-types : goal.returns-then-has_room_in_budget-clause-types
returns-then-has_room_in_budget-clause-types c =
    c.has_room_in_budget.ensures.types

pub returns-then-has_room_in_budget-clause-safe : goal.returns-then-has_room_in_budget-clause-safe
returns-then-has_room_in_budget-clause-safe c =
    c.has_room_in_budget.ensures.safe

pub returns-then-has_room_in_budget-clause-spare : goal.returns-then-has_room_in_budget-clause-spare
returns-then-has_room_in_budget-clause-spare c =
    spare-same c.args.parts.now.roots.finals c.has_room_in_budget.new.parts.roots.finals
    c.has_room_in_budget.ensures.finals

pub returns-then-has_room_in_budget-clause-runtime : goal.returns-then-has_room_in_budget-clause-runtime
returns-then-has_room_in_budget-clause-runtime c = c.has_room_in_budget.ensures.runtime

pub returns-in-Err-clause-types : goal.returns-in-Err-clause-types
returns-in-Err-clause-types c =
    c.has_room_in_budget.ensures.types

pub returns-in-Err-clause-safe : goal.returns-in-Err-clause-safe
returns-in-Err-clause-safe c =
    c.has_room_in_budget.ensures.safe

pub returns-in-Err-clause-spare : goal.returns-in-Err-clause-spare
returns-in-Err-clause-spare c =
    spare-same c.args.parts.now.roots.finals c.has_room_in_budget.new.parts.roots.finals
    c.has_room_in_budget.ensures.finals

pub returns-in-Err-clause-runtime : goal.returns-in-Err-clause-runtime
returns-in-Err-clause-runtime c = c.has_room_in_budget.ensures.runtime

pub returns-then-has_large_room-clause-types : goal.returns-then-has_large_room-clause-types
returns-then-has_large_room-clause-types c =
    c.has_large_room.ensures.types ∙ c.collect_parts.ensures.types ∙ c.has_room_in_budget.ensures.types

pub returns-then-has_large_room-clause-safe : goal.returns-then-has_large_room-clause-safe
returns-then-has_large_room-clause-safe c =
    c.has_large_room.ensures.safe ∙ c.collect_parts.ensures.safe ∙ c.has_room_in_budget.ensures.safe

pub returns-then-has_large_room-clause-spare : goal.returns-then-has_large_room-clause-spare
returns-then-has_large_room-clause-spare c =
    spare-then c.args.parts.now.roots.finals c.collect_parts.new.parts.roots.finals
    c.has_large_room.new.parts.roots.finals (spare-past c.args.parts.now.roots.finals
    c.has_room_in_budget.new.parts.roots.finals c.collect_parts.new.parts.roots.finals (spare-same
    c.args.parts.now.roots.finals c.has_room_in_budget.new.parts.roots.finals c.has_room_in_budget.ensures.finals)
    c.collect_parts.ensures.spare) c.has_large_room.ensures.finals

pub returns-then-has_large_room-clause-runtime : goal.returns-then-has_large_room-clause-runtime
returns-then-has_large_room-clause-runtime c = c.has_large_room.ensures.runtime

pub returns-then-has_large_room-2-clause-types : goal.returns-then-has_large_room-2-clause-types
returns-then-has_large_room-2-clause-types c =
    c.has_large_room-2.ensures.types ∙ c.collect_parts-2.ensures.types ∙ c.has_large_room.ensures.types ∙
    c.collect_parts.ensures.types ∙ c.has_room_in_budget.ensures.types

pub returns-then-has_large_room-2-clause-safe : goal.returns-then-has_large_room-2-clause-safe
returns-then-has_large_room-2-clause-safe c =
    c.has_large_room-2.ensures.safe ∙ c.collect_parts-2.ensures.safe ∙ c.has_large_room.ensures.safe ∙
    c.collect_parts.ensures.safe ∙ c.has_room_in_budget.ensures.safe

pub returns-then-has_large_room-2-clause-spare : goal.returns-then-has_large_room-2-clause-spare
returns-then-has_large_room-2-clause-spare c =
    spare-then c.args.parts.now.roots.finals c.collect_parts-2.new.parts.roots.finals
    c.has_large_room-2.new.parts.roots.finals (spare-past c.args.parts.now.roots.finals
    c.has_large_room.new.parts.roots.finals c.collect_parts-2.new.parts.roots.finals (spare-then
    c.args.parts.now.roots.finals c.collect_parts.new.parts.roots.finals c.has_large_room.new.parts.roots.finals
    (spare-past c.args.parts.now.roots.finals c.has_room_in_budget.new.parts.roots.finals
    c.collect_parts.new.parts.roots.finals (spare-same c.args.parts.now.roots.finals
    c.has_room_in_budget.new.parts.roots.finals c.has_room_in_budget.ensures.finals) c.collect_parts.ensures.spare)
    c.has_large_room.ensures.finals) c.collect_parts-2.ensures.spare) c.has_large_room-2.ensures.finals

pub returns-then-has_large_room-2-clause-runtime : goal.returns-then-has_large_room-2-clause-runtime
returns-then-has_large_room-2-clause-runtime c = c.has_large_room-2.ensures.runtime

pub returns-in-Ok-clause-types : goal.returns-in-Ok-clause-types
returns-in-Ok-clause-types c =
    c.in-Ok.ensures.types ∙ c.has_large_room-2.ensures.types ∙ c.collect_parts-2.ensures.types ∙
    c.has_large_room.ensures.types ∙ c.collect_parts.ensures.types ∙ c.has_room_in_budget.ensures.types

pub returns-in-Ok-clause-safe : goal.returns-in-Ok-clause-safe
returns-in-Ok-clause-safe c =
    c.in-Ok.ensures.safe ∙ c.has_large_room-2.ensures.safe ∙ c.collect_parts-2.ensures.safe ∙
    c.has_large_room.ensures.safe ∙ c.collect_parts.ensures.safe ∙ c.has_room_in_budget.ensures.safe

pub returns-in-Ok-clause-spare : goal.returns-in-Ok-clause-spare
returns-in-Ok-clause-spare c =
    spare-then c.args.parts.now.roots.finals c.has_large_room-2.new.parts.roots.finals
    c.acquire_for.new.parts.roots.finals (spare-then c.args.parts.now.roots.finals
    c.collect_parts-2.new.parts.roots.finals c.has_large_room-2.new.parts.roots.finals (spare-past
    c.args.parts.now.roots.finals c.has_large_room.new.parts.roots.finals c.collect_parts-2.new.parts.roots.finals
    (spare-then c.args.parts.now.roots.finals c.collect_parts.new.parts.roots.finals
    c.has_large_room.new.parts.roots.finals (spare-past c.args.parts.now.roots.finals
    c.has_room_in_budget.new.parts.roots.finals c.collect_parts.new.parts.roots.finals (spare-same
    c.args.parts.now.roots.finals c.has_room_in_budget.new.parts.roots.finals c.has_room_in_budget.ensures.finals)
    c.collect_parts.ensures.spare) c.has_large_room.ensures.finals) c.collect_parts-2.ensures.spare)
    c.has_large_room-2.ensures.finals) c.in-Ok.ensures.finals

pub returns-in-Ok-clause-runtime : goal.returns-in-Ok-clause-runtime
returns-in-Ok-clause-runtime c = c.in-Ok.ensures.runtime

pub returns-in-Err-acquire_for-clause-types : goal.returns-in-Err-acquire_for-clause-types
returns-in-Err-acquire_for-clause-types c =
    c.in-Err-acquire_for.ensures.types ∙ c.has_large_room-2.ensures.types ∙ c.collect_parts-2.ensures.types ∙
    c.has_large_room.ensures.types ∙ c.collect_parts.ensures.types ∙ c.has_room_in_budget.ensures.types

pub returns-in-Err-acquire_for-clause-safe : goal.returns-in-Err-acquire_for-clause-safe
returns-in-Err-acquire_for-clause-safe c =
    c.in-Err-acquire_for.ensures.safe ∙ c.has_large_room-2.ensures.safe ∙ c.collect_parts-2.ensures.safe ∙
    c.has_large_room.ensures.safe ∙ c.collect_parts.ensures.safe ∙ c.has_room_in_budget.ensures.safe

pub returns-in-Err-acquire_for-clause-spare : goal.returns-in-Err-acquire_for-clause-spare
returns-in-Err-acquire_for-clause-spare c =
    spare-then c.args.parts.now.roots.finals c.has_large_room-2.new.parts.roots.finals
    c.acquire_for.new.parts.roots.finals (spare-then c.args.parts.now.roots.finals
    c.collect_parts-2.new.parts.roots.finals c.has_large_room-2.new.parts.roots.finals (spare-past
    c.args.parts.now.roots.finals c.has_large_room.new.parts.roots.finals c.collect_parts-2.new.parts.roots.finals
    (spare-then c.args.parts.now.roots.finals c.collect_parts.new.parts.roots.finals
    c.has_large_room.new.parts.roots.finals (spare-past c.args.parts.now.roots.finals
    c.has_room_in_budget.new.parts.roots.finals c.collect_parts.new.parts.roots.finals (spare-same
    c.args.parts.now.roots.finals c.has_room_in_budget.new.parts.roots.finals c.has_room_in_budget.ensures.finals)
    c.collect_parts.ensures.spare) c.has_large_room.ensures.finals) c.collect_parts-2.ensures.spare)
    c.has_large_room-2.ensures.finals) c.in-Err-acquire_for.ensures.finals

pub returns-in-Err-acquire_for-clause-runtime : goal.returns-in-Err-acquire_for-clause-runtime
returns-in-Err-acquire_for-clause-runtime c = c.in-Err-acquire_for.ensures.runtime

pub returns-then-has_large_room-clause-fits : goal.returns-then-has_large_room-clause-fits
returns-then-has_large_room-clause-fits c =
    ap (λ (m : Machine). has_room_in Large m.layout c.args.size) c.has_large_room.ensures.seen ∙ sym
    c.has_large_room.ensures.place ∙ c.if-has_large_room.true

pub returns-then-has_large_room-2-clause-fits : goal.returns-then-has_large_room-2-clause-fits
returns-then-has_large_room-2-clause-fits c =
    ap (λ (m : Machine). has_room_in Large m.layout c.args.size) c.has_large_room-2.ensures.seen ∙ sym
    c.has_large_room-2.ensures.place ∙ c.if-has_large_room-2.true

-- a place within the budget is one
second : (within there : Bool) → (within && there) ≡ true → there ≡ true
second true there both = both
second false there both = absurd cc

pub returns-then-has_room_in_budget-clause-fits : goal.returns-then-has_room_in_budget-clause-fits
returns-then-has_room_in_budget-clause-fits c =
    let s = seen c.args.parts.now in
    ap (λ (m : Machine). has_room_in Large m.layout c.args.size) c.has_room_in_budget.ensures.seen
    ∙ second (nat_le (s.sums.spent_large + c.args.size) s.options.bl) (has_room_in Large s.layout c.args.size)
    (sym c.has_room_in_budget.ensures.place ∙ c.if-has_room_in_budget.true)

-- ---- what is counted

pub returns-then-has_room_in_budget-clause-grew : goal.returns-then-has_room_in_budget-clause-grew
returns-then-has_room_in_budget-clause-grew c = λ full. absurd (made-not-refused tt (Acquire OverLimit) full)

pub returns-in-Err-clause-grew : goal.returns-in-Err-clause-grew
returns-in-Err-clause-grew c = λ full. absurd (wait-not-full c.in-Err.k full)

pub returns-then-has_large_room-clause-grew : goal.returns-then-has_large_room-clause-grew
returns-then-has_large_room-clause-grew c = λ full. absurd (made-not-refused tt (Acquire OverLimit) full)

pub returns-then-has_large_room-2-clause-grew : goal.returns-then-has_large_room-2-clause-grew
returns-then-has_large_room-2-clause-grew c = λ full. absurd (made-not-refused tt (Acquire OverLimit) full)

pub returns-in-Ok-clause-grew : goal.returns-in-Ok-clause-grew
returns-in-Ok-clause-grew c = λ full. absurd (made-not-refused tt (Acquire OverLimit) full)

-- the second collection compacted
pub returns-in-Err-acquire_for-clause-grew : goal.returns-in-Err-acquire_for-clause-grew
returns-in-Err-acquire_for-clause-grew c = λ full.
    let start = c.args.parts.now.collector.slides in
    let first = c.collect_parts in
    let second = c.collect_parts-2 in
    let (after, collects, is) = second.ensures.collected in
    let one : CountsCollection first.result.compacted start first.new.parts.collector.slides =
    subst (λ n. CountsCollection first.result.compacted n first.new.parts.collector.slides)
    c.has_room_in_budget.ensures.slides
    first.ensures.slides in
    let two : Grew c.has_large_room.new.parts.collector.slides second.new.parts.collector.slides =
    surely second.result.compacted c.has_large_room.new.parts.collector.slides second.new.parts.collector.slides
    (compacting (seen c.has_large_room.new.parts) 2 second.result after collects) second.ensures.slides in
    let last : c.acquire_for.new.parts.collector.slides ≡ second.new.parts.collector.slides =
    c.in-Err-acquire_for.ensures.slides ∙ c.has_large_room-2.ensures.slides in
    subst (Grew start) (sym last)
    (grown first.result.compacted start first.new.parts.collector.slides second.new.parts.collector.slides one
    (subst (λ n. Grew n second.new.parts.collector.slides) c.has_large_room.ensures.slides two))
