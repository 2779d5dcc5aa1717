-- The size fits in the context as it is, or room is sought, where the index is made anew first.
use Rattle.std.proofs.Common.{◌≡◌, ap, sym, ◌∙◌, arith, false, subst}
use Rattle.clr_model.specs.Allocation.{own_fits}
use Rattle.clr_model.specs.Lookups.{is_step, step_of}
use Rattle.clr_model.specs.Machine.{Machine}
use Rattle.clr_model.specs.RoomFollows.{FollowsRoom}
use Rattle.clr_model.proofs.RoomFollows.{room_own}
use Rattle.clr_runtime.specs.Rooms.{attempt_of}
use Rattle.clr_runtime.specs.RuntimeView.{seen}
use Rattle.clr_runtime.specs.Slides.{Grew}
use Rattle.clr_heap.specs.declared.heap.segments.AcquireFault.TheVariants.{OverLimit}
use Rattle.clr_runtime.specs.declared.parts.Parts.{Parts}
use Rattle.clr_runtime.specs.declared.rooms.NoRoom.TheVariants.{Acquire}
use Rattle.clr_runtime.proofs.Counted.{made-not-refused}
use Rattle.clr_runtime.proofs.RuntimeKept.{small_enough}
use Rattle.clr_runtime.proofs.rooms.make_room.Goals as goal

pub fits_in_context-requires-clause-most : goal.fits_in_context-requires-clause-most
fits_in_context-requires-clause-most c = small_enough c.requires.runtime.shown c.args.size c.requires.small

pub returns-then-fits_in_context-clause-room : goal.returns-then-fits_in_context-clause-room
returns-then-fits_in_context-clause-room c =
    room_own (seen c.args.parts.now) c.args.thread c.args.size
    (sym c.fits_in_context.ensures ∙ c.if-fits_in_context.true)

pub returns-then-fits_in_context-clause-grew : goal.returns-then-fits_in_context-clause-grew
returns-then-fits_in_context-clause-grew c = λ full. absurd (made-not-refused tt (Acquire OverLimit) full)

pub find_room-requires-clause-idle : goal.find_room-requires-clause-idle
find_room-requires-clause-idle c =
    subst (λ (m : Machine). is_step (step_of m c.args.thread) ≡ false) (sym (ap seen c.renew_index.ensures.others))
    c.requires.idle

pub find_room-requires-clause-full : goal.find_room-requires-clause-full
find_room-requires-clause-full c =
    subst (λ (m : Machine). own_fits m.layout c.args.thread c.args.size ≡ false)
    (sym (ap seen c.renew_index.ensures.others)) (sym c.fits_in_context.ensures ∙ c.if-fits_in_context.false)

pub returns-clause-room : goal.returns-clause-room
returns-clause-room c =
    subst (λ (m : Machine). FollowsRoom m c.args.thread c.args.size (attempt_of c.find_room.result)
    (seen c.find_room.new.parts)) (ap seen c.renew_index.ensures.others) c.find_room.ensures.room

pub returns-clause-grew : goal.returns-clause-grew
returns-clause-grew c = λ full.
    subst (λ n. Grew n c.find_room.new.parts.collector.slides)
    (ap (λ (p : Parts). p.collector.slides) c.renew_index.ensures.others)
    (c.find_room.ensures.grew full)

pub returns-clause-spare : goal.returns-clause-spare
returns-clause-spare c =
    let same = ap (λ (p : Parts). p.roots.finals.spare) c.renew_index.ensures.others in
    let more = c.find_room.ensures.spare in
    omega (arith, same, more)

pub returns-clause-types : goal.returns-clause-types
returns-clause-types c = c.find_room.ensures.types ∙ ap (λ (p : Parts). p.types) c.renew_index.ensures.others

pub returns-clause-safe : goal.returns-clause-safe
returns-clause-safe c = c.find_room.ensures.safe ∙ ap (λ (p : Parts). p.safe) c.renew_index.ensures.others
