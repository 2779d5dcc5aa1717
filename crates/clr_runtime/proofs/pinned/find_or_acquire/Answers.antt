-- There is a place, or a segment was acquired for one or not.
use Rattle.std.proofs.Common.{◌∙◌, inl, sym}
use Rattle.clr_runtime.specs.RuntimeView.{seen}
use Rattle.clr_runtime.proofs.PinnedRoomMade.{acquired_room}
use Rattle.clr_runtime.proofs.pinned.find_or_acquire.Goals as goal

pub returns-then-has_pinned_room-clause-room : goal.returns-then-has_pinned_room-clause-room
returns-then-has_pinned_room-clause-room c =
    inl (sym c.has_pinned_room.ensures.place ∙ c.if-has_pinned_room.true, c.has_pinned_room.ensures.seen)

pub returns-clause-room : goal.returns-clause-room
returns-clause-room c =
    acquired_room (seen c.args.parts.now) (seen c.has_pinned_room.new.parts) (seen c.acquire_for.new.parts) c.args.size
    c.has_pinned_room.ensures.seen (sym c.has_pinned_room.ensures.place ∙ c.if-has_pinned_room.false)
    c.acquire_for.result c.acquire_for.ensures.acquired
