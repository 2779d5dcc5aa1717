-- A handle that has no room for what it may need saved isn't made.
use Rattle.std.proofs.Common.{ap, arith}
use Rattle.std.specs.FinMap as finmap
use Rattle.clr_handles.specs.Tops.{pinned_in}
use Rattle.clr_runtime.proofs.PinnedRoom.{few-made, not_full, undone}
use Rattle.clr_runtime.proofs.handles.create_with_room.Goals as goal

pub overflow_add-pinned_count : goal.overflow_add-pinned_count
overflow_add-pinned_count c =
    let few = not_full c.create.result c.in_ok-h.h (finmap.len c.args.handles.now)
    c.in_ok-h.was c.create.ensures.too_many in
    let least =
    few-made c.args.handles.now c.create.new.self c.in_ok-h.h
    (record { kind = c.args.kind; target = c.args.target; second = c.args.second }) c.in_ok-h.ensures.free
    c.in_ok-h.ensures.created few in
    let count = c.pinned_count.ensures in
    omega (arith, least, count)

pub returns-in-Err-clause-err : goal.returns-in-Err-clause-err
returns-in-Err-clause-err c =
    undone c.args.handles.now c.create.new.self c.free.new.self c.in_ok-h.h
    (record { kind = c.args.kind; target = c.args.target; second = c.args.second }) c.in_ok-h.ensures.free
    c.in_ok-h.ensures.created c.free.ensures.table

pub returns-in-Err-clause-room : goal.returns-in-Err-clause-room
returns-in-Err-clause-room c =
    let same = ap pinned_in (undone c.args.handles.now c.create.new.self c.free.new.self c.in_ok-h.h
    (record { kind = c.args.kind; target = c.args.target; second = c.args.second }) c.in_ok-h.ensures.free
    c.in_ok-h.ensures.created c.free.ensures.table) in
    let room = c.requires in
    let more = c.reserve.ensures.spare in
    omega (arith, same, room, more)
