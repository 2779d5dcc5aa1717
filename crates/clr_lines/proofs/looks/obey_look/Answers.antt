-- Each command shows what is seen, or the line is refused.
use Rattle.clr_sos.specs.Views.{IsViewOf}
use Rattle.clr_sos.proofs.ViewNames.{shown_view}
use Rattle.clr_lines.proofs.LookLines.{found_kind, handles_follow, listing_follows, object_follows, queues_follow}
use Rattle.clr_lines.proofs.LookLines.{root_follows, segments_follow, where_follows}
use Rattle.clr_lines.proofs.SizeLines.{size_follows}
use Rattle.clr_lines.proofs.looks.obey_look.Goals as goal

pub dumpheap-requires-clause-shown : goal.dumpheap-requires-clause-shown
dumpheap-requires-clause-shown c = λ _. shown_view c.view_of-view.result c.view_of-view.ensures.lawful

pub finalizequeue-requires-clause-entries : goal.finalizequeue-requires-clause-entries
finalizequeue-requires-clause-entries c = (shown_view c.view_of-view.result c.view_of-view.ensures.lawful).entries

pub finalizequeue-requires-clause-ready : goal.finalizequeue-requires-clause-ready
finalizequeue-requires-clause-ready c = (shown_view c.view_of-view.result c.view_of-view.ensures.lawful).ready

pub dumpobj-requires : goal.dumpobj-requires
dumpobj-requires c =
    let lawful = c.view_of-view.ensures.lawful in
    record { held = lawful.held; bricks = lawful.bricks; law = lawful.brick_law }

pub gcwhere-requires : goal.gcwhere-requires
gcwhere-requires c =
    let lawful = c.view_of-view.ensures.lawful in
    record { held = lawful.held; bricks = lawful.bricks; law = lawful.brick_law }

pub told_where-requires : goal.told_where-requires
told_where-requires c = record {
  kind =
      found_kind (IsViewOf c.view_of-view.result) c.args.runtime.now.machine c.view_of-view.ensures.seen c.in-GcWhere.a
      c.gcwhere.result
      c.gcwhere.ensures.place;
}

pub returns-in-DumpHeap-clause-follows : goal.returns-in-DumpHeap-clause-follows
returns-in-DumpHeap-clause-follows c =
    let told = c.dumpheap.ensures in
    rw (c.in-DumpHeap.is, c.told_found.ensures.is)
    (listing_follows
    (IsViewOf c.view_of-view.result) c.args.runtime.now.machine c.view_of-view.ensures.seen c.in-DumpHeap.filter
    c.dumpheap.result told.unknown told.no_object told.text)

pub returns-in-DumpObj-clause-follows : goal.returns-in-DumpObj-clause-follows
returns-in-DumpObj-clause-follows c =
    let told = c.dumpobj.ensures in
    rw (c.in-DumpObj.is, c.told_found-in-DumpObj.ensures.is)
    (object_follows
    (IsViewOf c.view_of-view.result) c.args.runtime.now.machine c.view_of-view.ensures.seen c.in-DumpObj.a
    c.dumpobj.result (told.no_object, told.no_type) told.text)

pub returns-in-GcRoot-clause-follows : goal.returns-in-GcRoot-clause-follows
returns-in-GcRoot-clause-follows c =
    let told = c.gcroot.ensures in
    rw (c.in-GcRoot.is, c.told_found-in-GcRoot.ensures.is)
    (root_follows (IsViewOf c.view_of-view.result) c.args.runtime.now.machine c.view_of-view.ensures.seen c.in-GcRoot.a
    c.gcroot.result (told.no_object, told.no_type) told.text)

pub returns-in-EeHeap-clause-follows : goal.returns-in-EeHeap-clause-follows
returns-in-EeHeap-clause-follows c =
    rw (c.in-EeHeap.is, c.told_text.ensures.is)
    (segments_follow
    (IsViewOf c.view_of-view.result) c.args.runtime.now.machine c.view_of-view.ensures.seen c.eeheap.result
    c.eeheap.ensures.text)

pub returns-in-GcHandles-clause-follows : goal.returns-in-GcHandles-clause-follows
returns-in-GcHandles-clause-follows c =
    rw (c.in-GcHandles.is, c.told_text-in-GcHandles.ensures.is)
    (handles_follow
    (IsViewOf c.view_of-view.result) c.args.runtime.now.machine c.view_of-view.ensures.seen c.gchandles.result
    c.gchandles.ensures.text)

pub returns-in-FinalizeQueue-clause-follows : goal.returns-in-FinalizeQueue-clause-follows
returns-in-FinalizeQueue-clause-follows c =
    rw (c.in-FinalizeQueue.is, c.told_text-in-FinalizeQueue.ensures.is)
    (queues_follow
    (IsViewOf c.view_of-view.result) c.args.runtime.now.machine c.view_of-view.ensures.seen c.finalizequeue.result
    c.finalizequeue.ensures.text)

pub returns-in-GcWhere-clause-follows : goal.returns-in-GcWhere-clause-follows
returns-in-GcWhere-clause-follows c =
    rw (c.in-GcWhere.is, c.told_where.ensures.is)
    (where_follows
    (IsViewOf c.view_of-view.result) c.args.runtime.now.machine c.view_of-view.ensures.seen c.in-GcWhere.a
    c.gcwhere.result c.gcwhere.ensures.place c.gcwhere.ensures.none)

pub returns-in-ObjSize-clause-follows : goal.returns-in-ObjSize-clause-follows
returns-in-ObjSize-clause-follows c =
    let told = c.objsize.ensures in
    rw (c.in-ObjSize.is, c.told_size.ensures.is)
    (size_follows (IsViewOf c.view_of-view.result) c.args.runtime.now.machine c.view_of-view.ensures.seen c.in-ObjSize.a
    c.objsize.result told.no_object told.no_type told.size)

pub returns-in-Look-clause-follows : goal.returns-in-Look-clause-follows
returns-in-Look-clause-follows c =
    rw c.in-Look.is (c.obey_more.ensures.follows c.args.runtime.now.machine c.view_of-view.ensures.seen)
