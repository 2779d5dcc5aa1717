use Rattle.clr_mark.proofs.Graying.{object_word}
use Rattle.clr_mark.proofs.TieLists.{listing_ends, listing_more}
use Rattle.clr_mark.proofs.Tying.{both_stand}
use Rattle.clr_mark.proofs.marker.Marker.list_open.Goals as goal

pub list_tie-requires : goal.list_tie-requires
list_tie-requires c = λ some.
    let taken = c.in-Some.ensures.taken in
    object_word c.args.types.now c.args.heap.now 0 c.in-Some.handle.second c.requires.heap c.requires.held
    (both_stand c.args.types.now c.args.heap.now c.in-Some.handle
    (c.requires.handles taken.number c.in-Some.handle taken.in_use) some).second

pub loop-handle-preserved : goal.loop-handle-preserved
loop-handle-preserved c =
    listing_more c.args.heap.now c.args.handles.now c.args.self.now.oldest c.lowest_condemned-low.result
    c.lowest_condemned-low.ensures.below c.loop-handle.ahead c.next.new.self c.in-Some.handle c.in-Some.ensures.taken
    c.loop-handle.ties.items c.loop-handle.invariant c.list_tie.new.ties.items
    (c.list_tie.ensures c.if-not-list_tie.false)

pub returns : goal.returns
returns c = λ all. listing_ends c.args.heap.now c.args.handles.now c.args.self.now.oldest
    c.lowest_condemned-low.result c.lowest_condemned-low.ensures.below c.loop-handle.ahead c.loop-handle.ties.items
    c.in_default.ensures.below c.in_default.ensures.none c.loop-handle.invariant
