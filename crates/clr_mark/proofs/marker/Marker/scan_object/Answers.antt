use Rattle.clr_mark.proofs.Graying.{object_word}
use Rattle.clr_mark.proofs.marker.Marker.scan_object.Goals as goal

pub segment_of-k-requires : goal.segment_of-k-requires
segment_of-k-requires c = object_word c.args.types.now c.args.heap.now c.args.self.now.oldest c.args.obj
    c.requires.closed.heap c.requires.closed.held c.requires.marked.stands
