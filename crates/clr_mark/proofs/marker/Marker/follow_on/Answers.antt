use Rattle.clr_mark.proofs.Graying.{object_word}
use Rattle.clr_mark.proofs.marker.Marker.follow_on.Goals as goal

pub segment_of-k-requires : goal.segment_of-k-requires
segment_of-k-requires c = object_word c.args.types.now c.args.heap.now 0 c.args.obj c.requires.closed.heap
    c.requires.closed.held c.requires.marked.stands

pub word_at-requires-clause-word : goal.word_at-requires-clause-word
word_at-requires-clause-word c = object_word c.args.types.now c.args.heap.now 0 c.args.obj c.requires.closed.heap
    c.requires.closed.held c.requires.marked.stands
