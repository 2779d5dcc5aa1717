use Rattle.clr_mark.proofs.Graying.{object_word}
use Rattle.clr_heap_tests.proofs.marks.is_marked.Goals as goal

pub is_marked-requires : goal.is_marked-requires
is_marked-requires g c = object_word c.args.types.now c.args.heap.now 2 c.args.place c.lawful.ensures c.requires
    c.object.ensures.stands
