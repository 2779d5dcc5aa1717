-- The header is a word of the heap.
use Rattle.clr_view.proofs.Headers.{header-has, header-high}
use Rattle.clr_view.proofs.flags.header_of.Goals as goal

pub overflow_sub-place : goal.overflow_sub-place
overflow_sub-place c =
    header-high c.args.types.now c.args.heap.now c.args.place c.lawful.ensures c.requires.held c.requires.stands

pub word-requires : goal.word-requires
word-requires c =
    header-has c.args.types.now c.args.heap.now c.args.place c.lawful.ensures c.requires.held c.requires.stands
