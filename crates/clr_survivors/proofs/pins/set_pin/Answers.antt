use Rattle.clr_view.proofs.Headers.{header-has, header-high}
use Rattle.clr_survivors.proofs.pins.set_pin.Goals as goal

pub overflow_sub-place : goal.overflow_sub-place
overflow_sub-place c =
    header-high c.args.types.now c.args.heap.now c.args.place c.requires.heap c.requires.held c.requires.stands

pub segment_near-k-requires : goal.segment_near-k-requires
segment_near-k-requires c =
    header-has c.args.types.now c.args.heap.now c.args.place c.requires.heap c.requires.held c.requires.stands

pub overflow_sub-place-2 : goal.overflow_sub-place-2
overflow_sub-place-2 c =
    header-high c.args.types.now c.args.heap.now c.args.place c.requires.heap c.requires.held c.requires.stands

pub word_at-word-requires : goal.word_at-word-requires
word_at-word-requires c = record {
  word = header-has c.args.types.now c.args.heap.now c.args.place c.requires.heap c.requires.held c.requires.stands;
  segment = c.segment_near-k.ensures;
}

pub overflow_sub-place-3 : goal.overflow_sub-place-3
overflow_sub-place-3 c =
    header-high c.args.types.now c.args.heap.now c.args.place c.requires.heap c.requires.held c.requires.stands

pub set_word_at-requires : goal.set_word_at-requires
set_word_at-requires c = record {
  word = header-has c.args.types.now c.args.heap.now c.args.place c.requires.heap c.requires.held c.requires.stands;
  segment = c.segment_near-k.ensures;
}
