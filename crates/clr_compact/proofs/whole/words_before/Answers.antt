use Rattle.clr_plugs.proofs.Information.{info_words}
use Rattle.clr_compact.proofs.whole.words_before.Goals as goal

pub logical_word-requires-2 : goal.logical_word-requires-2
logical_word-requires-2 c = (info_words c.args.heap.now c.args.place c.requires.heap c.requires.info).distance.word

pub logical_word-requires-3 : goal.logical_word-requires-3
logical_word-requires-3 c = (info_words c.args.heap.now c.args.place c.requires.heap c.requires.info).children.word
