use Rattle.std.proofs.Common.{sym, ◌∙◌}
use Rattle.clr_heap.specs.View.{word_of}
use Rattle.clr_mark.proofs.marker.gather.add_like.Goals as goal

pub add_run-requires-clause-run : goal.add_run-requires-clause-run
add_run-requires-clause-run c =
    c.requires.known.run (word_of c.args.heap.now) c.args.obj (sym c.requires.word ∙ c.if-mt-known.true)
