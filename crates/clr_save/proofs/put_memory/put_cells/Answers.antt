use Rattle.std.proofs.Common.{◌-◌}
use Rattle.clr_heap.specs.View.{word_of}
use Rattle.clr_save.proofs.SavedParts.{no_words, word_more}
use Rattle.clr_save.proofs.put_memory.put_cells.Goals as goal

pub loop-i-init : goal.loop-i-init
loop-i-init c = no_words c.args.out.now.items (word_of c.args.heap.now) (c.args.low - 8)

pub loop-i-preserved : goal.loop-i-preserved
loop-i-preserved c =
    word_more c.args.out.now.items c.loop-i.out.items _ (word_of c.args.heap.now) (c.args.low - 8) c.loop-i.i _
    c.loop-i.invariant c.word_at.ensures c.in_ok-put_word.ensures
