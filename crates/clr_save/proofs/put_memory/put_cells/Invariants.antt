use Rattle.std.proofs.Common.{◌≡◌, ◌++◌, ◌-◌}
use Rattle.clr_heap.specs.View.{word_of}
use Rattle.clr_format.specs.Saved.{words_bytes}
use Rattle.clr_save.specs.SavedWords.{words_at}
use Rattle.clr_save.proofs.put_memory.put_cells.Given as goal

abbrev pub invariant-loop-i : goal.invariant-loop-i
invariant-loop-i l = l.out.items ≡ l.initial.out.items ++ words_bytes (words_at (word_of l.heap) (l.low - 8) l.i)
