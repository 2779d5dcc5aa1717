use Rattle.std.proofs.Common.{◌≡◌, ◌++◌}
use Rattle.clr_save.specs.SavedWords.{bytes_of_segments}
use Rattle.clr_save.proofs.put_segments.put_segments.Given as goal

abbrev pub invariant-loop-k : goal.invariant-loop-k
invariant-loop-k l = l.out.items ≡ l.initial.out.items ++ bytes_of_segments l.types l.heap 0 l.k
