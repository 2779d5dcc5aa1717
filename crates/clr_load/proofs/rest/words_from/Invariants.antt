use Rattle.std.proofs.Common.{◌≡◌}
use Rattle.clr_mem.specs.Words.{words_of}
use Rattle.clr_load.proofs.rest.words_from.Given as goal

abbrev pub invariant-loop-i : goal.invariant-loop-i
invariant-loop-i l = l.words.items ≡ words_of l.i l.bytes
