use Rattle.std.proofs.Common.{◌≡◌, ◌++◌}
use Rattle.clr_mem.specs.Words.{zeros}
use Rattle.clr_format.specs.Saved.{words_bytes}
use Rattle.clr_save.proofs.put.put_zeros.Given as goal

abbrev pub invariant-loop-turn : goal.invariant-loop-turn
invariant-loop-turn l = l.out.items ≡ l.initial.out.items ++ words_bytes (zeros l._turn)
