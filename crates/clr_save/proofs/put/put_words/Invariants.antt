use Rattle.std.proofs.Common.{◌≡◌, ◌++◌, take}
use Rattle.clr_format.specs.Saved.{words_bytes}
use Rattle.clr_save.proofs.put.put_words.Given as goal

abbrev pub invariant-loop-word : goal.invariant-loop-word
invariant-loop-word l = l.out.items ≡ l.initial.out.items ++ words_bytes (take l.word-index l.words)
